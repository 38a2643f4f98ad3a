-- The pairs that the loop walks are those of the listing.
use Rattle.std.specs.Prelude.{◌≡◌, refl, true, false}
use Rattle.listing_pairs.specs.declared.order.Job.{Job}
use Rattle.listing_pairs.specs.Order.{mutual_pairs, self_pairs}
use Rattle.listing_pairs.specs.Workings.Job.{from, every}

-- two paths
pub mutual-every : (job : Job) → job.own ≡ false → every job ≡ mutual_pairs job.n job.m
unfolding from
mutual-every job e = rw e refl

-- one path
pub self-every : (job : Job) → job.own ≡ true → job.m ≡ job.n → every job ≡ self_pairs job.n
unfolding from
self-every job e same = rw (e, same) refl
