-- `large_listings::self_cut::list_self` meets its contract: the path is cut, every pair of the cut path is fine for the pair
-- call, and the job's listing is that of the path.
use mathlib.Core.Path.{◌≡◌, sym, ap}
use mathlib.Core.Bool.{false}
use native.Mathlib.Omega.{arith}
use borrow.Author.Rules.{rules}
use lib.Seq.{length-take-le}
use Rattle.listing_pairs.specs.declared.order.Job.{Job}
use Rattle.large_listings.specs.Laws.LargeReady.{self-ready, roomy, few-cut}
use Rattle.large_listings.specs.Laws.LargeEntry.{self-fine, self-plain, self-listed}
use Rattle.large_listings.specs.Laws.Buffers.{floats-long, names-long, plain-long, plain-enough}
use Rattle.large_listings.proofs.self_cut.list_self.Statement.{statement}
use Rattle.large_listings.proofs.self_cut.list_self.Tie as tie

abbrev start : tie.After-cut-sizes → tie.Start
start c = c.before.before.before.before.before.before

cut-requires : tie.Need-cut-sizes-requires
cut-requires c κs =
    roomy _ 0 _ _ (self-fine _ _ _ c.requires).shape-fine (omega (arith, floats-long)) (omega (arith, names-long))

-- the lent parts
long : tie.Need-slice_bounds-own-end
long c =
    sym (length-take-le _ _ c.cut-sizes.ensures.inside)

names-fit : tie.Need-slice_bounds-own_names-end
names-fit c =
    sym (length-take-le _ _ c.cut-sizes.ensures.names-inside)

list-large-requires : tie.Need-list_large-requires
list-large-requires c κs =
    let a = c.before.before.before.before.before.before.before.before in
    let f = self-fine _ _ _ (start a).requires in
    let few = few-cut _ _ _ _ _ a.cut-sizes.ensures in (
      self-ready _ _ false _ _ _ _ f.eps f.path-fine a.cut-sizes.ensures _ c.self_job-job.ensures,
      (
        self-plain _ _ _ _ c.self_job-job.ensures,
        omega (
          arith,
          plain-long,
          plain-enough _ few,
          ap (λ (k : Job). k.m)
              c.self_job-job.ensures,
        ),
      ),
    )

returns : tie.Need-returns
returns c =
    let a = c.before.before.before.before.before.before.before.before.before.before.before.before.before.before in
    let x = a.cut-sizes.ensures in
    self-listed _ _ _ _ _ _ x.path-is x.names-are x.count-is (start a).requires
    _ _ _ _ _ _ c.self_job-job.ensures c.list_large.ensures.0

pub list_self_spec : {M : Type 1} → statement M
list_self_spec =
    tie.close
    (tie.spec
    (λ c. search rules) (λ c. search rules) cut-requires
    (λ c. search rules) (λ c. search rules) long (λ c. search rules) names-fit
    (λ c. search rules) list-large-requires (λ c. search rules) (λ c. search rules) returns)
