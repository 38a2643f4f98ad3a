-- The sequence of pairs as the loop walks it: with which indices each segment of the first path is paired.
use Rattle.std.specs.Prelude.{◌≡◌, refl, Bool, true, false, cond, List, ℕ, suc, ◌+◌, ◌-◌, ◌≤◌}
use Rattle.std.proofs.Common.{arith}
use Rattle.listing_pairs.specs.declared.order.Job.{Job}
use Rattle.listing_pairs.specs.Order.{Pair, pairs_from, pairs}

-- in a self listing from the next segment on
unfoldable pub from : Job → ℕ → ℕ
from job i = cond job.own (i + 1) 0

-- up to the last
abbrev pub to : Job → ℕ → ℕ
to job i = job.m

-- the pairs that remain, from (i, j) on
abbrev pub left : Job → ℕ → ℕ → List Pair
left job i j = pairs_from (from job) (to job) i j (job.n - i)

-- all pairs
abbrev pub every : Job → List Pair
every job = pairs (from job) (to job) job.n

-- the first index never falls
pub from-rises : (job : Job) (i : ℕ) → from job i ≤ from job (suc i)
unfolding from
from-rises job i = go job.own
  where
    go : (b : Bool) → cond b (i + 1) 0 ≤ cond b (suc i + 1) 0
    go true = omega arith
    go false = omega arith

-- no index goes beyond m, and all go up to m
pub to-within : (job : Job) (i : ℕ) → to job i ≤ job.m
to-within job i = omega arith

pub to-all : (job : Job) (i : ℕ) → to job (suc i) ≡ job.m
to-all job i = refl
