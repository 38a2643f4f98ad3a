-- How many pairs a self listing has: of n segments n * (n - 1) / 2, each with every later one. In the mode of large arcs they
-- are the segments of the cut path. A listing looks at those that are not of one trace, and tells how many these are.
-- (OverCutPath.antt of the crate `large_listings` has the number of pairs of two paths.)
use Rattle.std.specs.Prelude.{◌≡◌, Bool, List, ℕ, zero, suc, ◌+◌, ◌-◌, ◌*◌, Float, length}
use Rattle.std.proofs.Common.{sym, ap, ◌∙◌, arith, length-append}
use Rattle.cuts.specs.CutPath.{cut_path, cut_count}
use Rattle.listing_pairs.specs.Order.{along, pairs_from, self_pairs}
use Rattle.listing_pairs.specs.Laws.Order.{along-length}
use Rattle.listing_pairs.specs.Traces.{traced_pairs}
use Rattle.listing_calls.specs.ChainedCalls.{mutual-looked, self-looked}
use Rattle.large_listings.specs.LargeListings.{mutual_large_pairs, mutual_large, self_large_pairs, self_large}
use Rattle.large_listings.specs.OverCutPath.{mutual-renamed, self-renamed}
use Rattle.listing_outcomes.specs.Answer.{Listed}

from-there : (n i k : ℕ) → i + k ≡ n → 2 * length (pairs_from (λ i. i + 1) (λ i. n) i (i + 1) k) + k ≡ k * k
from-there n i zero e = omega arith
from-there n i (suc k) e =
    let rest = pairs_from (λ i. i + 1) (λ i. n) (suc i) (suc i + 1) k in
    omega (
      arith,
      e,
      length-append (along i (i + 1) (n - (i + 1))) rest,
      along-length i (i + 1) (n - (i + 1)),
      from-there n (suc i) k (omega (arith, e)),
    )

pub self-length : (n : ℕ) → 2 * length (self_pairs n) ≡ n * (n - 1)
self-length n = go n (length (self_pairs n)) (from-there n 0 n (omega arith))
  where
    go : (n l : ℕ) → 2 * l + n ≡ n * n → 2 * l ≡ n * (n - 1)
    go zero l e = omega (arith, e)
    go (suc n) l e =
        let less : suc n - 1 ≡ n = omega arith in
        let whole : 2 * l ≡ suc n * n = omega (arith, e) in
        whole ∙ ap (λ (m : ℕ). suc n * m) (sym less)

pub large-self-length : (path : List Float) (closed : Bool)
    → 2 * length (self_large_pairs path closed) ≡ cut_count path closed * (cut_count path closed - 1)
large-self-length path closed = self-length (cut_count path closed)

-- ---- how many pairs were looked at, as a listing tells it
pub mutual-large-looked : (first : List Float) (first_closed : Bool) (second : List Float) (second_closed : Bool) (epsilon : Float)
    (indices : List ℕ) (points : List Float) (n k : ℕ)
    → (mutual_large first first_closed second second_closed epsilon indices points).answer ≡ Listed n k
    → k ≡ length (traced_pairs (cut_path first first_closed) (cut_path second second_closed)
    (mutual_large_pairs first first_closed second second_closed))
mutual-large-looked first first_closed second second_closed epsilon indices points n k e =
    (mutual-renamed first first_closed second second_closed epsilon indices points n k e).pair-count
    ∙ mutual-looked (cut_path first first_closed) (cut_path second second_closed) epsilon
    (mutual_large_pairs first first_closed second second_closed)

pub self-large-looked : (path : List Float) (closed : Bool) (epsilon : Float) (indices : List ℕ) (points : List Float) (n k : ℕ)
    → (self_large path closed epsilon indices points).answer ≡ Listed n k
    → k ≡ length (traced_pairs (cut_path path closed) (cut_path path closed) (self_large_pairs path closed))
self-large-looked path closed epsilon indices points n k e =
    (self-renamed path closed epsilon indices points n k e).pair-count
    ∙ self-looked (cut_count path closed) (cut_path path closed) closed epsilon (self_large_pairs path closed)
