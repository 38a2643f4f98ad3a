-- The promise of a call for C allows one result only: two returned numbers that it allows are equal, and so are the slices
-- afterwards.
use Rattle.std.specs.Prelude.{ℕ, ◌≡◌, List, Float}
use Rattle.std.proofs.Common.{sym, ◌∙◌}
use Rattle.large_pair.specs.LargePair.{LargeOutcome}
use Rattle.capi_large.specs.HandedLarge.{HandedLarge}

pub large-one-result : {o : LargeOutcome} {n m : ℕ} {r s : List ℕ} {p q : List Float}
    → HandedLarge o n r p → HandedLarge o m s q → (n ≡ m) × (r ≡ s) × (p ≡ q)
large-one-result x y =
    (x.code_is ∙ sym y.code_is, x.results-hold ∙ sym y.results-hold, x.points-hold ∙ sym y.points-hold)
