-- The promise of the call allows one result only: two answers that it allows are equal, and so are the slices afterwards.
use Rattle.std.specs.Prelude.{ℕ, ◌≡◌, List, Float}
use Rattle.std.proofs.Common.{sym, ◌∙◌}
use Rattle.large_pair.specs.LargePair.{LargeOutcome, LeavesLarge, LargePair}

pub large-one-result : {o : LargeOutcome} {a b : LargePair} {r s : List ℕ} {p q : List Float}
    → LeavesLarge o a r p → LeavesLarge o b s q → (a ≡ b) × (r ≡ s) × (p ≡ q)
large-one-result x y =
    (x.answer-is ∙ sym y.answer-is, x.results-hold ∙ sym y.results-hold, x.points-hold ∙ sym y.points-hold)
