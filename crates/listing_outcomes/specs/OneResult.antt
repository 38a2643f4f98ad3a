-- The promise of a listing, boxed or not, or of a page allows one result only: two answers that it allows are equal, and so are
-- the slices after them.
use Rattle.std.specs.Prelude.{ℕ, ◌≡◌, List, Float}
use Rattle.std.proofs.Common.{sym, ◌∙◌}
use Rattle.listing_outcomes.specs.Answer.{ListingAnswer}
use Rattle.listing_outcomes.specs.Outcome.{Outcome, Leaves}
use Rattle.listing_outcomes.specs.BoxedOutcome.{BoxedOutcome, LeavesBoxed}

pub listing-one-result : {A : Type 0} {o : Outcome A} {r s : A} {i j : List ℕ} {p q : List Float}
    → Leaves o r i p → Leaves o s j q → (r ≡ s) × (i ≡ j) × (p ≡ q)
listing-one-result a b = (a.answer ∙ sym b.answer, a.indices ∙ sym b.indices, a.points ∙ sym b.points)

pub boxed-one-result : {o : BoxedOutcome} {r s : ListingAnswer} {a b : List Float} {i j : List ℕ} {p q : List Float}
    → LeavesBoxed o r a i p → LeavesBoxed o s b j q → (r ≡ s) × (i ≡ j) × (p ≡ q) × (a ≡ b)
boxed-one-result x y =
    let same = listing-one-result x.listing y.listing in (same.0, same.1, same.2, x.boxes ∙ sym y.boxes)
