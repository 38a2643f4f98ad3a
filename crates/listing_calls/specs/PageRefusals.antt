-- When exactly a page is refused: with number n if and only if the first fault of its checks in order, with 13, 14 and 8 as the
-- last, has that number. It is answered if and only if every check passes. A refusal leaves both slices unchanged.
use Rattle.checks.specs.Checked.{Checked}
use Rattle.std.specs.Prelude.{◌≡◌, refl, Bool, true, false, ◌↔◌, ◌≢◌, List, [], ◌∷◌, ◌++◌, ℕ, ◌+◌, ◌<◌, ◌≤◌, ltb, eqb, Float, length, drop, Err, Ok}
use Rattle.std.proofs.Common.{sym, inl, inr}
use Rattle.std.proofs.Math.Logic.Iff
use borrow.Author.Tests.{ltb-true, ltb-false, lt-ltb, le-ltb, eqb-true, eqb-false, eq-eqb, ne_eqb}
use Rattle.checks.specs.declared.fault.Item.TheVariants.{Rows, Position, Budget}
use Rattle.checks.specs.declared.fault.Fault.{Fault}
use Rattle.checks.specs.declared.fault.Place.{Place}
use Rattle.checks.specs.Fault.{at, bad, refuse}
use Rattle.checks.specs.First.{first as first_fault}
use Rattle.checks.specs.Answered.{answered}
use Rattle.checks.specs.Exactly.{Gives, test, gives}
use Rattle.checks.specs.Laws.Later.{fine-right}
use Rattle.checks.specs.ExactlyWhen.{ExactlyWhen, Distinct, exactly-when, no_number}
use Rattle.paths.specs.Segments.{segment_count}
use Rattle.listing_pairs.specs.declared.row.Look.{Look}
use Rattle.listing_pairs.specs.Order.{Pair, mutual_pairs, self_pairs}
use Rattle.listing_pairs.specs.Page.{Page, page}
use Rattle.listing_pairs.specs.Look.{traced_look, traced_self_look}
use Rattle.listing_outcomes.specs.Answer.{PageAnswer, Paged}
use Rattle.listing_outcomes.specs.Outcome.{Outcome, room}
use Rattle.listing_outcomes.specs.PageOutcome.{position_check, budget_check, row_check, limits, paged_of, page_outcome}
use Rattle.listing_calls.specs.Listing.{mutual_checks, self_checks}
use Rattle.listing_calls.specs.Pages.{mutual_page, self_page}

-- one test gives its refusal exactly if it says yes
module _ (n : ℕ) (p : Place) (says : Bool) where
  one : Gives (refuse says n p) p (test n says ∷ [])
  one = gives _ p (test n says ∷ []) (sym (fine-right (refuse says n p)))

  pub refused-iff : {C : Type 0} → (says ≡ true) ↔ C → (refuse says n p ≡ bad n p) ↔ C
  refused-iff c =
      Iff.trans (one.refused n)
      (Iff.trans (λ h. elim h [ inl here ↦ here.0 | inr after ↦ absurd after.1 ], λ e. inl (e, refl)) c)

  pub fine-iff : {C : Type 0} → (says ≡ false) ↔ C → (refuse says n p ≡ Ok tt) ↔ C
  fine-iff c = Iff.trans one.fine (Iff.trans (λ h. h.0, λ e. (e, tt)) c)

-- ---- 13: exactly if the position is beyond the end
module _ (position all : ℕ) where
  pub beyond-end : (position_check position all ≡ bad 13 (at 0 0 Position)) ↔ (all < position)
  unfolding position_check
  beyond-end = refused-iff 13 _ _ (ltb-true all position, lt-ltb all position)

  pub position-fine : (position_check position all ≡ Ok tt) ↔ (position ≤ all)
  unfolding position_check
  position-fine = fine-iff 13 _ _ (ltb-false all position, le-ltb all position)

-- ---- 14: exactly if the budget is 0
module _ (budget : ℕ) where
  pub no-budget : (budget_check budget ≡ bad 14 (at 0 0 Budget)) ↔ (budget ≡ 0)
  unfolding budget_check
  no-budget = refused-iff 14 _ _ (eqb-true budget 0, eq-eqb budget 0)

  pub budget-fine : (budget_check budget ≡ Ok tt) ↔ (budget ≢ 0)
  unfolding budget_check
  budget-fine = fine-iff 14 _ _ (eqb-false budget 0, ne_eqb budget 0)

-- ---- 8: exactly if no whole row fits
module _ (indices : List ℕ) (points : List Float) where
  pub no_row : (row_check indices points ≡ bad 8 (at 0 0 Rows)) ↔ (room indices points ≡ 0)
  unfolding row_check
  no_row = refused-iff 8 _ _ (eqb-true (room indices points) 0, eq-eqb (room indices points) 0)

  pub row_fine : (row_check indices points ≡ Ok tt) ↔ (room indices points ≢ 0)
  unfolding row_check
  row_fine = fine-iff 8 _ _ (eqb-false (room indices points) 0, ne_eqb (room indices points) 0)

-- ---- what a page counts
pub record PageCounts : Type 0 where
  pub rows : ℕ
  pub pairs : ℕ
  pub next : ℕ
  pub all : ℕ

abbrev pub paging : PageCounts → PageAnswer
paging c = Paged c.rows c.pairs c.next c.all

-- what a refusal leaves
pub record PageUntouched (o : Outcome PageAnswer) (indices : List ℕ) (points : List Float) : Type 0 where
  pub as-found : (f : Fault) → o.answer ≡ Err f → (o.indices ≡ indices) × (o.points ≡ points)

distinct : Distinct Err paging
distinct = record { faults = λ f g e. cc; kinds = λ f i e. no_number cc }

-- ---- any page
module _ (checks : List Checked) (f : ℕ → ℕ → Look) (ps : List Pair) (position budget : ℕ)
    (indices : List ℕ) (points : List Float) where
  abbrev pub all_checks : List Checked
  all_checks = checks ++ limits position (length ps) budget indices points

  abbrev pub on_page : Page
  on_page = page f (drop position ps) (room indices points) budget

  abbrev pub page_counts : PageCounts
  page_counts =
      record {
        rows = length on_page.rows;
        pairs = on_page.passed;
        next = position + on_page.passed;
        all = length ps;
      }

  same : (c : Checked)
      → answered Err paging c page_counts ≡ (paged_of c on_page position (length ps) indices points).answer
  same (Ok _) = refl
  same (Err fault) = refl

  page-when : ExactlyWhen Err paging (page_outcome checks f ps position budget indices points).answer all_checks page_counts
  unfolding page_outcome
  page-when = rw (← same (first_fault all_checks)) (exactly-when Err paging distinct all_checks page_counts)

  left_alone : (c : Checked) → PageUntouched (paged_of c on_page position (length ps) indices points) indices points
  left_alone (Ok _) = record { as-found = λ f e. absurd (distinct.kinds f page_counts (sym e)) }
  left_alone (Err fault) = record { as-found = λ f e. (refl, refl) }

  page-untouched : PageUntouched (page_outcome checks f ps position budget indices points) indices points
  unfolding page_outcome
  page-untouched = left_alone (first_fault all_checks)

-- ---- two paths
module _ (first : List Float) (first_closed : Bool) (second : List Float) (second_closed : Bool) (epsilon : Float)
    (position budget : ℕ) (indices : List ℕ) (points : List Float) where
  abbrev pairs : List Pair
  pairs = mutual_pairs (segment_count first first_closed) (segment_count second second_closed)

  abbrev these : List Checked
  these = mutual_checks first first_closed second second_closed epsilon

  pub mutual-page-when :
      ExactlyWhen Err paging
      (mutual_page first first_closed second second_closed epsilon position budget indices points).answer
      (mutual_checks first first_closed second second_closed epsilon ++ limits position
      (length (mutual_pairs (segment_count first first_closed) (segment_count second second_closed))) budget indices points)
      (page_counts these (traced_look first second epsilon) pairs position budget indices points)
  unfolding mutual_page
  mutual-page-when = page-when these (traced_look first second epsilon) pairs position budget indices points

  pub mutual-page-untouched :
      PageUntouched (mutual_page first first_closed second second_closed epsilon position budget indices points) indices points
  unfolding mutual_page
  mutual-page-untouched = page-untouched these (traced_look first second epsilon) pairs position budget indices points

-- ---- one path
module _ (path : List Float) (closed : Bool) (epsilon : Float) (position budget : ℕ)
    (indices : List ℕ) (points : List Float) where
  abbrev own : List Pair
  own = self_pairs (segment_count path closed)

  pub self-page-when :
      ExactlyWhen Err paging (self_page path closed epsilon position budget indices points).answer
      (self_checks path closed epsilon ++ limits position (length (self_pairs (segment_count path closed))) budget
      indices points)
      (page_counts (self_checks path closed epsilon) (traced_self_look path closed epsilon) own position budget indices points)
  unfolding self_page
  self-page-when = page-when (self_checks path closed epsilon) (traced_self_look path closed epsilon) own position budget indices points

  pub self-page-untouched : PageUntouched (self_page path closed epsilon position budget indices points) indices points
  unfolding self_page
  self-page-untouched =
      page-untouched (self_checks path closed epsilon) (traced_self_look path closed epsilon) own position budget indices points
