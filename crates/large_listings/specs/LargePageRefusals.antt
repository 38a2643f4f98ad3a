-- When exactly a page of the mode of large arcs is refused: with number n if and only if the first fault of its checks in order,
-- with 13, 14 and 8 as the last, has that number. It is answered if and only if every check passes. A refusal leaves both slices
-- unchanged.
use Rattle.checks.specs.Checked.{Checked}
use Rattle.std.specs.Prelude.{◌≡◌, refl, Bool, ◌↔◌, ◌≢◌, List, [], ◌∷◌, ◌++◌, ℕ, ◌+◌, Float, length, drop, Err, Ok}
use Rattle.std.proofs.Common.{sym}
use borrow.Author.Tests.{eqb-true, eqb-false, eq-eqb, ne_eqb}
use Rattle.checks.specs.declared.fault.Item.TheVariants.{Rows}
use Rattle.checks.specs.Fault.{at, bad}
use Rattle.checks.specs.First.{first as first_fault}
use Rattle.checks.specs.Answered.{answered}
use Rattle.checks.specs.ExactlyWhen.{ExactlyWhen, Distinct, exactly-when, no_number}
use Rattle.listing_pairs.specs.declared.row.Row.{Row}
use Rattle.listing_pairs.specs.declared.row.Look.{Look}
use Rattle.listing_pairs.specs.Order.{Pair}
use Rattle.listing_pairs.specs.Page.{Page, page}
use Rattle.listing_calls.specs.PageRefusals.{PageCounts, paging, PageUntouched, refused-iff, fine-iff}
use Rattle.large_outcomes.specs.LargeRow.{large_room}
use Rattle.large_outcomes.specs.LargeOutcome.{large_row_check, large_limits, large_paged_of, large_page_outcome}
use Rattle.large_listings.specs.LargeListings.{
  mutual_numbers,
  mutual_large_checks,
  mutual_large_look,
  mutual_large_pairs,
  mutual_page_large,
  self_numbers,
  self_large_checks,
  self_large_look,
  self_large_pairs,
  self_page_large,
}

-- ---- 8: exactly if no whole row of five fits
module _ (indices : List ℕ) (points : List Float) where
  pub no_row : (large_row_check indices points ≡ bad 8 (at 0 0 Rows)) ↔ (large_room indices points ≡ 0)
  unfolding large_row_check
  no_row = refused-iff 8 _ _ (eqb-true (large_room indices points) 0, eq-eqb (large_room indices points) 0)

  pub row_fine : (large_row_check indices points ≡ Ok tt) ↔ (large_room indices points ≢ 0)
  unfolding large_row_check
  row_fine = fine-iff 8 _ _ (eqb-false (large_room indices points) 0, ne_eqb (large_room indices points) 0)

distinct : Distinct Err paging
distinct = record { faults = λ f g e. cc; kinds = λ f i e. no_number cc }

-- ---- any page
module _ (numbers : Row → List ℕ) (checks : List Checked) (f : ℕ → ℕ → Look) (ps : List Pair) (position budget : ℕ)
    (indices : List ℕ) (points : List Float) where
  abbrev pub all_checks : List Checked
  all_checks = checks ++ large_limits position (length ps) budget indices points

  abbrev pub on_page : Page
  on_page = page f (drop position ps) (large_room indices points) budget

  abbrev pub page_counts : PageCounts
  page_counts =
      record {
        rows = length on_page.rows;
        pairs = on_page.passed;
        next = position + on_page.passed;
        all = length ps;
      }

  same : (c : Checked)
      → answered Err paging c page_counts ≡ (large_paged_of numbers c on_page position (length ps) indices points).answer
  same (Ok _) = refl
  same (Err fault) = refl

  page-when :
      ExactlyWhen Err paging (large_page_outcome numbers checks f ps position budget indices points).answer
      all_checks page_counts
  unfolding large_page_outcome
  page-when = rw (← same (first_fault all_checks)) (exactly-when Err paging distinct all_checks page_counts)

  left_alone : (c : Checked) → PageUntouched (large_paged_of numbers c on_page position (length ps) indices points) indices points
  left_alone (Ok _) = record { as-found = λ f e. absurd (distinct.kinds f page_counts (sym e)) }
  left_alone (Err fault) = record { as-found = λ f e. (refl, refl) }

  page-untouched : PageUntouched (large_page_outcome numbers checks f ps position budget indices points) indices points
  unfolding large_page_outcome
  page-untouched = left_alone (first_fault all_checks)

-- ---- two paths
module _ (first : List Float) (first_closed : Bool) (second : List Float) (second_closed : Bool) (epsilon : Float)
    (position budget : ℕ) (indices : List ℕ) (points : List Float) where
  abbrev these : List Checked
  these = mutual_large_checks first first_closed second second_closed epsilon

  abbrev looks : ℕ → ℕ → Look
  looks = mutual_large_look first first_closed second second_closed epsilon

  abbrev pairs : List Pair
  pairs = mutual_large_pairs first first_closed second second_closed

  abbrev five : Row → List ℕ
  five = mutual_numbers first first_closed second second_closed

  pub mutual-page-large-when :
      ExactlyWhen Err paging
      (mutual_page_large first first_closed second second_closed epsilon position budget indices points).answer
      (these ++ large_limits position (length (mutual_large_pairs first first_closed second second_closed)) budget indices points)
      (page_counts five these looks pairs position budget indices points)
  unfolding mutual_page_large
  mutual-page-large-when = page-when five these looks pairs position budget indices points

  pub mutual-page-large-untouched :
      PageUntouched (mutual_page_large first first_closed second second_closed epsilon position budget indices points) indices points
  unfolding mutual_page_large
  mutual-page-large-untouched = page-untouched five these looks pairs position budget indices points

-- ---- one path
module _ (path : List Float) (closed : Bool) (epsilon : Float) (position budget : ℕ)
    (indices : List ℕ) (points : List Float) where
  abbrev its : List Checked
  its = self_large_checks path closed epsilon

  abbrev own-looks : ℕ → ℕ → Look
  own-looks = self_large_look path closed epsilon

  abbrev own : List Pair
  own = self_large_pairs path closed

  pub self-page-large-when :
      ExactlyWhen Err paging (self_page_large path closed epsilon position budget indices points).answer
      (its ++ large_limits position (length (self_large_pairs path closed)) budget indices points)
      (page_counts (self_numbers path closed) its own-looks own position budget indices points)
  unfolding self_page_large
  self-page-large-when = page-when (self_numbers path closed) its own-looks own position budget indices points

  pub self-page-large-untouched : PageUntouched (self_page_large path closed epsilon position budget indices points) indices points
  unfolding self_page_large
  self-page-large-untouched = page-untouched (self_numbers path closed) its own-looks own position budget indices points
