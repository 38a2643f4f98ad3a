-- A listing of the mode of large arcs is the listing of the cut paths, renamed. If it lists (LargeRefusals says when), it answers
-- how many rows there are and how many pairs were looked at, as the definitions of the old mode say it of the cut paths, and
-- writes these rows, each with the names of its segments. A boxed listing does so for the pairs whose boxes meet, and writes the
-- cut paths' index. The cut path may have more vertices than a call takes, so this is said of rows and not of a call. LargeTraced
-- says it of a page.
use Rattle.checks.specs.Checked.{Checked}
use Rattle.std.specs.Prelude.{◌≡◌, refl, Bool, List, [], ◌∷◌, ◌++◌, ℕ, ◌+◌, ◌-◌, ◌*◌, Float, length, Err, Ok}
use Rattle.std.proofs.Common.{ap, ◌∙◌, arith, sym}
use Rattle.checks.specs.declared.fault.Fault.{Fault}
use Rattle.checks.specs.First.{first as first_fault}
use Rattle.cuts.specs.CutPath.{cut_path, cut_count, name_at}
use Rattle.boxes.specs.Index.{index}
use Rattle.listing_pairs.specs.declared.row.Row.{Row}
use Rattle.listing_pairs.specs.Row.{points_of, numbers_of_rows}
use Rattle.listing_pairs.specs.Order.{mutual_pairs, self_pairs}
use Rattle.listing_pairs.specs.Rows.{rows_of, looked_at}
use Rattle.listing_pairs.specs.Look.{traced_look, self_look_of}
use Rattle.listing_pairs.specs.Traces.{traced}
use Rattle.listing_pairs.specs.Boxed.{boxed_pairs}
use Rattle.listing_outcomes.specs.Answer.{Listed, ListingAnswer}
use Rattle.listing_outcomes.specs.Outcome.{Outcome, overwrite}
use Rattle.listing_outcomes.specs.BoxedOutcome.{index_check}
use Rattle.listing_outcomes.specs.Laws.Counts.{same-rows, same-pairs}
use Rattle.month.specs.Laws.Pairs.{mutual-length}
use Rattle.large_outcomes.specs.LargeRow.{large_indices_of}
use Rattle.large_outcomes.specs.LargeOutcome.{
  large_room_check,
  large_listed_of,
  large_outcome,
  large_boxed_of,
  large_boxed_outcome,
}
use Rattle.large_listings.specs.LargeListings.{
  mutual_numbers,
  mutual_large_checks,
  mutual_large_look,
  mutual_large_pairs,
  mutual_large_index,
  mutual_large,
  mutual_boxed_large,
  self_numbers,
  self_large_checks,
  self_large_look,
  self_large_pairs,
  self_large,
  self_boxed_large,
}

never : {f : Fault} {k m : ℕ} → Err f ≡ Listed k m → ⊥
never e = let z : ◌≡◌ {A = ℕ} 0 1 = cc in omega (arith, z)

-- the listing wrote these rows, by these five numbers, after it looked at so many pairs
pub record Renamed (numbers : Row → List ℕ) (rows : List Row) (looked : ℕ) (o : Outcome ListingAnswer)
    (indices : List ℕ) (points : List Float) (n k : ℕ) : Type 0 where
  pub row_count : n ≡ length rows
  pub pair-count : k ≡ looked
  pub its-indices : o.indices ≡ overwrite indices (numbers_of_rows numbers rows)
  pub its-points : o.points ≡ overwrite points (numbers_of_rows points_of rows)

renamed : (numbers : Row → List ℕ) (rows : List Row) (looked : ℕ) (c : Checked) (indices : List ℕ) (points : List Float) (n k : ℕ)
    → (large_listed_of numbers c rows looked indices points).answer ≡ Listed n k
    → Renamed numbers rows looked (large_listed_of numbers c rows looked indices points) indices points n k
renamed numbers rows looked (Err f) indices points n k e = absurd (never e)
renamed numbers rows looked (Ok _) indices points n k e =
    record { row_count = sym (same-rows e); pair-count = sym (same-pairs e); its-indices = refl; its-points = refl }

-- the same of a boxed listing, which also wrote this index
boxed-renamed : (numbers : Row → List ℕ) (rows : List Row) (looked : ℕ) (c : Checked) (idx boxes : List Float) (indices : List ℕ)
    (points : List Float) (n k : ℕ)
    → (large_boxed_of numbers c rows looked idx boxes indices points).listing.answer ≡ Listed n k
    → Renamed numbers rows looked (large_boxed_of numbers c rows looked idx boxes indices points).listing indices points n k
    × ((large_boxed_of numbers c rows looked idx boxes indices points).boxes ≡ overwrite boxes idx)
boxed-renamed numbers rows looked (Err f) idx boxes indices points n k e = absurd (never e)
boxed-renamed numbers rows looked (Ok _) idx boxes indices points n k e =
    (renamed numbers rows looked (Ok tt) indices points n k e, refl)

-- ---- two paths
module _ (first : List Float) (first_closed : Bool) (second : List Float) (second_closed : Bool) (epsilon : Float) where
  pub mutual-renamed : (indices : List ℕ) (points : List Float) (n k : ℕ)
      → (mutual_large first first_closed second second_closed epsilon indices points).answer ≡ Listed n k
      → let look = traced_look (cut_path first first_closed) (cut_path second second_closed) epsilon in
      let ps = mutual_pairs (cut_count first first_closed) (cut_count second second_closed) in
      Renamed (large_indices_of (name_at first first_closed) (name_at second second_closed)) (rows_of look ps) (looked_at look ps)
      (mutual_large first first_closed second second_closed epsilon indices points) indices points n k
  unfolding mutual_large large_outcome
  mutual-renamed indices points n k e =
      let look = mutual_large_look first first_closed second second_closed epsilon in
      let ps = mutual_large_pairs first first_closed second second_closed in
      renamed (mutual_numbers first first_closed second second_closed) (rows_of look ps) (looked_at look ps)
      (first_fault (mutual_large_checks first first_closed second second_closed epsilon
      ++ (large_room_check (rows_of look ps) indices points ∷ [])))
      indices points n k e

  pub mutual-boxed-renamed : (boxes : List Float) (indices : List ℕ) (points : List Float) (n k : ℕ)
      → (mutual_boxed_large first first_closed second second_closed epsilon boxes indices points).listing.answer ≡ Listed n k
      → let a = cut_path first first_closed in
      let b = cut_path second second_closed in
      let look = traced_look a b epsilon in
      let ps = boxed_pairs a b epsilon (mutual_pairs (cut_count first first_closed) (cut_count second second_closed)) in
      Renamed (large_indices_of (name_at first first_closed) (name_at second second_closed)) (rows_of look ps) (looked_at look ps)
      (mutual_boxed_large first first_closed second second_closed epsilon boxes indices points).listing indices points n k
      × ((mutual_boxed_large first first_closed second second_closed epsilon boxes indices points).boxes
      ≡ overwrite boxes (index a epsilon (cut_count first first_closed) ++ index b epsilon (cut_count second second_closed)))
  unfolding mutual_boxed_large large_boxed_outcome
  mutual-boxed-renamed boxes indices points n k e =
      let look = mutual_large_look first first_closed second second_closed epsilon in
      let ps = boxed_pairs (cut_path first first_closed) (cut_path second second_closed) epsilon
      (mutual_large_pairs first first_closed second second_closed) in
      let idx = mutual_large_index first first_closed second second_closed epsilon in
      boxed-renamed (mutual_numbers first first_closed second second_closed) (rows_of look ps) (looked_at look ps)
      (first_fault (mutual_large_checks first first_closed second second_closed epsilon
      ++ (index_check idx boxes ∷ large_room_check (rows_of look ps) indices points ∷ [])))
      idx boxes indices points n k e

  -- each segment of the one cut path with each of the other
  pub mutual-pairs : length (mutual_large_pairs first first_closed second second_closed)
      ≡ cut_count first first_closed * cut_count second second_closed
  mutual-pairs = mutual-length (cut_count first first_closed) (cut_count second second_closed)

-- ---- one path
module _ (path : List Float) (closed : Bool) (epsilon : Float) where
  pub self-renamed : (indices : List ℕ) (points : List Float) (n k : ℕ)
      → (self_large path closed epsilon indices points).answer ≡ Listed n k
      → let cut = cut_path path closed in
      let look = traced cut cut (self_look_of (cut_count path closed) cut closed epsilon) in
      let ps = self_pairs (cut_count path closed) in
      Renamed (large_indices_of (name_at path closed) (name_at path closed)) (rows_of look ps) (looked_at look ps)
      (self_large path closed epsilon indices points) indices points n k
  unfolding self_large large_outcome
  self-renamed indices points n k e =
      let look = self_large_look path closed epsilon in
      let ps = self_large_pairs path closed in
      renamed (self_numbers path closed) (rows_of look ps) (looked_at look ps)
      (first_fault (self_large_checks path closed epsilon ++ (large_room_check (rows_of look ps) indices points ∷ [])))
      indices points n k e

  pub self-boxed-renamed : (boxes : List Float) (indices : List ℕ) (points : List Float) (n k : ℕ)
      → (self_boxed_large path closed epsilon boxes indices points).listing.answer ≡ Listed n k
      → let cut = cut_path path closed in
      let look = traced cut cut (self_look_of (cut_count path closed) cut closed epsilon) in
      let ps = boxed_pairs cut cut epsilon (self_pairs (cut_count path closed)) in
      Renamed (large_indices_of (name_at path closed) (name_at path closed)) (rows_of look ps) (looked_at look ps)
      (self_boxed_large path closed epsilon boxes indices points).listing indices points n k
      × ((self_boxed_large path closed epsilon boxes indices points).boxes
      ≡ overwrite boxes (index cut epsilon (cut_count path closed)))
  unfolding self_boxed_large large_boxed_outcome
  self-boxed-renamed boxes indices points n k e =
      let cut = cut_path path closed in
      let look = self_large_look path closed epsilon in
      let ps = boxed_pairs cut cut epsilon (self_large_pairs path closed) in
      let idx = index cut epsilon (cut_count path closed) in
      boxed-renamed (self_numbers path closed) (rows_of look ps) (looked_at look ps)
      (first_fault (self_large_checks path closed epsilon
      ++ (index_check idx boxes ∷ large_room_check (rows_of look ps) indices points ∷ [])))
      idx boxes indices points n k e
