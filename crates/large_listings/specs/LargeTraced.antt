-- The rule of traces in the mode of large arcs: each listing is the listing of the cut paths' pairs kept to those not of one
-- trace, with its count. Both halves of an arc have its trace. A page's rows are those of the pairs that it passed, kept in the
-- same way; its positions are those of all pairs.
use Rattle.checks.specs.Checked.{Checked}
use Rattle.std.specs.Prelude.{◌≡◌, refl, Bool, Float, length, take}
use Rattle.std.proofs.Common.{sym, ◌∙◌}
use Rattle.std.proofs.Math.Path.{ap}
use mathlib.Core.List.{List, [], ◌∷◌, ◌++◌}
use Prim.Native.Nat.{ℕ, ◌+◌, ◌*◌}
use Rattle.checks.specs.First.{first as first_fault}
use Rattle.cuts.specs.CutPath.{cut_path, cut_count}
use Rattle.boxes.specs.Index.{index}
use Rattle.listing_pairs.specs.declared.row.Row.{Row}
use Rattle.listing_pairs.specs.declared.row.Look.{Look}
use Rattle.listing_pairs.specs.Order.{Pair}
use Rattle.listing_pairs.specs.Row.{points_a_row, points_of, numbers_of_rows}
use Rattle.listing_pairs.specs.Rows.{rows_of, looked_at}
use Rattle.listing_pairs.specs.Look.{look, self_look_of}
use Rattle.listing_pairs.specs.Traces.{traced, traced_pairs}
use Rattle.listing_pairs.specs.TracedListing.{traced-rows, traced-looked}
use Rattle.listing_pairs.specs.Boxed.{boxed_pairs}
use Rattle.listing_outcomes.specs.Answer.{ListingAnswer, Paged}
use Rattle.listing_outcomes.specs.Outcome.{Outcome}
use Rattle.listing_outcomes.specs.BoxedOutcome.{BoxedOutcome, index_check}
use Rattle.listing_calls.specs.Chain.{between}
use Rattle.listing_calls.specs.Laws.Chains as chains
use Rattle.listing_calls.specs.Laws.Chains.{its-count}
use Rattle.large_outcomes.specs.LargeRow.{large_indices_a_row}
use Rattle.large_outcomes.specs.LargeOutcome.{
  large_room_check,
  large_listed_of,
  large_outcome,
  large_page_outcome,
  large_boxed_of,
  large_boxed_outcome,
}
use Rattle.large_listings.specs.LargeListings.{
  mutual_numbers,
  mutual_large_checks,
  mutual_large_pairs,
  mutual_large_index,
  mutual_large,
  mutual_page_large,
  mutual_boxed_large,
  self_numbers,
  self_large_checks,
  self_large_pairs,
  self_large,
  self_page_large,
  self_boxed_large,
}
use Rattle.large_listings.specs.Laws.LargeChains.{as_called, read-large, read-points}

-- ---- any listing, boxed or not
module _ (numbers : Row → List ℕ) (first second : List Float) (checks : List Checked) (f : ℕ → ℕ → Look) (ps : List Pair) where
  pub large-traced : (indices : List ℕ) (points : List Float)
      → large_outcome numbers checks (traced first second f) ps indices points
      ≡ large_outcome numbers checks f (traced_pairs first second ps) indices points
  unfolding large_outcome
  large-traced indices points =
      let of : List Row → ℕ → Outcome ListingAnswer = λ rows looked.
      large_listed_of numbers (first_fault (checks ++ (large_room_check rows indices points ∷ []))) rows looked indices points in
      ap (λ (rows : List Row). of rows (looked_at (traced first second f) ps)) (traced-rows first second f ps)
      ∙ ap (of (rows_of f (traced_pairs first second ps))) (traced-looked first second f ps)

  pub large-boxed-traced : (idx boxes : List Float) (indices : List ℕ) (points : List Float)
      → large_boxed_outcome numbers checks (traced first second f) ps idx boxes indices points
      ≡ large_boxed_outcome numbers checks f (traced_pairs first second ps) idx boxes indices points
  unfolding large_boxed_outcome
  large-boxed-traced idx boxes indices points =
      let of : List Row → ℕ → BoxedOutcome = λ rows looked.
      large_boxed_of numbers (first_fault (checks ++ (index_check idx boxes ∷ large_room_check rows indices points ∷ []))) rows looked
      idx boxes indices points in
      ap (λ (rows : List Row). of rows (looked_at (traced first second f) ps)) (traced-rows first second f ps)
      ∙ ap (of (rows_of f (traced_pairs first second ps))) (traced-looked first second f ps)

-- The answer of a page, and the rows that its slices hold: those of the pairs from its position up to the next, kept to those
-- not of one trace. The positions and the count of all pairs are of the whole list.
pub record LargePageTraced (numbers : Row → List ℕ) (first second : List Float) (f : ℕ → ℕ → Look) (ps : List Pair) (position : ℕ)
    (rows pairs next all : ℕ) (indices : List ℕ) (points : List Float) : Type 0 where
  pub goes_on : position + pairs ≡ next
  pub all-pairs : all ≡ length ps
  pub its-rows : rows ≡ length (rows_of f (traced_pairs first second (between position next ps)))
  pub its-indices :
      take (rows * large_indices_a_row) indices
      ≡ numbers_of_rows numbers (rows_of f (traced_pairs first second (between position next ps)))
  pub its-points :
      take (rows * points_a_row) points ≡ numbers_of_rows points_of (rows_of f (traced_pairs first second (between position next ps)))

pub large-page-traced : (numbers : Row → List ℕ) (wide : (r : Row) → length (numbers r) ≡ large_indices_a_row)
    (first second : List Float) (checks : List Checked) (f : ℕ → ℕ → Look) (ps : List Pair) (position budget : ℕ)
    (indices : List ℕ) (points : List Float) {rows pairs next all : ℕ}
    → let o = large_page_outcome numbers checks (traced first second f) ps position budget indices points in
    o.answer ≡ Paged rows pairs next all
    → LargePageTraced numbers first second f ps position rows pairs next all o.indices o.points
large-page-traced numbers wide first second checks f ps position budget indices points {next = next} e =
    let c = as_called numbers wide checks (traced first second f) ps position budget indices points e in
    let same = traced-rows first second f (between position next ps) in
    record {
      goes_on = chains.goes_on c;
      all-pairs = c.all_are;
      its-rows = its-count c ∙ ap (λ (l : List Row). length l) same;
      its-indices =
          read-large numbers wide checks (traced first second f) ps position budget indices points e
          ∙ ap (numbers_of_rows numbers) same;
      its-points =
          read-points numbers wide checks (traced first second f) ps position budget indices points e
          ∙ ap (numbers_of_rows points_of) same;
    }

-- ---- two paths
module _ (first : List Float) (first_closed : Bool) (second : List Float) (second_closed : Bool) (epsilon : Float) where
  abbrev a : List Float
  a = cut_path first first_closed

  abbrev b : List Float
  b = cut_path second second_closed

  abbrev five : Row → List ℕ
  five = mutual_numbers first first_closed second second_closed

  abbrev these : List Checked
  these = mutual_large_checks first first_closed second second_closed epsilon

  abbrev ps : List Pair
  ps = mutual_large_pairs first first_closed second second_closed

  pub mutual-large-traced : (indices : List ℕ) (points : List Float)
      → mutual_large first first_closed second second_closed epsilon indices points
      ≡ large_outcome five these (look a b epsilon) (traced_pairs a b ps) indices points
  unfolding mutual_large
  mutual-large-traced indices points = large-traced five a b these (look a b epsilon) ps indices points

  pub mutual-boxed-large-traced : (boxes : List Float) (indices : List ℕ) (points : List Float)
      → mutual_boxed_large first first_closed second second_closed epsilon boxes indices points
      ≡ large_boxed_outcome five these (look a b epsilon) (traced_pairs a b (boxed_pairs a b epsilon ps))
      (mutual_large_index first first_closed second second_closed epsilon) boxes indices points
  unfolding mutual_boxed_large
  mutual-boxed-large-traced boxes indices points =
      large-boxed-traced five a b these (look a b epsilon) (boxed_pairs a b epsilon ps)
      (mutual_large_index first first_closed second second_closed epsilon) boxes indices points

  pub mutual-page-large-traced : (position budget : ℕ) (indices : List ℕ) (points : List Float) (rows pairs next all : ℕ)
      → let o = mutual_page_large first first_closed second second_closed epsilon position budget indices points in
      o.answer ≡ Paged rows pairs next all
      → LargePageTraced five a b (look a b epsilon) ps position rows pairs next all o.indices o.points
  unfolding mutual_page_large
  mutual-page-large-traced position budget indices points rows pairs next all e =
      large-page-traced five (λ r. refl) a b these (look a b epsilon) ps position budget indices points e

-- ---- one path
module _ (path : List Float) (closed : Bool) (epsilon : Float) where
  abbrev cut : List Float
  cut = cut_path path closed

  abbrev its : List Checked
  its = self_large_checks path closed epsilon

  abbrev own : List Pair
  own = self_large_pairs path closed

  abbrev g : ℕ → ℕ → Look
  g = self_look_of (cut_count path closed) cut closed epsilon

  pub self-large-traced : (indices : List ℕ) (points : List Float)
      → self_large path closed epsilon indices points
      ≡ large_outcome (self_numbers path closed) its g (traced_pairs cut cut own) indices points
  unfolding self_large
  self-large-traced indices points = large-traced (self_numbers path closed) cut cut its g own indices points

  pub self-boxed-large-traced : (boxes : List Float) (indices : List ℕ) (points : List Float)
      → self_boxed_large path closed epsilon boxes indices points
      ≡ large_boxed_outcome (self_numbers path closed) its g (traced_pairs cut cut (boxed_pairs cut cut epsilon own))
      (index cut epsilon (cut_count path closed)) boxes indices points
  unfolding self_boxed_large
  self-boxed-large-traced boxes indices points =
      large-boxed-traced (self_numbers path closed) cut cut its g (boxed_pairs cut cut epsilon own)
      (index cut epsilon (cut_count path closed)) boxes indices points

  pub self-page-large-traced : (position budget : ℕ) (indices : List ℕ) (points : List Float) (rows pairs next all : ℕ)
      → let o = self_page_large path closed epsilon position budget indices points in
      o.answer ≡ Paged rows pairs next all
      → LargePageTraced (self_numbers path closed) cut cut g own position rows pairs next all o.indices o.points
  unfolding self_page_large
  self-page-large-traced position budget indices points rows pairs next all e =
      large-page-traced (self_numbers path closed) (λ r. refl) cut cut its g own position budget indices points e
