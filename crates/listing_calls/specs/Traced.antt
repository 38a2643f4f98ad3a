-- The rule of traces, for each listing: it is the listing of the pairs kept to those not of one trace, with its count. A page is
-- the page of the pairs that it passed, kept in the same way; its positions are those of all pairs. If all traces of a path are
-- 0, each listing is what it is without the rule. TracedListing.antt of the crate `listing_pairs` has the rule for any `look`.
use Rattle.checks.specs.Checked.{Checked}
use Rattle.std.specs.Prelude.{◌≡◌, Bool, Float, length, take}
use Rattle.std.proofs.Math.Path.{ap}
use Rattle.std.proofs.Common.{◌∙◌}
use mathlib.Core.List.{List, [], ◌∷◌, ◌++◌}
use Prim.Native.Nat.{ℕ, ◌+◌, ◌*◌}
use Rattle.checks.specs.First.{first as first_fault}
use Rattle.paths.specs.Segments.{segment_count}
use Rattle.boxes.specs.Index.{index}
use Rattle.listing_pairs.specs.declared.row.Row.{Row}
use Rattle.listing_pairs.specs.declared.row.Look.{Look}
use Rattle.listing_pairs.specs.Order.{Pair, mutual_pairs, self_pairs}
use Rattle.listing_pairs.specs.Row.{indices_a_row, points_a_row, indices_of, points_of, numbers_of_rows}
use Rattle.listing_pairs.specs.Rows.{rows_of, looked_at}
use Rattle.listing_pairs.specs.Look.{look, self_look}
use Rattle.listing_pairs.specs.Traces.{traced, traced_pairs}
use Rattle.listing_pairs.specs.TracedListing.{AllZero, traced-rows, traced-looked, all-zero}
use Rattle.listing_pairs.specs.Boxed.{boxed_pairs}
use Rattle.listing_outcomes.specs.Answer.{ListingAnswer, Paged}
use Rattle.listing_outcomes.specs.Outcome.{Outcome, room_check, listed_of, outcome}
use Rattle.listing_outcomes.specs.PageOutcome.{page_outcome}
use Rattle.listing_outcomes.specs.BoxedOutcome.{BoxedOutcome, index_check, boxed_of, boxed_outcome}
use Rattle.listing_calls.specs.Listing.{mutual_checks, mutual_listing, self_checks, self_listing}
use Rattle.listing_calls.specs.Pages.{mutual_page, self_page}
use Rattle.listing_calls.specs.Boxed.{mutual_boxed, self_boxed}
use Rattle.listing_calls.specs.Chain.{between}
use Rattle.listing_calls.specs.Laws.Chains as chains
use Rattle.listing_calls.specs.Laws.Chains.{called, its-count, read-indices, read-points}

-- ---- any listing, boxed or not, and any page
module _ (first second : List Float) (checks : List Checked) (f : ℕ → ℕ → Look) (ps : List Pair) where
  pub listing-traced : (indices : List ℕ) (points : List Float)
      → outcome checks (traced first second f) ps indices points ≡ outcome checks f (traced_pairs first second ps) indices points
  unfolding outcome
  listing-traced indices points =
      let of : List Row → ℕ → Outcome ListingAnswer = λ rows looked.
      listed_of (first_fault (checks ++ (room_check rows indices points ∷ []))) rows looked indices points in
      ap (λ (rows : List Row). of rows (looked_at (traced first second f) ps)) (traced-rows first second f ps)
      ∙ ap (of (rows_of f (traced_pairs first second ps))) (traced-looked first second f ps)

  pub boxed-traced : (idx boxes : List Float) (indices : List ℕ) (points : List Float)
      → boxed_outcome checks (traced first second f) ps idx boxes indices points
      ≡ boxed_outcome checks f (traced_pairs first second ps) idx boxes indices points
  unfolding boxed_outcome
  boxed-traced idx boxes indices points =
      let of : List Row → ℕ → BoxedOutcome = λ rows looked.
      boxed_of (first_fault (checks ++ (index_check idx boxes ∷ room_check rows indices points ∷ []))) rows looked idx boxes
      indices points in
      ap (λ (rows : List Row). of rows (looked_at (traced first second f) ps)) (traced-rows first second f ps)
      ∙ ap (of (rows_of f (traced_pairs first second ps))) (traced-looked first second f ps)

-- The answer of a page, and the rows that its slices hold: those of the pairs from its position up to the next, kept to those
-- not of one trace. The positions and the count of all pairs are of the whole list.
pub record PageTraced (first second : List Float) (f : ℕ → ℕ → Look) (ps : List Pair) (position : ℕ)
    (rows pairs next all : ℕ) (indices : List ℕ) (points : List Float) : Type 0 where
  pub goes_on : position + pairs ≡ next
  pub all-pairs : all ≡ length ps
  pub its-rows : rows ≡ length (rows_of f (traced_pairs first second (between position next ps)))
  pub its-indices :
      take (rows * indices_a_row) indices
      ≡ numbers_of_rows indices_of (rows_of f (traced_pairs first second (between position next ps)))
  pub its-points :
      take (rows * points_a_row) points ≡ numbers_of_rows points_of (rows_of f (traced_pairs first second (between position next ps)))

pub page-traced : (first second : List Float) (checks : List Checked) (f : ℕ → ℕ → Look) (ps : List Pair) (position budget : ℕ)
    (indices : List ℕ) (points : List Float) {rows pairs next all : ℕ}
    → let o = page_outcome checks (traced first second f) ps position budget indices points in
    o.answer ≡ Paged rows pairs next all
    → PageTraced first second f ps position rows pairs next all o.indices o.points
page-traced first second checks f ps position budget indices points {next = next} e =
    let c = called checks (traced first second f) ps position budget indices points e in
    let same = traced-rows first second f (between position next ps) in
    record {
      goes_on = chains.goes_on c;
      all-pairs = c.all_are;
      its-rows = its-count c ∙ ap (λ (l : List Row). length l) same;
      its-indices = read-indices c ∙ ap (numbers_of_rows indices_of) same;
      its-points = read-points c ∙ ap (numbers_of_rows points_of) same;
    }

-- ---- two paths
module _ (first : List Float) (first_closed : Bool) (second : List Float) (second_closed : Bool) (epsilon : Float) where
  abbrev these : List Checked
  these = mutual_checks first first_closed second second_closed epsilon

  abbrev ps : List Pair
  ps = mutual_pairs (segment_count first first_closed) (segment_count second second_closed)

  abbrev idx : List Float
  idx = index first epsilon (segment_count first first_closed) ++ index second epsilon (segment_count second second_closed)

  abbrev f : ℕ → ℕ → Look
  f = look first second epsilon

  pub mutual-traced : (indices : List ℕ) (points : List Float)
      → mutual_listing first first_closed second second_closed epsilon indices points
      ≡ outcome (mutual_checks first first_closed second second_closed epsilon) (look first second epsilon)
      (traced_pairs first second (mutual_pairs (segment_count first first_closed) (segment_count second second_closed))) indices points
  unfolding mutual_listing
  mutual-traced indices points = listing-traced first second these f ps indices points

  pub mutual-boxed-traced : (boxes : List Float) (indices : List ℕ) (points : List Float)
      → mutual_boxed first first_closed second second_closed epsilon boxes indices points
      ≡ boxed_outcome (mutual_checks first first_closed second second_closed epsilon) (look first second epsilon)
      (traced_pairs first second (boxed_pairs first second epsilon
      (mutual_pairs (segment_count first first_closed) (segment_count second second_closed))))
      (index first epsilon (segment_count first first_closed) ++ index second epsilon (segment_count second second_closed))
      boxes indices points
  unfolding mutual_boxed
  mutual-boxed-traced boxes indices points =
      boxed-traced first second these f (boxed_pairs first second epsilon ps) idx boxes indices points

  pub mutual-page-traced : (position budget : ℕ) (indices : List ℕ) (points : List Float) (rows pairs next all : ℕ)
      → let o = mutual_page first first_closed second second_closed epsilon position budget indices points in
      o.answer ≡ Paged rows pairs next all
      → PageTraced first second (look first second epsilon)
      (mutual_pairs (segment_count first first_closed) (segment_count second second_closed)) position rows pairs next all
      o.indices o.points
  unfolding mutual_page
  mutual-page-traced position budget indices points rows pairs next all e =
      page-traced first second these f ps position budget indices points e

  -- if all traces of the first path are 0, each is what it is without the rule
  module _ (zero : AllZero first) (indices : List ℕ) (points : List Float) where
    pub mutual-zero : mutual_listing first first_closed second second_closed epsilon indices points
        ≡ outcome (mutual_checks first first_closed second second_closed epsilon) (look first second epsilon)
        (mutual_pairs (segment_count first first_closed) (segment_count second second_closed)) indices points
    unfolding mutual_listing
    mutual-zero = ap (λ (h : ℕ → ℕ → Look). outcome these h ps indices points) (all-zero first second f zero)

    pub mutual-boxed-zero : (boxes : List Float)
        → mutual_boxed first first_closed second second_closed epsilon boxes indices points
        ≡ boxed_outcome (mutual_checks first first_closed second second_closed epsilon) (look first second epsilon)
        (boxed_pairs first second epsilon (mutual_pairs (segment_count first first_closed) (segment_count second second_closed)))
        (index first epsilon (segment_count first first_closed) ++ index second epsilon (segment_count second second_closed))
        boxes indices points
    unfolding mutual_boxed
    mutual-boxed-zero boxes =
        let qs = boxed_pairs first second epsilon ps in
        ap (λ (h : ℕ → ℕ → Look). boxed_outcome these h qs idx boxes indices points) (all-zero first second f zero)

    pub mutual-page-zero : (position budget : ℕ)
        → mutual_page first first_closed second second_closed epsilon position budget indices points
        ≡ page_outcome (mutual_checks first first_closed second second_closed epsilon) (look first second epsilon)
        (mutual_pairs (segment_count first first_closed) (segment_count second second_closed)) position budget indices points
    unfolding mutual_page
    mutual-page-zero position budget =
        ap (λ (h : ℕ → ℕ → Look). page_outcome these h ps position budget indices points) (all-zero first second f zero)

-- ---- one path
module _ (path : List Float) (closed : Bool) (epsilon : Float) where
  abbrev its : List Checked
  its = self_checks path closed epsilon

  abbrev own : List Pair
  own = self_pairs (segment_count path closed)

  abbrev g : ℕ → ℕ → Look
  g = self_look path closed epsilon

  pub self-traced : (indices : List ℕ) (points : List Float)
      → self_listing path closed epsilon indices points
      ≡ outcome (self_checks path closed epsilon) (self_look path closed epsilon)
      (traced_pairs path path (self_pairs (segment_count path closed))) indices points
  unfolding self_listing
  self-traced indices points = listing-traced path path its g own indices points

  pub self-boxed-traced : (boxes : List Float) (indices : List ℕ) (points : List Float)
      → self_boxed path closed epsilon boxes indices points
      ≡ boxed_outcome (self_checks path closed epsilon) (self_look path closed epsilon)
      (traced_pairs path path (boxed_pairs path path epsilon (self_pairs (segment_count path closed))))
      (index path epsilon (segment_count path closed)) boxes indices points
  unfolding self_boxed
  self-boxed-traced boxes indices points =
      boxed-traced path path its g (boxed_pairs path path epsilon own) (index path epsilon (segment_count path closed))
      boxes indices points

  pub self-page-traced : (position budget : ℕ) (indices : List ℕ) (points : List Float) (rows pairs next all : ℕ)
      → let o = self_page path closed epsilon position budget indices points in
      o.answer ≡ Paged rows pairs next all
      → PageTraced path path (self_look path closed epsilon) (self_pairs (segment_count path closed)) position rows pairs next all
      o.indices o.points
  unfolding self_page
  self-page-traced position budget indices points rows pairs next all e =
      page-traced path path its g own position budget indices points e

  module _ (zero : AllZero path) (indices : List ℕ) (points : List Float) where
    pub self-zero : self_listing path closed epsilon indices points
        ≡ outcome (self_checks path closed epsilon) (self_look path closed epsilon) (self_pairs (segment_count path closed))
        indices points
    unfolding self_listing
    self-zero = ap (λ (h : ℕ → ℕ → Look). outcome its h own indices points) (all-zero path path g zero)

    pub self-boxed-zero : (boxes : List Float)
        → self_boxed path closed epsilon boxes indices points
        ≡ boxed_outcome (self_checks path closed epsilon) (self_look path closed epsilon)
        (boxed_pairs path path epsilon (self_pairs (segment_count path closed)))
        (index path epsilon (segment_count path closed)) boxes indices points
    unfolding self_boxed
    self-boxed-zero boxes =
        let qs = boxed_pairs path path epsilon own in
        ap (λ (h : ℕ → ℕ → Look). boxed_outcome its h qs (index path epsilon (segment_count path closed)) boxes indices points)
        (all-zero path path g zero)

    pub self-page-zero : (position budget : ℕ)
        → self_page path closed epsilon position budget indices points
        ≡ page_outcome (self_checks path closed epsilon) (self_look path closed epsilon) (self_pairs (segment_count path closed))
        position budget indices points
    unfolding self_page
    self-page-zero position budget =
        ap (λ (h : ℕ → ℕ → Look). page_outcome its h own position budget indices points) (all-zero path path g zero)
