-- With no bulge above 1 in magnitude the mode of large arcs is the old mode with halves 0. Each listing has the old mode's
-- checks, look and pairs, and writes the old indices with zeros between them (`with_zeros`). BesideOld.antt reads that beside a
-- call of the old mode. Paths of broken length, which both modes refuse with 6, are left aside.
use Rattle.checks.specs.Checked.{Checked}
use Rattle.std.specs.Prelude.{◌≡◌, refl, Bool, false, List, [], ◌∷◌, ◌++◌, ℕ, ◌+◌, ◌*◌, ◌<◌, Float, length}
use Rattle.std.proofs.Common.{sym, ap, ◌∙◌, arith}
use Rattle.checks.specs.Each
use Rattle.paths.specs.Path.{vertex_count, vertex}
use Rattle.paths.specs.Shape.{shape}
use Rattle.paths.specs.Segments.{segment_count}
use Rattle.paths.specs.Check.{path_checks}
use Rattle.paths.specs.Laws.Segments.{count-within}
use Rattle.cuts.specs.Cut.{is_large}
use Rattle.cuts.specs.CutPath.{cut_path, cut_count}
use Rattle.cuts.specs.LargeChecks.{large_path_checks}
use Rattle.cuts.specs.Uncut.{NoneLarge, same-path, same_count}
use Rattle.boxes.specs.Index.{index}
use Rattle.listing_pairs.specs.declared.row.Row.{Row}
use Rattle.listing_pairs.specs.declared.row.Look.TheVariants.{Made}
use Rattle.listing_pairs.specs.Order.{Pair, mutual_pairs, self_pairs}
use Rattle.listing_pairs.specs.Rows.{rows_of}
use Rattle.listing_pairs.specs.Look.{self_look_of, traced_look, traced_self_look}
use Rattle.listing_pairs.specs.Traces.{traced}
use Rattle.listing_pairs.specs.Boxed.{boxes_meet, boxed_pairs}
use Rattle.listing_outcomes.specs.Answer.{ListingAnswer, PageAnswer}
use Rattle.listing_outcomes.specs.Outcome.{Outcome}
use Rattle.listing_outcomes.specs.BoxedOutcome.{BoxedOutcome}
use Rattle.listing_calls.specs.Listing.{mutual_checks, self_checks}
use Rattle.large_outcomes.specs.LargeRow.{with_zeros}
use Rattle.large_outcomes.specs.LargeOutcome.{large_outcome, large_page_outcome, large_boxed_outcome}
use Rattle.large_listings.specs.LargeListings.{
  mutual_numbers,
  mutual_large_checks,
  mutual_large_look,
  mutual_large_pairs,
  mutual_large,
  mutual_page_large,
  mutual_boxed_large,
  self_numbers,
  self_large_checks,
  self_large,
  self_page_large,
  self_boxed_large,
}
use Rattle.large_listings.specs.Laws.NoLarge.{
  checks-same,
  InRange,
  range-pairs,
  range-those,
  mutual-own,
  self-own,
  zeros-named,
  listing-same,
  page-same,
  boxed-same,
}

-- no bulge of the path is above 1 in magnitude, and it has whole vertices
pub record Plain (path : List Float) : Type 0 where
  pub none : (i : ℕ) → i < vertex_count path → is_large (vertex path i).bulge ≡ false
  pub whole : length path ≡ vertex_count path * 4

none-cut : (path : List Float) (closed : Bool) → Plain path → NoneLarge path closed
none-cut path closed p i h = p.none i (omega (arith, h, count-within path closed))

-- ---- two paths
module _ (first : List Float) (first_closed : Bool) (second : List Float) (second_closed : Bool) (epsilon : Float)
    (p : Plain first) (q : Plain second) where
  abbrev n : ℕ
  n = segment_count first first_closed

  abbrev m : ℕ
  m = segment_count second second_closed

  abbrev five : Row → List ℕ
  five = mutual_numbers first first_closed second second_closed

  a-is : cut_path first first_closed ≡ first
  a-is = same-path first first_closed (none-cut first first_closed p) p.whole

  b-is : cut_path second second_closed ≡ second
  b-is = same-path second second_closed (none-cut second second_closed q) q.whole

  n-is : cut_count first first_closed ≡ n
  n-is = same_count first first_closed (none-cut first first_closed p)

  m-is : cut_count second second_closed ≡ m
  m-is = same_count second second_closed (none-cut second second_closed q)

  these : mutual_large_checks first first_closed second second_closed epsilon
      ≡ mutual_checks first first_closed second second_closed epsilon
  these =
      let shapes : List Checked = Each.epsilon epsilon ∷ shape first 0 ∷ shape second 1 ∷ [] in
      ap (λ (l : List Checked). shapes ++ l ++ large_path_checks second second_closed 1) (checks-same first p.none 0 first_closed)
      ∙ ap (λ (l : List Checked). shapes ++ path_checks first first_closed 0 ++ l) (checks-same second q.none 1 second_closed)

  -- all five at once
  all_same : {A : Type 0} (of : List Float → List Float → ℕ → ℕ → List Checked → A)
      → of (cut_path first first_closed) (cut_path second second_closed) (cut_count first first_closed) (cut_count second second_closed)
      (mutual_large_checks first first_closed second second_closed epsilon)
      ≡ of first second n m (mutual_checks first first_closed second second_closed epsilon)
  all_same of =
      ap (λ (a : List Float). of a (cut_path second second_closed) (cut_count first first_closed) (cut_count second second_closed)
      (mutual_large_checks first first_closed second second_closed epsilon)) a-is
      ∙ ap (λ (b : List Float). of first b (cut_count first first_closed) (cut_count second second_closed)
      (mutual_large_checks first first_closed second second_closed epsilon)) b-is
      ∙ ap (λ (k : ℕ). of first second k (cut_count second second_closed)
      (mutual_large_checks first first_closed second second_closed epsilon)) n-is
      ∙ ap (λ (k : ℕ). of first second n k (mutual_large_checks first first_closed second second_closed epsilon)) m-is
      ∙ ap (of first second n m) these

  named : (i j : ℕ) → i < n → j < m → (r : Row) → traced_look first second epsilon i j ≡ Made r → five r ≡ with_zeros r
  named i j hi hj r e =
      zeros-named first first_closed second second_closed (none-cut first first_closed p)
      (none-cut second second_closed q) i j r hi hj
      (mutual-own first second epsilon i j r e)

  -- the rows of all pairs
  pub mutual-rows-plain : rows_of (mutual_large_look first first_closed second second_closed epsilon)
      (mutual_large_pairs first first_closed second second_closed)
      ≡ rows_of (traced_look first second epsilon)
      (mutual_pairs (segment_count first first_closed) (segment_count second second_closed))
  mutual-rows-plain = all_same (λ a b k l cs. rows_of (traced_look a b epsilon) (mutual_pairs k l))

  range : InRange n m (mutual_pairs n m)
  range = range-pairs (λ i. 0) (λ i. m) n m (λ i. omega arith)

  module _ (indices : List ℕ) (points : List Float) where
    pub mutual-plain : mutual_large first first_closed second second_closed epsilon indices points
        ≡ large_outcome with_zeros (mutual_checks first first_closed second second_closed epsilon) (traced_look first second epsilon)
        (mutual_pairs (segment_count first first_closed) (segment_count second second_closed)) indices points
    unfolding mutual_large
    mutual-plain =
        all_same (λ a b k l cs. large_outcome five cs (traced_look a b epsilon) (mutual_pairs k l) indices points)
        ∙ listing-same five with_zeros n m (traced_look first second epsilon) named
        (mutual_checks first first_closed second second_closed epsilon) (mutual_pairs n m) range indices points

    pub mutual-page-plain : (position budget : ℕ)
        → mutual_page_large first first_closed second second_closed epsilon position budget indices points
        ≡ large_page_outcome with_zeros (mutual_checks first first_closed second second_closed epsilon)
        (traced_look first second epsilon)
        (mutual_pairs (segment_count first first_closed) (segment_count second second_closed)) position budget indices points
    unfolding mutual_page_large
    mutual-page-plain position budget =
        all_same (λ a b k l cs. large_page_outcome five cs (traced_look a b epsilon)
        (mutual_pairs k l) position budget indices points)
        ∙ page-same five with_zeros n m (traced_look first second epsilon) named
        (mutual_checks first first_closed second second_closed epsilon) (mutual_pairs n m) range indices points position budget

    pub mutual-boxed-plain : (boxes : List Float)
        → mutual_boxed_large first first_closed second second_closed epsilon boxes indices points
        ≡ large_boxed_outcome with_zeros (mutual_checks first first_closed second second_closed epsilon)
        (traced_look first second epsilon)
        (boxed_pairs first second epsilon (mutual_pairs (segment_count first first_closed) (segment_count second second_closed)))
        (index first epsilon (segment_count first first_closed) ++ index second epsilon (segment_count second second_closed))
        boxes indices points
    unfolding mutual_boxed_large
    mutual-boxed-plain boxes =
        all_same (λ a b k l cs. large_boxed_outcome five cs (traced_look a b epsilon) (boxed_pairs a b epsilon (mutual_pairs k l))
        (index a epsilon k ++ index b epsilon l) boxes indices points)
        ∙ boxed-same five with_zeros n m (traced_look first second epsilon) named
        (mutual_checks first first_closed second second_closed epsilon) (boxed_pairs first second epsilon (mutual_pairs n m))
        (range-those n m (boxes_meet first second epsilon) (mutual_pairs n m) range) indices points
        (index first epsilon n ++ index second epsilon m) boxes

-- ---- one path
module _ (path : List Float) (closed : Bool) (epsilon : Float) (p : Plain path) where
  abbrev k : ℕ
  k = segment_count path closed

  abbrev own-five : Row → List ℕ
  own-five = self_numbers path closed

  its : self_large_checks path closed epsilon ≡ self_checks path closed epsilon
  its =
      let shapes : List Checked = Each.epsilon epsilon ∷ shape path 0 ∷ [] in
      ap (λ (l : List Checked). shapes ++ l) (checks-same path p.none 0 closed)

  own_same : {A : Type 0} (of : List Float → ℕ → List Checked → A)
      → of (cut_path path closed) (cut_count path closed) (self_large_checks path closed epsilon)
      ≡ of path k (self_checks path closed epsilon)
  own_same of =
      ap (λ (a : List Float). of a (cut_count path closed) (self_large_checks path closed epsilon))
      (same-path path closed (none-cut path closed p) p.whole)
      ∙ ap (λ (j : ℕ). of path j (self_large_checks path closed epsilon)) (same_count path closed (none-cut path closed p))
      ∙ ap (of path k) its

  own-named : (i j : ℕ) → i < k → j < k → (r : Row) → traced_self_look path closed epsilon i j ≡ Made r → own-five r ≡ with_zeros r
  own-named i j hi hj r e =
      zeros-named path closed path closed (none-cut path closed p) (none-cut path closed p) i j r hi hj
      (self-own k path closed epsilon i j r e)

  own_range : InRange k k (self_pairs k)
  own_range = range-pairs (λ i. i + 1) (λ i. k) k k (λ i. omega arith)

  module _ (indices : List ℕ) (points : List Float) where
    pub self-plain : self_large path closed epsilon indices points
        ≡ large_outcome with_zeros (self_checks path closed epsilon) (traced_self_look path closed epsilon)
        (self_pairs (segment_count path closed)) indices points
    unfolding self_large
    self-plain =
        own_same (λ a j cs. large_outcome own-five cs (traced a a (self_look_of j a closed epsilon)) (self_pairs j) indices points)
        ∙ listing-same own-five with_zeros k k (traced_self_look path closed epsilon) own-named (self_checks path closed epsilon)
        (self_pairs k) own_range indices points

    pub self-page-plain : (position budget : ℕ)
        → self_page_large path closed epsilon position budget indices points
        ≡ large_page_outcome with_zeros (self_checks path closed epsilon) (traced_self_look path closed epsilon)
        (self_pairs (segment_count path closed)) position budget indices points
    unfolding self_page_large
    self-page-plain position budget =
        own_same (λ a j cs. large_page_outcome own-five cs (traced a a (self_look_of j a closed epsilon))
        (self_pairs j) position budget
        indices points)
        ∙ page-same own-five with_zeros k k (traced_self_look path closed epsilon) own-named (self_checks path closed epsilon)
        (self_pairs k) own_range indices points position budget

    pub self-boxed-plain : (boxes : List Float)
        → self_boxed_large path closed epsilon boxes indices points
        ≡ large_boxed_outcome with_zeros (self_checks path closed epsilon) (traced_self_look path closed epsilon)
        (boxed_pairs path path epsilon (self_pairs (segment_count path closed)))
        (index path epsilon (segment_count path closed)) boxes indices points
    unfolding self_boxed_large
    self-boxed-plain boxes =
        own_same (λ a j cs. large_boxed_outcome own-five cs (traced a a (self_look_of j a closed epsilon))
        (boxed_pairs a a epsilon (self_pairs j)) (index a epsilon j) boxes indices points)
        ∙ boxed-same own-five with_zeros k k (traced_self_look path closed epsilon) own-named (self_checks path closed epsilon)
        (boxed_pairs path path epsilon (self_pairs k)) (range-those k k (boxes_meet path path epsilon) (self_pairs k) own_range)
        indices points (index path epsilon k) boxes
