-- A path with no bulge above 1 in magnitude: its checks are those of the old mode, and a row of its pairs has its own indices
-- with halves 0.
use Rattle.checks.specs.Checked.{Checked}
use Rattle.std.specs.Prelude.{◌≡◌, Bool, true, false, cond, List, [], ◌∷◌, ◌++◌, ℕ, zero, suc, ◌+◌, ◌-◌, ◌≤◌, ◌<◌, T, Float, length, take, drop, Err, Ok}
use Rattle.std.proofs.Math.Path.{refl, sym, ap}
use Rattle.std.proofs.Common.{◌∙◌, subst, arith}
use Rattle.std.specs.Float.{nan, inf, fin, binary64}
use Rattle.std.specs.Float.Ieee.{lt, le, is_nan, of_bits}
use Rattle.float_laws.specs.Chains.{not-both, not-below, le_trans}
use Rattle.floats.specs.Ops.{f1}
use Rattle.floats.specs.F64
use Rattle.checks.specs.declared.fault.Item.TheVariants.{Bulge, Trace}
use Rattle.checks.specs.declared.fault.Place.{Place}
use Rattle.checks.specs.declared.fault.Fault.{Fault}
use Rattle.checks.specs.Fault.{at}
use Rattle.checks.specs.First.{first as first_fault}
use Rattle.checks.specs.Each
use Rattle.checks.specs.Limit
use Rattle.checks.specs.Lists as lists
use Rattle.checks.specs.Number.{beyond}
use Rattle.checks.specs.Refusal
use Rattle.crossing.specs.PlineSegIntr.{class_of}
use Rattle.paths.specs.Path.{vertex_count, vertex, trace}
use Rattle.paths.specs.Segments.{segment_count, segment_from}
use Rattle.paths.specs.Check.{along, path_checks}
use Rattle.paths.specs.Check as old
use Rattle.paths.specs.Laws.Segments.{count-within}
use Rattle.cuts.specs.Cut.{is_large}
use Rattle.cuts.specs.CutPath.{Name, name, name_at}
use Rattle.cuts.specs.LargeChecks as large
use Rattle.cuts.specs.Uncut.{NoneLarge, same_names}
use Rattle.listing_pairs.specs.declared.row.Row.{Row}
use Rattle.listing_pairs.specs.declared.row.Look.{Look}
use Rattle.listing_pairs.specs.declared.row.Look.TheVariants.{Skipped, Nothing, Made}
use Rattle.listing_pairs.specs.Order.{Pair, along as pairs_along, pairs_from, those}
use Rattle.listing_pairs.specs.Row.{points_of, numbers_of_rows, row, unless_apart, look_of}
use Rattle.listing_pairs.specs.Neighbours.{at_joint}
use Rattle.listing_calls.specs.Complete.{pair_of}
use Rattle.listing_pairs.specs.Rows.{onto, rows_of, looked_at}
use Rattle.listing_pairs.specs.Page.{page}
use Rattle.listing_pairs.specs.Look.{look, self_look_of, traced_look}
use Rattle.listing_pairs.specs.Traces.{one_trace, traced}
use Rattle.listing_loop.specs.Laws.Pages.{taken}
use Rattle.listing_outcomes.specs.Answer.{Listed, ListingAnswer, Paged}
use Rattle.listing_outcomes.specs.Outcome.{Outcome, overwrite}
use Rattle.listing_outcomes.specs.BoxedOutcome.{index_check, boxes_after}
use Rattle.large_outcomes.specs.LargeRow.{large_indices_of, with_zeros, large_room}
use Rattle.large_outcomes.specs.LargeOutcome.{
  large_of,
  large_room_check,
  large_outcome,
  large_limits,
  large_page_outcome,
  large_boxed_outcome,
}

-- ---- a bulge
decide : (y : Float) → is_nan y ≡ false → lt f1 y ≡ false → lt Limit.large_bulge y ≡ false
unfolding is_nan of_bits le
decide y real e = go (lt Limit.large_bulge y) refl
  where
    go : (b : Bool) → lt Limit.large_bulge y ≡ b → b ≡ false
    go false h = refl
    go true h =
        absurd (not-both y Limit.large_bulge (le_trans y f1 Limit.large_bulge (not-below y f1 real refl e) tt) (subst T (sym h) tt))

-- what is not above 1 is not above 16
pub not-larger : (y : Float) → lt f1 y ≡ false → lt Limit.large_bulge y ≡ false
unfolding is_nan of_bits lt
not-larger nan e = refl
not-larger (inf s) e = decide (inf s) refl e
not-larger (fin s m x) e = decide (fin s m x) refl e

same-bulge : (b : Float) (p : Place) → is_large b ≡ false → Each.large_bulge b p ≡ Each.bulge b p
unfolding is_large beyond Each.large_bulge Each.bulge
same-bulge b p e =
    ap (λ (t : Bool). Each.finite_then b t Refusal.bulge p) (not-larger (F64.abs b) e ∙ sym e)

-- ---- a path's checks
along-same : (f g : ℕ → List Checked) (i k : ℕ) → ((j : ℕ) → i ≤ j → j < i + k → f j ≡ g j) → along f i k ≡ along g i k
along-same f g i zero same = refl
along-same f g i (suc k) same =
    ap (λ (l : List Checked). l ++ along f (i + 1) k) (same i (omega arith) (omega arith))
    ∙ ap (λ (l : List Checked). g i ++ l) (along-same f g (i + 1) k (λ j a b. same j (omega (arith, a)) (omega (arith, b))))

module _ (path : List Float) (none : (i : ℕ) → i < vertex_count path → is_large (vertex path i).bulge ≡ false) (owner : ℕ) where
  vertex-same : (i : ℕ) → i < vertex_count path → large.of_vertex path owner i ≡ old.of_vertex path owner i
  unfolding large.of_vertex old.of_vertex
  vertex-same i h =
      let v = vertex path i in
      ap (λ (c : Checked). lists.point_checks v.x v.y owner i ++ (c ∷ []) ++ (Each.trace (trace path i) (at owner i
      Trace) ∷ [])) (same-bulge v.bulge (at owner i Bulge) (none i h))

  segment-same : (i : ℕ) → i < vertex_count path → large.of_segment path owner i ≡ old.of_segment path owner i
  unfolding large.of_segment large.segment_checks old.of_segment segment_from
  segment-same i h = rw (none i h) refl

  pub checks-same : (closed : Bool) → large.large_path_checks path closed owner ≡ path_checks path closed owner
  checks-same closed =
      let n = segment_count path closed in
      ap (λ (l : List Checked). l ++ large.all_segments path closed owner)
      (along-same (large.of_vertex path owner) (old.of_vertex path owner) 0 (vertex_count path)
      (λ j a b. vertex-same j (omega (arith, b))))
      ∙ ap (λ (l : List Checked). old.vertex_checks path owner ++ l)
      (along-same (large.of_segment path owner) (old.of_segment path owner) 0 n
      (λ j a b. segment-same j (omega (arith, b, count-within path closed))))

-- ---- pairs whose indices are below n and m
abbrev pub InRange : ℕ → ℕ → List Pair → Type 0
InRange n m [] = Unit {0}
InRange n m (p ∷ ps) = (p.i < n) × (p.j < m) × InRange n m ps

module _ (n m : ℕ) where
  range-append : (ps qs : List Pair) → InRange n m ps → InRange n m qs → InRange n m (ps ++ qs)
  range-append [] qs a b = b
  range-append (p ∷ ps) qs a b = (a.0, a.1, range-append ps qs a.2 b)

  range-along : (i j k : ℕ) → i < n → (0 < k → j + k ≤ m) → InRange n m (pairs_along i j k)
  range-along i j zero hi hj = tt
  range-along i j (suc k) hi hj =
      let h = hj (omega arith) in (hi, omega (arith, h), range-along i (suc j) k hi (λ g. omega (arith, h)))

  range-from : (from to : ℕ → ℕ) → ((i : ℕ) → to i ≤ m) → (i j count : ℕ) → i + count ≤ n
      → InRange n m (pairs_from from to i j count)
  range-from from to few i j zero h = tt
  range-from from to few i j (suc count) h =
      range-append (pairs_along i j (to i - j)) (pairs_from from to (suc i) (from (suc i)) count)
      (range-along i j (to i - j) (omega (arith, h)) (λ g. omega (arith, g, few i)))
      (range-from from to few (suc i) (from (suc i)) count (omega (arith, h)))

  pub range-those : (test : Pair → Bool) (ps : List Pair) → InRange n m ps → InRange n m (those test ps)
  range-those test [] h = tt
  range-those test (p ∷ ps) h = go (test p) (range-those test ps h.2)
    where
      go : (b : Bool) → InRange n m (those test ps) → InRange n m (cond b (p ∷ those test ps) (those test ps))
      go true r = (h.0, h.1, r)
      go false r = r

  pub range-take : (k : ℕ) (ps : List Pair) → InRange n m ps → InRange n m (take k ps)
  range-take zero ps h = tt
  range-take (suc k) [] h = tt
  range-take (suc k) (p ∷ ps) h = (h.0, h.1, range-take k ps h.2)

  pub range-drop : (k : ℕ) (ps : List Pair) → InRange n m ps → InRange n m (drop k ps)
  range-drop zero ps h = h
  range-drop (suc k) [] h = tt
  range-drop (suc k) (p ∷ ps) h = range-drop k ps h.2

  -- two ways to write a row that agree on the rows of these pairs
  pub numbers-same : (f g : Row → List ℕ) (look : ℕ → ℕ → Look)
      → ((i j : ℕ) → i < n → j < m → (r : Row) → look i j ≡ Made r → f r ≡ g r)
      → (ps : List Pair) → InRange n m ps → numbers_of_rows f (rows_of look ps) ≡ numbers_of_rows g (rows_of look ps)
  numbers-same f g look same [] h = refl
  numbers-same f g look same (p ∷ ps) h =
      go (look p.i p.j) (λ r e. same p.i p.j h.0 h.1 r e) (numbers-same f g look same ps h.2)
    where
      go : (s : Look) → ((r : Row) → s ≡ Made r → f r ≡ g r)
          → numbers_of_rows f (rows_of look ps) ≡ numbers_of_rows g (rows_of look ps)
          → numbers_of_rows f (onto s (rows_of look ps)) ≡ numbers_of_rows g (onto s (rows_of look ps))
      go Skipped each rest = rest
      go Nothing each rest = rest
      go (Made r) each rest =
          ap (λ (l : List ℕ). l ++ numbers_of_rows f (rows_of look ps)) (each r refl)
          ∙ ap (λ (l : List ℕ). g r ++ l) rest

pub range-pairs : (from to : ℕ → ℕ) (n m : ℕ) → ((i : ℕ) → to i ≤ m) → InRange n m (pairs_from from to 0 (from 0) n)
range-pairs from to n m few = range-from n m from to few 0 (from 0) n (omega arith)

-- ---- a pair's row has the pair's indices
never-skipped : {r : Row} → Skipped ≡ Made r → ⊥
never-skipped e = let z : ◌≡◌ {A = ℕ} 0 1 = cc in omega (arith, z)

never-nothing : {r : Row} → Nothing ≡ Made r → ⊥
never-nothing e = let z : ◌≡◌ {A = ℕ} 0 1 = cc in omega (arith, z)

same_row : {r s : Row} → Made r ≡ Made s → r ≡ s
same_row e = cc

abbrev Own : ℕ → ℕ → Row → Type 0
Own i j r = (r.i ≡ i) × (r.j ≡ j)

of-class : (class i j : ℕ) (made r : Row) → Own i j made → unless_apart class made ≡ Made r → Own i j r
of-class zero i j made r own e = absurd (never-nothing e)
of-class (suc class) i j made r own e = subst (Own i j) (same_row e) own

unless : (b : Bool) (s t : Look) (i j : ℕ) (r : Row) → ((r : Row) → s ≡ Made r → ⊥) → (t ≡ Made r → Own i j r)
    → cond b s t ≡ Made r → Own i j r
unless true s t i j r never rest e = absurd (never r e)
unless false s t i j r never rest e = rest e

pub mutual-own : (first second : List Float) (epsilon : Float) (i j : ℕ) (r : Row) → traced_look first second epsilon i j ≡ Made r
    → (r.i ≡ i) × (r.j ≡ j)
unfolding traced look look_of
mutual-own first second epsilon i j r =
    unless (one_trace first second (record { i = i; j = j })) Skipped (look first second epsilon i j) i j r
    (λ s h. never-skipped h)
    (let met = pair_of first second epsilon i j in of-class (class_of met) i j (row i j met) r (refl, refl))

pub self-own : (n : ℕ) (path : List Float) (closed : Bool) (epsilon : Float) (i j : ℕ) (r : Row)
    → traced path path (self_look_of n path closed epsilon) i j ≡ Made r → (r.i ≡ i) × (r.j ≡ j)
unfolding traced self_look_of look_of
self-own n path closed epsilon i j r =
    unless (one_trace path path (record { i = i; j = j })) Skipped (self_look_of n path closed epsilon i j) i j r
    (λ s h. never-skipped h)
    (let met = pair_of path path epsilon i j in
    unless (at_joint path closed n epsilon i j met) Nothing (unless_apart (class_of met) (row i j met)) i j r
    (λ s h. never-nothing h) (of-class (class_of met) i j (row i j met) r (refl, refl)))

-- ---- by the names of a path with nothing cut
pub zeros-named : (first : List Float) (first_closed : Bool) (second : List Float) (second_closed : Bool)
    → NoneLarge first first_closed → NoneLarge second second_closed → (i j : ℕ) (r : Row)
    → i < segment_count first first_closed → j < segment_count second second_closed → (r.i ≡ i) × (r.j ≡ j)
    → large_indices_of (name_at first first_closed) (name_at second second_closed) r ≡ with_zeros r
zeros-named first first_closed second second_closed a b i j r hi hj own =
    let x = same_names first first_closed a r.i (omega (arith, hi, own.0)) in
    let y = same_names second second_closed b r.j (omega (arith, hj, own.1)) in
    ap (λ (n : Name). n.index ∷ n.half ∷ (name_at second second_closed r.j).index ∷ (name_at second second_closed r.j).half
    ∷ r.class ∷ []) x
    ∙ ap (λ (n : Name). r.i ∷ 0 ∷ n.index ∷ n.half ∷ r.class ∷ []) y

-- ---- outcomes whose rows are written in the same way
module _ (f g : Row → List ℕ) where
  pub of-same : {A : Type 0} (refused : Fault → A) (c : Checked) (answer : A) (rows : List Row) (indices : List ℕ)
      (points : List Float)
      → numbers_of_rows f rows ≡ numbers_of_rows g rows
      → large_of f refused c answer rows indices points ≡ large_of g refused c answer rows indices points
  of-same refused (Err x) answer rows indices points e = refl
  of-same {A} refused (Ok _) answer rows indices points e =
      let made : List ℕ → Outcome A = λ l. record {
        answer = answer;
        indices = overwrite indices l;
        points = overwrite points (numbers_of_rows points_of rows);
      } in
      ap made e

  module _ (n m : ℕ) (look : ℕ → ℕ → Look) (same : (i j : ℕ) → i < n → j < m → (r : Row) → look i j ≡ Made r → f r ≡ g r)
      (checks : List Checked) (ps : List Pair) (range : InRange n m ps) (indices : List ℕ) (points : List Float) where
    pub listing-same : large_outcome f checks look ps indices points ≡ large_outcome g checks look ps indices points
    unfolding large_outcome
    listing-same =
        of-same Err (first_fault (checks ++ (large_room_check (rows_of look ps) indices points ∷ [])))
        (Listed (length (rows_of look ps)) (looked_at look ps)) (rows_of look ps) indices points
        (numbers-same n m f g look same ps range)

    pub boxed-same : (idx boxes : List Float)
        → large_boxed_outcome f checks look ps idx boxes indices points
        ≡ large_boxed_outcome g checks look ps idx boxes indices points
    unfolding large_boxed_outcome
    boxed-same idx boxes =
        let c = first_fault (checks ++ (index_check idx boxes ∷ large_room_check (rows_of look ps) indices points ∷ [])) in
        ap (λ (o : Outcome ListingAnswer). record { listing = o; boxes = boxes_after c idx boxes })
        (of-same Err c (Listed (length (rows_of look ps)) (looked_at look ps)) (rows_of look ps) indices points
        (numbers-same n m f g look same ps range))

    pub page-same : (position budget : ℕ)
        → large_page_outcome f checks look ps position budget indices points
        ≡ large_page_outcome g checks look ps position budget indices points
    unfolding large_page_outcome
    page-same position budget =
        let room = large_room indices points in
        let q = page look (drop position ps) room budget in
        let there = taken look (drop position ps) room budget in
        of-same Err (first_fault (checks ++ large_limits position (length ps) budget indices points))
        (Paged (length q.rows) q.passed (position + q.passed) (length ps)) q.rows indices points
        (ap (numbers_of_rows f) there
        ∙ numbers-same n m f g look same (take q.passed (drop position ps))
        (range-take n m q.passed (drop position ps) (range-drop n m position ps range))
        ∙ sym (ap (numbers_of_rows g) there))
