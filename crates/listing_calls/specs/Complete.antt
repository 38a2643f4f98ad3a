-- No row is left out: if two paths were listed, every pair of their segments that meets, in any class except NoIntersect, and is
-- not of one trace has a row with its indices. In a boxed listing this holds for every such pair whose boxes meet.
use Rattle.checks.specs.Checked.{Checked}
use Rattle.std.specs.Prelude.{◌≡◌, refl, Bool, true, false, List, ◌++◌, ℕ, zero, suc, ◌<◌, Float, length, Err, Ok}
use Rattle.std.proofs.Common.{◌∙◌, zero-le, arith, sym}
use Rattle.checks.specs.declared.fault.Fault.{Fault}
use Rattle.checks.specs.First.{first as first_fault}
use Rattle.crossing.specs.PlineSeg.{pline_seg}
use Rattle.crossing.specs.PlineSegIntr.{class_of}
use Rattle.arcs.specs.declared.pline_seg_intr.PlineSegIntr.{PlineSegIntr}
use Rattle.paths.specs.Segments.{segment_from, segment_count}
use Rattle.boxes.specs.Index.{index}
use Rattle.listing_pairs.specs.declared.row.Row.{Row}
use Rattle.listing_pairs.specs.declared.row.Look.{Look}
use Rattle.listing_pairs.specs.declared.row.Look.TheVariants.{Made}
use Rattle.listing_pairs.specs.Row.{row, look_of, unless_apart, indices_of, numbers_of_rows}
use Rattle.listing_pairs.specs.Order.{Pair, mutual_pairs}
use Rattle.listing_pairs.specs.Rows.{rows_of, looked_at}
use Rattle.listing_pairs.specs.Look.{look, traced_look}
use Rattle.listing_pairs.specs.Traces.{one_trace}
use Rattle.listing_pairs.specs.TracedListing.{not-of-one}
use Rattle.listing_pairs.specs.Boxed.{boxes_meet, boxed_pairs}
use Rattle.listing_outcomes.specs.Answer.{Listed}
use Rattle.listing_outcomes.specs.Outcome.{overwrite, listed_of, outcome}
use Rattle.listing_outcomes.specs.BoxedOutcome.{boxed_outcome}
use Rattle.listing_outcomes.specs.Laws.Counts.{same-rows}
use Rattle.listing_calls.specs.Listing.{mutual_checks, mutual_listing}
use Rattle.listing_calls.specs.Refusals.{all}
use Rattle.listing_calls.specs.BoxedRefusals.{boxed_checks}
use Rattle.listing_calls.specs.Boxed.{mutual_boxed}
use Rattle.listing_calls.specs.HasRow.{HasRow}
use Rattle.listing_calls.specs.Laws.Complete.{Within, pairs-have, those-have, row-of-pair, row-in-slice}

-- how segment i of the first path and segment j of the second meet
abbrev pub pair_of : List Float → List Float → Float → ℕ → ℕ → PlineSegIntr
pair_of first second epsilon i j =
    let v = segment_from first i in
    let u = segment_from second j in
    pline_seg v.v1 v.v2 u.v1 u.v2 epsilon

never : {f : Fault} {k m : ℕ} → Err f ≡ Listed k m → ⊥
never e = let z : ◌≡◌ {A = ℕ} 0 1 = cc in omega (arith, z)

-- a pair that meets makes a row, if it is looked at
pub makes-looked : (first second : List Float) (epsilon : Float) (i j : ℕ) → 0 < class_of (pair_of first second epsilon i j)
    → look first second epsilon i j ≡ Made (row i j (pair_of first second epsilon i j))
unfolding look look_of
makes-looked first second epsilon i j h =
    let met = pair_of first second epsilon i j in go (class_of met) (row i j met) h
  where
    go : (class : ℕ) (r : Row) → 0 < class → unless_apart class r ≡ Made r
    go zero r h = absurd (omega (arith, h))
    go (suc class) r h = refl

-- as it is if it is not of one trace
pub makes : (first second : List Float) (epsilon : Float) (i j : ℕ) → 0 < class_of (pair_of first second epsilon i j)
    → one_trace first second (record { i = i; j = j }) ≡ false
    → traced_look first second epsilon i j ≡ Made (row i j (pair_of first second epsilon i j))
makes first second epsilon i j h other =
    not-of-one first second (look first second epsilon) i j other ∙ makes-looked first second epsilon i j h

-- the rows that were listed are all rows
listed-is : (c : Checked) (rows : List Row) (looked n m : ℕ) (old : List ℕ) (points : List Float)
    → (listed_of c rows looked old points).answer ≡ Listed n m
    → (n ≡ length rows) × ((listed_of c rows looked old points).indices ≡ overwrite old (numbers_of_rows indices_of rows))
listed-is (Ok _) rows looked n m old points e = (sym (same-rows e), refl)
listed-is (Err fault) rows looked n m old points e = absurd (never e)

-- a pair of the sequence that makes a row has it, for any `look`
pub listed-row-of : (found : Checked) (f : ℕ → ℕ → Look) (ps : List Pair) (indices : List ℕ) (points : List Float)
    (rows pairs : ℕ) (i j : ℕ) (met : PlineSegIntr)
    → (listed_of found (rows_of f ps) (looked_at f ps) indices points).answer ≡ Listed rows pairs
    → Within (record { i = i; j = j }) ps → f i j ≡ Made (row i j met)
    → HasRow rows (listed_of found (rows_of f ps) (looked_at f ps) indices points).indices i j
listed-row-of found f ps indices points rows pairs i j met e here made =
    let is = listed-is found (rows_of f ps) (looked_at f ps) rows pairs indices points e in
    let r = row i j met in
    let w = row-of-pair f (record { i = i; j = j }) ps r here made in
    let stands = row-in-slice r (rows_of f ps) indices w in
    record { k = length w.before; written = omega (arith, stands.0, is.0); at = rw is.1 stands.1 }

listed-row : (found : Checked) (first second : List Float) (epsilon : Float) (ps : List Pair)
    (indices : List ℕ) (points : List Float) (rows pairs : ℕ) (i j : ℕ)
    → (let f = traced_look first second epsilon in
    (listed_of found (rows_of f ps) (looked_at f ps) indices points).answer ≡ Listed rows pairs
    → Within (record { i = i; j = j }) ps → 0 < class_of (pair_of first second epsilon i j)
    → one_trace first second (record { i = i; j = j }) ≡ false
    → HasRow rows (listed_of found (rows_of f ps) (looked_at f ps) indices points).indices i j)
listed-row found first second epsilon ps indices points rows pairs i j e here meets other =
    listed-row-of found (traced_look first second epsilon) ps indices points rows pairs i j (pair_of first second epsilon i j) e
    here (makes first second epsilon i j meets other)

-- each segment of the first path with each of the second
between : (n m i j : ℕ) → i < n → j < m → Within (record { i = i; j = j }) (mutual_pairs n m)
between n m i j hi hj = pairs-have (λ i. 0) (λ i. m) i j n 0 zero-le (omega (arith, hi)) zero-le hj

pub complete : (first : List Float) (first_closed : Bool) (second : List Float) (second_closed : Bool) (epsilon : Float)
    (indices : List ℕ) (points : List Float) (rows pairs : ℕ)
    → (mutual_listing first first_closed second second_closed epsilon indices points).answer ≡ Listed rows pairs
    → (i j : ℕ) → i < segment_count first first_closed → j < segment_count second second_closed
    → 0 < class_of (pair_of first second epsilon i j)
    → one_trace first second (record { i = i; j = j }) ≡ false
    → HasRow rows (mutual_listing first first_closed second second_closed epsilon indices points).indices i j
unfolding mutual_listing outcome
complete first first_closed second second_closed epsilon indices points rows pairs e i j hi hj meets other =
    let n = segment_count first first_closed in
    let m = segment_count second second_closed in
    let checks = mutual_checks first first_closed second second_closed epsilon in
    listed-row (first_fault (all checks (traced_look first second epsilon) (mutual_pairs n m) indices points))
    first second epsilon (mutual_pairs n m) indices points rows pairs i j e (between n m i j hi hj) meets other

-- the same of a boxed listing, for a pair whose boxes meet
pub boxed-complete : (first : List Float) (first_closed : Bool) (second : List Float) (second_closed : Bool) (epsilon : Float)
    (boxes : List Float) (indices : List ℕ) (points : List Float) (rows pairs : ℕ)
    → (mutual_boxed first first_closed second second_closed epsilon boxes indices points).listing.answer ≡ Listed rows pairs
    → (i j : ℕ) → i < segment_count first first_closed → j < segment_count second second_closed
    → boxes_meet first second epsilon (record { i = i; j = j }) ≡ true
    → 0 < class_of (pair_of first second epsilon i j)
    → one_trace first second (record { i = i; j = j }) ≡ false
    → HasRow rows (mutual_boxed first first_closed second second_closed epsilon boxes indices points).listing.indices i j
unfolding mutual_boxed boxed_outcome
boxed-complete first first_closed second second_closed epsilon boxes indices points rows pairs e i j hi hj boxed meets other =
    let n = segment_count first first_closed in
    let m = segment_count second second_closed in
    let ps = boxed_pairs first second epsilon (mutual_pairs n m) in
    let idx = index first epsilon n ++ index second epsilon m in
    let checks = mutual_checks first first_closed second second_closed epsilon in
    listed-row (first_fault (boxed_checks checks (traced_look first second epsilon) ps idx boxes indices points))
    first second epsilon ps indices points rows pairs i j e
    (those-have (boxes_meet first second epsilon) (record { i = i; j = j }) (mutual_pairs n m) boxed (between n m i j hi hj)) meets
    other
