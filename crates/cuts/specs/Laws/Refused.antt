-- The checks of a cut segment, where its numbers have passed: the cut point is finite, so 11 and 12 are not given; both halves
-- are arcs, since a half bulge is at least 1/64 in magnitude.
use Rattle.std.specs.Prelude.{◌≡◌, refl, Bool, true, false, cond, ◌||◌, List, [], ◌∷◌, ℕ, ◌<◌, T, Float, Ok}
use Rattle.std.proofs.Common.{sym, ◌∙◌, arith}
use Rattle.std.specs.Float.Ieee.{of_bits, is_nan, lt, le}
use Rattle.std.specs.Float.Ieee.Bits.{is_false}
use Rattle.std.specs.Float.Ieee.Scale.{finite}
use Rattle.float_laws.specs.Chains.{le_trans, le_not_lt}
use Rattle.floats.specs.Ops.{◌≺◌, ◌≻◌, ◌≼◌}
use Rattle.floats.specs.F64
use Rattle.plane.specs.declared.pline_vertex.PlineVertex.{PlineVertex}
use Rattle.plane.specs.PlineVertex.{bulge_is_zero}
use Rattle.plane.specs.PlineVertex as vertices
use Rattle.plane.specs.Fuzzy.{fuzzy_epsilon, fuzzy_eq_zero_eps}
use Rattle.checks.specs.declared.fault.Item.TheVariants.{CutX, CutY, Chord}
use Rattle.checks.specs.declared.fault.Place.{Place}
use Rattle.checks.specs.Fault.{at, bad, refuse, later}
use Rattle.checks.specs.Exactly.{Gives, test, gives}
use Rattle.checks.specs.Number.{is_infinite, beyond}
use Rattle.checks.specs.Each
use Rattle.checks.specs.Limit
use Rattle.checks.specs.Arc.{chord_length, arc_chord}
use Rattle.checks.specs.First.{first}
use Rattle.checks.specs.Lists.{point_checks}
use Rattle.checks.specs.Laws.Fine.{of_number, neither}
use Rattle.checks.specs.Laws.Chains.{point-listed}
use Rattle.checks.specs.Laws.Later.{fine-right}
use Rattle.cuts.specs.Cut.{is_large, half_bulge, bent, cut_vertex}
use Rattle.paths.specs.Path.{vertex_count}
use Rattle.paths.specs.Segments.{segment_count, segment_from, after}
use Rattle.paths.specs.Laws.Segments.{count-within, after-within}
use Rattle.paths.specs.Laws.Along.{along-fine}
use Rattle.cuts.specs.LargeChecks.{vertex_checks, segment_checks, of_vertex, all_vertices}
use Rattle.cuts.specs.Parts.{half_least}
use Rattle.cuts.specs.Laws.Fine.{vertex-passed, vertex-fine}
use Rattle.cuts.specs.Laws.HalfBulge.{half-bulge}
use Rattle.cuts.specs.Laws.CutPoint.{PointFinite}
use Rattle.cuts.specs.Laws.CutPoint as points

-- ---- a finite coordinate
coordinate-is : (x : Float) (p : Place) → T (finite x) → Each.coordinate x p ≡ refuse (F64.abs x ≻ Limit.coordinate) 2 p
unfolding Each.coordinate Each.finite_then Each.finite beyond refuse later
coordinate-is x p f =
    let both = (neither (is_nan x) (is_infinite x)).0 (of_number x f) in rw (both.0, both.1) refl

pub coordinate : (x : Float) (p : Place) → T (finite x)
    → Gives (Each.coordinate x p) p (test 2 (F64.abs x ≻ Limit.coordinate) ∷ [])
coordinate x p f =
    gives _ p (test 2 (F64.abs x ≻ Limit.coordinate) ∷ [])
    (coordinate-is x p f ∙ sym (fine-right (refuse (F64.abs x ≻ Limit.coordinate) 2 p)))

-- ---- an arc
arc-is : (a b : PlineVertex) (owner index : ℕ) → bulge_is_zero a ≡ false
    → arc_chord a b owner index ≡ refuse (chord_length a b ≺ Limit.chord_least) 5 (at owner index Chord)
unfolding arc_chord Each.chord
arc-is a b owner index e = rw e refl

pub arc : (a b : PlineVertex) (owner index : ℕ) → bulge_is_zero a ≡ false
    → Gives (arc_chord a b owner index) (at owner index Chord) (test 5 (chord_length a b ≺ Limit.chord_least) ∷ [])
arc a b owner index e =
    let p = at owner index Chord in
    gives _ p (test 5 (chord_length a b ≺ Limit.chord_least) ∷ [])
    (arc-is a b owner index e ∙ sym (fine-right (refuse (chord_length a b ≺ Limit.chord_least) 5 p)))

-- 1e-8 is below 1/64
epsilon-less : T (fuzzy_epsilon ≼ half_least)
unfolding le lt of_bits
epsilon-less = tt

half-arc : (half : Float) → T (half_least ≼ F64.abs half) → fuzzy_eq_zero_eps half fuzzy_epsilon ≡ false
unfolding fuzzy_eq_zero_eps
half-arc half l =
    is_false _ (le_not_lt fuzzy_epsilon (F64.abs half) (le_trans fuzzy_epsilon half_least (F64.abs half) epsilon-less l))

-- ---- a segment whose numbers have passed
module _ (v1 v2 : PlineVertex) (owner i j : ℕ)
    (start : first (vertex_checks v1.x v1.y v1.bulge owner i) ≡ Ok tt)
    (end : first (point_checks v2.x v2.y owner j) ≡ Ok tt) where
  pub cut-finite : PointFinite v1 v2
  cut-finite =
      let v = (vertex-passed v1.x v1.y owner v1.bulge i).0 start in
      points.cut-finite v1 v2 v.0 v.1 ((point-listed v2.x v2.y owner j).0 end)

pub bent-arc : (v1 : PlineVertex) (owner i : ℕ) → first (vertex_checks v1.x v1.y v1.bulge owner i) ≡ Ok tt
    → is_large v1.bulge ≡ true → bulge_is_zero (bent v1) ≡ false
unfolding bent vertices.new
bent-arc v1 owner i start large =
    half-arc (half_bulge v1.bulge)
    (half-bulge v1.bulge large ((vertex-passed v1.x v1.y owner v1.bulge i).0 start).1).least

pub cut-arc : (v1 v2 : PlineVertex) (owner i : ℕ) → first (vertex_checks v1.x v1.y v1.bulge owner i) ≡ Ok tt
    → is_large v1.bulge ≡ true → bulge_is_zero (cut_vertex v1 v2) ≡ false
unfolding cut_vertex vertices.new
cut-arc v1 v2 owner i start large =
    half-arc (half_bulge v1.bulge)
    (half-bulge v1.bulge large ((vertex-passed v1.x v1.y owner v1.bulge i).0 start).1).least

four : (p q r : Place) (a b c d : Bool)
    → later (refuse a 2 p) (later (refuse b 2 q) (later (refuse c 5 r) (later (refuse d 5 r) (Ok tt))))
    ≡ cond a (bad 2 p) (cond b (bad 2 q) (cond (c || d) (bad 5 r) (Ok tt)))
unfolding later refuse
four p q r true b c d = refl
four p q r false true c d = refl
four p q r false false true d = refl
four p q r false false false true = refl
four p q r false false false false = refl

pub cut-segment : (v1 v2 : PlineVertex) (owner i j : ℕ)
    → first (vertex_checks v1.x v1.y v1.bulge owner i) ≡ Ok tt → first (point_checks v2.x v2.y owner j) ≡ Ok tt
    → (index : ℕ) → is_large v1.bulge ≡ true
    → first (segment_checks v1 v2 owner index)
    ≡ cond (F64.abs (cut_vertex v1 v2).x ≻ Limit.coordinate)
    (bad 2 (at owner index CutX))
    (cond (F64.abs (cut_vertex v1 v2).y ≻ Limit.coordinate)
    (bad 2 (at owner index CutY))
    (cond ((chord_length (bent v1) (cut_vertex v1 v2) ≺ Limit.chord_least) || (chord_length (cut_vertex v1 v2) v2 ≺ Limit.chord_least))
    (bad 5 (at owner index Chord))
    (Ok tt)))
unfolding segment_checks
cut-segment v1 v2 owner i j start end index large =
    let c = cut_vertex v1 v2 in
    let number = cut-finite v1 v2 owner i j start end in
    rw (
      large,
      coordinate-is c.x (at owner index CutX) number.x,
      coordinate-is c.y (at owner index CutY) number.y,
      arc-is (bent v1) c owner index (bent-arc v1 owner i start large),
      arc-is c v2 owner index (cut-arc v1 v2 owner i start large),
    ) (four _ _ _ _ _ _ _)

pub whole-segment : (v1 v2 : PlineVertex) (owner index : ℕ) → is_large v1.bulge ≡ false
    → first (segment_checks v1 v2 owner index) ≡ arc_chord v1 v2 owner index
unfolding segment_checks
whole-segment v1 v2 owner index e = rw e (fine-right (arc_chord v1 v2 owner index))

-- ---- the segments of a path whose vertices have passed
pub at-segment : (path : List Float) (closed : Bool) (owner : ℕ) → first (all_vertices path owner) ≡ Ok tt
    → (i : ℕ) → i < segment_count path closed
    → (let s = segment_from path i in
    (first (vertex_checks s.v1.x s.v1.y s.v1.bulge owner i) ≡ Ok tt)
    × (first (point_checks s.v2.x s.v2.y owner (after path i)) ≡ Ok tt))
unfolding segment_from
at-segment path closed owner fine i below =
    let passed = (along-fine (of_vertex path owner) (vertex_count path) (vertex-fine path owner)).0 fine in
    let here : i < vertex_count path = omega (arith, below, count-within path closed) in
    let v = passed i here in
    let w = passed (after path i) (after-within path i here) in (
      (vertex-passed _ _ owner _ i).1 (v.point, v.bulge),
      (point-listed _ _ owner (after path i)).1 w.point,
    )
