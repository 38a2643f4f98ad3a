-- The table of refusals in the mode of large arcs: which refusal each check gives, and exactly when. Exactly.antt of the crate
-- `checks` says what `Gives` means. A coordinate and a trace are checked as in the old mode (RefusalTable.antt there), and so
-- is the arc of a segment that is not cut (PathRefusals.antt of `paths`).
use Rattle.std.specs.Prelude.{◌≡◌, ◌↔◌, Bool, true, false, cond, ◌||◌, List, [], ◌∷◌, ℕ, ◌<◌, Float, Err, Ok}
use Rattle.std.specs.Float.Ieee.{is_nan}
use Rattle.floats.specs.Ops.{◌≺◌, ◌≻◌}
use Rattle.floats.specs.F64
use Rattle.plane.specs.declared.pline_vertex.PlineVertex.{PlineVertex}
use Rattle.checks.specs.declared.fault.Item.TheVariants.{CutX, CutY, Chord}
use Rattle.checks.specs.declared.fault.Place.{Place}
use Rattle.checks.specs.declared.fault.Fault.{Fault}
use Rattle.checks.specs.Fault.{at, bad}
use Rattle.checks.specs.Exactly.{Gives, test}
use Rattle.checks.specs.Number.{is_infinite}
use Rattle.checks.specs.Each
use Rattle.checks.specs.Limit
use Rattle.checks.specs.Arc.{chord_length, arc_chord}
use Rattle.checks.specs.First.{first}
use Rattle.checks.specs.FirstFault.{FirstFault, first-bad}
use Rattle.checks.specs.Lists.{point_checks}
use Rattle.checks.specs.RefusalTable
use Rattle.cuts.specs.Cut.{is_large, bent, cut_vertex}
use Rattle.paths.specs.Segments.{segment_count, segment_from, after}
use Rattle.cuts.specs.LargeChecks.{vertex_checks, segment_checks, all_vertices, large_path_checks}
use Rattle.cuts.specs.Laws.Refused as laws

-- 3: a bulge is above 16 in magnitude
pub bulge : (b : Float) (p : Place)
    → Gives (Each.large_bulge b p) p (test 11 (is_nan b) ∷ test 12 (is_infinite b) ∷ test 3 (F64.abs b ≻ Limit.large_bulge) ∷ [])
bulge b p = RefusalTable.large-bulge b p

-- ---- the segment from v1 to v2, where v1 and the position of v2 have passed their checks
module _ (v1 v2 : PlineVertex) (owner i j : ℕ)
    (start : first (vertex_checks v1.x v1.y v1.bulge owner i) ≡ Ok tt)
    (end : first (point_checks v2.x v2.y owner j) ≡ Ok tt) (index : ℕ) where
  abbrev pub c : PlineVertex
  c = cut_vertex v1 v2

  -- 2: a coordinate of the cut point is above 1,048,576 in magnitude; 11 and 12 are never given here
  pub cut-x : Gives (Each.coordinate c.x (at owner index CutX)) (at owner index CutX)
      (test 2 (F64.abs c.x ≻ Limit.coordinate) ∷ [])
  cut-x = laws.coordinate c.x (at owner index CutX) (laws.cut-finite v1 v2 owner i j start end).x

  pub cut-y : Gives (Each.coordinate c.y (at owner index CutY)) (at owner index CutY)
      (test 2 (F64.abs c.y ≻ Limit.coordinate) ∷ [])
  cut-y = laws.coordinate c.y (at owner index CutY) (laws.cut-finite v1 v2 owner i j start end).y

  -- 5: the computed chord length of a half is below 2^-40; both halves of an arc that is cut are arcs
  module _ (large : is_large v1.bulge ≡ true) where
    pub first-half : Gives (arc_chord (bent v1) c owner index) (at owner index Chord)
        (test 5 (chord_length (bent v1) c ≺ Limit.chord_least) ∷ [])
    first-half = laws.arc (bent v1) c owner index (laws.bent-arc v1 owner i start large)

    pub second-half : Gives (arc_chord c v2 owner index) (at owner index Chord)
        (test 5 (chord_length c v2 ≺ Limit.chord_least) ∷ [])
    second-half = laws.arc c v2 owner index (laws.cut-arc v1 v2 owner i start large)

    -- in this order: x, y, then the halves
    pub cut-segment : first (segment_checks v1 v2 owner index)
        ≡ cond (F64.abs c.x ≻ Limit.coordinate)
        (bad 2 (at owner index CutX))
        (cond (F64.abs c.y ≻ Limit.coordinate)
        (bad 2 (at owner index CutY))
        (cond ((chord_length (bent v1) c ≺ Limit.chord_least) || (chord_length c v2 ≺ Limit.chord_least))
        (bad 5 (at owner index Chord))
        (Ok tt)))
    cut-segment = laws.cut-segment v1 v2 owner i j start end index large

  -- a segment that is not cut has the check of the old mode alone
  pub whole-segment : is_large v1.bulge ≡ false → first (segment_checks v1 v2 owner index) ≡ arc_chord v1 v2 owner index
  whole-segment e = laws.whole-segment v1 v2 owner index e

-- ---- a path
-- where its segments are checked, every vertex has passed: so what is said above holds for each segment
pub at-segment : (numbers : List Float) (closed : Bool) (owner : ℕ) → first (all_vertices numbers owner) ≡ Ok tt
    → (i : ℕ) → i < segment_count numbers closed
    → (let s = segment_from numbers i in
    (first (vertex_checks s.v1.x s.v1.y s.v1.bulge owner i) ≡ Ok tt)
    × (first (point_checks s.v2.x s.v2.y owner (after numbers i)) ≡ Ok tt))
at-segment numbers closed owner fine i below = laws.at-segment numbers closed owner fine i below

-- a path is refused with its first fault
pub path : (numbers : List Float) (closed : Bool) (owner : ℕ) (f : Fault)
    → (first (large_path_checks numbers closed owner) ≡ Err f) ↔ FirstFault f (large_path_checks numbers closed owner)
path numbers closed owner f = first-bad (large_path_checks numbers closed owner) f
