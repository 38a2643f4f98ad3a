-- The worked examples A to L with their findings (request 7), and two more, in one table. Epsilon is 1e-5 unless an entry says
-- otherwise. B and C are a line and a circle, and two circles: here the circles are given as half circles. Four findings: the
-- first computed point for v and for u, then the second one.
use Rattle.std.specs.Prelude.{ℕ, ◌≡◌, refl, List, [], ◌∷◌, Float}
use Rattle.std.specs.Int.Count.{count_trailing_zeros}
use Rattle.std.specs.Float.{binary64}
use Rattle.std.specs.Float.Ieee.{add, sub, mul, div, neg, sum, round, units, odd, size, span, climb, lt, le, eq, is_nan, of_bits, of_fields}
use Rattle.floats.specs.F64.{abs, min, max, sqrt, root_of, root_at, isqrt, root_in}
use Rattle.plane.specs.Vector2 as vector2
use Rattle.plane.specs.PlineVertex as vertices
use Rattle.plane.specs.Fuzzy as fuzzy
use Rattle.plane.specs.BaseMath as base_math
use Rattle.plane.specs.PlineSeg as seg
use Rattle.plane.specs.declared.pline_vertex.PlineVertex.{PlineVertex}
use Rattle.ranges.specs.Range
use Rattle.arcs.specs.ArcSweep
use Rattle.arcs.specs.ArcGeometry
use Rattle.arcs.specs.LineAndArc as line_and_arc
use Rattle.arcs.specs.TwoArcs as two_arcs
use Rattle.arcs.specs.OneCircle
use Rattle.crossing.specs.LineLine
use Rattle.crossing.specs.LineCircle
use Rattle.crossing.specs.CircleCircle
use Rattle.crossing.specs.LineArc
use Rattle.crossing.specs.ArcArc
use Rattle.crossing.specs.PlineSeg
use Rattle.crossing.specs.PlineSegIntr.{class_of, point1_of, point2_of}
use Rattle.findings.specs.Finding.{numbers_of}
use Rattle.findings.specs.LineAndArc as tested
use Rattle.findings.specs.TwoArcs as computed
use Rattle.findings.specs.Report.{reported}
use Rattle.findings.specs.Report as report
use Rattle.examples.specs.ExampleTable.{
  n0,
  n1,
  n2,
  n3,
  n4,
  n5,
  m1,
  m2,
  half,
  quarter,
  eighth,
  eps,
  at,
  arc_at,
}

-- ---- more numbers: -3, -4, -1/2, -1/4, 0.1
abbrev m3 : Float
m3 = of_bits binary64 0xc008_0000_0000_0000

abbrev m4 : Float
m4 = of_bits binary64 0xc010_0000_0000_0000

abbrev m_half : Float
m_half = of_bits binary64 0xbfe0_0000_0000_0000

abbrev m_quarter : Float
m_quarter = of_bits binary64 0xbfd0_0000_0000_0000

abbrev tenth : Float
tenth = of_bits binary64 0x3fb9_9999_9999_999a

-- ---- entries: class and points, and the four findings
pub record Numbers : Type 0 where
  pub class : ℕ
  pub points : List Float
  pub findings : List ℕ

pub record Entry : Type 0 where
  pub found : Numbers
  pub due : Numbers

abbrev entry : PlineVertex → PlineVertex → PlineVertex → PlineVertex → Float → ℕ → List Float → List ℕ → Entry
entry v1 v2 u1 u2 epsilon class points findings =
    let r = reported v1 v2 u1 u2 epsilon in
    let p = point1_of r.answer in
    let q = point2_of r.answer in
    record {
      found =
          record {
            class = class_of r.answer;
            points = p.x ∷ p.y ∷ q.x ∷ q.y ∷ [];
            findings = numbers_of r.findings;
          };
      due = record { class = class; points = points; findings = findings };
    }

abbrev none : List Float
none = n0 ∷ n0 ∷ n0 ∷ n0 ∷ []

abbrev one : Float → Float → List Float
one x y = x ∷ y ∷ n0 ∷ n0 ∷ []

abbrev untested : List ℕ
untested = 6 ∷ 6 ∷ 6 ∷ 6 ∷ []

abbrev pub table : List Entry
table =
    -- A: two lines that cross
    entry (at n0 n0) (at n1 n0) (at half m1) (at half n1) eps 2 (one half n0) untested
    -- B: (0,0)-(1,0) and the lower half circle of radius 1 around (0,1): the line's start lies on the arc
    ∷ entry (at n0 n0) (at n1 n0) (arc_at m1 n1 n1) (at n1 n1) eps 1 (one n0 n0) (6 ∷ 5 ∷ 6 ∷ 6 ∷ [])
    -- C: the upper half circle around (0,0) and the lower one around (0,2): (0,1) is inside both
    ∷ entry (arc_at n1 n0 n1) (at m1 n0) (arc_at m1 n2 n1) (at n1 n2) eps 1 (one n0 n1) (2 ∷ 2 ∷ 6 ∷ 6 ∷ [])
    -- D to G: lines
    ∷ entry (at n0 n0) (at n4 n0) (at n1 n0) (at n5 n0) eps 4 (n1 ∷ n0 ∷ n4 ∷ n0 ∷ []) untested
    ∷ entry (at n0 n0) (at n2 n0) (at n2 n0) (at n5 n0) eps 2 (one n2 n0) untested
    ∷ entry (at n0 n0) (at n2 n0) (at n3 n0) (at n5 n0) half 0 none untested
    ∷ entry (at n0 n0) (at n4 n0) (at n2 quarter) (at n2 n4) half 2 (one n2 n0) untested
    ∷ entry (at n0 n0) (at n4 n0) (at n2 quarter) (at n2 n4) eighth 0 none untested
    -- H and I: arcs of one circle
    ∷ entry (arc_at m1 n0 n1) (at n1 n0) (arc_at n1 n0 n1) (at m1 n0) eps 3 (n1 ∷ n0 ∷ m1 ∷ n0 ∷ []) untested
    ∷ entry (arc_at m1 n0 n1) (at n1 n0) (arc_at n1 n0 m1) (at m1 n0) eps 5 (n1 ∷ n0 ∷ m1 ∷ n0 ∷ []) untested
    -- J: (0,-2)-(0,2) with H's first arc: (0,-1) is inside, (0,1) is outside
    ∷ entry (at n0 m2) (at n0 n2) (arc_at m1 n0 n1) (at n1 n0) eps 2 (one n0 m1) (6 ∷ 2 ∷ 6 ∷ 0 ∷ [])
    -- K: (-2,-1)-(2,-1) with H's first arc: (0,-1) is inside
    ∷ entry (at m2 m1) (at n2 m1) (arc_at m1 n0 n1) (at n1 n0) eps 1 (one n0 m1) (6 ∷ 2 ∷ 6 ∷ 6 ∷ [])
    -- L: a point on a line
    ∷ entry (at n1 n0) (at n1 n0) (at n0 n0) (at n2 n0) eps 2 (one n1 n0) untested
    -- (0,-1)-(0,2) with H's first arc: the line's start is on the arc and stands in, though the computed point equals it
    ∷ entry (at n0 m1) (at n0 n2) (arc_at m1 n0 n1) (at n1 n0) eps 2 (one n0 m1) (6 ∷ 5 ∷ 6 ∷ 0 ∷ [])
    -- epsilon 0.1: an end is the answer, and both computed points are outside an arc or not tested
    ∷ entry (arc_at n2 n2 m_half) (at m2 m4) (arc_at n3 m4 m_quarter) (at m4 m3) tenth 2 (one m2 m4) (0 ∷ 6 ∷ 0 ∷ 6 ∷ [])
    ∷ []

abbrev found : List Entry → List Numbers
found [] = []
found (e ∷ es) = e.found ∷ found es

abbrev due : List Entry → List Numbers
due [] = []
due (e ∷ es) = e.due ∷ due es

pub findings-examples : found table ≡ due table
unfolding
    reported report.findings report.computed
    tested.point_tested tested.unless_end tested.sticky_tested tested.both_tested tested.crossings_tested tested.line_arc_tested
    computed.both_tested computed.tangent_computed computed.nearer_replaced computed.two_computed computed.arc_arc_computed
    Range.on_segment LineLine.crossing LineLine.both_points LineLine.first_point LineLine.second_point LineLine.rising
    LineLine.span_of LineLine.touching_end LineLine.overlap LineLine.parallel LineLine.line_line
    LineCircle.point_circle LineCircle.line_through LineCircle.two_points LineCircle.line_meets LineCircle.line_circle
    CircleCircle.same_center CircleCircle.two_sides CircleCircle.meeting CircleCircle.circle_circle
    ArcSweep.new ArcSweep.exactly_within_sweep ArcSweep.contains ArcSweep.finding
    ArcGeometry.new ArcGeometry.of_segment ArcGeometry.sweeps ArcGeometry.finding ArcGeometry.point_lies_on_arc
    line_and_arc.point_in_sweep line_and_arc.tangent_line_arc line_and_arc.one_line_arc line_and_arc.with_sticky_ends line_and_arc.in_order
    LineArc.process_line_arc_intr
    two_arcs.both_sweep two_arcs.tangent_arc_arc two_arcs.try_add_end_point_intr two_arcs.add_if_on_arc two_arcs.collect_end_points
    two_arcs.end_for_nearer two_arcs.ends_for_both two_arcs.two_arc_arc two_arcs.crossing_arcs OneCircle.same_arc OneCircle.arc2_ends
    OneCircle.overlap_by_direction
    OneCircle.by_sweeps OneCircle.arcs_of_one_circle OneCircle.overlapping_arc_arc ArcArc.arc_arc
    PlineSeg.process_line_line_intr PlineSeg.pline_seg
    vector2.new vector2.add vector2.sub vector2.scale vector2.perp vector2.length vector2.fuzzy_eq_eps
    vertices.new vertices.pos
    fuzzy.fuzzy_eq_zero_eps fuzzy.fuzzy_eq_eps fuzzy.fuzzy_in_range_eps
    base_math.min_max base_math.dist_squared base_math.point_from_parametric base_math.parametric_from_point
    seg.seg_arc_radius_and_center
    abs min max sqrt root_of root_at isqrt root_in
    add sub mul div neg sum round units odd size span climb lt le eq is_nan of_bits of_fields count_trailing_zeros
findings-examples = refl
