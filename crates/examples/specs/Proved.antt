-- Every entry of the table holds: one claim, computed by the definitions that the calls are proved to equal.
use Rattle.std.specs.Prelude.{◌≡◌, refl, List, [], ◌∷◌}
use Rattle.std.specs.Int.Count.{count_trailing_zeros}
use Rattle.std.specs.Float.Ieee.{add, sub, mul, div, neg, sum, round, units, odd, size, span, climb, lt, le, eq, is_nan, of_bits, of_fields}
use Rattle.floats.specs.F64.{abs, min, max, sqrt, root_of, root_at, isqrt, root_in}
use Rattle.plane.specs.Vector2 as vector2
use Rattle.plane.specs.PlineVertex as vertex
use Rattle.plane.specs.Fuzzy as fuzzy
use Rattle.plane.specs.BaseMath as base_math
use Rattle.plane.specs.PlineSeg as seg
use Rattle.checks.specs.Fault.{refuse, later}
use Rattle.checks.specs.Number.{is_infinite, not_finite, beyond}
use Rattle.checks.specs.Each
use Rattle.checks.specs.Arc.{arc_chord}
use Rattle.checks.specs.Calls
use Rattle.ranges.specs.Range
use Rattle.crossing.specs.AnswerNumbers.{AnswerNumbers}
use Rattle.crossing.specs.LineLine
use Rattle.crossing.specs.LineCircle
use Rattle.crossing.specs.CircleCircle
use Rattle.arcs.specs.ArcSweep
use Rattle.arcs.specs.ArcGeometry
use Rattle.arcs.specs.LineAndArc
use Rattle.arcs.specs.TwoArcs
use Rattle.arcs.specs.OneCircle
use Rattle.crossing.specs.LineArc
use Rattle.crossing.specs.ArcArc
use Rattle.crossing.specs.PlineSeg
use Rattle.crossing.specs.LineLineIntersect as lines
use Rattle.crossing.specs.LineCircleIntersect as line_circle
use Rattle.crossing.specs.CircleCircleIntersect as circles
use Rattle.crossing.specs.PlineSegIntersect as pairs
use Rattle.examples.specs.ExampleTable.{Entry, table}

abbrev found : List Entry → List AnswerNumbers
found [] = []
found (r ∷ rs) = r.found ∷ found rs

abbrev due : List Entry → List AnswerNumbers
due [] = []
due (r ∷ rs) = r.due ∷ due rs

pub examples : found table ≡ due table
unfolding
    lines.line_line_intr line_circle.line_circle_intr circles.circle_circle_intr pairs.pline_seg_intr
    Calls.check_line_line Calls.check_line_circle Calls.check_circle_circle Calls.check_pline_seg
    Range.on_segment LineLine.crossing LineLine.both_points LineLine.first_point LineLine.second_point LineLine.rising
    LineLine.span_of LineLine.touching_end LineLine.overlap LineLine.parallel LineLine.line_line
    LineCircle.point_circle LineCircle.line_through LineCircle.two_points LineCircle.line_meets LineCircle.line_circle
    CircleCircle.same_center CircleCircle.two_sides CircleCircle.meeting CircleCircle.circle_circle
    ArcSweep.new ArcSweep.exactly_within_sweep ArcSweep.contains ArcSweep.finding
    ArcGeometry.new ArcGeometry.of_segment ArcGeometry.sweeps ArcGeometry.point_lies_on_arc
    LineAndArc.point_in_sweep LineAndArc.tangent_line_arc LineAndArc.one_line_arc LineAndArc.with_sticky_ends LineAndArc.in_order
    LineArc.process_line_arc_intr
    TwoArcs.both_sweep TwoArcs.tangent_arc_arc TwoArcs.try_add_end_point_intr TwoArcs.add_if_on_arc TwoArcs.collect_end_points
    TwoArcs.end_for_nearer TwoArcs.ends_for_both TwoArcs.two_arc_arc TwoArcs.crossing_arcs OneCircle.same_arc OneCircle.arc2_ends
    OneCircle.overlap_by_direction
    OneCircle.by_sweeps OneCircle.arcs_of_one_circle OneCircle.overlapping_arc_arc ArcArc.arc_arc
    PlineSeg.process_line_line_intr PlineSeg.pline_seg
    vector2.new vector2.add vector2.sub vector2.scale vector2.perp vector2.length vector2.fuzzy_eq_eps
    vertex.new vertex.pos
    fuzzy.fuzzy_eq_zero_eps fuzzy.fuzzy_eq_eps fuzzy.fuzzy_in_range_eps
    base_math.min_max base_math.dist_squared base_math.point_from_parametric base_math.parametric_from_point
    seg.seg_arc_radius_and_center
    arc_chord refuse later is_infinite not_finite beyond
    Each.epsilon Each.finite Each.finite_then Each.coordinate Each.bulge Each.radius Each.center Each.chord
    abs min max sqrt root_of root_at isqrt root_in
    add sub mul div neg sum round units odd size span climb lt le eq is_nan of_bits of_fields count_trailing_zeros
examples = refl
