-- What Release.antt does not say, since it is false: two accepted calls that show it. The parameters of an overlap need not rise,
-- and a point of an answer need not lie in the box of the coordinates.
use Rattle.std.specs.Prelude.{◌≡◌, refl, true, Float, Err, Ok}
use Rattle.std.specs.Int.Count.{count_trailing_zeros}
use Rattle.std.specs.Float.{binary64}
use Rattle.std.specs.Float.Ieee.{add, sub, mul, div, neg, sum, round, units, odd, size, span, climb, lt, le, eq, is_nan, of_bits, of_fields}
use Rattle.floats.specs.Ops.{◌≺◌, f0, f1}
use Rattle.floats.specs.F64.{abs, min, max, sqrt, root_of, root_at, isqrt, root_in}
use Rattle.plane.specs.Vector2 as vector2
use Rattle.plane.specs.PlineVertex as vertices
use Rattle.plane.specs.PlineSeg as segments
use Rattle.plane.specs.Fuzzy as fuzzy
use Rattle.plane.specs.BaseMath as base_math
use Rattle.plane.specs.declared.vector2.Vector2.{Vector2}
use Rattle.plane.specs.declared.pline_vertex.PlineVertex.{PlineVertex}
use Rattle.checks.specs.Fault.{refuse, later}
use Rattle.checks.specs.Number.{is_infinite, not_finite, beyond}
use Rattle.checks.specs.Limit
use Rattle.checks.specs.Each
use Rattle.checks.specs.Arc.{arc_chord}
use Rattle.checks.specs.Calls.{check_line_line, check_pline_seg}
use Rattle.ranges.specs.Range
use Rattle.arcs.specs.ArcSweep as sweep
use Rattle.arcs.specs.ArcGeometry as geometry
use Rattle.arcs.specs.TwoArcs as two_arcs
use Rattle.arcs.specs.declared.pline_seg_intr.PlineSegIntr.TheVariants.{TangentIntersect}
use Rattle.crossing.specs.LineLine
use Rattle.crossing.specs.CircleCircle
use Rattle.crossing.specs.ArcArc
use Rattle.crossing.specs.PlineSeg
use Rattle.crossing.specs.LineLineIntersect.{line_line_intr}
use Rattle.crossing.specs.PlineSegIntersect.{pline_seg_intr}
use Rattle.crossing.specs.declared.line_line_intr.LineLineIntr.TheVariants.{Overlapping}

-- ---- the first parameter is above 1, and the second is 1
abbrev flat : Float → Vector2
flat x = record { x = x; y = f0 }

abbrev above1 : Float
above1 = of_bits binary64 0x3ff0_0000_0000_0005

pub falls : line_line_intr (flat (of_bits binary64 0x408b_3333_3333_333b)) (flat (of_bits binary64 0x408e_5333_3333_333b)) (flat f0)
    (flat (of_bits binary64 0x408b_3333_3333_3333)) (of_bits binary64 0x3d71_0000_0000_0000)
    ≡ Ok (Overlapping above1 f1)
unfolding
    line_line_intr check_line_line Each.epsilon Each.finite Each.finite_then Each.coordinate refuse later is_infinite not_finite beyond
    Range.on_segment LineLine.crossing LineLine.both_points LineLine.first_point LineLine.second_point LineLine.rising
    LineLine.span_of LineLine.touching_end LineLine.overlap LineLine.parallel LineLine.line_line
    vector2.new vector2.add vector2.sub vector2.scale vector2.perp vector2.length vector2.fuzzy_eq_eps
    fuzzy.fuzzy_eq_zero_eps fuzzy.fuzzy_eq_eps fuzzy.fuzzy_in_range_eps base_math.parametric_from_point
    abs min max sqrt root_of root_at isqrt root_in
    add sub mul div neg sum round units odd size span climb lt le eq is_nan of_bits of_fields count_trailing_zeros
falls = refl

pub falling : (f1 ≺ above1) ≡ true
unfolding lt of_bits
falling = refl

-- ---- a tangent point some 1.8e13 away: two arcs on one chord of 2^21, with bulges next to 1e-8
abbrev left : Float → PlineVertex
left bulge = record { x = of_bits binary64 0xc130_0000_0000_0000; y = f0; bulge = bulge }

abbrev right : PlineVertex
right = record { x = of_bits binary64 0x4130_0000_0000_0000; y = f0; bulge = f0 }

abbrev far : Float
far = of_bits binary64 0xc2b0_50f8_0000_0004

pub leaves : pline_seg_intr (left (of_bits binary64 0x3e45_798e_e230_8c3b)) right (left (of_bits binary64 0x3e45_798e_e230_8c3c)) right
    (of_bits binary64 0x3ee4_f8b5_88e3_68f1)
    ≡ Ok (TangentIntersect (record { x = f0; y = far }))
unfolding
    pline_seg_intr check_pline_seg Each.epsilon Each.finite Each.finite_then Each.coordinate Each.bulge Each.chord arc_chord
    refuse later is_infinite not_finite beyond
    PlineSeg.pline_seg ArcArc.arc_arc segments.seg_arc_radius_and_center CircleCircle.circle_circle CircleCircle.meeting
    CircleCircle.two_sides CircleCircle.same_center
    geometry.of_segment geometry.new geometry.sweeps geometry.point_lies_on_arc sweep.new sweep.contains sweep.exactly_within_sweep
    two_arcs.tangent_arc_arc two_arcs.both_sweep
    vector2.new vector2.add vector2.sub vector2.scale vector2.perp vector2.length vector2.fuzzy_eq_eps vertices.pos
    fuzzy.fuzzy_eq_zero_eps fuzzy.fuzzy_eq_eps base_math.dist_squared
    abs min max sqrt root_of root_at isqrt root_in
    add sub mul div neg sum round units odd size span climb lt le eq is_nan of_bits of_fields count_trailing_zeros
leaves = refl

pub leaving : beyond Limit.coordinate far ≡ true
unfolding beyond abs lt of_bits
leaving = refl
