-- A worked example, computed by the definitions: the loop from (0, 0) to (1/8, 0) with bulge 8, and the line from (-1, -1/4) to
-- (1, -1/4), epsilon 1e-5. All numbers pass, and each half of the loop meets the line in one point. Floats are written by their
-- bits.
use Rattle.std.specs.Prelude.{◌≡◌, refl, List, [], ◌∷◌, ℕ, Float, Ok}
use Rattle.std.specs.Int.Count.{count_trailing_zeros}
use Rattle.std.specs.Float.{binary64}
use Rattle.std.specs.Float.Ieee.{add, sub, mul, div, neg, sum, round, units, odd, size, span, climb, lt, le, eq, is_nan, of_bits, of_fields}
use Rattle.floats.specs.F64.{abs, min, max, sqrt, root_of, root_at, isqrt, root_in}
use Rattle.float_laws.specs.Flat.{flat}
use Rattle.plane.specs.declared.pline_vertex.PlineVertex.{PlineVertex}
use Rattle.plane.specs.Vector2 as vector2
use Rattle.plane.specs.PlineVertex as vertices
use Rattle.plane.specs.Fuzzy as fuzzy
use Rattle.plane.specs.BaseMath as base_math
use Rattle.plane.specs.PlineSeg as seg
use Rattle.checks.specs.Fault.{refuse, later}
use Rattle.checks.specs.First.{first}
use Rattle.checks.specs.Number.{is_infinite, not_finite, beyond}
use Rattle.checks.specs.Each
use Rattle.checks.specs.Arc.{arc_chord}
use Rattle.arcs.specs.ArcSweep
use Rattle.arcs.specs.ArcGeometry
use Rattle.arcs.specs.LineAndArc
use Rattle.crossing.specs.LineCircle
use Rattle.crossing.specs.LineArc
use Rattle.crossing.specs.PlineSeg
use Rattle.cuts.specs.Cut.{is_large, half_bulge, cut_point, bent, cut_vertex}
use Rattle.cuts.specs.LargeChecks.{segment_checks}
use Rattle.large_pair.specs.LargePair.{large_pair_checks, results_of, words_of}

-- 0, 1/8, -1/4, 1, -1, 8, 1e-5
abbrev n0 : Float
n0 = of_bits binary64 0x0000_0000_0000_0000

abbrev eighth : Float
eighth = of_bits binary64 0x3fc0_0000_0000_0000

abbrev mquarter : Float
mquarter = of_bits binary64 0xbfd0_0000_0000_0000

abbrev n1 : Float
n1 = of_bits binary64 0x3ff0_0000_0000_0000

abbrev m1 : Float
m1 = of_bits binary64 0xbff0_0000_0000_0000

abbrev n8 : Float
n8 = of_bits binary64 0x4020_0000_0000_0000

abbrev eps : Float
eps = of_bits binary64 0x3ee4_f8b5_88e3_68f1

abbrev vertex : Float → Float → Float → PlineVertex
vertex x y bulge = record { x = x; y = y; bulge = bulge }

abbrev loop1 : PlineVertex
loop1 = vertex n0 n0 n8

abbrev loop2 : PlineVertex
loop2 = vertex eighth n0 n0

abbrev line1 : PlineVertex
line1 = vertex m1 mquarter n0

abbrev line2 : PlineVertex
line2 = vertex n1 mquarter n0

pub all-fine : first (large_pair_checks loop1 loop2 line1 line2 eps) ≡ Ok tt
unfolding
    segment_checks is_large half_bulge cut_point bent cut_vertex vertices.new vector2.new vertices.pos vector2.sub vector2.length
    fuzzy.fuzzy_eq_zero_eps arc_chord refuse later is_infinite not_finite beyond
    Each.epsilon Each.finite Each.finite_then Each.coordinate Each.large_bulge Each.chord
    abs sqrt root_of root_at isqrt root_in
    add sub mul div neg sum round units odd size span climb lt le eq is_nan of_bits of_fields count_trailing_zeros
all-fine = refl

-- the first half and the line, class 2; then the second half and the line, class 2
pub both_halves : flat words_of (results_of loop1 loop2 line1 line2 eps) ≡ 1 ∷ 0 ∷ 2 ∷ 2 ∷ 0 ∷ 2 ∷ []
unfolding
    is_large half_bulge cut_point bent cut_vertex
    LineCircle.point_circle LineCircle.line_through LineCircle.two_points LineCircle.line_meets LineCircle.line_circle
    ArcSweep.new ArcSweep.exactly_within_sweep ArcSweep.contains ArcSweep.finding
    ArcGeometry.new ArcGeometry.of_segment ArcGeometry.sweeps ArcGeometry.point_lies_on_arc
    LineAndArc.point_in_sweep LineAndArc.tangent_line_arc LineAndArc.one_line_arc LineAndArc.with_sticky_ends LineAndArc.in_order
    LineArc.process_line_arc_intr PlineSeg.pline_seg
    vector2.new vector2.add vector2.sub vector2.scale vector2.perp vector2.length vector2.fuzzy_eq_eps
    vertices.new vertices.pos
    fuzzy.fuzzy_eq_zero_eps fuzzy.fuzzy_eq_eps fuzzy.fuzzy_in_range_eps
    base_math.min_max base_math.dist_squared base_math.point_from_parametric base_math.parametric_from_point
    seg.seg_arc_radius_and_center
    abs min max sqrt root_of root_at isqrt root_in
    add sub mul div neg sum round units odd size span climb lt le eq is_nan of_bits of_fields count_trailing_zeros
both_halves = refl
