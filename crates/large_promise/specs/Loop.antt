-- A worked example, computed by the definitions: a loop whose ends are nearer than epsilon lists itself. The open path of one arc
-- from (0, 0) to (1/8, 0) with bulge 8, epsilon 1/4: its halves meet at the cut point, which they share, and at the loop's ends,
-- which they do not. Its self listing has one row, 0 1 0 2, of class 3: two points. Of a trace above 0 it has none.
use Rattle.std.specs.Prelude.{◌≡◌, refl, false, List, [], ◌∷◌, Float}
use Rattle.std.specs.Int.Count.{count_trailing_zeros}
use Rattle.std.specs.Float.{binary64}
use Rattle.std.specs.Float.Ieee.{add, sub, mul, div, neg, sum, round, units, odd, size, span, climb, lt, le, eq, is_nan, of_bits, of_fields}
use Rattle.floats.specs.F64.{abs, min, max, sqrt, root_of, root_at, isqrt, root_in}
use Rattle.plane.specs.Vector2 as vector2
use Rattle.plane.specs.PlineVertex as vertices
use Rattle.plane.specs.Fuzzy as fuzzy
use Rattle.plane.specs.BaseMath as base_math
use Rattle.plane.specs.PlineSeg as seg
use Rattle.arcs.specs.ArcSweep
use Rattle.arcs.specs.ArcGeometry
use Rattle.arcs.specs.TwoArcs
use Rattle.arcs.specs.OneCircle
use Rattle.crossing.specs.CircleCircle
use Rattle.crossing.specs.ArcArc
use Rattle.crossing.specs.PlineSeg
use Rattle.paths.specs.Path.{vertex, trace}
use Rattle.paths.specs.Shape.{refused}
use Rattle.paths.specs.Segments.{segment_count, after, segment_from}
use Rattle.cuts.specs.Cut.{is_large, half_bulge, cut_point, bent, cut_vertex}
use Rattle.cuts.specs.CutPath.{vertices_of, cut_path, names_of, names}
use Rattle.listing_pairs.specs.Row.{look_of, numbers_of_rows}
use Rattle.listing_pairs.specs.Rows.{rows_of}
use Rattle.listing_pairs.specs.Neighbours.{only_at, at_joint}
use Rattle.listing_pairs.specs.Look.{self_look_of}
use Rattle.listing_pairs.specs.Traces.{one_trace, traced}
use Rattle.large_listings.specs.LargeListings.{self_numbers, self_large_look, self_large_pairs}

-- 0, 1/8, 1/4, 1, 8
abbrev n0 : Float
n0 = of_bits binary64 0x0000_0000_0000_0000

abbrev eighth : Float
eighth = of_bits binary64 0x3fc0_0000_0000_0000

abbrev quarter : Float
quarter = of_bits binary64 0x3fd0_0000_0000_0000

abbrev n1 : Float
n1 = of_bits binary64 0x3ff0_0000_0000_0000

abbrev n8 : Float
n8 = of_bits binary64 0x4020_0000_0000_0000

-- the loop, of this trace
abbrev loop : Float → List Float
loop t = n0 ∷ n0 ∷ n8 ∷ t ∷ eighth ∷ n0 ∷ n0 ∷ n0 ∷ []

pub lists-itself : numbers_of_rows (self_numbers (loop n0) false) (rows_of (self_large_look (loop n0) false quarter)
    (self_large_pairs (loop n0) false)) ≡ 0 ∷ 1 ∷ 0 ∷ 2 ∷ 3 ∷ []
unfolding
    names names_of cut_path vertices_of is_large half_bulge cut_point bent cut_vertex
    traced one_trace self_look_of look_of at_joint only_at segment_from segment_count after refused vertex trace
    CircleCircle.same_center CircleCircle.two_sides CircleCircle.meeting CircleCircle.circle_circle
    ArcSweep.new ArcSweep.exactly_within_sweep ArcSweep.contains ArcSweep.finding
    ArcGeometry.new ArcGeometry.of_segment ArcGeometry.sweeps ArcGeometry.point_lies_on_arc
    TwoArcs.both_sweep TwoArcs.tangent_arc_arc TwoArcs.try_add_end_point_intr TwoArcs.add_if_on_arc TwoArcs.collect_end_points
    TwoArcs.end_for_nearer TwoArcs.ends_for_both TwoArcs.two_arc_arc TwoArcs.crossing_arcs OneCircle.same_arc OneCircle.arc2_ends
    OneCircle.overlap_by_direction OneCircle.by_sweeps OneCircle.arcs_of_one_circle OneCircle.overlapping_arc_arc ArcArc.arc_arc
    PlineSeg.pline_seg
    vector2.new vector2.add vector2.sub vector2.scale vector2.perp vector2.length vector2.fuzzy_eq_eps
    vertices.new vertices.pos
    fuzzy.fuzzy_eq_zero_eps fuzzy.fuzzy_eq_eps fuzzy.fuzzy_in_range_eps
    base_math.min_max base_math.dist_squared base_math.point_from_parametric base_math.parametric_from_point
    seg.seg_arc_radius_and_center
    abs min max sqrt root_of root_at isqrt root_in
    add sub mul div neg sum round units odd size span climb lt le eq is_nan of_bits of_fields count_trailing_zeros
lists-itself = refl

pub of-one-trace : rows_of (self_large_look (loop n1) false quarter) (self_large_pairs (loop n1) false) ≡ []
unfolding
    names names_of cut_path vertices_of is_large half_bulge cut_point bent cut_vertex
    traced one_trace segment_from segment_count after refused vertex trace vector2.new vertices.new abs sqrt root_of root_at isqrt
    root_in add sub mul div neg sum round units odd size span climb lt le eq is_nan of_bits of_fields count_trailing_zeros
of-one-trace = refl
