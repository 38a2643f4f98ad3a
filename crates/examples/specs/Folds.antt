-- What neighbouring lines of one path give in a self listing, epsilon 1e-5: the request's fold makes a row, a corner and a
-- square's joints make none, and an open path that ends on its start has the row of its ends.
use Rattle.std.specs.Prelude.{◌≡◌, refl, Bool, true, false, List, [], ◌∷◌, ℕ, Float}
use Rattle.std.specs.Int.Count.{count_trailing_zeros}
use Rattle.std.specs.Float.{binary64}
use Rattle.std.specs.Float.Ieee.{add, sub, mul, div, neg, sum, round, units, odd, size, span, climb, lt, le, eq, is_nan, of_bits, of_fields}
use Rattle.floats.specs.F64.{abs, min, max, sqrt, root_of, root_at, isqrt, root_in}
use Rattle.plane.specs.Vector2 as vector2
use Rattle.plane.specs.PlineVertex as vertices
use Rattle.plane.specs.Fuzzy as fuzzy
use Rattle.plane.specs.BaseMath as base_math
use Rattle.ranges.specs.Range
use Rattle.crossing.specs.LineLine
use Rattle.crossing.specs.PlineSeg
use Rattle.paths.specs.Path.{vertex, trace}
use Rattle.paths.specs.Shape.{refused}
use Rattle.paths.specs.Segments.{segment_count, after, segment_from}
use Rattle.listing_pairs.specs.declared.row.Look.{Look}
use Rattle.listing_pairs.specs.declared.row.Look.TheVariants.{Skipped, Nothing, Made}
use Rattle.listing_pairs.specs.Row.{look_of}
use Rattle.listing_pairs.specs.Neighbours.{only_at, at_joint}
use Rattle.listing_pairs.specs.Look.{self_look_of, traced_self_look}
use Rattle.listing_pairs.specs.Traces.{one_trace, traced}
use Rattle.examples.specs.ExampleTable.{n0, n1, n2, n5, eps}

-- ---- more numbers: -0, 10
abbrev minus0 : Float
minus0 = of_bits binary64 0x8000_0000_0000_0000

abbrev n10 : Float
n10 = of_bits binary64 0x4024_0000_0000_0000

-- ---- paths of lines: a vertex (x, y) with bulge 0 and the trace t, and then the rest
abbrev to : Float → Float → Float → List Float → List Float
to x y t rest = x ∷ y ∷ n0 ∷ t ∷ rest

-- (0, 0), (10, 0), (5, 0), with these traces
abbrev fold : Float → Float → Float → List Float
fold t u w = to n0 n0 t (to n10 n0 u (to n5 n0 w []))

-- the others have no traces
abbrev corner : List Float
corner = to n0 n0 n0 (to n10 n0 n0 (to n10 n5 n0 []))

-- back to (0, 0), over (10, 10)
abbrev back : List Float
back = to n0 n0 n0 (to n10 n0 n0 (to n10 n10 n0 (to n0 n0 n0 [])))

-- ---- entries: segments i and j of a path, and what they should give
pub record Entry : Type 0 where
  pub found : Look
  pub due : Look

abbrev entry : List Float → Bool → ℕ → ℕ → Look → Entry
entry path closed i j due = record { found = traced_self_look path closed eps i j; due = due }

abbrev pub table : List Entry
table =
    -- the fold: lines that overlap, from (10, 0) to (5, 0)
    entry (fold n0 n0 n0) false 0 1 (Made (record { i = 0; j = 1; class = 4; x1 = n10; y1 = n0; x2 = n5; y2 = n0 }))
    -- a corner
    ∷ entry corner false 0 1 Nothing
    -- the closing joint of a triangle, and the same path open, with its last vertex on its first
    ∷ entry corner true 0 2 Nothing
    ∷ entry back false 0 2 (Made (record { i = 0; j = 2; class = 2; x1 = n0; y1 = n0; x2 = n0; y2 = n0 }))
    -- there and back: a closed path of two segments
    ∷ entry (to n0 n0 n0 (to n10 n0 n0 [])) true 0 1
    (Made (record { i = 0; j = 1; class = 4; x1 = n10; y1 = n0; x2 = n0; y2 = n0 }))
    -- the fold again. Of one trace it is skipped, whatever the last vertex has; of two it is not, nor with traces 0 and -0
    ∷ entry (fold n1 n1 n2) false 0 1 Skipped
    ∷ entry (fold n1 n2 n2) false 0 1 (Made (record { i = 0; j = 1; class = 4; x1 = n10; y1 = n0; x2 = n5; y2 = n0 }))
    ∷ entry (fold n0 minus0 n1) false 0 1 (Made (record { i = 0; j = 1; class = 4; x1 = n10; y1 = n0; x2 = n5; y2 = n0 }))
    ∷ []

abbrev found : List Entry → List Look
found [] = []
found (e ∷ es) = e.found ∷ found es

abbrev due : List Entry → List Look
due [] = []
due (e ∷ es) = e.due ∷ due es

pub folds : found table ≡ due table
unfolding
    traced one_trace self_look_of look_of at_joint only_at segment_from segment_count after refused vertex trace
    PlineSeg.process_line_line_intr PlineSeg.pline_seg
    Range.on_segment LineLine.crossing LineLine.both_points LineLine.first_point LineLine.second_point LineLine.rising
    LineLine.span_of LineLine.touching_end LineLine.overlap LineLine.parallel LineLine.line_line
    vector2.new vector2.add vector2.sub vector2.scale vector2.perp vector2.length vector2.fuzzy_eq_eps
    vertices.new vertices.pos
    fuzzy.fuzzy_eq_zero_eps fuzzy.fuzzy_eq_eps fuzzy.fuzzy_in_range_eps
    base_math.min_max base_math.dist_squared base_math.point_from_parametric base_math.parametric_from_point
    abs min max sqrt root_of root_at isqrt root_in
    add sub mul div neg sum round units odd size span climb lt le eq is_nan of_bits of_fields count_trailing_zeros
folds = refl
