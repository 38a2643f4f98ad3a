-- Two line segments: line_line_intersect.rs, line for line. Read the two side by side.
use Rattle.std.specs.Prelude.{cond, not, ◌&&◌, ◌||◌, Float}
use Rattle.floats.specs.Ops.{◌⊖◌, ◌⊗◌, ◌⊘◌, ◌≻◌, f0, f1}
use Rattle.floats.specs.F64
use Rattle.plane.specs.Vector2 as vector2
use Rattle.plane.specs.declared.vector2.Vector2.{Vector2}
use Rattle.plane.specs.Fuzzy.{fuzzy_eq_zero_eps, fuzzy_gt_eps, fuzzy_lt_eps}
use Rattle.plane.specs.BaseMath.{parametric_from_point}
use Rattle.ranges.specs.Range.{on_segment}
use Rattle.crossing.specs.declared.line_line_intr.LineLineIntr.{LineLineIntr}
use Rattle.crossing.specs.declared.line_line_intr.LineLineIntr.TheVariants.{
  NoIntersect,
  TrueIntersect,
  Overlapping,
  FalseIntersect,
}
use Rattle.crossing.specs.declared.line_line.Span.{Span}

-- lines 116-129: not parallel
unfoldable pub crossing : Vector2 → Vector2 → Vector2 → Float → Float → LineLineIntr
crossing v u w v_pdot_u eps =
    let seg1_t = vector2.perp_dot u w ⊘ v_pdot_u in
    let seg2_t = vector2.perp_dot v w ⊘ v_pdot_u in
    cond (not (on_segment seg1_t v eps) || not (on_segment seg2_t u eps))
    (FalseIntersect seg1_t seg2_t)
    (TrueIntersect seg1_t seg2_t)

-- lines 145-156: both are points
unfoldable pub both_points : Vector2 → Vector2 → Float → LineLineIntr
both_points v1 u1 eps = cond (vector2.fuzzy_eq_eps v1 u1 eps) (TrueIntersect f0 f0) NoIntersect

-- lines 158-170: v is a point and u is not
unfoldable pub first_point : Vector2 → Vector2 → Vector2 → Vector2 → Float → LineLineIntr
first_point v1 u1 u2 u eps =
    let seg2_t = parametric_from_point u1 u2 v1 eps in
    cond (on_segment seg2_t u eps) (TrueIntersect f0 seg2_t) NoIntersect

-- lines 172-184: u is a point and v is not
unfoldable pub second_point : Vector2 → Vector2 → Vector2 → Vector2 → Float → LineLineIntr
second_point v1 v2 u1 v eps =
    let seg1_t = parametric_from_point v1 v2 u1 eps in
    cond (on_segment seg1_t v eps) (TrueIntersect seg1_t f0) NoIntersect

-- lines 194-196: swapped if the first is greater
unfoldable pub rising : Float → Float → Span
rising t0 t1 = cond (t0 ≻ t1) (record { t0 = t1; t1 = t0 }) (record { t0 = t0; t1 = t1 })

-- lines 188-196: from y if u.x is near zero by the given epsilon, else from x
unfoldable pub span_of : Vector2 → Vector2 → Vector2 → Float → Span
span_of w w2 u eps =
    cond (fuzzy_eq_zero_eps u.x eps)
    (rising (w.y ⊘ u.y) (w2.y ⊘ u.y))
    (rising (w.x ⊘ u.x) (w2.x ⊘ u.x))

-- lines 212-217: 0 if v1 is near an end of the other, else 1
unfoldable pub touching_end : Vector2 → Vector2 → Vector2 → Float → Float
touching_end v1 u1 u2 eps = cond (vector2.fuzzy_eq_eps v1 u1 eps || vector2.fuzzy_eq_eps v1 u2 eps) f0 f1

-- lines 198-225
unfoldable pub overlap : Vector2 → Vector2 → Vector2 → Vector2 → Span → Float → LineLineIntr
overlap v1 u1 u2 u s eps =
    let seg2_length = vector2.length u in
    let seg2_t0 = F64.max s.t0 f0 in
    let seg2_t1 = F64.min s.t1 f1 in
    cond (not (fuzzy_lt_eps (s.t0 ⊗ seg2_length) seg2_length eps) || not (fuzzy_gt_eps (s.t1 ⊗ seg2_length) f0 eps))
    NoIntersect
    (cond (fuzzy_eq_zero_eps ((seg2_t1 ⊖ seg2_t0) ⊗ seg2_length) eps)
    (TrueIntersect (touching_end v1 u1 u2 eps) seg2_t0)
    (Overlapping seg2_t0 seg2_t1))

-- lines 131-225: parallel, and perhaps on one straight line
unfoldable pub parallel : Vector2 → Vector2 → Vector2 → Vector2 → Vector2 → Vector2 → Vector2 → Float → LineLineIntr
parallel v1 v2 u1 u2 v u w eps =
    let v_pdot_w = vector2.perp_dot v w in
    let u_pdot_w = vector2.perp_dot u w in
    let v_is_point = vector2.fuzzy_eq_eps v1 v2 eps in
    let u_is_point = vector2.fuzzy_eq_eps u1 u2 eps in
    let w2 = vector2.sub v2 u1 in
    cond (not (fuzzy_eq_zero_eps v_pdot_w eps) || not (fuzzy_eq_zero_eps u_pdot_w eps))
    NoIntersect
    (cond (v_is_point && u_is_point)
    (both_points v1 u1 eps)
    (cond v_is_point
    (first_point v1 u1 u2 u eps)
    (cond u_is_point
    (second_point v1 v2 u1 v eps)
    (overlap v1 u1 u2 u (span_of w w2 u eps) eps))))

-- lines 91-226
unfoldable pub line_line : Vector2 → Vector2 → Vector2 → Vector2 → Float → LineLineIntr
line_line v1 v2 u1 u2 epsilon =
    let v = vector2.sub v2 v1 in
    let u = vector2.sub u2 u1 in
    let v_pdot_u = vector2.perp_dot v u in
    let w = vector2.sub v1 u1 in
    cond (not (fuzzy_eq_zero_eps v_pdot_u epsilon))
    (crossing v u w v_pdot_u epsilon)
    (parallel v1 v2 u1 u2 v u w epsilon)
