-- The three kernels' calls: what they answer is finite; and sentence 3.
use Rattle.checks.specs.Checked.{Checked}
use Rattle.std.specs.Prelude.{◌≡◌, refl, ℕ, Float, Err, Ok}
use Rattle.plane.specs.declared.vector2.Vector2.{Vector2}
use Rattle.checks.specs.Number.{not_finite}
use Rattle.checks.specs.Answered.{answered}
use Rattle.checks.specs.Calls.{check_line_line, check_line_circle, check_circle_circle}
use Rattle.checks.specs.Laws.Fine.{of_number}
use Rattle.crossing.specs.LineLine as kernel
use Rattle.crossing.specs.LineCircle.{line_circle}
use Rattle.crossing.specs.CircleCircle.{circle_circle}
use Rattle.crossing.specs.LineLineIntersect as lines
use Rattle.crossing.specs.LineCircleIntersect as line-circle
use Rattle.crossing.specs.CircleCircleIntersect as circles
use Rattle.crossing.specs.declared.line_line_intr.LineLineIntr.{LineLineIntr}
use Rattle.crossing.specs.declared.line_line_intr.LineLineIntr.TheVariants as LineLineIntr·
use Rattle.crossing.specs.declared.line_circle_intr.LineCircleIntr.{LineCircleIntr}
use Rattle.crossing.specs.declared.line_circle_intr.LineCircleIntr.TheVariants as LineCircleIntr·
use Rattle.crossing.specs.declared.circle_circle_intr.CircleCircleIntr.{CircleCircleIntr}
use Rattle.crossing.specs.declared.circle_circle_intr.CircleCircleIntr.TheVariants as CircleCircleIntr·
use Rattle.float_laws.specs.Sizes.{Small, small-finite}
use Rattle.finite.specs.Doubles.{wider}
use Rattle.finite.specs.Limits.{radius-small, center-small}
use Rattle.finite.specs.Vectors.{SmallPoint, point-small, point-wider}
use Rattle.finite.specs.LineLine as line-laws
use Rattle.finite.specs.LineCircle as line-circle-laws
use Rattle.finite.specs.CircleCircle as circle-laws
use Rattle.release.specs.Words.{Finite, All}
use Rattle.release.specs.Laws.Accepted.{lines-fine, line-circle-fine, circles-fine}

-- a bounded number is finite
pub bounded : {k : ℕ} {x : Float} → Small k x → Finite x
unfolding not_finite
bounded {k} {x} w = of_number x (small-finite k x w)

-- ---- two lines
line-values : (r : LineLineIntr) → line-laws.Bounded r → All Finite (lines.numbers_of (Ok r)).values
line-values LineLineIntr·.NoIntersect line-laws.nothing = tt
line-values (LineLineIntr·.TrueIntersect s t) (line-laws.met a b) = (bounded a, (bounded b, tt))
line-values (LineLineIntr·.Overlapping s t) (line-laws.shared a b) = (bounded a, (bounded b, tt))
line-values (LineLineIntr·.FalseIntersect s t) (line-laws.missed a b) = (bounded a, (bounded b, tt))

pub line-line : (v1 v2 u1 u2 : Vector2) (eps : Float) → All Finite (lines.numbers_of (lines.line_line_intr v1 v2 u1 u2 eps)).values
unfolding lines.line_line_intr
line-line v1 v2 u1 u2 eps = go (check_line_line v1 v2 u1 u2 eps) refl
  where
    go : (c : Checked) → check_line_line v1 v2 u1 u2 eps ≡ c
        → All Finite
        (lines.numbers_of
        (answered Err Ok c (kernel.line_line v1 v2 u1 u2 eps))).values
    go (Err fault) e = tt
    go (Ok _) e =
        let f = lines-fine v1 v2 u1 u2 eps e in
        line-values _
        (line-laws.line-line-small v1 v2 u1 u2 eps (point-small v1 f.at-v1) (point-small v2 f.at-v2)
        (point-small u1 f.at-u1) (point-small u2 f.at-u2) f.epsilon)

-- ---- a line and a circle
line-circle-values : (r : LineCircleIntr) → line-circle-laws.Bounded r
    → All Finite (line-circle.numbers_of (Ok r)).values
line-circle-values LineCircleIntr·.NoIntersect line-circle-laws.nothing = tt
line-circle-values (LineCircleIntr·.TangentIntersect t) (line-circle-laws.touched a) = (bounded a, tt)
line-circle-values (LineCircleIntr·.TwoIntersects s t) (line-circle-laws.twice a b) = (bounded a, (bounded b, tt))

pub line-and-circle : (p0 p1 : Vector2) (radius : Float) (center : Vector2) (eps : Float)
    → All Finite (line-circle.numbers_of (line-circle.line_circle_intr p0 p1 radius center eps)).values
unfolding line-circle.line_circle_intr
line-and-circle p0 p1 radius center eps = go (check_line_circle p0 p1 radius center eps) refl
  where
    go : (c : Checked) → check_line_circle p0 p1 radius center eps ≡ c
        → All Finite
        (line-circle.numbers_of
        (answered Err Ok c (line_circle p0 p1 radius center eps))).values
    go (Err fault) e = tt
    go (Ok _) e =
        let f = line-circle-fine p0 p1 radius center eps e in
        let C : SmallPoint 48 center =
        record { at_x = center-small center.x f.circle.at_x; at_y = center-small center.y f.circle.at_y } in
        line-circle-values _
        (line-circle-laws.line-circle-small p0 p1 radius center eps (point-small p0 f.at-p0) (point-small p1 f.at-p1)
        (wider (radius-small radius f.circle.radius) 60 tt) (point-wider C 60 tt) f.epsilon)

-- ---- two circles
circle-values : (r : CircleCircleIntr) → circle-laws.Bounded r
    → All Finite (circles.numbers_of (Ok r)).values
circle-values CircleCircleIntr·.NoIntersect circle-laws.nothing = tt
circle-values (CircleCircleIntr·.TangentIntersect p) (circle-laws.touched a) = (bounded a.at_x, (bounded a.at_y, tt))
circle-values (CircleCircleIntr·.TwoIntersects p q) (circle-laws.twice a b) =
    (bounded a.at_x, (bounded a.at_y, (bounded b.at_x, (bounded b.at_y, tt))))
circle-values CircleCircleIntr·.Overlapping circle-laws.same = tt

pub circle-and-circle : (radius1 : Float) (center1 : Vector2) (radius2 : Float) (center2 : Vector2) (eps : Float)
    → All Finite (circles.numbers_of (circles.circle_circle_intr radius1 center1 radius2 center2 eps)).values
unfolding circles.circle_circle_intr
circle-and-circle radius1 center1 radius2 center2 eps = go (check_circle_circle radius1 center1 radius2 center2 eps) refl
  where
    go : (c : Checked) → check_circle_circle radius1 center1 radius2 center2 eps ≡ c
        → All Finite
        (circles.numbers_of
        (answered Err Ok c (circle_circle radius1 center1 radius2 center2 eps))
        ).values
    go (Err fault) e = tt
    go (Ok _) e =
        let f = circles-fine radius1 center1 radius2 center2 eps e in
        let C : SmallPoint 48 center1 =
        record { at_x = center-small center1.x f.first.at_x; at_y = center-small center1.y f.first.at_y } in
        let D : SmallPoint 48 center2 =
        record { at_x = center-small center2.x f.second.at_x; at_y = center-small center2.y f.second.at_y } in
        circle-values _
        (circle-laws.circle-circle-small radius1 center1 radius2 center2 eps
        (wider (radius-small radius1 f.first.radius) 60 tt) (point-wider C 60 tt)
        (wider (radius-small radius2 f.second.radius) 60 tt) (point-wider D 60 tt) f.epsilon)
