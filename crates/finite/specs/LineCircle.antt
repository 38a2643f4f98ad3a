-- The parameters of a line on a circle are bounded: the line's equation has a * a + b * b of at least 1, which is what its
-- numbers are divided by, and the parameter of a point divides by a difference that is at least epsilon.
use Rattle.std.specs.Prelude.{◌≡◌, ◌^◌, true, false, T, Float}
use Rattle.std.proofs.Common.{arith}
use Rattle.std.specs.Float.Ieee.{binary64, of_bits, neg, add, mul, sum, round, units, odd, size, span, climb, of_fields, lt, le, eq}
use Rattle.std.specs.Float.Ieee.Fits.{mul-fits}
use Rattle.float_laws.specs.Signed.{Diff}
use Rattle.float_laws.specs.Chains.{le_trans as float-trans}
use Rattle.floats.specs.Ops.{◌⊕◌, ◌⊖◌, ◌⊗◌, ◌⊘◌, ◌≺◌, ◌≻◌, ◌≼◌, ◌≽◌, f0, f1, f2}
use Rattle.floats.specs.F64
use Rattle.floats.specs.Laws.Leaves.{abs-fits}
use Rattle.plane.specs.Vector2 as vector2
use Rattle.plane.specs.declared.vector2.Vector2.{Vector2}
use Rattle.plane.specs.Fuzzy as fuzzy
use Rattle.plane.specs.BaseMath.{min_max}
use Rattle.plane.specs.declared.base_math.MinMax.{MinMax}
use Rattle.crossing.specs.LineCircle as kernel
use Rattle.crossing.specs.declared.line_circle_intr.LineCircleIntr.{LineCircleIntr}
use Rattle.crossing.specs.declared.line_circle_intr.LineCircleIntr.TheVariants.{NoIntersect, TangentIntersect, TwoIntersects}
use Rattle.crossing.specs.declared.line_circle.Line.{Line}
use Rattle.finite.specs.Branch.{by-test}
use Rattle.float_laws.specs.Sizes.{Small, neg_small}
use Rattle.floats.specs.Laws.Sizes.{abs-small, abs-least, root-small, square-least, least-added}
use Rattle.finite.specs.Doubles.{Epsilon, wider, plus, minus, times, over, not-zero, sizable-above}
use Rattle.finite.specs.Doubles.{zero-small, one-small, two-sizable}
use Rattle.finite.specs.Vectors.{SmallPoint, point-of, sub-point, parameter-small}

-- the parameters, if there are any
pub data Bounded : LineCircleIntr → Type 0 where
  nothing : Bounded NoIntersect
  touched : {t : Float} → Small 600 t → Bounded (TangentIntersect t)
  twice : {t0 t1 : Float} → Small 600 t0 → Small 600 t1 → Bounded (TwoIntersects t0 t1)

-- ---- the line's equation
pub record SmallLine (line : Line) : Type 0 where
  pub at_a : Small 48 line.a
  pub at_b : Small 0 line.b
  pub at_c : Small 110 line.c
  pub long : T (f1 ≼ (line.a ⊗ line.a ⊕ line.b ⊗ line.b))

upright-long : T (f1 ≼ (f1 ⊗ f1 ⊕ f0 ⊗ f0))
unfolding add mul sum round units odd size span climb lt le eq of_bits of_fields
upright-long = tt

square-long : T (f1 ≼ (neg f1 ⊗ neg f1))
unfolding mul neg round units odd size span climb lt le eq of_bits of_fields
square-long = tt

-- a * a is not below zero
leaning-long : (m : Float) → Small 48 m → T (f1 ≼ (m ⊗ m ⊕ neg f1 ⊗ neg f1))
leaning-long m w =
    let one = neg_small 0 f1 one-small in
    float-trans f1 (neg f1 ⊗ neg f1) (m ⊗ m ⊕ neg f1 ⊗ neg f1) square-long
    (least-added 96 0 (m ⊗ m) (neg f1 ⊗ neg f1) (times w w tt) (times one one tt) (mul-fits binary64 m m)
    (mul-fits binary64 (neg f1) (neg f1)) (square-least 48 m w))

line_small : (dx dy : Float) (p q : Vector2) → Small 21 dx → Small 21 dy → SmallPoint 61 p → SmallPoint 61 q
    → SmallLine (kernel.line_through dx dy p q)
unfolding kernel.line_through fuzzy.fuzzy_eq_zero_eps
line_small dx dy p q a b A B =
    by-test SmallLine (fuzzy.fuzzy_eq_zero dx) _ _ upright leaning
  where
    upright : fuzzy.fuzzy_eq_zero dx ≡ true → SmallLine (record { a = f1; b = f0; c = neg ((q.x ⊕ p.x) ⊘ f2) })
    upright e =
        record {
          at_a = wider one-small 48 tt;
          at_b = zero-small;
          at_c = wider (neg_small 62 ((q.x ⊕ p.x) ⊘ f2) (over (plus B.at_x A.at_x 61 tt) two-sizable tt)) 110 tt;
          long = upright-long;
        }

    leaning : fuzzy.fuzzy_eq_zero dx ≡ false
        → SmallLine (record { a = dy ⊘ dx; b = neg f1; c = q.y ⊖ dy ⊘ dx ⊗ q.x })
    leaning e =
        let m = over b (not-zero 21 dx a e) tt in
        record {
          at_a = m;
          at_b = neg_small 0 f1 one-small;
          at_c = minus B.at_y (times m B.at_x tt) 109 tt;
          long = leaning-long (dy ⊘ dx) m;
        }

-- ---- the points on the circle
one-is : Diff f1 1 0 (2 ^ 0)
unfolding of_bits
one-is = omega arith

pub record SmallSpan (s : MinMax) : Type 0 where
  pub least : Small 600 s.min
  pub most : Small 600 s.max

ordered-small : (s t : Float) → Small 600 s → Small 600 t → SmallSpan (min_max s t)
unfolding min_max
ordered-small s t a b =
    by-test SmallSpan (s ≺ t) _ _ (λ e. record { least = a; most = b }) (λ e. record { least = b; most = a })

module _ (p0 p1 : Vector2) (eps : Float) (A : SmallPoint 20 p0) (B : SmallPoint 20 p1) (E : Epsilon eps)
    (far : vector2.fuzzy_eq_eps p0 p1 eps ≡ false) where
  two-small : (line : Line) (x0 y0 mult : Float) → SmallLine line → Small 159 x0 → Small 159 y0 → Small 111 mult
      → Bounded (kernel.two_points p0 p1 line x0 y0 mult eps)
  unfolding kernel.two_points
  two-small line x0 y0 mult L X Y M =
      let along = wider (times L.at_b M tt) 159 tt in
      let beside = times L.at_a M tt in
      let point1 = point-of (plus X along 159 tt) (minus Y beside 159 tt) in
      let point2 = point-of (minus X along 159 tt) (plus Y beside 159 tt) in
      let t = wider (parameter-small p0 p1 eps A B E far 159 (vector2.new x0 y0) eps (point-of X Y) tt tt) 600 tt in
      let ts = ordered-small _ _ (wider (parameter-small p0 p1 eps A B E far 160 _ eps point1 tt tt) 600 tt)
      (wider (parameter-small p0 p1 eps A B E far 160 _ eps point2 tt tt) 600 tt) in
      by-test Bounded
      (vector2.fuzzy_eq_eps (vector2.new (x0 ⊕ line.b ⊗ mult) (y0 ⊖ line.a ⊗ mult))
      (vector2.new (x0 ⊖ line.b ⊗ mult) (y0 ⊕ line.a ⊗ mult)) eps) _ _
      (λ e. touched t) (λ e. twice ts.least ts.most)

  meets-small : (line : Line) (radius h k : Float) → SmallLine line → Small 60 radius → Small 60 h → Small 60 k
      → Bounded (kernel.line_meets p0 p1 line radius h k eps)
  unfolding kernel.line_meets
  meets-small line radius h k L R H K =
      let a = line.a in
      let b = line.b in
      let c = line.c in
      let a2_b2 = a ⊗ a ⊕ b ⊗ b in
      let inv = f1 ⊘ a2_b2 in
      let wide = plus (times L.at_a L.at_a tt) (times L.at_b L.at_b tt) 96 tt in
      let one-by = over one-small (sizable-above 0 97 f1 a2_b2 one-is L.long wide) tt in
      let X = plus (times (times (neg_small 48 a L.at_a) L.at_c tt) one-by tt) H 158 tt in
      let Y = wider (plus (times (times (neg_small 0 b L.at_b) L.at_c tt) one-by tt) K 110 tt) 159 tt in
      let t = wider (parameter-small p0 p1 eps A B E far 159 _ eps (point-of X Y) tt tt) 600 tt in
      let d = radius ⊗ radius ⊖ c ⊗ c ⊗ inv in
      let D = times (minus (times R R tt) (times (times L.at_c L.at_c tt) one-by tt) 220 tt) one-by tt in
      let M = root-small 111 (F64.abs (d ⊗ inv)) (abs-fits (d ⊗ inv) (mul-fits binary64 d inv)) (abs-least 221 (d ⊗ inv) D)
      (wider (abs-small 221 (d ⊗ inv) D) 222 tt) in
      let shortest_dist = F64.abs c ⊘ F64.sqrt a2_b2 in
      by-test Bounded (shortest_dist ≻ radius ⊕ eps) _ _ (λ e. nothing)
      (λ e.
      by-test Bounded (shortest_dist ≽ radius) _ _ (λ e. touched t)
      (λ e. two-small line (neg a ⊗ c ⊗ inv ⊕ h) (neg b ⊗ c ⊗ inv ⊕ k) (F64.sqrt (F64.abs (d ⊗ inv))) L X Y M))

point-circle : (p0 p1 : Vector2) (radius : Float) (center : Vector2) (eps : Float)
    → Bounded (kernel.point_circle p0 p1 radius center eps)
unfolding kernel.point_circle
point-circle p0 p1 radius center eps =
    let xh = (p0.x ⊕ p1.x) ⊘ f2 ⊖ center.x in
    let yk = (p0.y ⊕ p1.y) ⊘ f2 ⊖ center.y in
    by-test Bounded (fuzzy.fuzzy_eq_eps (F64.sqrt (xh ⊗ xh ⊕ yk ⊗ yk)) radius eps) _ _ (λ e. touched (wider zero-small 600 tt))
    (λ e. nothing)

-- ---- the kernel, on circles that may be larger than its own limits
pub line-circle-small : (p0 p1 : Vector2) (radius : Float) (center : Vector2) (eps : Float) → SmallPoint 20 p0 → SmallPoint 20 p1
    → Small 60 radius → SmallPoint 60 center → Epsilon eps
    → Bounded (kernel.line_circle p0 p1 radius center eps)
unfolding kernel.line_circle
line-circle-small p0 p1 radius center eps A B R C E =
    by-test Bounded (vector2.fuzzy_eq_eps p0 p1 eps) _ _ (λ e. at-point) on_line
  where
    at-point : Bounded (kernel.point_circle p0 p1 radius center eps)
    at-point = point-circle p0 p1 radius center eps

    on_line : vector2.fuzzy_eq_eps p0 p1 eps ≡ false
        → Bounded (kernel.line_meets p0 p1
        (kernel.line_through (p1.x ⊖ p0.x) (p1.y ⊖ p0.y) (vector2.sub p0 center) (vector2.sub p1 center))
        radius center.x center.y eps)
    on_line far =
        meets-small p0 p1 eps A B E far _ radius center.x center.y
        (line_small (p1.x ⊖ p0.x) (p1.y ⊖ p0.y) (vector2.sub p0 center) (vector2.sub p1 center)
        (minus B.at_x A.at_x 20 tt) (minus B.at_y A.at_y 20 tt) (sub-point A C 60 tt) (sub-point B C 60 tt))
        R C.at_x C.at_y
