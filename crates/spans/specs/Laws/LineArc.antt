-- A line segment that misses an arc, by spans: the definition finds that the two do not meet.
use Rattle.std.specs.Prelude.{◌≡◌, Bool, not, cond, ◌||◌, Float}
use Rattle.std.proofs.Math.Path.{refl, ap}
use Rattle.std.proofs.Common.{sym, ◌∙◌, subst}
use Rattle.std.proofs.Math.Bool.{true, false}
use denote.Floats.{passes}
use Rattle.std.proofs.Math.Dec.{T}
use Rattle.std.specs.Float.Ieee.{neg, binary64, fits}
use Rattle.std.specs.Float.Ieee.Fits.{add-fits, sub-fits, mul-fits}
use Rattle.floats.specs.Ops.{◌⊕◌, ◌⊖◌, ◌⊗◌, ◌⊘◌, f1}
use Rattle.floats.specs.F64
use Rattle.floats.specs.Laws.Leaves.{abs-fits}
use Rattle.plane.specs.Fuzzy.{fuzzy_eq_zero}
use Rattle.plane.specs.PlineSeg.{seg_arc_radius_and_center}
use Rattle.plane.specs.PlineVertex.{pos}
use Rattle.plane.specs.Vector2 as vector2
use Rattle.plane.specs.declared.vector2.Vector2.{Vector2}
use Rattle.plane.specs.declared.pline_vertex.PlineVertex.{PlineVertex}
use Rattle.plane.specs.declared.pline_seg.ArcRadiusCenter.{ArcRadiusCenter}
use Rattle.ranges.specs.Workings.OnSegment.{usual}
use Rattle.arcs.specs.ArcGeometry.{of_segment}
use Rattle.arcs.specs.declared.pline_seg_intr.PlineSegIntr.TheVariants.{NoIntersect}
use Rattle.crossing.specs.LineArc.{process_line_arc_intr, line_arc_of}
use Rattle.crossing.specs.LineCircle.{line_circle, line_through, two_points}
use Rattle.crossing.specs.declared.line_circle.Line.{Line}
use Rattle.crossing.specs.declared.line_circle_intr.LineCircleIntr.{LineCircleIntr}
use Rattle.crossing.specs.Workings.ThroughLine.{line_crosses, through-line, line-through}
use Rattle.spans.specs.declared.span.Span.{Span}
use Rattle.spans.specs.declared.line_arc.Foot.{Foot}
use Rattle.spans.specs.Workings.Root.{holds_root}
use Rattle.spans.specs.Workings.Line.{points_miss}
use Rattle.spans.specs.Workings.LineArc.{lower, below, above, foot_on, goes_through, around, misses_by, circle_at, SlopeOf, ByGuess, Misses}
use Rattle.spans.specs.Laws.Root.{held, in-root, alone}
use Rattle.spans.specs.Laws.Line.{points-missed}

module _ (p0 p1 : Vector2) (root guess : Float) (a1 a2 : PlineVertex) (eps : Float) (e-fits : T (fits binary64 eps)) where
  abbrev circle : ArcRadiusCenter
  circle = seg_arc_radius_and_center a1 a2

  abbrev slope : Float
  slope = (p1.y ⊖ p0.y) ⊘ (p1.x ⊖ p0.x)

  abbrev foot : Foot
  foot = foot_on p1 slope circle

  abbrev radius : Float
  radius = circle.radius

  abbrev single : Span
  single = record { least = foot.square; most = foot.square }

  record Missing : Type 0 where
    slanted : fuzzy_eq_zero (p1.x ⊖ p0.x) ≡ false
    long : vector2.fuzzy_eq_eps p0 p1 eps ≡ false
    through : T (goes_through foot.c foot.q (root ⊗ lower) (radius ⊗ lower) radius (radius ⊕ eps))
    sizes : T (usual (vector2.length_squared (vector2.sub p1 p0)) eps)
    sized : T (holds_root single (around guess))
    missed : T (points_miss p0 p1 slope (neg f1) foot.x0 foot.y0 (around guess) (of_segment a1 a2 circle eps) eps)

  missing : T (misses_by p0 p1 slope root foot guess a1 a2 circle eps) → Missing
  unfolding misses_by
  missing h =
      go (fuzzy_eq_zero (p1.x ⊖ p0.x)) (vector2.fuzzy_eq_eps p0 p1 eps)
      (goes_through foot.c foot.q (root ⊗ lower) (radius ⊗ lower) radius (radius ⊕ eps))
      (usual (vector2.length_squared (vector2.sub p1 p0)) eps) (holds_root single (around guess))
      (points_miss p0 p1 slope (neg f1) foot.x0 foot.y0 (around guess) (of_segment a1 a2 circle eps) eps) h
      (λ a b c d e f. record { slanted = a; long = b; through = c; sizes = d; sized = e; missed = f })
    where
      go : (a b c d e f : Bool) {P : Type 0}
          → T (cond (a || b) false (cond (not c) false (cond (not d) false (cond (not e) false f))))
          → (a ≡ false → b ≡ false → T c → T d → T e → T f → P) → P
      go true b c d e f t k = absurd t
      go false true c d e f t k = absurd t
      go false false false d e f t k = absurd t
      go false false true false e f t k = absurd t
      go false false true true false f t k = absurd t
      go false false true true true f t k = k refl refl tt tt tt t

  abbrev line : Line
  line = record { a = slope; b = neg f1; c = foot.c }

  -- the kernel's answer
  circle-answer : Missing → line_circle p0 p1 radius circle.center eps
      ≡ two_points p0 p1 line foot.x0 foot.y0 (F64.sqrt foot.square) eps
  unfolding line_circle line_through foot_on line_crosses goes_through
  circle-answer m =
      let c = foot.c in
      let q = foot.q in
      rw (m.long, m.slanted)
      (sym (line-through p0 p1 line radius circle.center.x circle.center.y eps _
      (through-line c (F64.abs c) q (root ⊗ lower) (radius ⊗ lower) radius (radius ⊕ eps) (sub-fits binary64 _ _)
      (add-fits binary64 _ _) (mul-fits binary64 _ _) (mul-fits binary64 _ _) refl m.through) refl))

  square-fits : T (fits binary64 foot.square)
  unfolding foot_on
  square-fits = abs-fits _ (mul-fits binary64 _ _)

  pub line-missed : (u_is_line : Bool) → T (misses_by p0 p1 slope root foot guess a1 a2 circle eps)
      → process_line_arc_intr p0 p1 a1 a2 u_is_line eps ≡ NoIntersect
  unfolding process_line_arc_intr
  line-missed u_is_line h =
      let m = missing h in
      ap (λ (r : LineCircleIntr). line_arc_of r p0 p1 (pos a1) (of_segment a1 a2 circle eps) u_is_line eps) (circle-answer m)
      ∙ points-missed p0 p1 (of_segment a1 a2 circle eps) eps e-fits m.sizes line foot.x0 foot.y0
      (F64.sqrt foot.square) (around guess)
      (in-root foot.square single (around guess) square-fits (mul-fits binary64 guess below) (mul-fits binary64 guess above)
      (alone foot.square (held single (around guess) m.sized).q-least) m.sized)
      (pos a1) u_is_line m.missed

-- a yes is for lines that are not vertical
not-vertical : (p0 p1 : Vector2) (given root : Float) (at : Foot) (guess : Float) (a1 a2 : PlineVertex) (round : ArcRadiusCenter)
    (eps : Float) → T (misses_by p0 p1 given root at guess a1 a2 round eps) → fuzzy_eq_zero (p1.x ⊖ p0.x) ≡ false
unfolding misses_by
not-vertical p0 p1 given root at guess a1 a2 round eps t =
    go (fuzzy_eq_zero (p1.x ⊖ p0.x)) (vector2.fuzzy_eq_eps p0 p1 eps) _ t
  where
    go : (a b c : Bool) → T (cond (a || b) false c) → a ≡ false
    go true b c t = absurd t
    go false b c t = refl

-- the same for a slope and a circle that are given
line-missed-by : (r : Bool) (p0 p1 : Vector2) (given root : Float) (at : Foot) (guess : Float) (a1 a2 : PlineVertex)
    (round : ArcRadiusCenter) (eps : Float) → T (fits binary64 eps) → SlopeOf p0 p1 given → round ≡ seg_arc_radius_and_center a1 a2
    → at ≡ foot_on p1 given round → r ≡ misses_by p0 p1 given root at guess a1 a2 round eps
    → Misses r p0 p1 a1 a2 eps
line-missed-by r p0 p1 given root at guess a1 a2 round eps f s e g h y u_is_line =
    line-missed p0 p1 root guess a1 a2 eps f u_is_line (moved (s (slanted at round (passes _ (sym h ∙ y)))))
  where
    slanted : (at : Foot) (round : ArcRadiusCenter) → T (misses_by p0 p1 given root at guess a1 a2 round eps)
        → fuzzy_eq_zero (p1.x ⊖ p0.x) ≡ false
    slanted at round t = not-vertical p0 p1 given root at guess a1 a2 round eps t

    moved : given ≡ slope p0 p1 root guess a1 a2 eps f
        → T (misses_by p0 p1 (slope p0 p1 root guess a1 a2 eps f) root (foot p0 p1 root guess a1 a2 eps f) guess a1 a2
        (seg_arc_radius_and_center a1 a2) eps)
    moved i =
        passes _
        (ap (λ (z : Float). misses_by p0 p1 z root (foot_on p1 z (seg_arc_radius_and_center a1 a2)) guess a1 a2
        (seg_arc_radius_and_center a1 a2) eps) (sym i)
        ∙ ap (λ (c : ArcRadiusCenter). misses_by p0 p1 given root (foot_on p1 given c) guess a1 a2 c eps) (sym e)
        ∙ ap (λ (z : Foot). misses_by p0 p1 given root z guess a1 a2 round eps) (sym g)
        ∙ sym h ∙ y)

-- the same for points by their numbers
pub line-missed-at : (r : Bool) (p0 p1 q0 q1 : Vector2) (given root : Float) (at : Foot) (guess : Float) (a1 a2 : PlineVertex)
    (radius x y : Float) (center : Vector2) (eps : Float) → T (fits binary64 eps) → p0 ≡ q0 → p1 ≡ q1 → center ≡ vector2.new x y
    → SlopeOf q0 q1 given → circle_at radius x y ≡ seg_arc_radius_and_center a1 a2
    → at ≡ foot_on p1 given (record { radius = radius; center = center })
    → r ≡ misses_by p0 p1 given root at guess a1 a2 (record { radius = radius; center = center }) eps
    → Misses r q0 q1 a1 a2 eps
line-missed-at r p0 p1 q0 q1 given root at guess a1 a2 radius x y center eps f e0 e1 ec s e g h =
    subst (λ (z : Vector2). Misses r z q1 a1 a2 eps) e0
    (subst (λ (z : Vector2). Misses r p0 z a1 a2 eps) e1
    (line-missed-by r p0 p1 given root at guess a1 a2 (record { radius = radius; center = center }) eps f
    (subst (λ (z : Vector2). SlopeOf z p1 given) (sym e0) (subst (λ (z : Vector2). SlopeOf q0 z given) (sym e1) s))
    (round ∙ e) g h))
  where
    with-center : Vector2 → ArcRadiusCenter
    with-center c = record { radius = radius; center = c }

    round : ◌≡◌ {A = ArcRadiusCenter} (record { radius = radius; center = center }) (circle_at radius x y)
    round = ap with-center ec

pub by-guess : (r : Bool) (p0 p1 q0 q1 : Vector2) (given root : Float) (at : Foot) (guess : Float) (a1 a2 : PlineVertex)
    (radius x y : Float) (center : Vector2) (eps : Float) → p0 ≡ q0 → p1 ≡ q1 → center ≡ vector2.new x y
    → at ≡ foot_on p1 given (record { radius = radius; center = center })
    → r ≡ misses_by p0 p1 given root at guess a1 a2 (record { radius = radius; center = center }) eps
    → ByGuess r q0 q1 given root a1 a2 (circle_at radius x y) eps
by-guess r p0 p1 q0 q1 given root at guess a1 a2 radius x y center eps e0 e1 ec g h = record {
  guess = guess;
  is =
      h
      ∙ ap (λ (z : Foot). misses_by p0 p1 given root z guess a1 a2 (with-center center) eps) g
      ∙ ap (λ (z : Vector2). misses_by z p1 given root (foot_on p1 given (with-center center)) guess a1 a2 (with-center center) eps) e0
      ∙ ap (λ (z : Vector2). misses_by q0 z given root (foot_on z given (with-center center)) guess a1 a2 (with-center center) eps) e1
      ∙ ap (λ (z : Vector2). misses_by q0 q1 given root (foot_on q1 given (with-center z)) guess a1 a2 (with-center z) eps) ec;
}
  where
    with-center : Vector2 → ArcRadiusCenter
    with-center c = record { radius = radius; center = c }
