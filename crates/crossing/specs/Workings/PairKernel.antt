-- What a pair's kernel found, and the pair's answer from it: the answer is `pline_seg`'s, with the kernel asked once.
use Rattle.std.specs.Prelude.{◌≡◌, refl, Bool, cond, Float}
use Rattle.std.proofs.Common.{sym, ap, ◌∙◌}
use Rattle.std.proofs.Math.Bool.{true, false}
use Rattle.std.proofs.lemmas.Bool.{false≢true}
use Rattle.plane.specs.PlineVertex.{pos, bulge_is_zero}
use Rattle.plane.specs.declared.pline_seg.ArcRadiusCenter.{ArcRadiusCenter}
use Rattle.plane.specs.declared.pline_vertex.PlineVertex.{PlineVertex}
use Rattle.arcs.specs.ArcGeometry.{of_segment}
use Rattle.arcs.specs.Workings.Circles.{OfArc}
use Rattle.arcs.specs.declared.pline_seg_intr.PlineSegIntr.{PlineSegIntr}
use Rattle.crossing.specs.ArcArc.{arc_arc, arc_arc_of}
use Rattle.crossing.specs.CircleCircle.{circle_circle}
use Rattle.crossing.specs.LineArc.{process_line_arc_intr, line_arc_of}
use Rattle.crossing.specs.LineCircle.{line_circle}
use Rattle.crossing.specs.PlineSeg.{process_line_line_intr, pline_seg}
use Rattle.crossing.specs.declared.circle_circle_intr.CircleCircleIntr.{CircleCircleIntr}
use Rattle.crossing.specs.declared.line_circle_intr.LineCircleIntr.{LineCircleIntr}
use Rattle.crossing.specs.declared.pair_kernel.PairKernel.{PairKernel}
use Rattle.crossing.specs.declared.pair_kernel.PairKernel.TheVariants.{TwoLines, LineAndArc, ArcAndLine, TwoArcs}

unfoldable pub pair_kernel :
    PlineVertex → PlineVertex → ArcRadiusCenter → PlineVertex → PlineVertex → ArcRadiusCenter → Float → PairKernel
pair_kernel v1 v2 circle1 u1 u2 circle2 eps =
    cond (bulge_is_zero v1)
    (cond (bulge_is_zero u1)
    TwoLines
    (LineAndArc (line_circle (pos v1) (pos v2) circle2.radius circle2.center eps)))
    (cond (bulge_is_zero u1)
    (ArcAndLine (line_circle (pos u1) (pos u2) circle1.radius circle1.center eps))
    (TwoArcs (circle_circle circle1.radius circle1.center circle2.radius circle2.center eps)))

-- a pair's answer, from what its kernel found
abbrev pub of_kernel :
    PairKernel → PlineVertex → PlineVertex → ArcRadiusCenter → PlineVertex → PlineVertex → ArcRadiusCenter → Float → PlineSegIntr
of_kernel TwoLines v1 v2 circle1 u1 u2 circle2 eps = process_line_line_intr (pos v1) (pos v2) (pos u1) (pos u2) eps
of_kernel (LineAndArc found) v1 v2 circle1 u1 u2 circle2 eps =
    line_arc_of found (pos v1) (pos v2) (pos u1) (of_segment u1 u2 circle2 eps) false eps
of_kernel (ArcAndLine found) v1 v2 circle1 u1 u2 circle2 eps =
    line_arc_of found (pos u1) (pos u2) (pos v1) (of_segment v1 v2 circle1 eps) true eps
of_kernel (TwoArcs found) v1 v2 circle1 u1 u2 circle2 eps = arc_arc_of found v1 v2 u1 u2 circle1 circle2 eps

module _ (v1 v2 : PlineVertex) (circle1 : ArcRadiusCenter) (u1 u2 : PlineVertex) (circle2 : ArcRadiusCenter) (eps : Float) where
  by_kind : (v_line u_line : Bool) → v_line ≡ bulge_is_zero v1 → u_line ≡ bulge_is_zero u1 → OfArc v1 v2 circle1 → OfArc u1 u2 circle2
      → of_kernel (pair_kernel v1 v2 circle1 u1 u2 circle2 eps) v1 v2 circle1 u1 u2 circle2 eps ≡ pline_seg v1 v2 u1 u2 eps
  unfolding pair_kernel pline_seg process_line_arc_intr arc_arc
  by_kind true true ev eu of_v of_u = simp (← ev, ← eu)
  by_kind true false ev eu of_v of_u = simp (← ev, ← eu, of_u (sym eu))
  by_kind false true ev eu of_v of_u = simp (← ev, ← eu, of_v (sym ev))
  by_kind false false ev eu of_v of_u = simp (← ev, ← eu, of_v (sym ev), of_u (sym eu))

  pub of-kernel : OfArc v1 v2 circle1 → OfArc u1 u2 circle2
      → of_kernel (pair_kernel v1 v2 circle1 u1 u2 circle2 eps) v1 v2 circle1 u1 u2 circle2 eps ≡ pline_seg v1 v2 u1 u2 eps
  of-kernel = by_kind (bulge_is_zero v1) (bulge_is_zero u1) refl refl

-- so an answer from what the kernel found is the pair's
pub by-kernel : (v1 v2 : PlineVertex) (circle1 : ArcRadiusCenter) (u1 u2 : PlineVertex) (circle2 : ArcRadiusCenter) (eps : Float)
    (kernel : PairKernel) (r : PlineSegIntr) → kernel ≡ pair_kernel v1 v2 circle1 u1 u2 circle2 eps → OfArc v1 v2 circle1
    → OfArc u1 u2 circle2 → r ≡ of_kernel kernel v1 v2 circle1 u1 u2 circle2 eps → r ≡ pline_seg v1 v2 u1 u2 eps
by-kernel v1 v2 circle1 u1 u2 circle2 eps kernel r is of_v of_u e =
    e ∙ ap (λ (k : PairKernel). of_kernel k v1 v2 circle1 u1 u2 circle2 eps) is ∙ of-kernel v1 v2 circle1 u1 u2 circle2 eps of_v of_u

abbrev is_two_lines : PairKernel → Bool
is_two_lines TwoLines = true
is_two_lines (LineAndArc found) = false
is_two_lines (ArcAndLine found) = false
is_two_lines (TwoArcs found) = false

-- of two lines both are lines
pub two-lines : (v1 v2 : PlineVertex) (circle1 : ArcRadiusCenter) (u1 u2 : PlineVertex) (circle2 : ArcRadiusCenter) (eps : Float)
    → pair_kernel v1 v2 circle1 u1 u2 circle2 eps ≡ TwoLines → (bulge_is_zero v1 ≡ true) × (bulge_is_zero u1 ≡ true)
unfolding pair_kernel
two-lines v1 v2 circle1 u1 u2 circle2 eps = go (bulge_is_zero v1) (bulge_is_zero u1) _ _ _
  where
    go : (a b : Bool) (l m : LineCircleIntr) (n : CircleCircleIntr)
        → cond a (cond b TwoLines (LineAndArc l)) (cond b (ArcAndLine m) (TwoArcs n)) ≡ TwoLines → (a ≡ true) × (b ≡ true)
    go true true l m n e = (refl, refl)
    go true false l m n e = absurd (false≢true (ap is_two_lines e))
    go false true l m n e = absurd (false≢true (ap is_two_lines e))
    go false false l m n e = absurd (false≢true (ap is_two_lines e))
