-- The pair: sentences 1 and 2 of its answer, from where its points come from and how large they are.
use Rattle.checks.specs.declared.fault.Fault.{Fault}
use Rattle.checks.specs.Checked.{Checked}
use Rattle.std.specs.Prelude.{◌≡◌, refl, [], ◌∷◌, Float, Err, Ok, Result}
use Rattle.std.proofs.Common.{sym, arith, inl, inr}
use Rattle.std.proofs.Math.Path.{subst}
use Rattle.plane.specs.PlineVertex.{pos}
use Rattle.plane.specs.declared.vector2.Vector2.{Vector2}
use Rattle.plane.specs.declared.pline_vertex.PlineVertex.{PlineVertex}
use Rattle.checks.specs.Answered.{answered}
use Rattle.checks.specs.Calls.{check_pline_seg}
use Rattle.checks.specs.Laws.Chains.{PointFine, VertexFine}
use Rattle.arcs.specs.declared.pline_seg_intr.PlineSegIntr.{PlineSegIntr}
use Rattle.arcs.specs.declared.pline_seg_intr.PlineSegIntr.TheVariants.{
  NoIntersect,
  TangentIntersect,
  OneIntersect,
  TwoIntersects,
  OverlappingLines,
  OverlappingArcs,
}
use Rattle.crossing.specs.PlineSeg.{pline_seg}
use Rattle.crossing.specs.PlineSegIntr.{class_of, absent, point1_of, point2_of}
use Rattle.crossing.specs.PlineSegIntersect.{pline_seg_intr}
use Rattle.told.specs.Stands.{IsEnd}
use Rattle.finite.specs.Doubles.{Epsilon, zero-small}
use Rattle.finite.specs.Vectors.{point-small, point-wider}
use Rattle.finite.specs.Points.{Made}
use Rattle.finite.specs.Points as points
use Rattle.finite.specs.Pair.{Bound, pair_made}
use Rattle.release.specs.Words.{Finite, All}
use Rattle.release.specs.Release.{Good}
use Rattle.release.specs.Laws.Accepted.{pair-fine}
use Rattle.release.specs.Laws.Kernels.{bounded}

record FinitePoint (p : Vector2) : Type 0 where
  pub at_x : Finite p.x
  pub at_y : Finite p.y

bound-finite : (p : Vector2) → Bound p → FinitePoint p
bound-finite p b = record { at_x = bounded b.at_x; at_y = bounded b.at_y }

absent-finite : FinitePoint absent
absent-finite = record { at_x = bounded zero-small; at_y = bounded zero-small }

-- the numbers of two points
both : {p q : Vector2} → FinitePoint p → FinitePoint q → All Finite (p.x ∷ p.y ∷ q.x ∷ q.y ∷ [])
both a b = (a.at_x, (a.at_y, (b.at_x, (b.at_y, tt))))

-- ---- from where the points come from; every end is bounded
pub made-good : (End : Vector2 → Type 0) (met : PlineSegIntr) → ((p : Vector2) → End p → Bound p) → Made Bound End met
    → Good End (class_of met) (point1_of met) (point2_of met)
made-good End NoIntersect ends points.nothing =
    record { finite = both absent-finite absent-finite; copies = λ e. absurd (omega (arith, e)) }
made-good End (TangentIntersect p) ends (points.touched a) =
    record { finite = both (bound-finite p a) absent-finite; copies = λ e. absurd (omega (arith, e)) }
made-good End (OneIntersect p) ends (points.one a) =
    record { finite = both (bound-finite p a) absent-finite; copies = λ e. absurd (omega (arith, e)) }
made-good End (TwoIntersects p q) ends (points.two a b) =
    record { finite = both (bound-finite p a) (bound-finite q b); copies = λ e. absurd (omega (arith, e)) }
made-good End (OverlappingLines p q) ends (points.lines a b) =
    record { finite = both (bound-finite p a) (bound-finite q b); copies = λ e. absurd (omega (arith, e)) }
made-good End (OverlappingArcs p q) ends (points.arcs a b) =
    record { finite = both (bound-finite p (ends p a)) (bound-finite q (ends q b)); copies = λ e. (a, b) }

-- ---- two accepted segments
module _ (v1 v2 u1 u2 : PlineVertex) (eps : Float)
    (a : VertexFine v1.x v1.y v1.bulge) (b : PointFine v2.x v2.y)
    (c : VertexFine u1.x u1.y u1.bulge) (d : PointFine u2.x u2.y) (E : Epsilon eps) where
  end-bound : (p : Vector2) → IsEnd v1 v2 u1 u2 p → Bound p
  unfolding pos
  end-bound p (inl e) = subst Bound (sym e) (point-wider (point-small (pos v1) a.point) 622 tt)
  end-bound p (inr (inl e)) = subst Bound (sym e) (point-wider (point-small (pos v2) b) 622 tt)
  end-bound p (inr (inr (inl e))) = subst Bound (sym e) (point-wider (point-small (pos u1) c.point) 622 tt)
  end-bound p (inr (inr (inr e))) = subst Bound (sym e) (point-wider (point-small (pos u2) d) 622 tt)

  pub pair-good : let met = pline_seg v1 v2 u1 u2 eps in Good (IsEnd v1 v2 u1 u2) (class_of met) (point1_of met) (point2_of met)
  pair-good = made-good (IsEnd v1 v2 u1 u2) (pline_seg v1 v2 u1 u2 eps) end-bound (pair_made v1 v2 u1 u2 eps a b c d E)

-- ---- the pair call
abbrev GoodMet : PlineVertex → PlineVertex → PlineVertex → PlineVertex → PlineSegIntr → Type 0
GoodMet v1 v2 u1 u2 met = Good (IsEnd v1 v2 u1 u2) (class_of met) (point1_of met) (point2_of met)

abbrev Answer : PlineVertex → PlineVertex → PlineVertex → PlineVertex → Result PlineSegIntr Fault → Type 0
Answer v1 v2 u1 u2 (Err fault) = Unit {0}
Answer v1 v2 u1 u2 (Ok met) = GoodMet v1 v2 u1 u2 met

pub call-good : (v1 v2 u1 u2 : PlineVertex) (eps : Float) → Answer v1 v2 u1 u2 (pline_seg_intr v1 v2 u1 u2 eps)
unfolding pline_seg_intr
call-good v1 v2 u1 u2 eps = go (check_pline_seg v1 v2 u1 u2 eps) refl
  where
    go : (c : Checked) → check_pline_seg v1 v2 u1 u2 eps ≡ c
        → Answer v1 v2 u1 u2 (answered Err Ok c (pline_seg v1 v2 u1 u2 eps))
    go (Err fault) e = tt
    go (Ok _) e =
        let f = pair-fine v1 v2 u1 u2 eps e in
        pair-good v1 v2 u1 u2 eps f.at-v1 f.at-v2 f.at-u1 f.at-u2 f.epsilon

pub answer-good : (v1 v2 u1 u2 : PlineVertex) (eps : Float) (met : PlineSegIntr) → pline_seg_intr v1 v2 u1 u2 eps ≡ Ok met
    → GoodMet v1 v2 u1 u2 met
answer-good v1 v2 u1 u2 eps met e = subst (Answer v1 v2 u1 u2) e (call-good v1 v2 u1 u2 eps)
