-- The class and the points identify an answer of the pair call: the answer can be built again from them.
use Rattle.std.specs.Prelude.{ℕ, ◌≡◌, refl, cond, eqb}
use Rattle.plane.specs.declared.vector2.Vector2.{Vector2}
use Rattle.arcs.specs.declared.pline_seg_intr.PlineSegIntr.{PlineSegIntr}
use Rattle.arcs.specs.declared.pline_seg_intr.PlineSegIntr.TheVariants.{
  NoIntersect,
  TangentIntersect,
  OneIntersect,
  TwoIntersects,
  OverlappingLines,
  OverlappingArcs,
}
use Rattle.crossing.specs.PlineSegIntr.{class_of, point1_of, point2_of}

-- the answer of a class with two points
pub answer : ℕ → Vector2 → Vector2 → PlineSegIntr
answer n point1 point2 =
    cond (eqb n 0) NoIntersect
    (cond (eqb n 1) (TangentIntersect point1)
    (cond (eqb n 2) (OneIntersect point1)
    (cond (eqb n 3) (TwoIntersects point1 point2)
    (cond (eqb n 4) (OverlappingLines point1 point2)
    (OverlappingArcs point1 point2)))))

pub again : (r : PlineSegIntr) → r ≡ answer (class_of r) (point1_of r) (point2_of r)
unfolding answer
again NoIntersect = refl
again (TangentIntersect point) = refl
again (OneIntersect point) = refl
again (TwoIntersects point1 point2) = refl
again (OverlappingLines point1 point2) = refl
again (OverlappingArcs point1 point2) = refl
