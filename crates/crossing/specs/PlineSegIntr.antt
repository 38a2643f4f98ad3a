-- An answer of the pair call in the scope's numbers: its class, and the points that it has.
use Rattle.std.specs.Prelude.{ℕ}
use Rattle.floats.specs.Ops.{f0}
use Rattle.plane.specs.declared.vector2.Vector2.{Vector2}
use Rattle.arcs.specs.declared.pline_seg_intr.PlineSegIntr.{PlineSegIntr}
use Rattle.arcs.specs.declared.pline_seg_intr.PlineSegIntr.TheVariants.{
  NoIntersect,
  TangentIntersect,
  OneIntersect,
  TwoIntersects,
  OverlappingLines,
  OverlappingArcs,
}

-- the class's number
abbrev pub class_of : PlineSegIntr → ℕ
class_of NoIntersect = 0
class_of (TangentIntersect point) = 1
class_of (OneIntersect point) = 2
class_of (TwoIntersects point1 point2) = 3
class_of (OverlappingLines point1 point2) = 4
class_of (OverlappingArcs point1 point2) = 5

-- stands for a point that the class lacks: +0, +0
abbrev pub absent : Vector2
absent = record { x = f0; y = f0 }

-- the first point
abbrev pub point1_of : PlineSegIntr → Vector2
point1_of NoIntersect = absent
point1_of (TangentIntersect point) = point
point1_of (OneIntersect point) = point
point1_of (TwoIntersects point1 point2) = point1
point1_of (OverlappingLines point1 point2) = point1
point1_of (OverlappingArcs point1 point2) = point1

-- the second point
abbrev pub point2_of : PlineSegIntr → Vector2
point2_of NoIntersect = absent
point2_of (TangentIntersect point) = absent
point2_of (OneIntersect point) = absent
point2_of (TwoIntersects point1 point2) = point2
point2_of (OverlappingLines point1 point2) = point2
point2_of (OverlappingArcs point1 point2) = point2
