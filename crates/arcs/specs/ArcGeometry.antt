-- An arc for the rules of sticky ends: `ArcGeometry` of pline_seg_intersect.rs, line for line. Read the two side by side.
use Rattle.std.specs.Prelude.{Bool, ◌&&◌, ◌||◌, Float}
use Rattle.floats.specs.Ops.{◌⊕◌, ◌⊖◌, ◌⊗◌, ◌≺◌, ◌≻◌, f0}
use Rattle.plane.specs.BaseMath.{dist_squared}
use Rattle.plane.specs.PlineVertex.{pos, bulge_is_neg}
use Rattle.plane.specs.declared.vector2.Vector2.{Vector2}
use Rattle.plane.specs.declared.pline_vertex.PlineVertex.{PlineVertex}
use Rattle.plane.specs.declared.pline_seg.ArcRadiusCenter.{ArcRadiusCenter}
use Rattle.arcs.specs.declared.arc_geometry.ArcGeometry.{ArcGeometry}
use Rattle.arcs.specs.declared.sweep_finding.SweepFinding.{SweepFinding}
use Rattle.arcs.specs.ArcSweep as sweep

-- lines 93-109
unfoldable pub new : Vector2 → Vector2 → Vector2 → Bool → Float → Float → ArcGeometry
new center start end is_clockwise radius epsilon =
    let radius_lower_bound = radius ⊖ epsilon in
    let radius_upper_bound = radius ⊕ epsilon in
    record {
      sweep = sweep.new center start end is_clockwise epsilon;
      radius_lower_bound = radius_lower_bound;
      radius_lower_bound_squared = radius_lower_bound ⊗ radius_lower_bound;
      radius_upper_bound_squared = radius_upper_bound ⊗ radius_upper_bound;
    }

-- lines 231-238, 366-381 and 400-415: how `new` is called for a segment
unfoldable pub of_segment : PlineVertex → PlineVertex → ArcRadiusCenter → Float → ArcGeometry
of_segment v1 v2 circle epsilon = new circle.center (pos v1) (pos v2) (bulge_is_neg v1) circle.radius epsilon

-- lines 112-114
unfoldable pub sweeps : ArcGeometry → Vector2 → Bool
sweeps self point = sweep.contains self.sweep point

-- request 7: the same with the rule that says yes
unfoldable pub finding : ArcGeometry → Vector2 → SweepFinding
finding self point = sweep.finding self.sweep point

-- lines 117-123
unfoldable pub point_lies_on_arc : ArcGeometry → Vector2 → Bool
point_lies_on_arc self point =
    let distance_squared = dist_squared point self.sweep.center in
    (distance_squared ≺ self.radius_upper_bound_squared)
    && ((self.radius_lower_bound ≺ f0) || (distance_squared ≻ self.radius_lower_bound_squared))
    && sweeps self point
