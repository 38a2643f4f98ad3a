-- What the function of src/pline_seg.rt answers: pline_seg.rs, line for line.
use Rattle.floats.specs.Ops.{◌⊕◌, ◌⊖◌, ◌⊗◌, ◌⊘◌, f1, f2, f4}
use Rattle.floats.specs.F64
use Rattle.plane.specs.Vector2 as vector2
use Rattle.plane.specs.PlineVertex.{pos}
use Rattle.plane.specs.declared.pline_vertex.PlineVertex.{PlineVertex}
use Rattle.plane.specs.declared.pline_seg.ArcRadiusCenter.{ArcRadiusCenter}

-- pline_seg.rs 27-46
unfoldable pub seg_arc_radius_and_center : PlineVertex → PlineVertex → ArcRadiusCenter
seg_arc_radius_and_center v1 v2 =
    let bulge = v1.bulge in
    let bulge_squared = bulge ⊗ bulge in
    let chord = vector2.sub (pos v2) (pos v1) in
    let inv_four_bulge = f1 ⊘ (f4 ⊗ bulge) in
    let radius = vector2.length chord ⊗ (f1 ⊕ bulge_squared) ⊗ F64.abs inv_four_bulge in
    let middle = vector2.add (pos v1) (vector2.scale chord (f1 ⊘ f2)) in
    let center = vector2.add middle (vector2.scale (vector2.perp chord) ((f1 ⊖ bulge) ⊗ (f1 ⊕ bulge) ⊗ inv_four_bulge)) in
    record { radius = radius; center = center }
