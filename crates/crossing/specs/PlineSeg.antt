-- Two segments of polylines: `pline_seg_intr` of pline_seg_intersect.rs, line for line. Read the two side by side.
use Rattle.std.specs.Prelude.{cond, ◌&&◌, Float}
use Rattle.plane.specs.BaseMath.{point_from_parametric}
use Rattle.plane.specs.PlineVertex.{pos, bulge_is_zero}
use Rattle.plane.specs.declared.vector2.Vector2.{Vector2}
use Rattle.plane.specs.declared.pline_vertex.PlineVertex.{PlineVertex}
use Rattle.crossing.specs.ArcArc.{arc_arc}
use Rattle.crossing.specs.LineArc.{process_line_arc_intr}
use Rattle.crossing.specs.LineLine.{line_line}
use Rattle.crossing.specs.declared.line_line_intr.LineLineIntr.{LineLineIntr}
use Rattle.crossing.specs.declared.line_line_intr.LineLineIntr.TheVariants as lines
use Rattle.arcs.specs.declared.pline_seg_intr.PlineSegIntr.{PlineSegIntr}
use Rattle.arcs.specs.declared.pline_seg_intr.PlineSegIntr.TheVariants.{
  NoIntersect,
  OneIntersect,
  OverlappingLines,
}

-- lines 190-205, from the kernel's answer
abbrev pub line_line_of : LineLineIntr → Vector2 → Vector2 → Vector2 → Vector2 → PlineSegIntr
line_line_of lines.NoIntersect v1 v2 u1 u2 = NoIntersect
line_line_of (lines.FalseIntersect seg1_t seg2_t) v1 v2 u1 u2 = NoIntersect
line_line_of (lines.TrueIntersect seg1_t seg2_t) v1 v2 u1 u2 = OneIntersect (point_from_parametric v1 v2 seg1_t)
line_line_of (lines.Overlapping seg2_t0 seg2_t1) v1 v2 u1 u2 =
    OverlappingLines (point_from_parametric u1 u2 seg2_t0) (point_from_parametric u1 u2 seg2_t1)

-- lines 189-205
unfoldable pub process_line_line_intr : Vector2 → Vector2 → Vector2 → Vector2 → Float → PlineSegIntr
process_line_line_intr v1 v2 u1 u2 pos_equal_eps = line_line_of (line_line v1 v2 u1 u2 pos_equal_eps) v1 v2 u1 u2

-- lines 185-643
unfoldable pub pline_seg : PlineVertex → PlineVertex → PlineVertex → PlineVertex → Float → PlineSegIntr
pline_seg v1 v2 u1 u2 pos_equal_eps =
    let v_is_line = bulge_is_zero v1 in
    let u_is_line = bulge_is_zero u1 in
    cond (v_is_line && u_is_line)
    (process_line_line_intr (pos v1) (pos v2) (pos u1) (pos u2) pos_equal_eps)
    (cond v_is_line
    (process_line_arc_intr (pos v1) (pos v2) u1 u2 u_is_line pos_equal_eps)
    (cond u_is_line
    (process_line_arc_intr (pos u1) (pos u2) v1 v2 u_is_line pos_equal_eps)
    (arc_arc v1 v2 u1 u2 pos_equal_eps)))
