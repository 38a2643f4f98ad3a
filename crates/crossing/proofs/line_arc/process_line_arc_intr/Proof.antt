-- `crossing::line_arc::process_line_arc_intr` meets its contract: each return is a branch of the definition, by the calls and
-- tests before it.
use mathlib.Core.Path.{◌≡◌}
use borrow.Author.Rules.{rules}
use Rattle.arcs.specs.ArcGeometry.{of_segment}
use Rattle.plane.specs.PlineVertex.{pos}
use Rattle.crossing.specs.LineArc.{process_line_arc_intr, line_arc_of}
use Rattle.crossing.proofs.line_arc.process_line_arc_intr.Statement.{statement}
use Rattle.crossing.proofs.line_arc.process_line_arc_intr.Tie as tie

-- the definition, by what the line and the circle have in common
met : (c : tie.After-line_circle-intr_result) →
    let a = c.args in
    process_line_arc_intr a.p0 a.p1 a.a1 a.a2 a.u_is_line a.pos_equal_eps
    ≡ line_arc_of c.line_circle-intr_result.result a.p0 a.p1 (pos a.a1) (of_segment a.a1 a.a2 a.arc a.pos_equal_eps)
    a.u_is_line a.pos_equal_eps
unfolding process_line_arc_intr
met c = simp (← c.requires, ← c.line_circle-intr_result.ensures)

pub process_line_arc_intr_spec : {M : Type 1} → statement M
process_line_arc_intr_spec =
    tie.close
    (tie.spec
    (search rules) (λ c. search rules) (λ c. search rules) (search rules) (search rules)
    (λ c. search rules) (search rules) (search rules) (search rules) (search rules) (search rules)
    (λ c. simp (met c.before, c.in-NoIntersect.is))
    (λ c. simp (met c.before.before.before, c.in-TangentIntersect.is, ← c.of_segment-arc_geometry.ensures, ← c.tangent_line_arc.ensures))
    (λ c. simp (
      met c.before.before.before.before.before.before,
      c.in-TwoIntersects.is,
      ← c.of_segment-arc_geometry-in-TwoIntersects.ensures,
      ← c.point_in_sweep-t0_point.ensures,
      ← c.point_in_sweep-t1_point.ensures,
      ← c.pos.ensures,
      ← c.crossings_line_arc.ensures,
    )))
