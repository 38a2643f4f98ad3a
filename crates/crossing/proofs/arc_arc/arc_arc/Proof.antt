-- `crossing::arc_arc::arc_arc` meets its contract: each return is a branch of the definition, by what the circles have in common
-- and the calls on its way.
use mathlib.Core.Path.{◌≡◌}
use borrow.Author.Rules.{rules}
use lib.Ieee.{Float}
use Rattle.plane.specs.PlineVertex.{pos}
use Rattle.plane.specs.declared.vector2.Vector2.{Vector2}
use Rattle.plane.specs.declared.pline_vertex.PlineVertex.{PlineVertex}
use Rattle.plane.specs.declared.pline_seg.ArcRadiusCenter.{ArcRadiusCenter}
use Rattle.arcs.specs.ArcGeometry.{of_segment}
use Rattle.arcs.specs.TwoArcs.{tangent_arc_arc, crossing_arcs}
use Rattle.arcs.specs.declared.arc_geometry.ArcGeometry.{ArcGeometry}
use Rattle.crossing.specs.ArcArc.{arc_arc, arc_arc_of}
use Rattle.crossing.proofs.arc_arc.arc_arc.Statement.{statement}
use Rattle.crossing.proofs.arc_arc.arc_arc.Tie as tie

-- the definition, by what the circles have in common
met : (c : tie.After-circle_circle-intr_result) →
    let a = c.args in
    arc_arc a.v1 a.v2 a.u1 a.u2 a.pos_equal_eps
    ≡ arc_arc_of c.circle_circle-intr_result.result a.v1 a.v2 a.u1 a.u2 a.circle1 a.circle2 a.pos_equal_eps
unfolding arc_arc
met c = simp (← c.requires.0, ← c.requires.1, ← c.circle_circle-intr_result.ensures)

-- what a function of both arcs and their ends answered, by the vertices
of-both : {A : Type 0} (f : Vector2 → Vector2 → Vector2 → Vector2 → ArcGeometry → ArcGeometry → A)
    (v1 v2 u1 u2 : PlineVertex) (c1 c2 : ArcRadiusCenter) (eps : Float) (a b : ArcGeometry) (p1 p2 q1 q2 : Vector2) (r : A)
    → a ≡ of_segment v1 v2 c1 eps → b ≡ of_segment u1 u2 c2 eps → p1 ≡ pos v1 → p2 ≡ pos v2 → q1 ≡ pos u1 → q2 ≡ pos u2
    → r ≡ f p1 p2 q1 q2 a b
    → r ≡ f (pos v1) (pos v2) (pos u1) (pos u2) (of_segment v1 v2 c1 eps) (of_segment u1 u2 c2 eps)
of-both f v1 v2 u1 u2 c1 c2 eps a b p1 p2 q1 q2 r ea eb e1 e2 e3 e4 is = rw (← ea, ← eb, ← e1, ← e2, ← e3, ← e4) is

pub arc_arc_spec : {M : Type 1} → statement M
arc_arc_spec =
    tie.close
    (tie.spec
    (λ c. search rules) (λ c. search rules) (λ c. search rules)
    (λ c. search rules) (λ c. search rules) (λ c. search rules) (λ c. search rules) (λ c. search rules) (λ c. search rules)
    (λ c. search rules) (λ c. search rules)
    (λ c. search rules) (λ c. search rules) (λ c. search rules) (λ c. search rules) (λ c. search rules) (λ c. search rules)
    (λ c. search rules) (λ c. search rules) (λ c. search rules)
    (λ c. simp (met c.before, c.in-NoIntersect.is))
    (λ c. rw (met c.before.before.before.before.before.before.before.before, c.in-TangentIntersect.is) (search (of-both (tangent_arc_arc c.in-TangentIntersect.point))))
    (λ c. rw (met c.before.before.before.before.before.before.before.before, c.in-TwoIntersects.is)
    (search (of-both (λ p1 p2 q1 q2 a b. crossing_arcs p1 p2 q1 q2 c.in-TwoIntersects.point1 c.in-TwoIntersects.point2
    a b
    c.args.pos_equal_eps))))
    (λ c. simp (met c.before.before, c.in-Overlapping.is, ← c.overlapping_arc_arc.ensures)))
