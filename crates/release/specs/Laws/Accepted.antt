-- What the checks of the calls say if they find no fault.
use Rattle.checks.specs.Checked.{Checked}
use Rattle.std.specs.Prelude.{◌≡◌, List, [], ◌∷◌, ◌++◌, Float, Ok}
use Rattle.std.proofs.Math.Logic.Iff
use Rattle.plane.specs.declared.vector2.Vector2.{Vector2}
use Rattle.plane.specs.declared.pline_vertex.PlineVertex.{PlineVertex}
use Rattle.checks.specs.Each
use Rattle.checks.specs.Arc.{arc_chord}
use Rattle.checks.specs.First.{first}
use Rattle.checks.specs.Lists.{point_checks, vertex_checks, circle_checks}
use Rattle.checks.specs.Calls.{check_line_line, check_line_circle, check_circle_circle, check_pline_seg}
use Rattle.checks.specs.Laws.Later.{alone-fine}
use Rattle.checks.specs.Laws.Fine.{epsilon-fine}
use Rattle.checks.specs.Laws.Chains.{PointFine, VertexFine, CircleFine, append-fine, point-listed, vertex-listed, circle-listed}
use Rattle.finite.specs.Doubles.{Epsilon}

pub record LinesFine (v1 v2 u1 u2 : Vector2) (eps : Float) : Type 0 where
  pub epsilon : Epsilon eps
  pub at-v1 : PointFine v1.x v1.y
  pub at-v2 : PointFine v2.x v2.y
  pub at-u1 : PointFine u1.x u1.y
  pub at-u2 : PointFine u2.x u2.y

pub lines-fine : (v1 v2 u1 u2 : Vector2) (eps : Float) → check_line_line v1 v2 u1 u2 eps ≡ Ok tt → LinesFine v1 v2 u1 u2 eps
unfolding check_line_line
lines-fine v1 v2 u1 u2 eps h =
    let c0 : List Checked = Each.epsilon eps ∷ [] in
    let c1 = point_checks v1.x v1.y 0 0 in
    let c2 = point_checks v2.x v2.y 1 0 in
    let c3 = point_checks u1.x u1.y 2 0 in
    let c4 = point_checks u2.x u2.y 3 0 in
    let f1 = append-fine c0 c1 (alone-fine (epsilon-fine eps)) (point-listed v1.x v1.y 0 0) in
    let f2 = append-fine (c0 ++ c1) c2 f1 (point-listed v2.x v2.y 1 0) in
    let f3 = append-fine (c0 ++ c1 ++ c2) c3 f2 (point-listed u1.x u1.y 2 0) in
    let f4 = append-fine (c0 ++ c1 ++ c2 ++ c3) c4 f3 (point-listed u2.x u2.y 3 0) in
    let g = f4.0 h in
    record { epsilon = g.0.0.0.0; at-v1 = g.0.0.0.1; at-v2 = g.0.0.1; at-u1 = g.0.1; at-u2 = g.1 }

pub record LineCircleFine (p0 p1 : Vector2) (radius : Float) (center : Vector2) (eps : Float) : Type 0 where
  pub epsilon : Epsilon eps
  pub at-p0 : PointFine p0.x p0.y
  pub at-p1 : PointFine p1.x p1.y
  pub circle : CircleFine radius center.x center.y

pub line-circle-fine : (p0 p1 : Vector2) (radius : Float) (center : Vector2) (eps : Float)
    → check_line_circle p0 p1 radius center eps ≡ Ok tt → LineCircleFine p0 p1 radius center eps
unfolding check_line_circle
line-circle-fine p0 p1 radius center eps h =
    let c0 : List Checked = Each.epsilon eps ∷ [] in
    let c1 = point_checks p0.x p0.y 0 0 in
    let c2 = point_checks p1.x p1.y 1 0 in
    let c3 = circle_checks radius center.x center.y 2 in
    let f1 = append-fine c0 c1 (alone-fine (epsilon-fine eps)) (point-listed p0.x p0.y 0 0) in
    let f2 = append-fine (c0 ++ c1) c2 f1 (point-listed p1.x p1.y 1 0) in
    let f3 = append-fine (c0 ++ c1 ++ c2) c3 f2 (circle-listed center.x center.y 2 radius) in
    let g = f3.0 h in
    record { epsilon = g.0.0.0; at-p0 = g.0.0.1; at-p1 = g.0.1; circle = g.1 }

pub record CirclesFine (radius1 : Float) (center1 : Vector2) (radius2 : Float) (center2 : Vector2) (eps : Float) : Type 0 where
  pub epsilon : Epsilon eps
  pub first : CircleFine radius1 center1.x center1.y
  pub second : CircleFine radius2 center2.x center2.y

pub circles-fine : (radius1 : Float) (center1 : Vector2) (radius2 : Float) (center2 : Vector2) (eps : Float)
    → check_circle_circle radius1 center1 radius2 center2 eps ≡ Ok tt → CirclesFine radius1 center1 radius2 center2 eps
unfolding check_circle_circle
circles-fine radius1 center1 radius2 center2 eps h =
    let c0 : List Checked = Each.epsilon eps ∷ [] in
    let c1 = circle_checks radius1 center1.x center1.y 0 in
    let c2 = circle_checks radius2 center2.x center2.y 1 in
    let f1 = append-fine c0 c1 (alone-fine (epsilon-fine eps)) (circle-listed center1.x center1.y 0 radius1) in
    let f2 = append-fine (c0 ++ c1) c2 f1 (circle-listed center2.x center2.y 1 radius2) in
    let g = f2.0 h in
    record { epsilon = g.0.0; first = g.0.1; second = g.1 }

pub record PairFine (v1 v2 u1 u2 : PlineVertex) (eps : Float) : Type 0 where
  pub epsilon : Epsilon eps
  pub at-v1 : VertexFine v1.x v1.y v1.bulge
  pub at-v2 : PointFine v2.x v2.y
  pub at-u1 : VertexFine u1.x u1.y u1.bulge
  pub at-u2 : PointFine u2.x u2.y

pub pair-fine : (v1 v2 u1 u2 : PlineVertex) (eps : Float) → check_pline_seg v1 v2 u1 u2 eps ≡ Ok tt → PairFine v1 v2 u1 u2 eps
unfolding check_pline_seg
pair-fine v1 v2 u1 u2 eps h =
    let c0 : List Checked = Each.epsilon eps ∷ [] in
    let c1 = vertex_checks v1.x v1.y v1.bulge 0 0 in
    let c2 = point_checks v2.x v2.y 0 1 in
    let c3 = vertex_checks u1.x u1.y u1.bulge 1 0 in
    let c4 = point_checks u2.x u2.y 1 1 in
    let chords : List Checked = arc_chord v1 v2 0 0 ∷ arc_chord u1 u2 1 0 ∷ [] in
    let f1 = append-fine c0 c1 (alone-fine (epsilon-fine eps)) (vertex-listed v1.x v1.y 0 v1.bulge 0) in
    let f2 = append-fine (c0 ++ c1) c2 f1 (point-listed v2.x v2.y 0 1) in
    let f3 = append-fine (c0 ++ c1 ++ c2) c3 f2 (vertex-listed u1.x u1.y 1 u1.bulge 0) in
    let f4 = append-fine (c0 ++ c1 ++ c2 ++ c3) c4 f3 (point-listed u2.x u2.y 1 1) in
    let f5 = append-fine (c0 ++ c1 ++ c2 ++ c3 ++ c4) chords f4 Iff.rfl in
    let g = (f5.0 h).0 in
    record { epsilon = g.0.0.0.0; at-v1 = g.0.0.0.1; at-v2 = g.0.0.1; at-u1 = g.0.1; at-u2 = g.1 }
