-- A line and an arc: the computed points and the answer's points agree, in each branch.
use Rattle.std.specs.Prelude.{◌≡◌, Bool, cond, not, ◌||◌, List, [], ◌∷◌, map, Float, None, Option, Some}
use Rattle.std.proofs.Math.Path.{refl}
use Rattle.std.proofs.Common.{ap, ◌∙◌}
use Rattle.std.proofs.Math.Bool.{true, false}
use Rattle.floats.specs.Ops.{◌⊗◌, ◌≺◌, f0}
use Rattle.plane.specs.BaseMath.{dist_squared, point_from_parametric}
use Rattle.plane.specs.Fuzzy.{fuzzy_in_range_eps}
use Rattle.plane.specs.PlineSeg.{seg_arc_radius_and_center}
use Rattle.plane.specs.PlineVertex.{pos}
use Rattle.plane.specs.Vector2 as vector2
use Rattle.plane.specs.declared.vector2.Vector2.{Vector2}
use Rattle.plane.specs.declared.pline_vertex.PlineVertex.{PlineVertex}
use Rattle.arcs.specs.ArcGeometry.{of_segment, finding, point_lies_on_arc}
use Rattle.arcs.specs.LineAndArc.{point_in_sweep, tangent_at, tangent_line_arc, one_line_arc, with_sticky_ends, in_order, crossings_line_arc}
use Rattle.arcs.specs.declared.arc_geometry.ArcGeometry.{ArcGeometry}
use Rattle.arcs.specs.declared.line_and_arc.TwoPoints.{TwoPoints}
use Rattle.arcs.specs.declared.pline_seg_intr.PlineSegIntr.TheVariants.{TangentIntersect, OneIntersect, TwoIntersects}
use Rattle.crossing.specs.LineArc.{line_arc_of, process_line_arc_intr}
use Rattle.crossing.specs.LineCircle.{line_circle}
use Rattle.crossing.specs.declared.line_circle_intr.LineCircleIntr.{LineCircleIntr}
use Rattle.crossing.specs.declared.line_circle_intr.LineCircleIntr.TheVariants as circle
use Rattle.findings.specs.Finding.{of_sweep, counts}
use Rattle.findings.specs.LineAndArc.{
  point_tested,
  replaced,
  unless_end,
  sticky_tested,
  both_tested,
  crossings_tested,
  line_arc_tested_of,
  line_arc_tested,
}
use Rattle.told.specs.Stands.{points_of}
use Rattle.told.specs.Laws.Agree.{
  Mark,
  Agree,
  nothing,
  itself,
  left_out,
  second-left-out,
  instead,
  beside,
  exchanged,
}
use Rattle.told.specs.Laws.Counts.{sweeps-counts}
use Rattle.findings.specs.declared.finding.Finding.{Finding}
use Rattle.findings.specs.declared.finding.Finding.TheVariants.{NotTested}
use Rattle.findings.specs.declared.finding.Tested.{Tested}
use Rattle.findings.specs.declared.finding.TwoTested.{TwoTested}

abbrev pub mark : Tested → Mark
mark e = record { point = e.point; counts = counts e.finding }

-- the point that the Rust goes on with
abbrev found : Tested → Option Vector2
found e = cond (counts e.finding) (Some e.point) None

in-sweep : (t line_length : Float) (p0 p1 : Vector2) (arc : ArcGeometry) (eps : Float)
    → point_in_sweep t line_length p0 p1 arc eps ≡ found (point_tested t line_length p0 p1 arc eps)
unfolding point_in_sweep point_tested
in-sweep t line_length p0 p1 arc eps =
    let p = point_from_parametric p0 p1 t in
    let out = not (fuzzy_in_range_eps (t ⊗ line_length) f0 line_length eps) in
    ap (λ (b : Bool). cond out None (cond b (Some p) None)) (sweeps-counts arc p) ∙ go p (of_sweep (finding arc p)) out
  where
    go : (p : Vector2) (f : Finding) (out : Bool)
        → cond out None (cond (counts f) (Some p) None) ≡ cond (counts (cond out NotTested f)) (Some p) None
    go p f true = refl
    go p f false = refl

abbrev marks : TwoTested → List Mark
marks two = mark two.first ∷ mark two.second ∷ []

abbrev points : TwoPoints → List Vector2
points two = two.point1 ∷ two.point2 ∷ []

module _ {End : Vector2 → Type 0} (p0 p1 : Vector2) (end0 : End p0) (end1 : End p1) (arc : ArcGeometry) where
  -- lines 262-266
  tangent-at : (e : Tested) → Agree End (mark e ∷ []) (points_of (tangent_at (found e)))
  tangent-at e = go (counts e.finding) refl
    where
      go : (b : Bool) → counts e.finding ≡ b → Agree End (mark e ∷ []) (points_of (tangent_at (cond b (Some e.point) None)))
      go true is = itself (mark e) is
      go false is = left_out (mark e) is nothing

  tangent : (t line_length : Float) (eps : Float)
      → Agree End (mark (unless_end (point_tested t line_length p0 p1 arc eps) p0 p1 arc) ∷ [])
      (points_of (tangent_line_arc t line_length p0 p1 arc eps))
  unfolding tangent_line_arc unless_end
  tangent t line_length eps =
      rw (in-sweep t line_length p0 p1 arc eps)
      (go (point_tested t line_length p0 p1 arc eps) (point_lies_on_arc arc p0) (point_lies_on_arc arc p1))
    where
      go : (e : Tested) (on0 on1 : Bool) → Agree End (mark (cond on0 (replaced e) (cond on1 (replaced e) e)) ∷ [])
          (points_of (cond on0 (TangentIntersect p0) (cond on1 (TangentIntersect p1) (tangent_at (found e)))))
      go e true on1 = instead (mark (replaced e)) p0 refl end0
      go e false true = instead (mark (replaced e)) p1 refl end1
      go e false false = tangent-at e

  -- lines 274-282
  one : (e : Tested) → counts e.finding ≡ true
      → Agree End (mark (unless_end e p0 p1 arc) ∷ []) (points_of (one_line_arc e.point p0 p1 arc))
  unfolding unless_end one_line_arc
  one e is = go (point_lies_on_arc arc p0) (point_lies_on_arc arc p1)
    where
      go : (on0 on1 : Bool) → Agree End (mark (cond on0 (replaced e) (cond on1 (replaced e) e)) ∷ [])
          (points_of (cond on0 (OneIntersect p0) (cond on1 (OneIntersect p1) (OneIntersect e.point))))
      go true on1 = instead (mark (replaced e)) p0 refl end0
      go false true = instead (mark (replaced e)) p1 refl end1
      go false false = itself (mark e) is

  -- lines 287-322
  module _ (e1 e2 : Tested) (is1 : counts e1.finding ≡ true) (is2 : counts e2.finding ≡ true) where
    sticky : Agree End (marks (sticky_tested e1 e2 p0 p1 arc)) (points (with_sticky_ends e1.point e2.point p0 p1 arc))
    unfolding sticky_tested with_sticky_ends
    sticky =
        go (point_lies_on_arc arc p0) (point_lies_on_arc arc p1) (dist_squared p0 e1.point ≺ dist_squared p0 e2.point)
        (dist_squared p1 e1.point ≺ dist_squared p1 e2.point)
      where
        go : (on0 on1 nearer0 nearer1 : Bool)
            → Agree End
            (marks
            (cond on0
            (cond on1
            (record { first = replaced e1; second = replaced e2 })
            (cond nearer0 (record { first = replaced e1; second = e2 }) (record { first = e1; second = replaced e2 })))
            (cond on1
            (cond nearer1 (record { first = replaced e1; second = e2 }) (record { first = e1; second = replaced e2 }))
            (record { first = e1; second = e2 }))))
            (points
            (cond on0
            (cond on1
            (cond nearer0 (record { point1 = p0; point2 = p1 }) (record { point1 = p1; point2 = p0 }))
            (cond nearer0 (record { point1 = p0; point2 = e2.point }) (record { point1 = e1.point; point2 = p0 })))
            (cond on1
            (cond nearer1 (record { point1 = p1; point2 = e2.point }) (record { point1 = e1.point; point2 = p1 }))
            (record { point1 = e1.point; point2 = e2.point }))))
        go true true true nearer1 = beside (instead _ p0 refl end0) (instead _ p1 refl end1)
        go true true false nearer1 = beside (instead _ p1 refl end1) (instead _ p0 refl end0)
        go true false true nearer1 = beside (instead _ p0 refl end0) (itself (mark e2) is2)
        go true false false nearer1 = beside (itself (mark e1) is1) (instead _ p0 refl end0)
        go false true nearer0 true = beside (instead _ p1 refl end1) (itself (mark e2) is2)
        go false true nearer0 false = beside (itself (mark e1) is1) (instead _ p1 refl end1)
        go false false nearer0 nearer1 = beside (itself (mark e1) is1) (itself (mark e2) is2)

    -- lines 285-334
    two : (arc_start : Vector2) (u_is_line : Bool) → Agree End (marks (both_tested e1 e2 p0 p1 arc_start arc u_is_line))
        (points_of (in_order (with_sticky_ends e1.point e2.point p0 p1 arc) arc_start u_is_line))
    unfolding both_tested in_order
    two arc_start u_is_line =
        go (sticky_tested e1 e2 p0 p1 arc) (with_sticky_ends e1.point e2.point p0 p1 arc) sticky (u_is_line || _)
      where
        go : (entries : TwoTested) (both : TwoPoints) → Agree End (marks entries) (points both) → (ordered : Bool)
            → Agree End (marks (cond ordered entries (record { first = entries.second; second = entries.first })))
            (points_of
            (cond ordered (TwoIntersects both.point1 both.point2) (TwoIntersects both.point2 both.point1)))
        go entries both w true = w
        go entries both w false = exchanged w

  -- lines 271-336
  crossings : (e1 e2 : Tested) (arc_start : Vector2) (u_is_line : Bool)
      → Agree End (marks (crossings_tested e1 e2 p0 p1 arc_start arc u_is_line))
      (points_of (crossings_line_arc (found e1) (found e2) p0 p1 arc_start arc u_is_line))
  unfolding crossings_tested
  crossings e1 e2 arc_start u_is_line = go (counts e1.finding) (counts e2.finding) refl refl
    where
      go : (b1 b2 : Bool) → counts e1.finding ≡ b1 → counts e2.finding ≡ b2
          → Agree End
          (marks
          (cond b1
          (cond b2
          (both_tested e1 e2 p0 p1 arc_start arc u_is_line)
          (record { first = unless_end e1 p0 p1 arc; second = e2 }))
          (cond b2 (record { first = e1; second = unless_end e2 p0 p1 arc }) (record { first = e1; second = e2 }))))
          (points_of
          (crossings_line_arc (cond b1 (Some e1.point) None) (cond b2 (Some e2.point) None) p0 p1 arc_start arc u_is_line))
      go true true is1 is2 = two e1 e2 is1 is2 arc_start u_is_line
      go true false is1 is2 = second-left-out (mark e2) is2 (one e1 is1)
      go false true is1 is2 = left_out (mark e1) is1 (one e2 is2)
      go false false is1 is2 = left_out (mark e1) is1 (left_out (mark e2) is2 nothing)

  -- lines 227-338
  from-kernel : (kernel : LineCircleIntr) (arc_start : Vector2) (u_is_line : Bool) (eps : Float)
      → Agree End (map mark (line_arc_tested_of kernel p0 p1 arc_start arc u_is_line eps))
      (points_of (line_arc_of kernel p0 p1 arc_start arc u_is_line eps))
  from-kernel circle.NoIntersect arc_start u_is_line eps = nothing
  from-kernel (circle.TangentIntersect t0) arc_start u_is_line eps = tangent t0 (vector2.length (vector2.sub p1 p0)) eps
  from-kernel (circle.TwoIntersects t0 t1) arc_start u_is_line eps =
      let line_length = vector2.length (vector2.sub p1 p0) in
      simp (in-sweep t0 line_length p0 p1 arc eps, in-sweep t1 line_length p0 p1 arc eps)
      (crossings (point_tested t0 line_length p0 p1 arc eps) (point_tested t1 line_length p0 p1 arc eps) arc_start u_is_line)

-- lines 208-339
pub line-and-arc : {End : Vector2 → Type 0} (p0 p1 : Vector2) → End p0 → End p1
    → (a1 a2 : PlineVertex) (u_is_line : Bool) (eps : Float)
    → Agree End (map mark (line_arc_tested p0 p1 a1 a2 u_is_line eps)) (points_of (process_line_arc_intr p0 p1 a1 a2 u_is_line eps))
unfolding line_arc_tested process_line_arc_intr
line-and-arc p0 p1 end0 end1 a1 a2 u_is_line eps =
    let arc = seg_arc_radius_and_center a1 a2 in
    from-kernel p0 p1 end0 end1 (of_segment a1 a2 arc eps) (line_circle p0 p1 arc.radius arc.center eps) (pos a1) u_is_line eps
