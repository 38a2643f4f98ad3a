-- The quick test whether ends lie on the other arc: an end whose distance from the other arc's centre is not the radius lies on
-- no part of that arc, so there are no end points to collect.
use Rattle.std.specs.Prelude.{◌≡◌, refl, List, [], ◌∷◌, Bool, true, false, not, ◌&&◌, ◌||◌, Float, None, Option}
use Rattle.std.proofs.Common.{sym, ap, ◌∙◌}
use Rattle.std.proofs.lemmas.Bool.{false≢true}
use Rattle.floats.specs.Ops.{◌≺◌, ◌≻◌, f0}
use Rattle.plane.specs.BaseMath.{dist_squared}
use Rattle.plane.specs.declared.vector2.Vector2.{Vector2}
use Rattle.arcs.specs.declared.arc_geometry.ArcGeometry.{ArcGeometry}
use Rattle.arcs.specs.ArcGeometry.{sweeps, point_lies_on_arc}
use Rattle.arcs.specs.declared.pline_seg_intr.PlineSegIntr.{PlineSegIntr}
use Rattle.arcs.specs.TwoArcs.{add_if_on_arc, collect_end_points, two_arc_arc, crossing_arcs}

unfoldable pub point_off_circle : ArcGeometry → Vector2 → Bool
point_off_circle self point =
    let distance_squared = dist_squared point self.sweep.center in
    not ((distance_squared ≺ self.radius_upper_bound_squared)
    && ((self.radius_lower_bound ≺ f0) || (distance_squared ≻ self.radius_lower_bound_squared)))

unfoldable pub ends_clear : Vector2 → Vector2 → Vector2 → Vector2 → ArcGeometry → ArcGeometry → Bool
ends_clear v1 v2 u1 u2 arc1 arc2 =
    (point_off_circle arc1 u1 && point_off_circle arc1 u2) && (point_off_circle arc2 v1 && point_off_circle arc2 v2)

not_on : (arc : ArcGeometry) (point : Vector2) → point_off_circle arc point ≡ true → point_lies_on_arc arc point ≡ false
unfolding point_off_circle point_lies_on_arc
not_on arc point h = go (_ ≺ _) _ (sweeps arc point) h
  where
    go : (near ring swept : Bool) → not (near && ring) ≡ true → (near && ring && swept) ≡ false
    go true true swept e = absurd (false≢true e)
    go true false swept e = refl
    go false ring swept e = refl

none-added : (slots : List (Option Vector2)) (end : Vector2) (arc : ArcGeometry) (eps : Float) → point_off_circle arc end ≡ true
    → add_if_on_arc slots end arc eps ≡ slots
unfolding add_if_on_arc
none-added slots end arc eps h = rw (not_on arc end h)

parts : (a b c d : Bool) → ((a && b) && (c && d)) ≡ true → (a ≡ true) × (b ≡ true) × (c ≡ true) × (d ≡ true)
parts true true true true e = (refl, refl, refl, refl)
parts true true true false e = absurd (false≢true e)
parts true true false d e = absurd (false≢true e)
parts true false c d e = absurd (false≢true e)
parts false b c d e = absurd (false≢true e)

no-ends : (v1 v2 u1 u2 : Vector2) (arc1 arc2 : ArcGeometry) (eps : Float) → ends_clear v1 v2 u1 u2 arc1 arc2 ≡ true
    → collect_end_points v1 v2 u1 u2 arc1 arc2 eps ≡ None ∷ (None ∷ [])
unfolding ends_clear collect_end_points
no-ends v1 v2 u1 u2 arc1 arc2 eps h =
    let p = parts (point_off_circle arc1 u1) (point_off_circle arc1 u2) (point_off_circle arc2 v1) (point_off_circle arc2 v2) h in
    let none = None ∷ (None ∷ []) in
    simp (
      none-added none u1 arc1 eps p.0,
      none-added none u2 arc1 eps p.1,
      none-added none v1 arc2 eps p.2,
      none-added none v2 arc2 eps p.3,
    )

-- so the answer for two arcs needs no end points
pub without-ends : (v1 v2 u1 u2 point1 point2 : Vector2) (arc1 arc2 : ArcGeometry) (eps : Float) (clear : Bool) (r : PlineSegIntr)
    → clear ≡ ends_clear v1 v2 u1 u2 arc1 arc2 → clear ≡ true → r ≡ two_arc_arc point1 point2 (None ∷ (None ∷ [])) arc1 arc2
    → r ≡ crossing_arcs v1 v2 u1 u2 point1 point2 arc1 arc2 eps
unfolding crossing_arcs
without-ends v1 v2 u1 u2 point1 point2 arc1 arc2 eps clear r is t e =
    e ∙ ap (λ (slots : List (Option Vector2)). two_arc_arc point1 point2 slots arc1 arc2) (sym (no-ends v1 v2 u1 u2 arc1 arc2 eps (sym is ∙ t)))
