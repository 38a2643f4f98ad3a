-- The slots of the ends that lie on the other arc: what is taken is an end.
use Rattle.std.specs.Prelude.{ℕ, zero, suc, Bool, cond, List, [], ◌∷◌, Float, get_or, set, None, Option, Some}
use Rattle.std.proofs.Math.Bool.{true, false}
use Rattle.plane.specs.Vector2.{fuzzy_eq_eps}
use Rattle.plane.specs.declared.vector2.Vector2.{Vector2}
use Rattle.arcs.specs.ArcGeometry.{point_lies_on_arc}
use Rattle.arcs.specs.TwoArcs.{try_second, try_first, try_add_end_point_intr, add_if_on_arc, collect_end_points}
use Rattle.arcs.specs.declared.arc_geometry.ArcGeometry.{ArcGeometry}

module _ (End : Vector2 → Type 0) where
  abbrev pub SlotEnd : Option Vector2 → Type 0
  SlotEnd None = Unit
  SlotEnd (Some p) = End p

  abbrev pub SlotsEnd : List (Option Vector2) → Type 0
  SlotsEnd [] = Unit
  SlotsEnd (slot ∷ rest) = SlotEnd slot × SlotsEnd rest

  pub slot-end : (slots : List (Option Vector2)) (i : ℕ) → SlotsEnd slots → SlotEnd (get_or slots i None)
  slot-end [] i h = tt
  slot-end (slot ∷ rest) zero h = h.0
  slot-end (slot ∷ rest) (suc i) h = slot-end rest i h.1

  set-end : (slots : List (Option Vector2)) (i : ℕ) (p : Vector2) → End p → SlotsEnd slots → SlotsEnd (set slots i (Some p))
  set-end [] i p is h = h
  set-end (slot ∷ rest) zero p is h = (is, h.1)
  set-end (slot ∷ rest) (suc i) p is h = (h.0, set-end rest i p is h.1)

  second-end : (slot : Option Vector2) (slots : List (Option Vector2)) (p : Vector2) → End p → SlotsEnd slots → SlotsEnd (try_second slot slots p)
  second-end None slots p is h = set-end slots 1 p is h
  second-end (Some q) slots p is h = h

  first-end : (slot : Option Vector2) (slots : List (Option Vector2)) (p : Vector2) (eps : Float) → End p → SlotsEnd slots
      → SlotsEnd (try_first slot slots p eps)
  first-end None slots p eps is h = set-end slots 0 p is h
  first-end (Some q) slots p eps is h = go (fuzzy_eq_eps q p eps)
    where
      go : (near : Bool) → SlotsEnd (cond near slots (try_second (get_or slots 1 None) slots p))
      go true = h
      go false = second-end (get_or slots 1 None) slots p is h

  added-end : (slots : List (Option Vector2)) (p : Vector2) (arc : ArcGeometry) (eps : Float) → End p → SlotsEnd slots
      → SlotsEnd (add_if_on_arc slots p arc eps)
  unfolding add_if_on_arc try_add_end_point_intr
  added-end slots p arc eps is h = go (point_lies_on_arc arc p)
    where
      go : (on : Bool) → SlotsEnd (cond on (try_first (get_or slots 0 None) slots p eps) slots)
      go true = first-end (get_or slots 0 None) slots p eps is h
      go false = h

  pub collected : (v1 v2 u1 u2 : Vector2) → End v1 → End v2 → End u1 → End u2 → (arc1 arc2 : ArcGeometry) (eps : Float)
      → SlotsEnd (collect_end_points v1 v2 u1 u2 arc1 arc2 eps)
  unfolding collect_end_points
  collected v1 v2 u1 u2 v1-end v2-end u1-end u2-end arc1 arc2 eps =
      added-end _ v2 arc2 eps v2-end
      (added-end _ v1 arc2 eps v1-end
      (added-end _ u2 arc1 eps u2-end
      (added-end _ u1 arc1 eps u1-end
      (tt, (tt, tt)))))
