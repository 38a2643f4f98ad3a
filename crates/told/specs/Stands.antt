-- What the findings say of the answer (request 7), for every input. A computed point for which the entry of each arc is 1 to 4
-- stands in the answer; and a point of the answer that is no end of a segment is such a computed point. Proved in StandsProved.
use Rattle.std.specs.Prelude.{◌≡◌, Bool, true, ◌&&◌, ◌||◌, List, [], ◌∷◌, ◌⊎◌, Float}
use Rattle.plane.specs.PlineVertex.{pos, bulge_is_zero}
use Rattle.plane.specs.declared.vector2.Vector2.{Vector2}
use Rattle.plane.specs.declared.pline_vertex.PlineVertex.{PlineVertex}
use Rattle.arcs.specs.declared.pline_seg_intr.PlineSegIntr.{PlineSegIntr}
use Rattle.arcs.specs.declared.pline_seg_intr.PlineSegIntr.TheVariants.{
  NoIntersect,
  TangentIntersect,
  OneIntersect,
  TwoIntersects,
  OverlappingLines,
  OverlappingArcs,
}
use Rattle.crossing.specs.PlineSeg.{pline_seg}
use Rattle.findings.specs.Finding.{counts}
use Rattle.findings.specs.Report.{computed, findings}
use Rattle.findings.specs.declared.finding.Computed.{Computed}
use Rattle.findings.specs.declared.finding.Finding.TheVariants.{NotTested}

-- x is in the list
abbrev pub Has : {A : Type 0} → A → List A → Type 0
Has x [] = ⊥
Has x (y ∷ rest) = (x ≡ y) ⊎ Has x rest

-- the points of an answer
abbrev pub points_of : PlineSegIntr → List Vector2
points_of NoIntersect = []
points_of (TangentIntersect point) = point ∷ []
points_of (OneIntersect point) = point ∷ []
points_of (TwoIntersects point1 point2) = point1 ∷ point2 ∷ []
points_of (OverlappingLines point1 point2) = point1 ∷ point2 ∷ []
points_of (OverlappingArcs point1 point2) = point1 ∷ point2 ∷ []

module _ (v1 v2 u1 u2 : PlineVertex) where
  -- the entry of each arc is 1 to 4; a line has none
  abbrev pub all_yes : Computed → Bool
  all_yes c = (bulge_is_zero v1 || counts c.v) && (bulge_is_zero u1 || counts c.u)

  -- an end of a segment, as it was given
  abbrev pub IsEnd : Vector2 → Type 0
  IsEnd p = (p ≡ pos v1) ⊎ (p ≡ pos v2) ⊎ (p ≡ pos u1) ⊎ (p ≡ pos u2)

  pub record Told (eps : Float) : Type 0 where
    -- such a computed point stands in the answer
    pub stands : (c : Computed) → Has c (computed v1 v2 u1 u2 eps) → all_yes c ≡ true
        → Has c.point (points_of (pline_seg v1 v2 u1 u2 eps))
    -- a point of the answer is an end, or such a computed point
    pub end-or-computed : (p : Vector2) → Has p (points_of (pline_seg v1 v2 u1 u2 eps))
        → IsEnd p ⊎ ((c : Computed) × Has c (computed v1 v2 u1 u2 eps) × (all_yes c ≡ true) × (c.point ≡ p))
    -- if the answer has two points and two were computed, each such computed point stands in its own place
    pub in_place : (a b : Computed) (p q : Vector2) → computed v1 v2 u1 u2 eps ≡ a ∷ b ∷ []
        → points_of (pline_seg v1 v2 u1 u2 eps) ≡ p ∷ q ∷ []
        → (all_yes a ≡ true → a.point ≡ p) × (all_yes b ≡ true → b.point ≡ q)
    -- a line's entries are not tested
    pub v-line : bulge_is_zero v1 ≡ true
        → ((findings v1 v2 u1 u2 eps).first_v ≡ NotTested) × ((findings v1 v2 u1 u2 eps).second_v ≡ NotTested)
    pub u-line : bulge_is_zero u1 ≡ true
        → ((findings v1 v2 u1 u2 eps).first_u ≡ NotTested) × ((findings v1 v2 u1 u2 eps).second_u ≡ NotTested)
