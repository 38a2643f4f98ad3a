-- Proof of Stands: by kind of the two segments, then as `Laws` has it branch by branch.
use Rattle.std.specs.Prelude.{◌≡◌, refl, Bool, ◌&&◌, ◌||◌, List, [], ◌∷◌, map, ◌⊎◌, Float}
use Rattle.std.proofs.Common.{ap, subst, ◌∙◌, inl, inr}
use Rattle.std.proofs.Math.Bool.{true, false}
use Rattle.plane.specs.PlineVertex.{pos, bulge_is_zero}
use Rattle.plane.specs.declared.vector2.Vector2.{Vector2}
use Rattle.plane.specs.declared.pline_vertex.PlineVertex.{PlineVertex}
use Rattle.crossing.specs.LineLine.{line_line}
use Rattle.crossing.specs.PlineSeg.{line_line_of, process_line_line_intr, pline_seg}
use Rattle.crossing.specs.declared.line_line_intr.LineLineIntr.{LineLineIntr}
use Rattle.crossing.specs.declared.line_line_intr.LineLineIntr.TheVariants as lines
use Rattle.findings.specs.Finding.{counts, findings_of}
use Rattle.findings.specs.LineAndArc.{line_arc_tested}
use Rattle.findings.specs.Report.{line_line_computed_of, arc_is_v, arc_is_u, computed, findings}
use Rattle.told.specs.Stands.{Has, points_of, all_yes, IsEnd, Told}
use Rattle.told.specs.Laws.Agree.{Mark, Backed, Placed, Agree, mapped, from-map, nothing, itself, beside}
use Rattle.told.specs.Laws.LineAndArc.{line-and-arc}
use Rattle.told.specs.Laws.LineAndArc as line
use Rattle.told.specs.Laws.TwoArcs.{two-arcs}
use Rattle.findings.specs.declared.finding.Computed.{Computed}
use Rattle.findings.specs.declared.finding.Finding.TheVariants.{NotTested}
use Rattle.findings.specs.declared.finding.Findings.{Findings}
use Rattle.findings.specs.declared.finding.Tested.{Tested}

-- a computed point, and whether the entry of each arc is 1 to 4
abbrev mark_by : Bool → Bool → Computed → Mark
mark_by v_is_line u_is_line c = record { point = c.point; counts = (v_is_line || counts c.v) && (u_is_line || counts c.u) }

-- the entries of v, and of u, are not tested
abbrev VUntested : Findings → Type 0
VUntested f = (f.first_v ≡ NotTested) × (f.second_v ≡ NotTested)

abbrev UUntested : Findings → Type 0
UUntested f = (f.first_u ≡ NotTested) × (f.second_u ≡ NotTested)

-- ---- two lines

two-lines : {End : Vector2 → Type 0} (kernel : LineLineIntr) (v1 v2 u1 u2 : Vector2)
    → Agree End (map (mark_by true true) (line_line_computed_of kernel v1 v2 u1 u2)) (points_of (line_line_of kernel v1 v2 u1 u2))
two-lines lines.NoIntersect v1 v2 u1 u2 = nothing
two-lines (lines.FalseIntersect seg1_t seg2_t) v1 v2 u1 u2 = nothing
two-lines (lines.TrueIntersect seg1_t seg2_t) v1 v2 u1 u2 = itself _ refl
two-lines (lines.Overlapping seg2_t0 seg2_t1) v1 v2 u1 u2 = beside (itself _ refl) (itself _ refl)

lines-untested : (kernel : LineLineIntr) (v1 v2 u1 u2 : Vector2)
    → findings_of (line_line_computed_of kernel v1 v2 u1 u2) ≡ findings_of []
lines-untested lines.NoIntersect v1 v2 u1 u2 = refl
lines-untested (lines.FalseIntersect seg1_t seg2_t) v1 v2 u1 u2 = refl
lines-untested (lines.TrueIntersect seg1_t seg2_t) v1 v2 u1 u2 = refl
lines-untested (lines.Overlapping seg2_t0 seg2_t1) v1 v2 u1 u2 = refl

-- ---- a line and an arc

and-true : (b : Bool) → b ≡ (b && true)
and-true true = refl
and-true false = refl

of-v : (es : List Tested) → map line.mark es ≡ map (mark_by false true) (arc_is_v es)
of-v [] = refl
of-v (e ∷ es) = simp (← of-v es, ← and-true (counts e.finding))

of-u : (es : List Tested) → map line.mark es ≡ map (mark_by true false) (arc_is_u es)
of-u [] = refl
of-u (e ∷ es) = simp (← of-u es)

u-untested : (es : List Tested) → UUntested (findings_of (arc_is_v es))
u-untested [] = (refl, refl)
u-untested (a ∷ []) = (refl, refl)
u-untested (a ∷ b ∷ rest) = (refl, refl)

v-untested : (es : List Tested) → VUntested (findings_of (arc_is_u es))
v-untested [] = (refl, refl)
v-untested (a ∷ []) = (refl, refl)
v-untested (a ∷ b ∷ rest) = (refl, refl)

-- ---- the pair

module _ (v1 v2 u1 u2 : PlineVertex) (eps : Float) where
  v1-end : IsEnd v1 v2 u1 u2 (pos v1)
  v1-end = inl refl

  v2-end : IsEnd v1 v2 u1 u2 (pos v2)
  v2-end = inr (inl refl)

  u1-end : IsEnd v1 v2 u1 u2 (pos u1)
  u1-end = inr (inr (inl refl))

  u2-end : IsEnd v1 v2 u1 u2 (pos u2)
  u2-end = inr (inr (inr refl))

  by_kind : (v_is_line u_is_line : Bool) → v_is_line ≡ bulge_is_zero v1 → u_is_line ≡ bulge_is_zero u1
      → Agree (IsEnd v1 v2 u1 u2) (map (mark_by (bulge_is_zero v1) (bulge_is_zero u1)) (computed v1 v2 u1 u2 eps))
      (points_of (pline_seg v1 v2 u1 u2 eps))
  unfolding computed pline_seg process_line_line_intr
  by_kind true true ev eu =
      simp (← ev, ← eu) (two-lines (line_line (pos v1) (pos v2) (pos u1) (pos u2) eps) (pos v1) (pos v2) (pos u1) (pos u2))
  by_kind true false ev eu = simp (← ev, ← eu, ← of-u) (line-and-arc (pos v1) (pos v2) v1-end v2-end u1 u2 false eps)
  by_kind false true ev eu = simp (← ev, ← eu, ← of-v) (line-and-arc (pos u1) (pos u2) u1-end u2-end v1 v2 true eps)
  by_kind false false ev eu = simp (← ev, ← eu) (two-arcs v1 v2 u1 u2 v1-end v2-end u1-end u2-end eps)

  agree : Agree (IsEnd v1 v2 u1 u2) (map (mark_by (bulge_is_zero v1) (bulge_is_zero u1)) (computed v1 v2 u1 u2 eps))
      (points_of (pline_seg v1 v2 u1 u2 eps))
  agree = by_kind (bulge_is_zero v1) (bulge_is_zero u1) refl refl

  abbrev mark_of : Computed → Mark
  mark_of = mark_by (bulge_is_zero v1) (bulge_is_zero u1)

  back : (p : Vector2) → Backed (IsEnd v1 v2 u1 u2) (map mark_of (computed v1 v2 u1 u2 eps)) p
      → IsEnd v1 v2 u1 u2 p
      ⊎ ((c : Computed) × Has c (computed v1 v2 u1 u2 eps) × (all_yes v1 v2 u1 u2 c ≡ true) × (c.point ≡ p))
  back p (inl is) = inl is
  back p (inr h) =
      let from = from-map mark_of h.0 (computed v1 v2 u1 u2 eps) h.1 in
      inr (
        from.0,
        from.1,
        ap (λ (m : Mark). m.counts) from.2 ∙ h.2,
        ap (λ (m : Mark). m.point) from.2 ∙ h.3,
      )

  v-line : (u_is_line : Bool) → u_is_line ≡ bulge_is_zero u1 → bulge_is_zero v1 ≡ true → VUntested (findings v1 v2 u1 u2 eps)
  unfolding findings computed
  v-line true eu ev = simp (ev, ← eu, lines-untested) (refl, refl)
  v-line false eu ev = simp (ev, ← eu) (v-untested (line_arc_tested (pos v1) (pos v2) u1 u2 false eps))

  u-line : (v_is_line : Bool) → v_is_line ≡ bulge_is_zero v1 → bulge_is_zero u1 ≡ true → UUntested (findings v1 v2 u1 u2 eps)
  unfolding findings computed
  u-line true ev eu = simp (← ev, eu, lines-untested) (refl, refl)
  u-line false ev eu = simp (← ev, eu) (u-untested (line_arc_tested (pos u1) (pos u2) v1 v2 true eps))

  pub told : Told v1 v2 u1 u2 eps
  told =
      record {
        stands = λ c h t. agree.stands (mark_of c) (mapped mark_of c (computed v1 v2 u1 u2 eps) h) t;
        end-or-computed = λ p h. back p (agree.backed p h);
        in_place = λ a b p q e is. subst (λ (cs : List Computed). Placed (map mark_of cs) (p ∷ q ∷ [])) e
            (subst (λ (ps : List Vector2). Placed (map mark_of (computed v1 v2 u1 u2 eps)) ps) is agree.placed);
        v-line = v-line (bulge_is_zero u1) refl;
        u-line = u-line (bulge_is_zero v1) refl;
      }
