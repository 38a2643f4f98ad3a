-- The check of a path that stands after others: f, or g in a loop, is what was found before.
use Rattle.std.specs.Prelude.{◌≡◌, List, ◌∷◌, ℕ, suc, ◌+◌, ◌-◌, ◌≤◌, ◌<◌, Err, Float}
use Rattle.std.proofs.Common.{sym, ap, ◌∙◌, arith}
use Rattle.std.proofs.Math.Nat.{sub-zero}
use Rattle.plane.specs.declared.pline_vertex.PlineVertex.{PlineVertex}
use Rattle.checks.specs.declared.fault.Fault.{Fault}
use Rattle.checks.specs.Checked.{Checked}
use Rattle.checks.specs.Arc.{arc_chord}
use Rattle.checks.specs.Fault.{later}
use Rattle.checks.specs.First.{first}
use Rattle.checks.specs.Lists
use Rattle.checks.specs.Laws.Chains.{first-append}
use Rattle.checks.specs.Laws.Later.{fine-right, later-assoc}
use Rattle.paths.specs.declared.path.Segment.{Segment}
use Rattle.paths.specs.Path.{vertex_count, vertex, trace}
use Rattle.paths.specs.Segments.{segment_from}
use Rattle.paths.specs.Check.{along, of_vertex, of_segment, check_vertices}
use Rattle.paths.specs.Workings.Inside.{InsideBelow}
use Rattle.paths.specs.Workings.Inside as inside

-- ---- a loop over n lists that has found g before i: g and the remaining lists have the first fault of the whole
pub record Looking (checks : ℕ → List Checked) (n : ℕ) (whole g : Checked) (i : ℕ) : Type 0 where
  pub left : later g (first (along checks i (n - i))) ≡ whole

pub looking : (checks : ℕ → List Checked) (n : ℕ) (f : Checked) → Looking checks n (later f (first (along checks 0 n))) f 0
looking checks n f = record { left = simp sub-zero }

module _ {checks : ℕ → List Checked} {n : ℕ} {whole g : Checked} {i : ℕ} (l : Looking checks n whole g i) where
  -- a fault that was found stays the first, whatever remains
  pub found : (x : Fault) → g ≡ Err x → Err x ≡ whole
  unfolding later
  found x e = sym (ap (λ (f : Checked). later f (first (along checks i (n - i)))) e) ∙ l.left

  pub turned : {h : Checked} → i < n → h ≡ later g (first (checks i)) → Looking checks n whole h (i + 1)
  turned lt e =
      let rest = along checks (i + 1) (n - (i + 1)) in
      let more : n - i ≡ suc (n - (i + 1)) = omega arith in
      let step =
      later-assoc g (first (checks i)) (first rest)
      ∙ ap (later g) (sym (first-append (checks i) rest))
      ∙ ap (λ (k : ℕ). later g (first (along checks i k))) (sym more) in
      record { left = ap (λ (f : Checked). later f (first rest)) e ∙ step ∙ l.left }

  pub ended : n ≤ i → g ≡ whole
  ended h =
      let none : n - i ≡ 0 = omega arith in
      sym (ap (λ (k : ℕ). later g (first (along checks i k))) none ∙ fine-right g) ∙ l.left

-- ---- a turn of the loops
module _ (path : List Float) (owner i : ℕ) (g h : Checked) where
  pub vertex-step : (v : PlineVertex) (t : Float) → v ≡ vertex path i → t ≡ trace path i
      → h ≡ first (g ∷ Lists.traced_checks v.x v.y v.bulge t owner i)
      → h ≡ later g (first (of_vertex path owner i))
  unfolding of_vertex
  vertex-step v t read with looked =
      looked
      ∙ ap (λ (s : Float). first (g ∷ Lists.traced_checks v.x v.y v.bulge s owner i)) with
      ∙ ap (λ (u : PlineVertex). first (g ∷ Lists.traced_checks u.x u.y u.bulge (trace path i) owner i)) read

  pub segment-step : (s : Segment) → s ≡ segment_from path i → h ≡ later g (arc_chord s.v1 s.v2 owner i)
      → h ≡ later g (first (of_segment path owner i))
  unfolding of_segment
  segment-step s read looked =
      let t = segment_from path i in
      let same = ap (λ (u : Segment). later g (arc_chord u.v1 u.v2 owner i)) read in
      looked ∙ same ∙ ap (later g) (sym (fine-right (arc_chord t.v1 t.v2 owner i)))

-- ---- the quick test
pub inside-fine : (f : Checked) (path : List Float) (owner : ℕ) → InsideBelow path (vertex_count path)
    → f ≡ check_vertices f path owner
unfolding check_vertices
inside-fine f path owner all = sym (fine-right f) ∙ ap (later f) (inside.inside-fine path owner all)
