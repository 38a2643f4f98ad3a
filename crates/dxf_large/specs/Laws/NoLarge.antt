-- A path with no bulge above 1 in magnitude: its checks are those of the old mode.
use Rattle.checks.specs.Checked.{Checked}
use Rattle.std.specs.Prelude.{ℕ, zero, suc, ◌+◌, ◌≤◌, ◌<◌, ◌≡◌, Bool, true, false, List, [], ◌∷◌, ◌++◌, T, Float}
use Rattle.std.proofs.Math.Path.{refl, ap}
use Rattle.std.proofs.Common.{sym, ◌∙◌, subst, arith}
use Rattle.std.specs.Float.{nan, inf, fin}
use Rattle.std.specs.Float.Ieee.{lt, le, is_nan, of_bits}
use Rattle.float_laws.specs.Chains.{not-both, not-below, le_trans}
use Rattle.floats.specs.Ops.{f1}
use Rattle.floats.specs.F64
use Rattle.checks.specs.declared.fault.Item.TheVariants.{Bulge, Trace}
use Rattle.checks.specs.declared.fault.Place.{Place}
use Rattle.checks.specs.Fault.{at}
use Rattle.checks.specs.Each
use Rattle.checks.specs.Limit
use Rattle.checks.specs.Lists as lists
use Rattle.checks.specs.Number.{beyond}
use Rattle.checks.specs.Refusal
use Rattle.paths.specs.Path.{vertex_count, vertex, trace}
use Rattle.paths.specs.Segments.{segment_count, segment_from}
use Rattle.paths.specs.Check.{along, path_checks}
use Rattle.paths.specs.Check as old
use Rattle.paths.specs.Laws.Segments.{count-within}
use Rattle.cuts.specs.Cut.{is_large}
use Rattle.cuts.specs.LargeChecks as large

-- ---- a bulge

decide : (y : Float) → is_nan y ≡ false → lt f1 y ≡ false → lt Limit.large_bulge y ≡ false
unfolding is_nan of_bits le
decide y real e = go (lt Limit.large_bulge y) refl
  where
    go : (b : Bool) → lt Limit.large_bulge y ≡ b → b ≡ false
    go false h = refl
    go true h =
        absurd (not-both y Limit.large_bulge (le_trans y f1 Limit.large_bulge (not-below y f1 real refl e) tt) (subst T (sym h) tt))

-- what is not above 1 is not above 16
not-larger : (y : Float) → lt f1 y ≡ false → lt Limit.large_bulge y ≡ false
unfolding is_nan of_bits lt
not-larger nan e = refl
not-larger (inf s) e = decide (inf s) refl e
not-larger (fin s m x) e = decide (fin s m x) refl e

same-bulge : (b : Float) (p : Place) → is_large b ≡ false → Each.large_bulge b p ≡ Each.bulge b p
unfolding is_large beyond Each.large_bulge Each.bulge
same-bulge b p e = ap (λ (t : Bool). Each.finite_then b t Refusal.bulge p) (not-larger (F64.abs b) e ∙ sym e)

-- ---- a path

along-same : (f g : ℕ → List Checked) (i k : ℕ) → ((j : ℕ) → i ≤ j → j < i + k → f j ≡ g j) → along f i k ≡ along g i k
along-same f g i zero same = refl
along-same f g i (suc k) same =
    ap (λ (l : List Checked). l ++ along f (i + 1) k) (same i (omega arith) (omega arith))
    ∙ ap (λ (l : List Checked). g i ++ l) (along-same f g (i + 1) k (λ j a b. same j (omega (arith, a)) (omega (arith, b))))

module _ (path : List Float) (none : (i : ℕ) → i < vertex_count path → is_large (vertex path i).bulge ≡ false) where
  vertex-same : (i : ℕ) → i < vertex_count path → large.of_vertex path 0 i ≡ old.of_vertex path 0 i
  unfolding large.of_vertex old.of_vertex
  vertex-same i h =
      let v = vertex path i in
      ap
      (λ (c : Checked). lists.point_checks v.x v.y 0 i ++ (c ∷ []) ++ (Each.trace (trace path i) (at 0 i Trace) ∷ []))
      (same-bulge v.bulge (at 0 i Bulge) (none i h))

  segment-same : (i : ℕ) → i < vertex_count path → large.of_segment path 0 i ≡ old.of_segment path 0 i
  unfolding large.of_segment large.segment_checks old.of_segment segment_from
  segment-same i h = rw (none i h) refl

  pub checks-same : (closed : Bool) → large.large_path_checks path closed 0 ≡ path_checks path closed 0
  checks-same closed =
      ap (λ (l : List Checked). l ++ large.all_segments path closed 0)
      (along-same (large.of_vertex path 0) (old.of_vertex path 0) 0 (vertex_count path)
      (λ j a b. vertex-same j (omega (arith, b))))
      ∙ ap (λ (l : List Checked). old.vertex_checks path 0 ++ l)
      (along-same (large.of_segment path 0) (old.of_segment path 0) 0 (segment_count path closed)
      (λ j a b. segment-same j (omega (arith, b, count-within path closed))))
