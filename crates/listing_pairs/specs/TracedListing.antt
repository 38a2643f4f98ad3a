-- The rule of traces, for any `look` and any list of pairs: what is listed by traces is what is listed of the pairs kept to those
-- not of one trace, and so many are looked at. If all traces of the first path are 0, nothing is passed over.
use Rattle.std.specs.Prelude.{◌≡◌, Bool, not, ◌&&◌, List, ◌⊎◌, ℕ, ◌+◌, ◌*◌, ◌≤◌, ◌<◌, length, Float}
use Rattle.std.proofs.Math.Path.{refl, ap, fun_ext}
use Rattle.std.proofs.Common.{◌∙◌, inl, inr, arith}
use Rattle.std.proofs.Math.Bool.{true, false, cond}
use Rattle.std.proofs.Math.ListN.{get_or-eq_default}
use Rattle.std.specs.Float.{nan}
use Rattle.floats.specs.Ops.{◌≈◌, ◌≻◌, f0}
use Rattle.paths.specs.Path.{numbers_a_vertex, vertex_count, number, trace}
use Rattle.paths.specs.Segments.{segment_from}
use Rattle.listing_pairs.specs.declared.row.Look.{Look}
use Rattle.listing_pairs.specs.declared.row.Look.TheVariants.{Skipped}
use Rattle.listing_pairs.specs.Order.{Pair}
use Rattle.listing_pairs.specs.Rows.{rows_of, looked_at}
use Rattle.listing_pairs.specs.Traces.{same_trace, one_trace, traced, traced_pairs}
use Rattle.listing_pairs.specs.Laws.Order.{lt-or-le}
use Rattle.listing_pairs.specs.Laws.Zero.{not-above, nan-not-above}
use Rattle.listing_pairs.specs.Laws.Skipped.{Skips, skipped-rows, skipped-looked}

module _ (first second : List Float) (f : ℕ → ℕ → Look) where
  by-traces : Skips f (λ p. not (one_trace first second p)) (traced first second f)
  unfolding traced
  by-traces i j = go (one_trace first second (record { i = i; j = j }))
    where
      go : (b : Bool) → cond b Skipped (f i j) ≡ cond (not b) (f i j) Skipped
      go true = refl
      go false = refl

  -- ---- the rows, and how many pairs are looked at
  pub traced-rows : (ps : List Pair) → rows_of (traced first second f) ps ≡ rows_of f (traced_pairs first second ps)
  traced-rows ps = skipped-rows f (λ p. not (one_trace first second p)) (traced first second f) by-traces ps

  pub traced-looked : (ps : List Pair) → looked_at (traced first second f) ps ≡ looked_at f (traced_pairs first second ps)
  traced-looked ps = skipped-looked f (λ p. not (one_trace first second p)) (traced first second f) by-traces ps

  -- ---- one pair
  module _ (i j : ℕ) where
    abbrev t : Float
    t = (segment_from first i).trace

    abbrev u : Float
    u = (segment_from second j).trace

    -- it is skipped if its traces are the same and above 0
    pub passed_over : (t ≈ u) ≡ true → (t ≻ f0) ≡ true → traced first second f i j ≡ Skipped
    unfolding traced one_trace
    passed_over same above =
        ap (λ (b : Bool). cond (b && (t ≻ f0)) Skipped (f i j)) same ∙ ap (λ (b : Bool). cond b Skipped (f i j)) above

    -- it gives what it gave if they differ, or if one is not above 0
    pub other-traces : (t ≈ u) ≡ false → traced first second f i j ≡ f i j
    unfolding traced one_trace
    other-traces differ = ap (λ (b : Bool). cond (b && (t ≻ f0)) Skipped (f i j)) differ

    pub no-trace : (t ≻ f0) ≡ false → traced first second f i j ≡ f i j
    unfolding traced one_trace
    no-trace none = ap (λ (b : Bool). cond b Skipped (f i j)) (ap (λ (b : Bool). (t ≈ u) && b) none ∙ never (t ≈ u))
      where
        never : (b : Bool) → (b && false) ≡ false
        never true = refl
        never false = refl

    pub not-of-one : one_trace first second (record { i = i; j = j }) ≡ false → traced first second f i j ≡ f i j
    unfolding traced
    not-of-one e = ap (λ (b : Bool). cond b Skipped (f i j)) e

-- ---- all traces of a path are 0, by value
abbrev pub AllZero : List Float → Type 0
AllZero path = (i : ℕ) → i < vertex_count path → (trace path i ≈ f0) ≡ true

-- beyond the last vertex there is no number, so nothing above 0
none_above : (path : List Float) → AllZero path → (i : ℕ) → ((segment_from path i).trace ≻ f0) ≡ false
unfolding segment_from trace
none_above path zero i = go (lt-or-le i (vertex_count path))
  where
    gone : (k : ℕ) → length path ≤ k → number path k ≡ nan
    gone k h = get_or-eq_default path nan h

    go : (i < vertex_count path) ⊎ (vertex_count path ≤ i) → (trace path i ≻ f0) ≡ false
    go (inl within) = not-above (trace path i) (zero i within)
    go (inr beyond) = ap (λ (x : Float). x ≻ f0) (gone (i * numbers_a_vertex + 3) (omega (arith, beyond))) ∙ nan-not-above

-- then the rule changes nothing
pub all-zero : (first second : List Float) (f : ℕ → ℕ → Look) → AllZero first → traced first second f ≡ f
all-zero first second f zero =
    fun_ext (λ i. fun_ext (λ j. no-trace first second f i j (none_above first zero i)))
