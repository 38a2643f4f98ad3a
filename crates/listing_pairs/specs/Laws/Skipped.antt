-- To skip some pairs is to leave them out: the rows are the same, and so is how many pairs are looked at. For any `look` and
-- test; so it is for pairs whose boxes do not meet.
use Rattle.std.specs.Prelude.{◌≡◌, Bool, true, false, cond, List, [], ◌∷◌, ℕ, Float}
use Rattle.std.proofs.Math.Path.{refl}
use Rattle.std.proofs.Common.{ap, ◌∙◌}
use Rattle.listing_pairs.specs.declared.row.Row.{Row}
use Rattle.listing_pairs.specs.declared.row.Look.{Look}
use Rattle.listing_pairs.specs.declared.row.Look.TheVariants.{Skipped}
use Rattle.listing_pairs.specs.Order.{Pair, those}
use Rattle.listing_pairs.specs.Rows.{onto, count, rows_of, looked_at}
use Rattle.listing_pairs.specs.Boxed.{boxes_meet, boxed_pairs}
use Rattle.listing_pairs.specs.Workings.Ready.{boxed_look}

-- g gives what f gives where the test says yes, and skips the other pairs
abbrev pub Skips : (ℕ → ℕ → Look) → (Pair → Bool) → (ℕ → ℕ → Look) → Type 0
Skips f test g = (i j : ℕ) → g i j ≡ cond (test (record { i = i; j = j })) (f i j) Skipped

module _ (f : ℕ → ℕ → Look) (test : Pair → Bool) (g : ℕ → ℕ → Look) (is : Skips f test g) where
  pub skipped-rows : (ps : List Pair) → rows_of g ps ≡ rows_of f (those test ps)
  skipped-rows [] = refl
  skipped-rows (p ∷ ps) =
      ap (λ (s : Look). onto s (rows_of g ps)) (is p.i p.j) ∙ go (test p) (skipped-rows ps)
    where
      go : (t : Bool) → rows_of g ps ≡ rows_of f (those test ps)
          → onto (cond t (f p.i p.j) Skipped) (rows_of g ps)
          ≡ rows_of f (cond t (p ∷ those test ps) (those test ps))
      go true e = ap (onto (f p.i p.j)) e
      go false e = e

  pub skipped-looked : (ps : List Pair) → looked_at g ps ≡ looked_at f (those test ps)
  skipped-looked [] = refl
  skipped-looked (p ∷ ps) =
      ap (λ (s : Look). count s (looked_at g ps)) (is p.i p.j) ∙ go (test p) (skipped-looked ps)
    where
      go : (t : Bool) → looked_at g ps ≡ looked_at f (those test ps)
          → count (cond t (f p.i p.j) Skipped) (looked_at g ps)
          ≡ looked_at f (cond t (p ∷ those test ps) (those test ps))
      go true e = ap (count (f p.i p.j)) e
      go false e = e

module _ (first second : List Float) (epsilon : Float) (f : ℕ → ℕ → Look) (ps : List Pair) where
  by-boxes : Skips f (boxes_meet first second epsilon) (boxed_look first second epsilon f)
  unfolding boxed_look
  by-boxes i j = refl

  pub boxed-rows : rows_of (boxed_look first second epsilon f) ps ≡ rows_of f (boxed_pairs first second epsilon ps)
  boxed-rows = skipped-rows f (boxes_meet first second epsilon) (boxed_look first second epsilon f) by-boxes ps

  pub boxed-looked : looked_at (boxed_look first second epsilon f) ps ≡ looked_at f (boxed_pairs first second epsilon ps)
  boxed-looked = skipped-looked f (boxes_meet first second epsilon) (boxed_look first second epsilon f) by-boxes ps
