-- The numbers that stand for the cut path's names give the names back: number k divided by 4 is the old index, and the remainder
-- is the half.
use Rattle.std.specs.Prelude.{◌≡◌, refl, Bool, true, false, List, ℕ, ◌+◌, ◌*◌, ◌/◌, ◌%◌, ◌≤◌, ◌<◌, length, get_or, Float}
use Rattle.std.proofs.Common.{ap, ◌∙◌, arith}
use Rattle.std.proofs.lemmas.List.{length-map}
use Rattle.std.proofs.Math.ListN.{get_or-map}
use Rattle.paths.specs.Path.{vertex}
use Rattle.paths.specs.Laws.Segments.{few-segments}
use Rattle.cuts.specs.Cut.{is_large}
use Rattle.cuts.specs.CutPath.{Name, name, names, cut_count, name_at, word_of, name_words}
use Rattle.cuts.specs.Parts.{IsName}
use Rattle.cuts.specs.Segments.{named}

-- a half is 0, 1 or 2
half-small : (path : List Float) (closed : Bool) (n : Name) → IsName path closed n → n.half ≤ 2
half-small path closed n h = go (is_large (vertex path n.index).bulge) refl
  where
    none : {k : ℕ} → k ≡ 0 → k ≤ 2
    none e = omega arith

    go : (b : Bool) → is_large (vertex path n.index).bulge ≡ b → n.half ≤ 2
    go true e = (h.cut e).1
    go false e = none (h.whole e)

module _ (path : List Float) (closed : Bool) where
  abbrev pub word : ℕ → ℕ
  word k = get_or (name_words path closed) k 0

  -- one number for each segment of the cut path
  pub count : length (name_words path closed) ≡ cut_count path closed
  count = length-map (names path closed) word_of

  pub word-is : (k : ℕ) → word k ≡ word_of (name_at path closed k)
  word-is k = get_or-map word_of (names path closed) k (name 0 0)

  pub index : (k : ℕ) → k < cut_count path closed → word k / 4 ≡ (name_at path closed k).index
  index k h =
      let n = name_at path closed k in
      ap (λ (w : ℕ). w / 4) (word-is k) ∙ plain n.index n.half (half-small path closed n (named path closed k h))
    where
      plain : (i m : ℕ) → m ≤ 2 → (i * 4 + m) / 4 ≡ i
      plain i m l = omega arith

  pub half : (k : ℕ) → k < cut_count path closed → word k % 4 ≡ (name_at path closed k).half
  half k h =
      let n = name_at path closed k in
      ap (λ (w : ℕ). w % 4) (word-is k) ∙ plain n.index n.half (half-small path closed n (named path closed k h))
    where
      plain : (i m : ℕ) → m ≤ 2 → (i * 4 + m) % 4 ≡ m
      plain i m l = omega arith

  -- every number is below 4 * 4,096
  pub small : (k : ℕ) → k < cut_count path closed → word k < 16_384
  small k h =
      let n = name_at path closed k in
      let is = named path closed k h in
      omega (arith, word-is k, is.below, few-segments path closed, half-small path closed n is)
