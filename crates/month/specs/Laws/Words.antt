-- The words of reports: a sum of two, word by word; a look for a word above a limit; and one report added to another.
use Rattle.std.specs.Prelude.{◌≡◌, Bool, true, false, ◌||◌, List, [], ◌∷◌, ℕ, zero, suc, ◌+◌, ◌-◌, ◌≤◌, ◌<◌, leb, ltb, length, get_or, take, drop, set, replicate}
use Rattle.std.proofs.Math.Path.{refl, ap}
use Rattle.std.proofs.Common.{sym, ◌∙◌, zero-le, add-zero, add-one, arith, lt-ltb, le-ltb, ltb-true, ltb-false, leb-true, leb-false, le-leb, length-set, take_all, length-take-le, get_or-take}
use Rattle.std.proofs.lemmas.Bool.{lt-leb}
use Rattle.std.proofs.Math.Seq.{slice, slice-cons, slice_empty}
use Rattle.month.specs.Report.{words, layouts, pairs, most_layouts, most_added, largest, most_held, word, some_above, full, plus}
use Rattle.month.specs.Join.{too_much}
use Rattle.month.specs.Workings.Sums.{AllFit}

-- ---- sums
pub plus_none : (a : List ℕ) → plus a [] ≡ a
plus_none [] = refl
plus_none (w ∷ ws) = refl

pub length-plus : (a b : List ℕ) → length (plus a b) ≡ length a
length-plus [] [] = refl
length-plus [] (x ∷ b) = refl
length-plus (w ∷ a) [] = refl
length-plus (w ∷ a) (x ∷ b) = ap suc (length-plus a b)

pub word-plus : (a b : List ℕ) (k : ℕ) → k < length a → word (plus a b) k ≡ word a k + word b k
word-plus [] b k h = absurd (omega (arith, h))
word-plus (w ∷ a) [] k h = sym (add-zero (word (w ∷ a) k))
word-plus (w ∷ a) (x ∷ b) zero h = refl
word-plus (w ∷ a) (x ∷ b) (suc k) h = word-plus a b k (omega (arith, h))

pub word_same : (a b : List ℕ) (k : ℕ) → word b k ≡ 0 → word (plus a b) k ≡ word a k
word_same [] [] k e = refl
word_same [] (x ∷ b) k e = refl
word_same (w ∷ a) [] k e = refl
word_same (w ∷ a) (x ∷ b) zero e = omega (arith, e)
word_same (w ∷ a) (x ∷ b) (suc k) e = word_same a b k e

pub zeros : (n k : ℕ) → word (replicate n 0) k ≡ 0
zeros zero k = refl
zeros (suc n) zero = refl
zeros (suc n) (suc k) = zeros n k

pub plus-nothing : (b : List ℕ) → plus [] b ≡ []
plus-nothing [] = refl
plus-nothing (x ∷ b) = refl

pub drop-plus : (n : ℕ) (a b : List ℕ) → drop n (plus a b) ≡ plus (drop n a) (drop n b)
drop-plus zero a b = refl
drop-plus (suc n) [] [] = refl
drop-plus (suc n) [] (x ∷ b) = sym (plus-nothing (drop n b))
drop-plus (suc n) (w ∷ a) [] = sym (plus_none (drop n a))
drop-plus (suc n) (w ∷ a) (x ∷ b) = drop-plus n a b

-- ---- is some word above a limit?
module _ (limit : ℕ) (l : List ℕ) (k t : ℕ) (before : k < t) (long : t ≤ length l) where
  one_more : some_above limit (slice k t l) ≡ (ltb limit (word l k) || some_above limit (slice (suc k) t l))
  one_more = ap (some_above limit) (slice-cons k t l 0 before long)

  pub above-found : limit < word l k → some_above limit (slice k t l) ≡ true
  above-found h = one_more ∙ ap (λ (b : Bool). b || some_above limit (slice (suc k) t l)) (lt-ltb limit (word l k) h)

  pub above-later : word l k ≤ limit → some_above limit (slice k t l) ≡ some_above limit (slice (k + 1) t l)
  above-later h =
      one_more
      ∙ ap (λ (b : Bool). b || some_above limit (slice (suc k) t l)) (le-ltb limit (word l k) h)
      ∙ ap (λ (i : ℕ). some_above limit (slice i t l)) (sym (add-one k))

-- A loop that looks at the words from k on: what it is to answer is whether one of these is above the limit.
pub record Looking (whole : Bool) (limit : ℕ) (l : List ℕ) (k t : ℕ) : Type 0 where
  pub left : whole ≡ some_above limit (slice k t l)
  pub within : k ≤ t

module _ {whole : Bool} {limit k t : ℕ} {l : List ℕ} where
  pub looking-found : Looking whole limit l k t → k < t → t ≤ length l → limit < word l k → true ≡ whole
  looking-found s before long h = sym (s.left ∙ above-found limit l k t before long h)

  pub looking-on : Looking whole limit l k t → k < t → t ≤ length l → word l k ≤ limit → Looking whole limit l (k + 1) t
  looking-on s before long h =
      record { left = s.left ∙ above-later limit l k t before long h; within = omega (arith, before) }

  pub looking-ends : Looking whole limit l k t → t ≤ k → false ≡ whole
  looking-ends s done =
      let e : k ≡ t = omega (arith, s.within, done) in
      sym (s.left ∙ ap (λ (i : ℕ). some_above limit (slice i t l)) e ∙ ap (some_above limit) (slice_empty t l))

-- ---- is a report full?
module _ (report : List ℕ) where
  pub full-by-layouts : most_layouts ≤ word report layouts → true ≡ full report
  unfolding full
  full-by-layouts h = rw (le-leb most_layouts (word report layouts) h) refl

  pub full-starts : word report layouts < most_layouts → Looking (full report) most_held report pairs words
  unfolding full
  full-starts h =
      record {
        left = ap (λ (b : Bool). b || some_above most_held (slice pairs words report)) (lt-leb most_layouts (word report layouts) h);
        within = omega arith;
      }

-- ---- is the sum of two reports too much?
abbrev pub sums : List ℕ → List ℕ → List ℕ
sums a b = plus (take words a) (take words b)

-- a loop that looks at the sums from word k on
abbrev pub MuchLeft : List ℕ → List ℕ → ℕ → Type 0
MuchLeft a b k = Looking (too_much a b) largest (sums a b) k words

module _ (a b : List ℕ) (long-a : words ≤ length a) (long-b : words ≤ length b) where
  pub length-sums : length (sums a b) ≡ words
  length-sums = length-plus (take words a) (take words b) ∙ length-take-le words a long-a

  pub word-sums : (k : ℕ) → k < words → word (sums a b) k ≡ word a k + word b k
  word-sums k h =
      word-plus (take words a) (take words b) k (omega (arith, h, length-take-le words a long-a))
      ∙ ap (λ (x : ℕ). x + word (take words b) k) (get_or-take words a k 0 h)
      ∙ ap (λ (x : ℕ). word a k + x) (get_or-take words b k 0 h)

  pub much-by-layouts : most_layouts < word a layouts + word b layouts → true ≡ too_much a b
  unfolding too_much
  much-by-layouts h = rw (lt-ltb most_layouts (word a layouts + word b layouts) h) refl

  pub much-starts : word a layouts + word b layouts ≤ most_layouts → MuchLeft a b 0
  unfolding too_much
  much-starts h =
      record {
        left =
            ap (λ (c : Bool). c || some_above largest (sums a b)) (le-ltb most_layouts (word a layouts + word b layouts) h)
            ∙ ap (some_above largest) (sym (take_all words (sums a b) (omega (arith, length-sums))));
        within = omega arith;
      }

  pub much-found : (k : ℕ) → MuchLeft a b k → k < words → largest < word a k + word b k → true ≡ too_much a b
  much-found k s below h = looking-found s below (omega (arith, length-sums)) (omega (arith, h, word-sums k below))

  pub much-on : (k : ℕ) → MuchLeft a b k → k < words → word a k + word b k ≤ largest → MuchLeft a b (k + 1)
  much-on k s below h = looking-on s below (omega (arith, length-sums)) (omega (arith, h, word-sums k below))

-- ---- one report added to another, word by word: after k turns the first k words are added
pub record Adding (before other now : List ℕ) (k : ℕ) : Type 0 where
  pub front : now ≡ plus before (take k other)
  pub within : k ≤ words

untouched : (a b : List ℕ) (k : ℕ) → word (plus a (take k b)) k ≡ word a k
untouched [] [] zero = refl
untouched [] [] (suc k) = refl
untouched [] (x ∷ b) zero = refl
untouched [] (x ∷ b) (suc k) = refl
untouched (w ∷ a) [] zero = refl
untouched (w ∷ a) [] (suc k) = refl
untouched (w ∷ a) (x ∷ b) zero = refl
untouched (w ∷ a) (x ∷ b) (suc k) = untouched a b k

one-added : (a b : List ℕ) (k : ℕ) → k < length a → k < length b
    → set (plus a (take k b)) k (word a k + word b k) ≡ plus a (take (suc k) b)
one-added [] b k h g = absurd (omega (arith, h))
one-added (w ∷ a) [] k h g = absurd (omega (arith, g))
one-added (w ∷ a) (x ∷ b) zero h g = ap (λ (l : List ℕ). (w + x) ∷ l) (sym (plus_none a))
one-added (w ∷ a) (x ∷ b) (suc k) h g =
    ap (λ (l : List ℕ). (w + x) ∷ l) (one-added a b k (omega (arith, h)) (omega (arith, g)))

module _ {before other now : List ℕ} {k : ℕ} where
  -- word k is still what it was
  pub adding-same : Adding before other now k → word now k ≡ word before k
  adding-same s = ap (λ (l : List ℕ). word l k) s.front ∙ untouched before other k

  pub adding-long : Adding before other now k → length now ≡ length before
  adding-long s = ap length s.front ∙ length-plus before (take k other)

  pub adding-turn : Adding before other now k → k < words → words ≤ length before → words ≤ length other
      → Adding before other (set now k (word now k + word other k)) (k + 1)
  adding-turn s below long-a long-b =
      record {
        front =
            ap (λ (l : List ℕ). set l k (word now k + word other k)) s.front
            ∙ ap (λ (x : ℕ). set (plus before (take k other)) k (x + word other k)) (adding-same s)
            ∙ one-added before other k (omega (arith, below, long-a)) (omega (arith, below, long-b))
            ∙ ap (λ (i : ℕ). plus before (take i other)) (sym (add-one k));
        within = omega (arith, below);
      }

  pub adding-ends : Adding before other now k → words ≤ k → now ≡ plus before (take words other)
  adding-ends s done =
      let e : k ≡ words = omega (arith, s.within, done) in s.front ∙ ap (λ (i : ℕ). plus before (take i other)) e

pub adding-starts : (before other : List ℕ) → Adding before other before 0
adding-starts before other = record { front = sym (plus_none before); within = zero-le }

-- no word of the sum is above the largest, so each sum fits
pub nothing_above : (limit : ℕ) (l : List ℕ) → some_above limit l ≡ false → (k : ℕ) → k < length l → word l k ≤ limit
nothing_above limit [] e k h = absurd (omega (arith, h))
nothing_above limit (w ∷ l) e zero h = go (ltb limit w) (ltb-false limit w) e
  where
    go : (b : Bool) → (b ≡ false → w ≤ limit) → (b || some_above limit l) ≡ false → w ≤ limit
    go true f e = f e
    go false f e = f refl
nothing_above limit (w ∷ l) e (suc k) h = nothing_above limit l (go (ltb limit w) e) k (omega (arith, h))
  where
    go : (b : Bool) → (b || some_above limit l) ≡ false → some_above limit l ≡ false
    go true e = absurd (no e)
      where
        no : true ≡ false → ⊥
        no e = let z : ◌≡◌ {A = ℕ} 0 1 = cc in omega (arith, z)
    go false e = e

pub much-fits : (a b : List ℕ) → words ≤ length a → words ≤ length b → false ≡ too_much a b → AllFit a b
unfolding too_much
much-fits a b long-a long-b e =
    record {
      each =
          λ k h.
          let small = nothing_above largest (sums a b)
          (second (ltb most_layouts (word a layouts + word b layouts)) (some_above largest (sums a b)) (sym e)) k
          (omega (arith, h, length-sums a b long-a long-b)) in
          omega (arith, small, word-sums a b long-a long-b k h);
    }
  where
    second : (b c : Bool) → (b || c) ≡ false → c ≡ false
    second true c e = absurd (no e)
      where
        no : true ≡ false → ⊥
        no e = let z : ◌≡◌ {A = ℕ} 0 1 = cc in omega (arith, z)
    second false c e = e
