-- Marks of pairs that made a row: src/marks.rt, function by function. Where the mark of a pair stands decides nothing: a pair that
-- shares another's mark is looked at once more.
use Rattle.std.specs.Prelude.{◌≡◌, Bool, List, [], ◌∷◌, ◌⊎◌, eqb, set}
use Rattle.std.proofs.Math.Path.{refl}
use Rattle.std.proofs.Common.{sym, ap, ◌∙◌, subst, true≢false, inl, inr, div-le_self, mod-lt, arith, shl_exact, get_or-set_other}
use Rattle.std.proofs.Math.Bool.{true, false, cond}
use Prim.Native.Nat.{ℕ, ◌+◌, ◌*◌, ◌/◌, ◌%◌, ◌^◌, ◌≤◌, ◌<◌}
use borrow.Author.Tests.{lt-ltb, le-ltb, ltb-true, ne_eqb}
use Rattle.std.specs.Int.Bits.{bit_or, bit_and, or_add_and}
use Rattle.std.proofs.lemmas.Nat.{and_le_l, and_le_r, or_shr, or_mod, shl-shr}
use Rattle.std.proofs.Math.Dec.{ltb}
use Rattle.std.proofs.Math.ListN.{length, get_or, length-set}
use Rattle.std.proofs.Math.Seq.{get_or-set_same}
use Rattle.boxes.specs.Workings.Next.{first, first-is}
use Rattle.listing_pairs.specs.declared.row.Row.{Row}
use Rattle.listing_pairs.specs.declared.row.Look.{Look}
use Rattle.listing_pairs.specs.declared.row.Look.TheVariants.{Made}
use Rattle.listing_pairs.specs.Laws.Order.{lt-or-le}
use Rattle.listing_pairs.specs.declared.order.Job.{Job}
use Rattle.listing_pairs.specs.Order.{Pair}
use Rattle.listing_pairs.specs.Workings.Job as JobDefs
use Rattle.sieves.specs.declared.marks.Grain.{Grain}

-- how many marks a word has, and the largest share
abbrev pub a_word : ℕ
a_word = 64

abbrev pub most_shift : ℕ
most_shift = 13

-- how many words there may be
abbrev pub most_words : ℕ
most_words = 16384

-- ---- where the mark of a pair stands
abbrev pub fine : ℕ → ℕ → ℕ → Bool
fine m stride shift = ltb (m / 2 ^ shift) stride

unfoldable pub grain_of : ℕ → ℕ → ℕ → Grain
grain_of n m words =
    cond (eqb n 0)
    (record { stride = 0; shift = most_shift })
    (record { stride = words * a_word / n; shift = first (fine m (words * a_word / n)) 0 most_shift })

unfoldable pub mark_of : Grain → ℕ → ℕ → ℕ
mark_of grain i j = i * grain.stride + j / 2 ^ grain.shift

-- a grain whose marks can be numbered
pub record Fair (grain : Grain) : Type 0 where
  pub stride : grain.stride ≤ most_words * a_word
  pub shift : grain.shift ≤ most_shift

-- ---- set and read
-- the word that has only this bit
abbrev pub bit_of : ℕ → ℕ
bit_of b = 1 * 2 ^ b % 18446744073709551616

unfoldable pub set_mark : List ℕ → ℕ → List ℕ
set_mark l p =
    cond (ltb (p / a_word) (length l)) (set l (p / a_word) (bit_or (get_or l (p / a_word) 0) (bit_of (p % a_word)))) l

unfoldable pub is_set : List ℕ → ℕ → Bool
is_set l p = cond (ltb (p / a_word) (length l)) (ltb 0 (get_or l (p / a_word) 0 / 2 ^ (p % a_word) % 2)) true

abbrev pub marked : List ℕ → Grain → ℕ → ℕ → Bool
marked l grain i j = is_set l (mark_of grain i j)

pub marked-of : (l : List ℕ) (grain : Grain) (i j p : ℕ) (said : Bool) → p ≡ mark_of grain i j → said ≡ is_set l p
    → said ≡ marked l grain i j
marked-of l grain i j p said e f = f ∙ ap (is_set l) e

-- ---- the grain, from the loop that looks for it
pub fair : (n m words : ℕ) → words ≤ most_words → Fair (grain_of n m words)
unfolding grain_of
fair n m words few = go (eqb n 0)
  where
    go : (none : Bool)
        → Fair (cond none (record { stride = 0; shift = most_shift })
        (record { stride = words * a_word / n; shift = first (fine m (words * a_word / n)) 0 most_shift }))
    go true = record { stride = omega arith; shift = omega arith }
    go false =
        record {
          stride = omega (arith, few, div-le_self (words * a_word) n);
          shift = (first-is (fine m (words * a_word / n)) 0 most_shift _ (omega arith) refl).high;
        }

pub some-grain : (n m words s : ℕ) → (n ≡ 0 → ⊥) → s ≡ first (fine m (words * a_word / n)) 0 most_shift
    → record { stride = words * a_word / n; shift = s } ≡ grain_of n m words
unfolding grain_of
some-grain n m words s some e = rw (ne_eqb n 0 some, e) refl

same_or_not : (a b : ℕ) → (a ≡ b) ⊎ (a ≡ b → ⊥)
same_or_not a b = go (lt-or-le a b) (lt-or-le b a)
  where
    go : (a < b) ⊎ (b ≤ a) → (b < a) ⊎ (a ≤ b) → (a ≡ b) ⊎ (a ≡ b → ⊥)
    go (inl h) k = inr (λ (e : a ≡ b). omega (arith, h, e))
    go (inr h) (inl k) = inr (λ (e : a ≡ b). omega (arith, k, e))
    go (inr h) (inr k) = inl (omega (arith, h, k))

-- ---- a mark that is set stays set, and what was marked is found again
module _ (a b : ℕ) where
  or-first : 0 < a → 0 < bit_or a b
  or-first h = omega (arith, or_add_and a b, and_le_r a b, h)

  or-second : 0 < b → 0 < bit_or a b
  or-second h = omega (arith, or_add_and a b, and_le_l a b, h)

-- a bit of both together
or-bit : (a b k : ℕ) → bit_or a b / 2 ^ k % 2 ≡ bit_or (a / 2 ^ k % 2) (b / 2 ^ k % 2)
or-bit a b k = ap (λ (n : ℕ). n % 2) (or_shr a b k) ∙ or_mod (a / 2 ^ k) (b / 2 ^ k) 1

own-bit : (b : ℕ) → b < 64 → bit_of b / 2 ^ b % 2 ≡ 1
own-bit b few =
    ap (λ (n : ℕ). n / 2 ^ b % 2) (shl_exact 1 b 64 (omega arith) (omega (arith, few)))
    ∙ ap (λ (n : ℕ). n % 2) (shl-shr 1 b)

module _ (l : List ℕ) (p : ℕ) where
  abbrev at : ℕ
  at = p / a_word

  abbrev word : ℕ
  word = bit_or (get_or l at 0) (bit_of (p % a_word))

  pub set-length : length (set_mark l p) ≡ length l
  unfolding set_mark
  set-length = go (ltb at (length l))
    where
      go : (inside : Bool) → length (cond inside (set l at word) l) ≡ length l
      go true = length-set l at word
      go false = refl

  pub set-itself : is_set (set_mark l p) p ≡ true
  unfolding set_mark is_set
  set-itself = go (ltb at (length l)) refl
    where
      go : (inside : Bool) → ltb at (length l) ≡ inside
          → (let m = cond inside (set l at word) l in
          cond (ltb at (length m)) (ltb 0 (get_or m at 0 / 2 ^ (p % a_word) % 2)) true ≡ true)
      go true e =
          let less : at < length l = ltb-true at (length l) e in
          let own : get_or (set l at word) at 0 ≡ word = get_or-set_same l at word 0 less in
          let bit = or-second (get_or l at 0 / 2 ^ (p % a_word) % 2) (bit_of (p % a_word) / 2 ^ (p % a_word) % 2)
          (omega (arith, own-bit (p % a_word) (mod-lt p (omega arith)))) in
          rw (length-set l at word, e, own, or-bit (get_or l at 0) (bit_of (p % a_word)) (p % a_word)) (lt-ltb _ _ bit)
      go false e = rw e refl

  pub set-still : (q : ℕ) → is_set l q ≡ true → is_set (set_mark l p) q ≡ true
  unfolding set_mark is_set
  set-still q was = go (ltb at (length l)) refl
    where
      there : ℕ
      there = q / a_word

      go : (inside : Bool) → ltb at (length l) ≡ inside
          → (let m = cond inside (set l at word) l in
          cond (ltb there (length m)) (ltb 0 (get_or m there 0 / 2 ^ (q % a_word) % 2)) true ≡ true)
      go false e = was
      go true e = rw (length-set l at word) (by (ltb there (length l)) refl was)
        where
          by : (known : Bool) → ltb there (length l) ≡ known
              → cond known (ltb 0 (get_or l there 0 / 2 ^ (q % a_word) % 2)) true ≡ true
              → cond known (ltb 0 (get_or (set l at word) there 0 / 2 ^ (q % a_word) % 2)) true ≡ true
          by false f h = refl
          by true f h = here (same_or_not there at)
            where
              here : (there ≡ at) ⊎ (there ≡ at → ⊥)
                  → ltb 0 (get_or (set l at word) there 0 / 2 ^ (q % a_word) % 2) ≡ true
              here (inr other) = rw (get_or-set_other l at there word 0 other) h
              here (inl is) =
                  let less : at < length l = ltb-true at (length l) e in
                  let stands : get_or (set l at word) there 0 ≡ word =
                  ap (λ (n : ℕ). get_or (set l at word) n 0) is ∙ get_or-set_same l at word 0 less in
                  let bit : 0 < get_or l at 0 / 2 ^ (q % a_word) % 2 = subst
                  (λ (n : ℕ). 0 < get_or l n 0 / 2 ^ (q % a_word) % 2) is (ltb-true _ _ h) in
                  rw (stands, or-bit (get_or l at 0) (bit_of (p % a_word)) (q % a_word))
                  (lt-ltb _ _ (or-first _ (bit_of (p % a_word) / 2 ^ (q % a_word) % 2) bit))

-- ---- what a walk notes: each of these pairs that makes a row has its mark
unfoldable pub Noted : (ℕ → ℕ → Look) → Grain → List Pair → List ℕ → Type 0
Noted f grain [] l = Unit {0}
Noted f grain (p ∷ ps) l =
    ((r : Row) → f p.i p.j ≡ Made r → marked l grain p.i p.j ≡ true) × Noted f grain ps l

-- marks are only added
abbrev pub More : List ℕ → List ℕ → Type 0
More l m = (p : ℕ) → is_set l p ≡ true → is_set m p ≡ true

pub noted_more : (f : ℕ → ℕ → Look) (grain : Grain) (ps : List Pair) (l m : List ℕ) → More l m → Noted f grain ps l
    → Noted f grain ps m
unfolding Noted
noted_more f grain [] l m more h = tt
noted_more f grain (p ∷ ps) l m more h =
    ((λ r e. more (mark_of grain p.i p.j) (h.0 r e)), noted_more f grain ps l m more h.1)

-- ---- what a walk from the pair (i, j) on needs, and what it leaves, if it recalls or notes
-- the grain for so many words
abbrev pub grain_for : Job → List ℕ → Grain
grain_for job marks = grain_of job.n job.m (length marks)

pub record Recalls (f : ℕ → ℕ → Look) (job : Job) (i j : ℕ) (recalling : Bool) (marks : List ℕ) : Type 0 where
  pub few : length marks ≤ most_words
  pub noted : recalling ≡ true → Noted f (grain_for job marks) (JobDefs.left job i j) marks

-- a walk that notes and comes to the end has noted all
pub record Notes (f : ℕ → ℕ → Look) (job : Job) (i j : ℕ) (noting ended : Bool) (old now : List ℕ) : Type 0 where
  pub long : length now ≡ length old
  pub noted : noting ≡ true → ended ≡ true → Noted f (grain_for job old) (JobDefs.left job i j) now

-- a walk that recalls nothing needs no marks
pub no-recall : (f : ℕ → ℕ → Look) (job : Job) (i j : ℕ) (marks : List ℕ) → length marks ≤ most_words
    → Recalls f job i j false marks
no-recall f job i j marks few = record { few = few; noted = λ e. absurd (true≢false (sym e)) }

-- what a walk that came to the end noted can be recalled
pub recall-noted : (f : ℕ → ℕ → Look) (job : Job) (i j : ℕ) (old now : List ℕ) (ended : Bool) → length old ≤ most_words
    → Notes f job i j true ended old now → ended ≡ true → Recalls f job i j true now
recall-noted f job i j old now ended few notes e =
    record {
      few = omega (arith, few, notes.long);
      noted = λ h. rw notes.long (notes.noted refl e);
    }
