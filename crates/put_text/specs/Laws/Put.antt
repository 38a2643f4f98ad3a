-- Bytes put one after the other, taken together; and the digits of a number, and how many there are.
use Rattle.std.specs.Prelude.{ℕ, suc, ◌+◌, ◌/◌, ◌%◌, ◌^◌, ◌≤◌, ◌<◌, ◌≡◌, refl, List, [], ◌∷◌, ◌++◌, length, set, get_or, drop}
use Rattle.std.proofs.Common.{ap, ◌∙◌, add-zero, arith, add-one, length-append, drop_of_length-le, drop-cons}
use Rattle.std.proofs.lemmas.List.Edits.{sets}
use Rattle.put_text.specs.Decimal.{decimal}
use Rattle.put_text.specs.Sizes.{whole}
use Rattle.put_text.specs.Workings.Put.{Put, PutIn}
use Rattle.put_text.specs.Laws.Decimal.{decimal-small, decimal-large, decimal-long}

sets-append : (a b old : List ℕ) (at : ℕ) → sets (sets old at a) (at + length a) b ≡ sets old at (a ++ b)
sets-append [] b old at = rw add-zero
sets-append (x ∷ a) b old at =
    let e : at + suc (length a) ≡ suc at + length a = omega arith in
    rw e (sets-append a b (set old at x) (suc at))

pub put-none : (old : List ℕ) (at : ℕ) → Put [] old at old at
put-none old at = record { holds = refl; after = omega arith }

pub put_one : (old : List ℕ) (at b : ℕ) → Put (b ∷ []) old at (set old at b) (at + 1)
put_one old at b = record { holds = refl; after = refl }

pub put-join : {a b old mid now : List ℕ} {at k next : ℕ} → Put a old at mid k → Put b mid k now next
    → Put (a ++ b) old at now next
put-join {a} {b} {old} {mid} {now} {at} {k} {next} p q =
    let from : sets mid k b ≡ sets (sets old at a) (at + length a) b = rw (p.holds, p.after) in
    let long = length-append a b in
    record { holds = q.holds ∙ from ∙ sets-append a b old at; after = omega (arith, p.after, q.after, long) }

-- the same, with the most bytes that there may be
pub in-join : {m n : ℕ} {a b old mid now : List ℕ} {at k next : ℕ} → PutIn m a old at mid k → PutIn n b mid k now next
    → PutIn (m + n) (a ++ b) old at now next
in-join p q = record { is-put = put-join p.is-put q.is-put; short = omega (arith, p.short, q.short) }

pub within : {m n : ℕ} {a old now : List ℕ} {at next : ℕ} → m ≤ n → PutIn m a old at now next → PutIn n a old at now next
within h p = record { is-put = p.is-put; short = omega (arith, p.short) }

-- ---- decimal digits

pub small-long : (n : ℕ) → n < 10 → length (decimal n) ≡ 1
small-long n h = rw (decimal-small n h)

pub large-long : (n : ℕ) → 10 ≤ n → length (decimal n) ≡ length (decimal (n / 10)) + 1
large-long n h = rw (decimal-large n h) (length-append (decimal (n / 10)) ((48 + n % 10) ∷ []))

pub put_small : (n : ℕ) → n < 10 → (old : List ℕ) (at : ℕ) → Put (decimal n) old at (set old at (48 + n)) (at + 1)
put_small n h old at = rw (decimal-small n h) (put_one old at (48 + n))

pub put-large : (n : ℕ) → 10 ≤ n → {old mid : List ℕ} {at k : ℕ} → Put (decimal (n / 10)) old at mid k
    → Put (decimal n) old at (set mid k (48 + n % 10)) (k + 1)
put-large n h {old} {mid} {at} {k} p = rw (decimal-large n h) (put-join p (put_one mid k (48 + n % 10)))

-- ---- the place of the last digit lies in the slice

pub last-inside : {bytes old now : List ℕ} {at next : ℕ} (most : ℕ) → Put bytes old at now next → length bytes + 1 ≡ most
    → at + most ≤ length old → length now ≡ length old → next < length now
last-inside most p e h same = omega (arith, p.after)

-- ---- a word, byte by byte

module _ (word out : List ℕ) (at i : ℕ) where
  pub word-turn : i < length word
      → sets (set out (at + i) (get_or word i 0)) (at + (i + 1)) (drop (i + 1) word) ≡ sets out (at + i) (drop i word)
  word-turn h =
      let e : at + (i + 1) ≡ suc (at + i) = omega arith in
      rw (e, drop-cons word i 0 h, add-one i)

  pub word_end : (old : List ℕ) → i ≤ length word → length word ≤ i → sets out (at + i) (drop i word) ≡ sets old at word
      → Put word old at out (at + i)
  word_end old h g e =
      let same : i ≡ length word = omega arith in
      record { holds = rw (drop_of_length-le word g) at e; after = ap (λ (k : ℕ). at + k) same }

-- a word of at most this many bytes
pub word_in : (most : ℕ) {word old now : List ℕ} {at next : ℕ} → Put word old at now next → length word ≤ most
    → PutIn most word old at now next
word_in most p h = record { is-put = p; short = omega (arith, p.after) }

pub decimal-in : (n : ℕ) → n < 10 ^ 20 → {old now : List ℕ} {at next : ℕ} → Put (decimal n) old at now next
    → PutIn whole (decimal n) old at now next
decimal-in n h p = word_in whole p (decimal-long 19 n h)
