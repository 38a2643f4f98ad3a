-- Numbers: the groups of a number within its range are read as that number, and what is read is the groups of such a number. So
-- no number's groups start with those of another.
use Rattle.std.specs.Prelude.{ℕ, suc, ◌+◌, ◌*◌, ◌-◌, ◌/◌, ◌%◌, ◌≤◌, ◌<◌, ◌≡◌, Bool, not, T, ltb, length}
use Rattle.std.proofs.Math.Path.{refl}
use Rattle.std.proofs.Common.{sym, ap, ◌∙◌, subst, pos_of_ne-zero, ltb→lt, nltb→le}
use Rattle.std.proofs.Math.Bool.{true, false, cond}
use mathlib.Core.List.{List, [], ◌∷◌, ◌++◌}
use Rattle.std.proofs.Math.Nat.{mul-le-mul_right}
use native.Mathlib.Omega.{arith}
use Rattle.std.proofs.Math.Dec.{eqb}
use borrow.Author.Tests.{eqb-false, lt-ltb, le-ltb, ne_eqb}
use Rattle.layout_packed.specs.Groups.{groups_of}
use Rattle.layout_packed.specs.Workings.Reader.{Got, fault, got, more_from, number_from}
use Rattle.layout_packed.specs.Laws.Groups.{groups-small, groups-large, groups-more, by-groups}

-- `fault` is never `got`
pub never : {A P : Type 0} {a : A} {k next : ℕ} {rest : List ℕ} → ◌≡◌ {A = Got A} (fault k) (got a next rest) → P
never e = let z : ◌≡◌ {A = ℕ} 0 1 = cc in absurd (omega arith)

pub same-fault : {A : Type 0} {k j : ℕ} → ◌≡◌ {A = Got A} (fault j) (fault k) → k ≡ j
same-fault e = cc

-- ---- the groups of a number are read

module _ (most start : ℕ) (rest : List ℕ) where
  -- one more group, that is the last; and one that is not
  last-group : (scale n at k : ℕ) → 0 < k → k < 128 → n + k * scale ≤ most
      → more_from most start scale n at (k ∷ rest) ≡ got (n + k * scale) (at + 1) rest
  unfolding more_from
  last-group scale n at k p small h =
      let near : scale ≤ most = omega (arith, mul-le-mul_right scale p) in
      rw (le-ltb _ _ near, lt-ltb _ _ small, ne_eqb k 0 (λ z. omega arith), le-ltb _ _ h)

  next-group : (scale n at b : ℕ) (t : List ℕ) → scale ≤ most → b < 128
      → more_from most start scale n at ((128 + b) ∷ t) ≡ more_from most start (scale * 128) (n + b * scale) (at + 1) t
  unfolding more_from
  next-group scale n at b t near small =
      let high : 128 ≤ 128 + b = omega arith in
      let byte : 128 + b < 256 = omega arith in
      let back : 128 + b - 128 ≡ b = omega arith in
      rw (le-ltb _ _ near, le-ltb _ _ high, lt-ltb _ _ byte, back)

  pub more-read : (k scale n at : ℕ) → 0 < k → n + k * scale ≤ most
      → more_from most start scale n at (groups_of k ++ rest) ≡ got (n + k * scale) (at + length (groups_of k)) rest
  more-read =
      by-groups
      (λ k. (scale n at : ℕ) → 0 < k → n + k * scale ≤ most
      → more_from most start scale n at (groups_of k ++ rest) ≡ got (n + k * scale) (at + length (groups_of k)) rest)
      (λ k small scale n at p h. rw (groups-small k small) (last-group scale n at k p small h))
      (λ k large later scale n at p h.
      let near : scale ≤ most = omega (arith, mul-le-mul_right scale p) in
      let whole : n + k % 128 * scale + k / 128 * (scale * 128) ≡ n + k * scale = sums n scale k in
      let place : at + 1 + length (groups_of (k / 128)) ≡ at + suc (length (groups_of (k / 128))) = omega arith in
      rw (groups-large k large)
      (next-group scale n at (k % 128) (groups_of (k / 128) ++ rest) near (omega arith)
      ∙ later (scale * 128) (n + k % 128 * scale) (at + 1) (omega arith) (omega arith)
      ∙ rw (whole, place)))
    where
      sums : (n scale k : ℕ) → n + k % 128 * scale + k / 128 * (scale * 128) ≡ n + k * scale
      sums n scale k = split n scale k (k / 128) (k % 128) (omega arith)
        where
          split : (n scale k q r : ℕ) → k ≡ q * 128 + r → n + r * scale + q * (scale * 128) ≡ n + k * scale
          split n scale k q r e = rw e (omega arith)

pub number_read : (most : ℕ) (rest : List ℕ) (n at : ℕ) → n ≤ most
    → number_from most at (groups_of n ++ rest) ≡ got n (at + length (groups_of n)) rest
unfolding number_from
number_read most rest n at h = go (ltb n 128) (ltb→lt n 128) (nltb→le n 128)
  where
    go : (small : Bool) → (T small → n < 128) → (T (not small) → 128 ≤ n)
        → number_from most at (groups_of n ++ rest) ≡ got n (at + length (groups_of n)) rest
    go true small large = let g = small tt in rw (groups-small n g, lt-ltb _ _ g, le-ltb _ _ h)
    go false small large =
        let g = large tt in
        let high : 128 ≤ 128 + n % 128 = omega arith in
        let byte : 128 + n % 128 < 256 = omega arith in
        let back : 128 + n % 128 - 128 ≡ n % 128 = omega arith in
        let whole : n % 128 + n / 128 * 128 ≡ n = omega arith in
        let place : at + 1 + length (groups_of (n / 128)) ≡ at + suc (length (groups_of (n / 128))) = omega arith in
        rw (groups-large n g, le-ltb _ _ high, lt-ltb _ _ byte, back)
        (more-read most at rest (n / 128) 128 (n % 128) (at + 1) (omega arith) (omega arith) ∙ rw (whole, place))

-- ---- what is read is the groups of a number

-- the bytes are the groups of k and then the rest, and with the groups before them they give m
pub record Follow (most scale n at : ℕ) (t : List ℕ) (m next : ℕ) (rest : List ℕ) : Type 0 where
  pub k : ℕ
  pub above : 0 < k
  pub is : m ≡ n + k * scale
  pub fits : m ≤ most
  pub spelt : t ≡ groups_of k ++ rest
  pub ends : next ≡ at + length (groups_of k)

module _ (most start : ℕ) {m next : ℕ} {rest : List ℕ} where
  follow-last : (scale n at b : ℕ) (t : List ℕ) → b < 128 → (b ≡ 0 → ⊥) → n + b * scale ≤ most
      → got (n + b * scale) (at + 1) t ≡ got m next rest → Follow most scale n at (b ∷ t) m next rest
  follow-last scale n at b t small some h e =
      let same : t ≡ rest = cc in
      let number : n + b * scale ≡ m = cc in
      let place : at + 1 ≡ next = cc in
      record {
        k = b;
        above = pos_of_ne-zero some;
        is = sym number;
        fits = omega arith;
        spelt = rw (groups-small b small, same);
        ends = rw (groups-small b small) (sym place);
      }

  follow-next : (scale n at b : ℕ) (t : List ℕ) → 128 ≤ b → b < 256
      → Follow most (scale * 128) (n + (b - 128) * scale) (at + 1) t m next rest
      → Follow most scale n at (b ∷ t) m next rest
  follow-next scale n at b t large byte f =
      let bits : b - 128 < 128 = omega arith in
      let first : 128 + (b - 128) ≡ b = omega arith in
      let groups : groups_of (b - 128 + f.k * 128) ≡ b ∷ groups_of f.k =
      groups-more (b - 128) f.k bits f.above ∙ ap (λ (c : ℕ). c ∷ groups_of f.k) first in
      record {
        k = b - 128 + f.k * 128;
        above = omega (arith, f.above);
        is = f.is ∙ sums n scale (b - 128) f.k;
        fits = f.fits;
        spelt = rw groups (ap (λ (l : List ℕ). b ∷ l) f.spelt);
        ends = rw groups (omega (arith, f.ends));
      }
    where
      sums : (n scale r q : ℕ) → n + r * scale + q * (scale * 128) ≡ n + (r + q * 128) * scale
      sums n scale r q = omega arith

  pub more-spelt : (t : List ℕ) (scale n at : ℕ) → more_from most start scale n at t ≡ got m next rest
      → Follow most scale n at t m next rest
  unfolding more_from
  more-spelt [] scale n at e = never e
  more-spelt (b ∷ t) scale n at e =
      go (ltb most scale) (ltb b 128) (ltb→lt b 128) (nltb→le b 128) (eqb b 0) refl
      (ltb most (n + b * scale)) (nltb→le most (n + b * scale)) (ltb b 256) (ltb→lt b 256)
      (more-spelt t (scale * 128) (n + (b - 128) * scale) (at + 1)) e
    where
      go : (far last : Bool) → (T last → b < 128) → (T (not last) → 128 ≤ b) → (padded : Bool) → eqb b 0 ≡ padded
          → (beyond : Bool) → (T (not beyond) → n + b * scale ≤ most) → (byte : Bool) → (T byte → b < 256)
          → (more_from most start (scale * 128) (n + (b - 128) * scale) (at + 1) t ≡ got m next rest
          → Follow most (scale * 128) (n + (b - 128) * scale) (at + 1) t m next rest)
          → cond far (fault start)
          (cond last
          (cond padded (fault start) (cond beyond (fault start) (got (n + b * scale) (at + 1) t)))
          (cond byte (more_from most start (scale * 128) (n + (b - 128) * scale) (at + 1) t) (fault start)))
          ≡ got m next rest
          → Follow most scale n at (b ∷ t) m next rest
      go true last small large padded same beyond within byte is later e = never e
      go false true small large true same beyond within byte is later e = never e
      go false true small large false same true within byte is later e = never e
      go false true small large false same false within byte is later e =
          follow-last scale n at b t (small tt) (eqb-false b 0 same) (within tt) e
      go false false small large padded same beyond within true is later e =
          follow-next scale n at b t (large tt) (is tt) (later e)
      go false false small large padded same beyond within false is later e = never e

-- a number within its range, its groups and what follows them
pub record Spelt (most at : ℕ) (t : List ℕ) (n next : ℕ) (rest : List ℕ) : Type 0 where
  pub fits : n ≤ most
  pub spelt : t ≡ groups_of n ++ rest
  pub ends : next ≡ at + length (groups_of n)

module _ (most : ℕ) {m next : ℕ} {rest : List ℕ} where
  spelt-one : (at b : ℕ) (t : List ℕ) → b < 128 → b ≤ most → got b (at + 1) t ≡ got m next rest
      → Spelt most at (b ∷ t) m next rest
  spelt-one at b t small h e =
      let same : t ≡ rest = cc in
      let number : b ≡ m = cc in
      let place : at + 1 ≡ next = cc in
      subst (λ (n : ℕ). Spelt most at (b ∷ t) n next rest) number
      (record { fits = h; spelt = rw (groups-small b small, same); ends = rw (groups-small b small) (sym place) })

  spelt-more : (at b : ℕ) (t : List ℕ) → 128 ≤ b → b < 256 → Follow most 128 (b - 128) (at + 1) t m next rest
      → Spelt most at (b ∷ t) m next rest
  spelt-more at b t large byte f =
      let bits : b - 128 < 128 = omega arith in
      let first : 128 + (b - 128) ≡ b = omega arith in
      let groups : groups_of m ≡ b ∷ groups_of f.k =
      ap groups_of f.is ∙ groups-more (b - 128) f.k bits f.above ∙ ap (λ (c : ℕ). c ∷ groups_of f.k) first in
      record {
        fits = f.fits;
        spelt = rw groups (ap (λ (l : List ℕ). b ∷ l) f.spelt);
        ends = rw groups (omega (arith, f.ends));
      }

  pub number-spelt : (at : ℕ) (t : List ℕ) → number_from most at t ≡ got m next rest → Spelt most at t m next rest
  unfolding number_from
  number-spelt at [] e = never e
  number-spelt at (b ∷ t) e =
      go (ltb b 128) (ltb→lt b 128) (nltb→le b 128) (ltb most b) (nltb→le most b) (ltb b 256) (ltb→lt b 256) e
    where
      go : (one : Bool) → (T one → b < 128) → (T (not one) → 128 ≤ b) → (beyond : Bool) → (T (not beyond) → b ≤ most)
          → (byte : Bool) → (T byte → b < 256)
          → cond one (cond beyond (fault at) (got b (at + 1) t))
          (cond byte (more_from most at 128 (b - 128) (at + 1) t) (fault at))
          ≡ got m next rest
          → Spelt most at (b ∷ t) m next rest
      go true small large true within byte is e = never e
      go true small large false within byte is e = spelt-one at b t (small tt) (within tt) e
      go false small large beyond within true is e =
          spelt-more at b t (large tt) (is tt) (more-spelt most at t 128 (b - 128) (at + 1) e)
      go false small large beyond within false is e = never e

pub number-within : (most at : ℕ) (t : List ℕ) {n next : ℕ} {rest : List ℕ} → number_from most at t ≡ got n next rest → n ≤ most
number-within most at t e = (number-spelt most at t e).fits

-- ---- no number's groups start with those of another

pub record Same (n m : ℕ) (r s : List ℕ) : Type 0 where
  pub number : n ≡ m
  pub rest : r ≡ s

pub groups-apart : (n m : ℕ) (r s : List ℕ) → groups_of n ++ r ≡ groups_of m ++ s → Same n m r s
groups-apart n m r s e =
    let most = n + m in
    let one = number_read most r n 0 (omega arith) in
    let two = number_read most s m 0 (omega arith) in
    let both : got n (0 + length (groups_of n)) r ≡ got m (0 + length (groups_of m)) s =
    sym one ∙ ap (number_from most 0) e ∙ two in
    record { number = cc; rest = cc }

-- ---- a fault is told where the number starts

more-starts : (most start : ℕ) (t : List ℕ) (scale n at : ℕ) {k : ℕ} → more_from most start scale n at t ≡ fault k → k ≡ start
unfolding more_from
more-starts most start [] scale n at e = same-fault e
more-starts most start (b ∷ t) scale n at {k} e =
    go (ltb most scale) (ltb b 128) (eqb b 0) (ltb most (n + b * scale)) (ltb b 256)
    (more-starts most start t (scale * 128) (n + (b - 128) * scale) (at + 1)) e
  where
    none : got (n + b * scale) (at + 1) t ≡ fault k → k ≡ start
    none e = never (sym e)

    go : (far last padded beyond byte : Bool)
        → (more_from most start (scale * 128) (n + (b - 128) * scale) (at + 1) t ≡ fault k → k ≡ start)
        → cond far (fault start)
        (cond last
        (cond padded (fault start) (cond beyond (fault start) (got (n + b * scale) (at + 1) t)))
        (cond byte (more_from most start (scale * 128) (n + (b - 128) * scale) (at + 1) t) (fault start)))
        ≡ fault k
        → k ≡ start
    go true last padded beyond byte later e = same-fault e
    go false true true beyond byte later e = same-fault e
    go false true false true byte later e = same-fault e
    go false true false false byte later e = none e
    go false false padded beyond true later e = later e
    go false false padded beyond false later e = same-fault e

pub number-starts : (most at : ℕ) (t : List ℕ) {k : ℕ} → number_from most at t ≡ fault k → k ≡ at
unfolding number_from
number-starts most at [] e = same-fault e
number-starts most at (b ∷ t) {k} e = go (ltb b 128) (ltb most b) (ltb b 256) e
  where
    go : (one beyond byte : Bool)
        → cond one (cond beyond (fault at) (got b (at + 1) t)) (cond byte (more_from most at 128 (b - 128) (at + 1) t) (fault at))
        ≡ fault k
        → k ≡ at
    go true true byte e = same-fault e
    go true false byte e = never (sym e)
    go false beyond true e = more-starts most at t 128 (b - 128) (at + 1) e
    go false beyond false e = same-fault e
