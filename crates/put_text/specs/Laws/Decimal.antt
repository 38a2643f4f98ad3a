-- Decimal digits: of a number below ten, of a larger one, and of n with one more digit after it; how many there are; and an
-- argument for all of them.
use Rattle.std.specs.Prelude.{ℕ, zero, suc, ◌+◌, ◌*◌, ◌/◌, ◌%◌, ◌^◌, ◌≤◌, ◌<◌, ◌≡◌, refl, Bool, true, false, not, List, [], ◌∷◌, ◌++◌, T, ltb, length}
use Rattle.std.proofs.Common.{ap, ◌∙◌, not-suc-le-zero, arith, lt-ltb, le-ltb, ltb→lt, nltb→le, length-append}
use Rattle.std.proofs.Math.Nat.{pow-succ'}
use Rattle.put_text.specs.Decimal.{decimal, decimal_in}

-- more places than n + 1 add no digit
enough : (k j n : ℕ) → n < k → n < j → decimal_in k (ltb n 10) n ≡ decimal_in j (ltb n 10) n
unfolding decimal_in
enough zero j n h g = absurd (not-suc-le-zero h)
enough (suc k) zero n h g = absurd (not-suc-le-zero g)
enough (suc k) (suc j) n h g = go (ltb n 10) (nltb→le n 10) (enough k j (n / 10))
  where
    go : (small : Bool) → (T (not small) → 10 ≤ n)
        → (n / 10 < k → n / 10 < j → decimal_in k (ltb (n / 10) 10) (n / 10) ≡ decimal_in j (ltb (n / 10) 10) (n / 10))
        → decimal_in (suc k) small n ≡ decimal_in (suc j) small n
    go true large rest = refl
    go false large rest =
        let h10 = large tt in
        ap (λ (l : List ℕ). l ++ ((48 + n % 10) ∷ [])) (rest (omega arith) (omega arith))

pub decimal-small : (n : ℕ) → n < 10 → decimal n ≡ (48 + n) ∷ []
unfolding decimal decimal_in
decimal-small n h = rw (lt-ltb _ _ h)

pub decimal-large : (n : ℕ) → 10 ≤ n → decimal n ≡ decimal (n / 10) ++ ((48 + n % 10) ∷ [])
unfolding decimal decimal_in
decimal-large n h =
    rw (le-ltb _ _ h)
    (ap (λ (l : List ℕ). l ++ ((48 + n % 10) ∷ [])) (enough n (suc (n / 10)) (n / 10) (omega arith) (omega arith)))

pub decimal-more : (n d : ℕ) → 0 < n → d < 10 → decimal (n * 10 + d) ≡ decimal n ++ ((48 + d) ∷ [])
decimal-more n d h g =
    let tenth : (n * 10 + d) / 10 ≡ n = omega arith in
    let last : (n * 10 + d) % 10 ≡ d = omega arith in
    decimal-large (n * 10 + d) (omega arith) ∙ rw (tenth, last)

-- a number below 10 ^ (k + 1) has at most k + 1 digits
pub decimal-long : (k n : ℕ) → n < 10 ^ suc k → length (decimal n) ≤ suc k
decimal-long zero n h = rw (decimal-small n h) (omega arith)
decimal-long (suc k) n h =
    go (10 ^ suc k) (pow-succ' 10 (suc k)) (ltb n 10) (ltb→lt n 10) (nltb→le n 10) (decimal-long k (n / 10))
  where
    go : (p : ℕ) → 10 ^ suc (suc k) ≡ 10 * p → (small : Bool) → (T small → n < 10) → (T (not small) → 10 ≤ n)
        → (n / 10 < p → length (decimal (n / 10)) ≤ suc k) → length (decimal n) ≤ suc (suc k)
    go p e true small large rest = rw (decimal-small n (small tt)) (omega arith)
    go p e false small large rest =
        let below : n < 10 * p = rw e at h in
        let short = rest (omega arith) in
        rw (decimal-large n (large tt), length-append (decimal (n / 10)) ((48 + n % 10) ∷ [])) (omega arith)

-- ---- an argument on the digits of m before a text: for one digit; and for more digits, from m / 10 with the last digit in the
-- text

module _ (P : ℕ → List ℕ → Type 0) (one : (m : ℕ) (t : List ℕ) → m < 10 → P m t)
    (more : (m : ℕ) (t : List ℕ) → 10 ≤ m → P (m / 10) ((48 + m % 10) ∷ t) → P m t) where
  -- by induction on a number above m
  digits-below : (k m : ℕ) (t : List ℕ) → m < k → P m t
  digits-below zero m t h = absurd (not-suc-le-zero h)
  digits-below (suc k) m t h = go (ltb m 10) (ltb→lt m 10) (nltb→le m 10) (digits-below k (m / 10) ((48 + m % 10) ∷ t))
    where
      go : (small : Bool) → (T small → m < 10) → (T (not small) → 10 ≤ m) → (m / 10 < k → P (m / 10) ((48 + m % 10) ∷ t)) → P m t
      go true small large rest = one m t (small tt)
      go false small large rest = let g = large tt in more m t g (rest (omega arith))

  pub by_digits : (m : ℕ) (t : List ℕ) → P m t
  by_digits m t = digits-below (suc m) m t (omega arith)
