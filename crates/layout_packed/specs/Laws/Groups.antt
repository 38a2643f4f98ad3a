-- The groups of a number below 128, of a larger one, and of n with one more group before it; an argument for all of them; and how
-- many there are.
use Rattle.std.specs.Prelude.{ℕ, zero, suc, ◌+◌, ◌*◌, ◌/◌, ◌%◌, ◌^◌, ◌≤◌, ◌<◌, ◌≡◌, refl, Bool, true, false, not, List, [], ◌∷◌, T, ltb, length}
use Rattle.std.proofs.Common.{ap, ◌∙◌, not-suc-le-zero, arith, lt-ltb, le-ltb, ltb→lt, nltb→le}
use Rattle.std.proofs.Math.Nat.{pow-succ'}
use Rattle.layout_packed.specs.Groups.{groups_in, groups_of}

-- more places than n + 1 add no group
enough : (k j n : ℕ) → n < k → n < j → groups_in k (ltb n 128) n ≡ groups_in j (ltb n 128) n
unfolding groups_in
enough zero j n h g = absurd (not-suc-le-zero h)
enough (suc k) zero n h g = absurd (not-suc-le-zero g)
enough (suc k) (suc j) n h g = go (ltb n 128) (nltb→le n 128) (enough k j (n / 128))
  where
    go : (small : Bool) → (T (not small) → 128 ≤ n)
        → (n / 128 < k → n / 128 < j → groups_in k (ltb (n / 128) 128) (n / 128) ≡ groups_in j (ltb (n / 128) 128) (n / 128))
        → groups_in (suc k) small n ≡ groups_in (suc j) small n
    go true large rest = refl
    go false large rest =
        let h128 = large tt in
        ap (λ (l : List ℕ). (128 + n % 128) ∷ l) (rest (omega arith) (omega arith))

pub groups-small : (n : ℕ) → n < 128 → groups_of n ≡ n ∷ []
unfolding groups_of groups_in
groups-small n h = rw (lt-ltb _ _ h)

pub groups-large : (n : ℕ) → 128 ≤ n → groups_of n ≡ (128 + n % 128) ∷ groups_of (n / 128)
unfolding groups_of groups_in
groups-large n h =
    rw (le-ltb _ _ h)
    (ap (λ (l : List ℕ). (128 + n % 128) ∷ l) (enough n (suc (n / 128)) (n / 128) (omega arith) (omega arith)))

pub groups-more : (b n : ℕ) → b < 128 → 0 < n → groups_of (b + n * 128) ≡ (128 + b) ∷ groups_of n
groups-more b n h g =
    let high : (b + n * 128) / 128 ≡ n = omega arith in
    let low : (b + n * 128) % 128 ≡ b = omega arith in
    groups-large (b + n * 128) (omega arith) ∙ rw (high, low)

-- ---- an argument on the groups of n: for one group; and for more, from n / 128

module _ (P : ℕ → Type 0) (one : (n : ℕ) → n < 128 → P n) (more : (n : ℕ) → 128 ≤ n → P (n / 128) → P n) where
  -- by induction on a number above n
  groups-below : (k n : ℕ) → n < k → P n
  groups-below zero n h = absurd (not-suc-le-zero h)
  groups-below (suc k) n h = go (ltb n 128) (ltb→lt n 128) (nltb→le n 128) (groups-below k (n / 128))
    where
      go : (small : Bool) → (T small → n < 128) → (T (not small) → 128 ≤ n) → (n / 128 < k → P (n / 128)) → P n
      go true small large rest = one n (small tt)
      go false small large rest = let g = large tt in more n g (rest (omega arith))

  pub by-groups : (n : ℕ) → P n
  by-groups n = groups-below (suc n) n (omega arith)

-- ---- how many there are

-- a number below 128 ^ (k + 1) has at most k + 1 groups
pub groups-long : (k n : ℕ) → n < 128 ^ suc k → length (groups_of n) ≤ suc k
groups-long zero n h = rw (groups-small n h) (omega arith)
groups-long (suc k) n h =
    go (128 ^ suc k) (pow-succ' 128 (suc k)) (ltb n 128) (ltb→lt n 128) (nltb→le n 128) (groups-long k (n / 128))
  where
    go : (p : ℕ) → 128 ^ suc (suc k) ≡ 128 * p → (small : Bool) → (T small → n < 128) → (T (not small) → 128 ≤ n)
        → (n / 128 < p → length (groups_of (n / 128)) ≤ suc k) → length (groups_of n) ≤ suc (suc k)
    go p e true small large rest = rw (groups-small n (small tt)) (omega arith)
    go p e false small large rest =
        let below : n < 128 * p = rw e at h in
        let short = rest (omega arith) in
        rw (groups-large n (large tt)) (omega arith)
