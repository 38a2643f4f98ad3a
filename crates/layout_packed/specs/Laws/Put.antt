-- A number's groups put byte by byte, and how much room they take.
use Rattle.std.specs.Prelude.{ℕ, suc, ◌+◌, ◌/◌, ◌%◌, ◌^◌, ◌≤◌, ◌<◌, ◌≡◌, Bool, true, false, not, List, [], ◌∷◌, T, ltb, length}
use Rattle.std.proofs.Common.{append-nil, arith, ltb→lt, nltb→le}
use Rattle.put_text.specs.Workings.Put.{Put, PutIn}
use Rattle.put_text.specs.Laws.Put.{put-join}
use Rattle.layout_packed.specs.Groups.{groups_of}
use Rattle.layout_packed.specs.Packed.{joined}
use Rattle.layout_packed.specs.Laws.Groups.{groups-small, groups-large, groups-long}

pub groups-one : (n : ℕ) → n < 128 → length (groups_of n) ≡ 1
groups-one n h = rw (groups-small n h)

pub groups-next : (n : ℕ) → 128 ≤ n → length (groups_of n) ≡ suc (length (groups_of (n / 128)))
groups-next n h = rw (groups-large n h)

pub groups-some : (n : ℕ) → 0 < length (groups_of n)
groups-some n = go (ltb n 128) (ltb→lt n 128) (nltb→le n 128)
  where
    go : (small : Bool) → (T small → n < 128) → (T (not small) → 128 ≤ n) → 0 < length (groups_of n)
    go true small large = omega (arith, groups-one n (small tt))
    go false small large = omega (arith, groups-next n (large tt))

pub put_last : (n : ℕ) → n < 128 → {old now : List ℕ} {at next : ℕ} → Put (n ∷ []) old at now next
    → Put (groups_of n) old at now next
put_last n h p = rw (groups-small n h) p

pub put_next : (n : ℕ) → 128 ≤ n → {old mid now : List ℕ} {at k next : ℕ} → Put ((128 + n % 128) ∷ []) old at mid k
    → Put (groups_of (n / 128)) mid k now next
    → Put (groups_of n) old at now next
put_next n h p q = rw (groups-large n h) (put-join p q)

-- a number below 128 ^ (k + 1)
pub put_in : (k n : ℕ) → n < 128 ^ suc k → {old now : List ℕ} {at next : ℕ} → Put (groups_of n) old at now next
    → PutIn (suc k) (groups_of n) old at now next
put_in k n h p = record { is-put = p; short = omega (arith, p.after, groups-long k n h) }

-- three numbers one after the other
pub put_three : (x y b : ℕ) {old o1 o2 now : List ℕ} {at a1 a2 next : ℕ} → (k : ℕ)
    → length (groups_of x) + length (groups_of y) + length (groups_of b) ≤ k
    → Put (groups_of x) old at o1 a1 → Put (groups_of y) o1 a1 o2 a2 → Put (groups_of b) o2 a2 now next
    → PutIn k (joined (x ∷ y ∷ b ∷ [])) old at now next
unfolding joined
put_three x y b k h p q r =
    let last = rw (← append-nil (groups_of b)) at r in
    record { is-put = put-join p (put-join q last); short = omega (arith, p.after, q.after, r.after) }
