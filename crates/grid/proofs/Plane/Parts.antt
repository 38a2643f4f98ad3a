-- The same in naturals, for floats whose values are differences p - n: signs and sizes of differences, places from 0 to 1,
-- distances beyond an end and from the crossing point, and a float's value.
use Rattle.std.specs.Prelude.{◌≡◌, refl, ◌↔◌, true, false, ℕ, suc, ◌+◌, ◌*◌, ◌≤◌, ◌<◌, ℤ, pos, negsuc, neg_ℤ, nat_abs, ◌-ℤ◌, ◌*ℤ◌, ◌≤ℤ◌, ◌<ℤ◌, Float}
use Rattle.std.proofs.Common.{sym, subst, arith}
use Rattle.std.specs.Float.{fin}
use Rattle.std.specs.Float.Ieee.{up, down}
use Rattle.grid.specs.Promise.{Spot, Point, Is, Reached, NearExact}
use Rattle.grid.specs.Plane.Whole.{diff, parts, naturals, gain, loss, gain-add, gain-neg}
use Rattle.grid.specs.Plane.Order.{turned}
use Rattle.grid.proofs.Plane.Cross.{Between, Placed}
use Rattle.grid.proofs.Plane.Beyond.{long, reached}

-- ---- sizes and signs
pub gain-loss : (z : ℤ) → gain z + loss z ≡ nat_abs z
gain-loss (pos k) = omega arith
gain-loss (negsuc k) = omega arith

-- (a - b) / (p - n), if p is above n and if it is below
pub turned_up : (p n a b : ℕ) → n ≤ p → turned (diff p n) (diff a b) ≡ diff a b
turned_up p n a b h = go (diff p n) (parts p n)
  where
    go : (z : ℤ) → p + loss z ≡ n + gain z → turned z (diff a b) ≡ diff a b
    go (pos k) e = refl
    go (negsuc k) e = absurd (omega arith)

pub turned_down : (p n a b : ℕ) → p < n → turned (diff p n) (diff a b) ≡ diff b a
turned_down p n a b h = go (diff p n) (parts p n)
  where
    go : (z : ℤ) → p + loss z ≡ n + gain z → turned z (diff a b) ≡ diff b a
    go (pos k) e = absurd (omega arith)
    go (negsuc k) e = simp naturals (omega arith)

-- ---- order against 0 and against k
pub least : (p n : ℕ) → (pos 0 ≤ℤ diff p n) ↔ (n ≤ p)
least p n = simp naturals (λ h. omega arith, λ h. omega arith)

pub above_zero : (p n : ℕ) → (pos 0 <ℤ diff p n) ↔ (n < p)
above_zero p n = simp naturals (λ h. omega arith, λ h. omega arith)

pub most : (p n k : ℕ) → (diff p n ≤ℤ pos k) ↔ (p ≤ n + k)
most p n k = simp naturals (λ h. omega arith, λ h. omega arith)

pub below-size : (p n k : ℕ) → (diff p n <ℤ pos k) ↔ (p < n + k)
below-size p n k = simp naturals (λ h. omega arith, λ h. omega arith)

pub past-size : (p n k : ℕ) → (pos k <ℤ diff p n) ↔ (n + k < p)
past-size p n k = simp naturals (λ h. omega arith, λ h. omega arith)

pub between-parts : (p n k : ℕ) → Between (diff p n) k ↔ ((n ≤ p) × (p ≤ n + k))
between-parts p n k =
    (λ h. ((least p n).0 h.0, (most p n k).0 h.1), λ h. ((least p n).1 h.0, (most p n k).1 h.1))

-- ---- beyond an end: j / over past the end, or before the start
pub reached-parts : (P : Point) (a b : Spot) (p n num den : ℕ) → Placed P a b (diff p n)
    → ((j : ℕ) → j + p ≡ n → j * j * long a b * (den * den) < 4 * (num * num * (P.over * P.over)))
    → ((j : ℕ) → j + (n + P.over) ≡ p → j * j * long a b * (den * den) < 4 * (num * num * (P.over * P.over)))
    → Reached P a b num den
reached-parts P a b p n num den h before past = reached P a b (diff p n) num den h start end
  where
    gap : (z : ℤ) (o : ℕ) → gain z + loss (z -ℤ pos o) ≡ loss z + o + gain (z -ℤ pos o)
    gap z o =
        let h = gain-add z (neg_ℤ (pos o)) in
        let k = gain-neg (pos o) in
        omega (arith, k.0, k.1)

    -- the two ways to write the squares
    wrote : (j L D o : ℕ) → j * j * L * (D * D) < 4 * (num * num * (o * o)) → L * (j * j) * (D * D) < 2 * num * o * (2 * num * o)
    wrote j L D o l = omega arith

    start : diff p n <ℤ pos 0
        → long a b * (nat_abs (diff p n) * nat_abs (diff p n)) * (den * den) < 2 * num * P.over * (2 * num * P.over)
    start l = go (diff p n) (parts p n) ((below-size p n 0).0 l)
      where
        go : (z : ℤ) → p + loss z ≡ n + gain z → p < n + 0
            → long a b * (nat_abs z * nat_abs z) * (den * den) < 2 * num * P.over * (2 * num * P.over)
        go (pos k) e l = absurd (omega arith)
        go (negsuc k) e l =
            let j : suc k + p ≡ n = omega arith in
            wrote (suc k) (long a b) den P.over (before (suc k) j)

    end : pos P.over <ℤ diff p n
        → long a b * (nat_abs (diff p n -ℤ pos P.over) * nat_abs (diff p n -ℤ pos P.over)) * (den * den)
        < 2 * num * P.over * (2 * num * P.over)
    end l = go (diff p n -ℤ pos P.over) (gap (diff p n) P.over) (parts p n) ((past-size p n P.over).0 l)
      where
        go : (z : ℤ) → gain (diff p n) + loss z ≡ loss (diff p n) + P.over + gain z
            → p + loss (diff p n) ≡ n + gain (diff p n)
            → n + P.over < p
            → long a b * (nat_abs z * nat_abs z) * (den * den) < 2 * num * P.over * (2 * num * P.over)
        go (pos k) e f l =
            let j : k + (n + P.over) ≡ p = omega arith in
            wrote k (long a b) den P.over (past k j)
        go (negsuc k) e f l = absurd (omega arith)

-- ---- close to a coordinate X / k, where X is P - N
pub within-parts : (c : Float) (x : ℤ) (k p n d P N : ℕ) → Is c (diff p n) d → 0 < d → x ≡ diff P N
    → 1073741824 * (p * k + N * d) ≤ 1073741824 * (P * d + n * k) + d * k
    → 1073741824 * (P * d + n * k) ≤ 1073741824 * (p * k + N * d) + d * k
    → NearExact c x k
within-parts c x k p n d P N is D e up low =
    record {
      a = diff p n;
      d = d;
      positive = D;
      value = is;
      near = subst (λ (z : ℤ). nat_abs (diff p n *ℤ pos k -ℤ z *ℤ pos d) * 1073741824 ≤ d * k) (sym e) (go (one k p n d P N));
    }
  where
    one : (k p n d P N : ℕ) → diff p n *ℤ pos k -ℤ diff P N *ℤ pos d ≡ diff (p * k + N * d) (n * k + P * d)
    one k p n d P N = simp naturals (omega arith)

    size : (a b m : ℕ) → 1073741824 * a ≤ 1073741824 * b + m → 1073741824 * b ≤ 1073741824 * a + m
        → nat_abs (diff a b) * 1073741824 ≤ m
    size a b m u l = at (diff a b) (parts a b)
      where
        at : (z : ℤ) → a + loss z ≡ b + gain z → nat_abs z * 1073741824 ≤ m
        at (pos j) e = omega arith
        at (negsuc j) e = omega arith

    go : diff p n *ℤ pos k -ℤ diff P N *ℤ pos d ≡ diff (p * k + N * d) (n * k + P * d)
        → nat_abs (diff p n *ℤ pos k -ℤ diff P N *ℤ pos d) * 1073741824 ≤ d * k
    go e =
        subst (λ (z : ℤ). nat_abs z * 1073741824 ≤ d * k) (sym e)
        (size (p * k + N * d) (n * k + P * d) (d * k) (omega arith) (omega arith))

-- ---- the value of a float m * 2 ^ e, over c: its size and the difference
pub is-plus : (m p n c : ℕ) (e : ℤ) → Is (fin false m e) (diff p n) c ↔ (m * up e * c + n * down e ≡ p * down e)
is-plus m p n c e = simp naturals (λ h. omega arith, λ h. omega arith)

pub is-minus : (m p n c : ℕ) (e : ℤ) → Is (fin true m e) (diff p n) c ↔ (m * up e * c + p * down e ≡ n * down e)
is-minus m p n c e = simp naturals (λ h. omega arith, λ h. omega arith)
