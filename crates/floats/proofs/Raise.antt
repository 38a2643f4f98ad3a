-- The loop of `root::raised`: m is t moved up by the places that e has fallen by, and it has not passed 53 digits.
use Rattle.std.proofs.Common.{◌≡◌, ℕ, suc, ◌+◌, ◌-◌, ◌*◌, ◌^◌, ◌<◌, ◌≤◌, sym, refl, ap, ◌∙◌, le_trans, le_of_eq, lt_of_lt_of_le, lt_of_le_of_lt, mul-le-mul_right, lt_of_mul-lt-mul_right, lt_of_not-le, mul-one, le_of_mul-le-mul_right, arith, pow_pos, pow_mono, pow-add}
use native.Mathlib.Nat.{pow-succ'}
use lib.Ieee.{size}
use lib.Ieee.Digits.{back}
use Rattle.float_laws.specs.Powers.{size_exact}
use Rattle.floats.specs.Workings.Root
use Rattle.floats.specs.declared.root.Scaled.{Scaled}

pub double : (a b : ℕ) → a * b ≡ 2 ^ 52 → 2 * a * b ≡ 2 ^ 53
double a b e = omega arith

abbrev pub scaled : ℕ → ℕ → Scaled
scaled m e = record { m = m; e = e }

pub record Raise (t m e : ℕ) : Type 0 where
  pub k : ℕ
  pub moved : m ≡ t * 2 ^ k
  pub place : e + k ≡ 1024
  pub few : k ≤ 52
  pub high : m < 2 ^ 53
  pub some : 0 < t

pub start : (t : ℕ) → 0 < t → t < 2 ^ 52 → Raise t t 1024
start t P h = record { k = 0; moved = sym (mul-one t); place = refl; few = omega arith; high = omega arith; some = P }

pub step : (t m e : ℕ) → Raise t m e → m < 2 ^ 52 → Raise t (m + m) (e - 1)
step t m e r h = go r.k r.moved r.place r.few
  where
    -- a number above zero that is below 2 ^ 52 has been moved by less than 52 places
    less : (k : ℕ) → m ≡ t * 2 ^ k → k < 52
    less k e = lt_of_not-le (λ (g : 52 ≤ k). clash (2 ^ k) (pow_mono g) e)
      where
        clash : (a : ℕ) → 2 ^ 52 ≤ a → m ≡ t * a → ⊥
        clash a l e = omega (arith, mul-le-mul_right a r.some)

    go : (k : ℕ) → m ≡ t * 2 ^ k → e + k ≡ 1024 → k ≤ 52 → Raise t (m + m) (e - 1)
    go k e p f =
        record {
          k = suc k;
          moved = double (2 ^ k) (2 ^ suc k) (pow-succ' 2 k) e;
          place = omega arith;
          few = less k e;
          high = omega arith;
          some = r.some;
        }
      where
        double : (a b : ℕ) → b ≡ 2 * a → m ≡ t * a → m + m ≡ t * b
        double a b p q = let s : t * b ≡ t * (2 * a) = ap (λ (z : ℕ). t * z) p in omega arith

-- 53 digits: as many places as t has digits fewer
pub stop : (t m e : ℕ) → Raise t m e → 2 ^ 52 ≤ m → scaled m e ≡ Root.raised t
unfolding Root.raised
stop t m e r h =
    let places : 53 - size t ≡ r.k = omega (arith, digits, r.few) in
    let m-is : m ≡ t * 2 ^ (53 - size t) = r.moved ∙ ap (λ (z : ℕ). t * 2 ^ z) (sym places) in
    let e-is : e ≡ 1024 - (53 - size t) = omega (arith, r.place) in
    ap (λ (z : ℕ). scaled z e) m-is ∙ ap (λ (z : ℕ). scaled (t * 2 ^ (53 - size t)) z) e-is
  where
    split : (a : ℕ) → r.k ≤ a → 2 ^ (a - r.k) * 2 ^ r.k ≡ 2 ^ a
    split a l = sym (pow-add 2 (a - r.k) r.k) ∙ ap (λ (z : ℕ). 2 ^ z) (back a r.k l)

    least : 2 ^ (52 - r.k) ≤ t
    least =
        let wide = le_trans (le_of_eq (split 52 r.few)) (le_trans h (le_of_eq r.moved)) in
        le_of_mul-le-mul_right {k = 2 ^ r.k} wide (pow_pos r.k)

    next : 2 ^ suc (52 - r.k) * 2 ^ r.k ≡ 2 ^ 53
    next = ap (λ (z : ℕ). z * 2 ^ r.k) (pow-succ' 2 (52 - r.k)) ∙ double (2 ^ (52 - r.k)) (2 ^ r.k) (split 52 r.few)

    most : t < 2 ^ suc (52 - r.k)
    most =
        let wide : t * 2 ^ r.k < 2 ^ 53 = lt_of_le_of_lt (le_of_eq (sym r.moved)) r.high in
        lt_of_mul-lt-mul_right (2 ^ r.k) (lt_of_lt_of_le wide (le_of_eq (sym next)))

    digits : size t ≡ suc (52 - r.k)
    digits = size_exact (52 - r.k) t least most
