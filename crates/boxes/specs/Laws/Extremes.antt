-- Minimum and maximum, for all floats: each is one of the two; what is at most one of them is at most the maximum, and what is at
-- least one of them is at least the minimum, since a comparison with a NaN says no. Two f64 that are no -0 and are each at most
-- the other are the same.
use Rattle.std.specs.Prelude.{◌≡◌, refl, ◌≢◌, Bool, true, false, cond, ℕ, zero, suc, ◌+◌, ◌*◌, ◌^◌, ◌≤◌, ◌<◌, ℤ, Float}
use Rattle.std.proofs.Common.{sym, ap, ◌∙◌, subst, true≢false, mul-pos, zero-lt-suc, arith, pow_pos}
use Rattle.std.proofs.Math.Dec.{T}
use Rattle.std.specs.Float.{nan, inf, fin, Format}
use Rattle.std.specs.Float.Ieee.{low, up, down, is_nan, lt, le, fits}
use Rattle.std.specs.Float.Ieee.Exact.{HasValue}
use Rattle.std.specs.Float.Ieee.Fits.{up_pos}
use Rattle.std.specs.Float.Ieee.Scale.{finite}
use Rattle.float_laws.specs.Count.{counted, count-unique}
use Rattle.float_laws.specs.Signed.{ups, downs, own-diff}
use Rattle.float_laws.specs.Order.{le-over}
use Rattle.float_laws.specs.Chains.{not-below, le-numbers, le_trans}
use Rattle.floats.specs.Ops.{◌≼◌}
use Rattle.floats.specs.F64.{choose, min, max}

-- ---- the one of two that is chosen, by its cases
chosen : (P : Float → Type 0) (first : Bool) (x y : Float) → (is_nan x ≡ true → P y) → (is_nan y ≡ true → P x)
    → (is_nan x ≡ false → is_nan y ≡ false → first ≡ true → P x) → (is_nan x ≡ false → is_nan y ≡ false → first ≡ false → P y)
    → P (choose first x y)
chosen P first x y a b c d = go (is_nan x) (is_nan y) first refl refl refl
  where
    go : (p q r : Bool) → is_nan x ≡ p → is_nan y ≡ q → first ≡ r → P (cond p y (cond q x (cond r x y)))
    go true q r e f g = a e
    go false true r e f g = b f
    go false false true e f g = c e f g
    go false false false e f g = d e f g

-- what both have, the minimum and the maximum have
module _ (P : Float → Type 0) (x y : Float) (a : P x) (b : P y) where
  pub min-has : P (min x y)
  unfolding min
  min-has = chosen P (lt x y) x y (λ e. b) (λ e. a) (λ e f g. a) (λ e f g. b)

  pub max-has : P (max x y)
  unfolding max
  max-has = chosen P (lt y x) x y (λ e. b) (λ e. a) (λ e f g. a) (λ e f g. b)

-- ---- the larger of two is not below either, and the smaller not above
never : {A : Type 0} (x : Float) → is_nan x ≡ true → is_nan x ≡ false → A
never x a b = absurd (true≢false (sym a ∙ b))

lt-is-le : (x y : Float) → lt x y ≡ true → T (le x y)
unfolding le
lt-is-le x y e = rw e tt

module _ (x a b : Float) where
  pub max-first : T (x ≼ a) → T (x ≼ max a b)
  unfolding max
  max-first h =
      chosen (λ (z : Float). T (x ≼ z)) (lt b a) a b (λ e. never a e (le-numbers x a h).1) (λ e. h) (λ e f g. h)
      (λ e f g. le_trans x a b h (not-below a b e f g))

  pub max-second : T (x ≼ b) → T (x ≼ max a b)
  unfolding max
  max-second h =
      chosen (λ (z : Float). T (x ≼ z)) (lt b a) a b (λ e. h) (λ e. never b e (le-numbers x b h).1)
      (λ e f g. le_trans x b a h (lt-is-le b a g)) (λ e f g. h)

  pub min-first : T (a ≼ x) → T (min a b ≼ x)
  unfolding min
  min-first h =
      chosen (λ (z : Float). T (z ≼ x)) (lt a b) a b (λ e. never a e (le-numbers a x h).0) (λ e. h) (λ e f g. h)
      (λ e f g. le_trans b a x (not-below b a f e g) h)

  pub min-second : T (b ≼ x) → T (min a b ≼ x)
  unfolding min
  min-second h =
      chosen (λ (z : Float). T (z ≼ x)) (lt a b) a b (λ e. h) (λ e. never b e (le-numbers b x h).0)
      (λ e f g. le_trans a b x (lt-is-le a b g) h) (λ e f g. h)

-- ---- two f64 without -0 that are each at most the other

-- a float that has a minus and no size is -0
minus-zero : (x : Float) (c : ℕ) → 0 < c → HasValue x true 0 c → ((e : ℤ) → x ≢ fin true 0 e) → ⊥
minus-zero nan c C h none = h
minus-zero (inf s) c C h none = h
minus-zero (fin s zero e) c C h none = none e (ap (λ (z : Bool). fin z 0 e) h.0)
minus-zero (fin s (suc m) e) c C h none = some (suc m * up e * c) (down e) (mul-pos (mul-pos (zero-lt-suc m) (up_pos e)) C) h.1
  where
    some : (a d : ℕ) → 0 < a → a ≡ 0 * d → ⊥
    some a d l e = omega arith

pub same-of-le : (f : Format) (x y : Float) → T (fits f x) → T (fits f y) → T (finite x) → T (finite y)
    → ((e : ℤ) → x ≢ fin true 0 e) → ((e : ℤ) → y ≢ fin true 0 e) → T (x ≼ y) → T (y ≼ x)
    → x ≡ y
same-of-le f x y fx fy X Y nx ny h k =
    let a = counted f x X fx in
    let b = counted f y Y fy in
    go a.s b.s a.count b.count a.value b.value
  where
    in_order : (u v : Float) (s t : Bool) (A B : ℕ) → HasValue u s A (2 ^ low f) → HasValue v t B (2 ^ low f) → T (u ≼ v)
        → ups s A + downs t B ≤ ups t B + downs s A
    in_order u v s t A B p q =
        (le-over u v _ _ _ _ (2 ^ low f) (pow_pos (low f)) (own-diff u s A (2 ^ low f) p) (own-diff v t B (2 ^ low f) q)).0

    alike : (s : Bool) (A B : ℕ) → HasValue x s A (2 ^ low f) → HasValue y s B (2 ^ low f) → A ≡ B → x ≡ y
    alike s A B p q e = count-unique f x y s B fx fy (subst (λ (z : ℕ). HasValue x s z (2 ^ low f)) e p) q

    go : (s t : Bool) (A B : ℕ) → HasValue x s A (2 ^ low f) → HasValue y t B (2 ^ low f) → x ≡ y
    go true true A B p q =
        let i = in_order x y true true A B p q h in
        let j = in_order y x true true B A q p k in
        alike true A B p q (omega arith)
    go false false A B p q =
        let i = in_order x y false false A B p q h in
        let j = in_order y x false false B A q p k in
        alike false A B p q (omega arith)
    go true false A B p q =
        let j = in_order y x false true B A q p k in
        let none : A ≡ 0 = omega arith in
        absurd
        (minus-zero x (2 ^ low f) (pow_pos (low f)) (subst (λ (z : ℕ). HasValue x true z (2 ^ low f)) none p) nx)
    go false true A B p q =
        let i = in_order x y false true A B p q h in
        let none : B ≡ 0 = omega arith in
        absurd
        (minus-zero y (2 ^ low f) (pow_pos (low f)) (subst (λ (z : ℕ). HasValue y true z (2 ^ low f)) none q) ny)
