-- A root compared with a float s, by the square of s as floats compute it: if the rounded s * s is below x, the root of x is at
-- least s, and if it is above x, at most s. No margin is needed: a product that rounds to less than the float x is less than x,
-- and a root does not round across the float s.
use Rattle.std.specs.Prelude.{◌≡◌, ℕ, zero, suc, ◌+◌, ◌-◌, ◌*◌, ◌<◌, ◌≤◌, Bool, true, false, T, ◌⊎◌, ◌≢◌, refl, Float}
use Rattle.std.proofs.Common.{sym, ap, subst, mul-pos, lt_of_mul-lt-mul_right, zero-lt-suc, eq-or-lt_of_le, arith, inl, inr}
use Rattle.std.specs.Float.{nan, inf, fin, binary64}
use Rattle.std.specs.Float.Ieee.{up, down, fits, le, mul}
use Rattle.std.specs.Float.Ieee.Exact.{HasValue}
use Rattle.std.specs.Float.Ieee.Fits.{up_pos}
use Rattle.std.specs.Float.Ieee.Scale.{finite}
use Rattle.float_laws.specs.Count.{counted}
use Rattle.float_laws.specs.Signed.{Diff, ups, downs, own-diff, size_above}
use Rattle.float_laws.specs.Order.{le-over}
use Rattle.float_laws.specs.Chains.{none_above, from-above, above-any}
use Rattle.float_laws.specs.Rounded.{Rounded, mul-rounded}
use Rattle.float_laws.specs.Roundings.{rounded-at, rounded-below, rounded-above}
use Rattle.float_laws.specs.Best.{Held}
use Rattle.float_laws.specs.Binary64.{unit, unit-is, unit-pos, zero_is, zero-finite, units64}
use Rattle.floats.specs.Ops.{◌⊗◌, ◌≺◌, ◌≽◌, f0}
use Rattle.floats.specs.F64
use Rattle.floats.specs.Laws.Root.{root_of-fits}
use Rattle.floats.specs.Laws.RootPowers.{root64}
use Rattle.floats.specs.Laws.Sqrt.{sqrt-is}

-- d is at least s, and has no sign
pub record Beyond (s d : Float) : Type 0 where
  pub least : T (le s d)
  pub unsigned : F64.abs d ≡ d

pub root-fits : (x : Float) → T (fits binary64 x) → T (fits binary64 (F64.sqrt x))
root-fits x h = subst (λ (z : Float). T (fits binary64 z)) (sym (sqrt-is x)) (root_of-fits binary64 x h)

unsigned-value : (d : Float) (R c : ℕ) → HasValue d false R c → F64.abs d ≡ d
unfolding F64.abs
unsigned-value nan R c v = absurd v
unsigned-value (inf s) R c v = absurd v
unsigned-value (fin s m e) R c v = ap (λ (z : Bool). fin z m e) (sym v.0)

-- in whole numbers
none : (a b : ℕ) → 0 < a → a + b ≢ b
none a b l e = omega arith

plain : {a b : ℕ} → 0 + a ≤ b + 0 → a ≤ b
plain h = omega arith

-- ---- a zero's root is the zero itself
root-of-zero : (x : Float) (n c : ℕ) → 0 < c → Diff x n n c → F64.sqrt x ≡ x
unfolding F64.sqrt
root-of-zero nan n c C h = absurd h
root-of-zero (inf s) n c C h = absurd h
root-of-zero (fin s zero e) n c C h = refl
root-of-zero (fin true (suc m) e) n c C h =
    absurd (none (suc m * up e * c) (n * down e) (mul-pos (mul-pos (zero-lt-suc m) (up_pos e)) C) h)
root-of-zero (fin false (suc m) e) n c C h =
    absurd (none (suc m * up e * c) (n * down e) (mul-pos (mul-pos (zero-lt-suc m) (up_pos e)) C) h)

-- ---- both finite: s is S units with any sign, and x is (p - n) units
module _ (s x : Float) (t : Bool) (S p n : ℕ) (held : Held 53 S) (s-value : HasValue s t S unit)
    (x_Fits : T (fits binary64 x)) (x-is : Diff x p n unit) where
  s-is : Diff s (ups t S) (downs t S) unit
  s-is = own-diff s t S unit s-value

  -- the square has no sign
  square : Rounded binary64 (s ⊗ s) (S * S) 0 (unit * unit)
  square =
      rounded-at binary64 (s ⊗ s) _ _ (unit * unit) (S * S) 0 (unit * unit) (mul-pos unit-pos unit-pos)
      (mul-pos unit-pos unit-pos)
      (plain t (unit * unit))
      (mul-rounded binary64 s s (ups t S) (downs t S) (ups t S) (downs t S) unit unit unit-pos unit-pos s-is s-is)
    where
      plain : (t : Bool) (L : ℕ)
          → (ups t S * ups t S + downs t S * downs t S) * L + 0 * L ≡ S * S * L + (ups t S * downs t S + downs t S * ups t S) * L
      plain true L = omega arith
      plain false L = omega arith

  -- the exact square, from the rounded one
  below : T (s ⊗ s ≺ x) → S * S * unit + n * (unit * unit) < p * (unit * unit)
  below h =
      let l =
      rounded-below binary64 (s ⊗ s) (S * S) 0 (unit * unit) square (mul-pos unit-pos unit-pos) x p n unit unit-pos x_Fits
      x-is h in
      omega arith

  above : T (x ≺ s ⊗ s) → p * (unit * unit) < S * S * unit + n * (unit * unit)
  above h =
      let l =
      rounded-above binary64 (s ⊗ s) (S * S) 0 (unit * unit) square (mul-pos unit-pos unit-pos) x p n unit unit-pos x_Fits
      x-is h in
      omega arith

  beyond-finite : T (s ⊗ s ≺ x) → Beyond s (F64.sqrt x)
  beyond-finite h =
      let k = sizes p n S unit unit-pos (below h) in
      let X = p - n in
      let r = root64 x X x_Fits k.1 (size_above x p n unit k.0 x-is) in
      let d = F64.sqrt x in
      let l = r.least S held k.2 in
      record {
        least = (le-over s d (ups t S) (downs t S) r.R 0 unit unit-pos s-is (own-diff d false r.R unit r.value)).1
            (signed t r.R l);
        unsigned = unsigned-value d r.R unit r.value;
      }
    where
      sizes : (p n S L : ℕ) → 0 < L → S * S * L + n * (L * L) < p * (L * L)
          → (n < p) × (0 < p - n) × (S * S * L ≤ (p - n) * (L * L))
      sizes p n S L Q y =
          let wide : n * (L * L) < p * (L * L) = omega arith in
          let l : n < p = lt_of_mul-lt-mul_right (L * L) wide in
          let split : p ≡ p - n + n = omega arith in
          let e : p * (L * L) ≡ (p - n + n) * (L * L) = ap (λ (z : ℕ). z * (L * L)) split in
          (l, omega arith, omega arith)

      signed : (t : Bool) (R : ℕ) → S ≤ R → ups t S + 0 ≤ R + downs t S
      signed true R l = omega arith
      signed false R l = omega arith

  unsigned-s : T (s ≽ f0) → downs t S ≤ ups t S
  unsigned-s l = plain ((le-over f0 s 0 0 (ups t S) (downs t S) unit unit-pos zero_is s-is).0 l)

  unsigned-x : T (x ≽ f0) → n ≤ p
  unsigned-x l = plain ((le-over f0 x 0 0 p n unit unit-pos zero_is x-is).0 l)

  within-finite : T (s ≽ f0) → T (x ≽ f0) → T (x ≺ s ⊗ s) → T (le (F64.sqrt x) s)
  within-finite s-least x-least h = go (eq-or-lt_of_le (unsigned-x x-least))
    where
      none : (t : Bool) (n : ℕ) → downs t S ≤ ups t S → n + downs t S ≤ ups t S + n
      none t n l = omega arith

      zero : n ≡ p → T (le (F64.sqrt x) s)
      zero e =
          let x-zero : Diff x n n unit = subst (λ (z : ℕ). Diff x z n unit) (sym e) x-is in
          subst (λ (z : Float). T (le z s)) (sym (root-of-zero x n unit unit-pos x-zero))
          ((le-over x s n n (ups t S) (downs t S) unit unit-pos x-zero s-is).1 (none t n (unsigned-s s-least)))

      inside : (p n L : ℕ) → n < p → p * (L * L) < S * S * L + n * (L * L) → (p - n) * (L * L) ≤ S * S * L
      inside p n L l y =
          let split : p ≡ p - n + n = omega arith in
          let e : p * (L * L) ≡ (p - n + n) * (L * L) = ap (λ (z : ℕ). z * (L * L)) split in
          omega arith

      some : (p n : ℕ) → n < p → 0 < p - n
      some p n l = omega arith

      signed : (t : Bool) (R : ℕ) → downs t S ≤ ups t S → R ≤ S → R + downs t S ≤ ups t S + 0
      signed true R l m = omega arith
      signed false R l m = omega arith

      positive : n < p → T (le (F64.sqrt x) s)
      positive l =
          let r = root64 x (p - n) x_Fits (some p n l) (size_above x p n unit l x-is) in
          let d = F64.sqrt x in
          (le-over d s r.R 0 (ups t S) (downs t S) unit unit-pos (own-diff d false r.R unit r.value) s-is).1
          (signed t r.R (unsigned-s s-least) (r.most S held (inside p n unit l (above h))))

      go : (n ≡ p) ⊎ (n < p) → T (le (F64.sqrt x) s)
      go (inl e) = zero e
      go (inr l) = positive l

-- ---- for all floats
past_all : (x : Float) → T (inf false ⊗ inf false ≺ x) → ⊥
unfolding mul
past_all x h = none_above x h

below_inf : (s : Float) → T (finite s) → Beyond s (F64.sqrt (inf false))
unfolding le F64.abs F64.sqrt
below_inf nan f = absurd f
below_inf (inf t) f = absurd f
below_inf (fin t m e) f = record { least = tt; unsigned = refl }

pub root-beyond : (s x : Float) → T (fits binary64 s) → T (fits binary64 x) → T (s ≽ f0) → T (s ⊗ s ≺ x) → Beyond s (F64.sqrt x)
root-beyond s x s-fits x_Fits lo h =
    from-above (λ (z : Float). T (z ⊗ z ≺ x) → Beyond z (F64.sqrt x)) f0 s zero-finite lo (λ y. absurd (past_all x y)) finite-s h
  where
    finite-both : T (finite s) → T (finite x) → T (s ⊗ s ≺ x) → Beyond s (F64.sqrt x)
    finite-both f g y =
        let c = counted binary64 s f s-fits in
        let u = units64 x g x_Fits in
        beyond-finite s x c.s c.count u.p u.n c.held
        (subst (λ (L : ℕ). HasValue s c.s c.count L) (sym unit-is) c.value) x_Fits u.is y

    finite-s : T (finite s) → T (s ⊗ s ≺ x) → Beyond s (F64.sqrt x)
    finite-s f y = above-any (λ (z : Float). Beyond s (F64.sqrt z)) (s ⊗ s) x y (below_inf s f) (λ g. finite-both f g y)

pub root-within : (s x : Float) → T (fits binary64 s) → T (fits binary64 x) → T (finite s) → T (s ≽ f0) → T (x ≽ f0)
    → T (x ≺ s ⊗ s)
    → T (le (F64.sqrt x) s)
root-within s x s-fits x_Fits f lo least h =
    let c = counted binary64 s f s-fits in
    from-above (λ (z : Float). T (z ≺ s ⊗ s) → T (le (F64.sqrt z) s)) f0 x zero-finite least (λ y. absurd (none_above (s ⊗ s) y))
    (λ g y.
    let u = units64 x g x_Fits in
    within-finite s x c.s c.count u.p u.n c.held
    (subst (λ (L : ℕ). HasValue s c.s c.count L) (sym unit-is) c.value) x_Fits u.is lo least y) h
