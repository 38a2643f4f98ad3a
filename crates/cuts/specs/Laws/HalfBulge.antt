-- The half bulge (sqrt(1+b*b)-1)/b of a b above 1 and at most 16 in magnitude lies from 1/64 to 1 in magnitude and has the sign
-- of b. The argument: let h be the whole part of 2 * |b|. Then b * b is at most (h+1)^2 / 4, one more is at most (h+2)^2 / 4,
-- and the root at most h / 2 + 1, so the numerator is at most h / 2, which is at most |b|. And one more than b * b is at least
-- 2, its root at least 5 / 4, and the numerator at least 1 / 4, a 64th of 16. All these bounds are floats, so no rounding
-- crosses them.
use Rattle.std.specs.Prelude.{◌≡◌, refl, ℕ, ◌+◌, ◌*◌, ◌/◌, ◌^◌, ◌≤◌, ◌<◌, Bool, true, T, ℤ, Float}
use Rattle.std.proofs.Common.{sym, ap, ◌∙◌, subst, mul-pos, mul-le-mul, mul-le-mul_right, le_of_lt, le-div_iff_mul-le, div-lt_iff_lt-mul, arith, lit<}
use Rattle.std.proofs.Math.Bool.{false}
use Rattle.std.proofs.Math.Dec.{not_T}
use Rattle.std.specs.Float.{nan, inf, fin}
use Rattle.std.specs.Float.Ieee.{binary64, up, down, of_bits, neg}
use Rattle.std.specs.Float.Ieee.Bits.{is_true, is_false, of_bits-fits}
use Rattle.std.specs.Float.Ieee.Exact.{HasValue}
use Rattle.std.specs.Float.Ieee.Fits.{down_pos}
use Rattle.std.specs.Float.Ieee.Scale.{finite}
use Rattle.float_laws.specs.Signed.{Diff, ups, downs, own-diff, diff-finite}
use Rattle.float_laws.specs.Order.{lt-diff, le-diff}
use Rattle.float_laws.specs.Chains.{written-diff, between-finite}
use Rattle.float_laws.specs.Rounded.{Rounded, add-rounded, sub-rounded, mul-rounded, div-rounded, signed_by}
use Rattle.float_laws.specs.Roundings.{rounded-at, rounded-neg, rounded-le, rounded-ge}
use Rattle.float_laws.specs.Binary64.{unit, unit-pos}
use Rattle.floats.specs.Ops.{◌⊕◌, ◌⊖◌, ◌⊗◌, ◌≺◌, ◌≼◌, f0, f1}
use Rattle.floats.specs.F64
use Rattle.checks.specs.Limit
use Rattle.checks.specs.Laws.Fine as checks
use Rattle.cuts.specs.Cut.{is_large, half_bulge}
use Rattle.cuts.specs.Parts.{half_least, HalfOf}
use Rattle.cuts.specs.Laws.Quarters.{Within, rounded-within, root-within}

-- ---- constants
one-is : Diff f1 1 0 1
unfolding of_bits
one-is = omega arith

zero_is : Diff f0 0 0 1
unfolding of_bits
zero_is = omega arith

sixteen-is : Diff Limit.large_bulge 16 0 1
unfolding of_bits
sixteen-is = omega arith

least-is : Diff half_least 1 0 64
unfolding of_bits
least-is = omega arith

one-pos : 0 < 1
one-pos = lit< tt

-- ---- the numerator: b is B / c, with any sign
module _ (b : Float) (t : Bool) (B c : ℕ) (C : 0 < c) (value : HasValue b t B c) (large : c < B) (small : B ≤ 16 * c) where
  abbrev h : ℕ
  h = 2 * B / c

  h-most : h * c ≤ 2 * B
  h-most = (le-div_iff_mul-le C).0 (same h)
    where
      same : (n : ℕ) → n ≤ n
      same n = omega arith

  h-least : 2 * B < (h + 1) * c
  h-least = (div-lt_iff_lt-mul C).0 (next h)
    where
      next : (n : ℕ) → n < n + 1
      next n = omega arith

  h-some : 2 ≤ h
  h-some = (le-div_iff_mul-le C).1 (omega arith)

  h-few : h < 33
  h-few = (div-lt_iff_lt-mul C).1 (omega arith)

  b-is : Diff b (ups t B) (downs t B) c
  b-is = own-diff b t B c value

  square : Rounded binary64 (b ⊗ b) (B * B) 0 (c * c)
  square =
      rounded-at binary64 (b ⊗ b) _ _ (c * c) (B * B) 0 (c * c) (mul-pos C C) (mul-pos C C) (plain t (c * c))
      (mul-rounded binary64 b b (ups t B) (downs t B) (ups t B) (downs t B) c c C C b-is b-is)
    where
      plain : (t : Bool) (L : ℕ)
          → (ups t B * ups t B + downs t B * downs t B) * L + 0 * L ≡ B * B * L + (ups t B * downs t B + downs t B * ups t B) * L
      plain true L = omega arith
      plain false L = omega arith

  squares : (k : ℕ) → k < 33 → (k + 1) * (k + 1) + 4 < 2 ^ 53
  squares k l =
      let s : k + 1 ≤ 33 = omega arith in
      top (mul-le-mul s s)
    where
      top : {m : ℕ} → m ≤ 33 * 33 → m + 4 < 2 ^ 53
      top l = omega arith

  q-within : Within (b ⊗ b) 4 ((h + 1) * (h + 1))
  q-within =
      rounded-within (b ⊗ b) (B * B) 0 (c * c) 4 ((h + 1) * (h + 1)) square (mul-pos C C) (lit< tt) (lit< tt)
      (less (squares h h-few)) (lower (mul-le-mul (le_of_lt large) (le_of_lt large)))
      (upper h (mul-le-mul (le_of_lt h-least) (le_of_lt h-least)))
    where
      less : {m : ℕ} → m + 4 < 2 ^ 53 → m < 2 ^ 53
      less l = omega arith

      lower : c * c ≤ B * B → 4 * (c * c) + 0 * 4 ≤ B * B * 4
      lower l = omega arith

      upper : (k : ℕ) → 2 * B * (2 * B) ≤ (k + 1) * c * ((k + 1) * c) → B * B * 4 ≤ (k + 1) * (k + 1) * (c * c) + 0 * 4
      upper k l = omega arith

  x-within : Within (f1 ⊕ b ⊗ b) 8 ((h + 1) * (h + 1) + 4)
  x-within =
      let q = q-within in
      let q-is = own-diff (b ⊗ b) false q.X unit q.value in
      rounded-within (f1 ⊕ b ⊗ b) _ _ (1 * unit) 8 ((h + 1) * (h + 1) + 4)
      (add-rounded binary64 f1 (b ⊗ b) 1 0 q.X 0 1 unit one-pos unit-pos one-is q-is)
      (mul-pos one-pos unit-pos) (lit< tt) (lit< tt) (squares h h-few)
      (lower q.X unit q.least) (upper q.X unit ((h + 1) * (h + 1)) q.most)
    where
      lower : (X L : ℕ) → 4 * L ≤ X * 4 → 8 * (1 * L) + (0 * L + 0 * 1) * 4 ≤ (1 * L + X * 1) * 4
      lower X L l = omega arith

      upper : (X L m : ℕ) → X * 4 ≤ m * L → (1 * L + X * 1) * 4 ≤ (m + 4) * (1 * L) + (0 * L + 0 * 1) * 4
      upper X L m l = omega arith

  r-within : Within (F64.sqrt (f1 ⊕ b ⊗ b)) 5 (2 * (h + 2))
  r-within = root-within (f1 ⊕ b ⊗ b) h (some h h-some) (few h h-few) x-within
    where
      some : (k : ℕ) → 2 ≤ k → 1 ≤ k
      some k l = omega arith

      few : (k : ℕ) → k < 33 → 2 * (k + 2) < 2 ^ 53
      few k l = omega arith

  s-within : Within (F64.sqrt (f1 ⊕ b ⊗ b) ⊖ f1) 1 (2 * h)
  s-within =
      let r = r-within in
      rounded-within (F64.sqrt (f1 ⊕ b ⊗ b) ⊖ f1) _ _ (unit * 1) 1 (2 * h)
      (sub-rounded binary64 (F64.sqrt (f1 ⊕ b ⊗ b)) f1 r.X 0 1 0 unit 1 unit-pos one-pos
      (own-diff (F64.sqrt (f1 ⊕ b ⊗ b)) false r.X unit r.value) one-is)
      (mul-pos unit-pos one-pos) (lit< tt) (lit< tt) (few h h-few)
      (lower r.X unit r.least) (upper h r.X unit r.most)
    where
      few : (k : ℕ) → k < 33 → 2 * k < 2 ^ 53
      few k l = omega arith

      lower : (X L : ℕ) → 5 * L ≤ X * 4 → 1 * (L * 1) + (0 * 1 + 1 * L) * 4 ≤ (X * 1 + 0 * L) * 4
      lower X L l = omega arith

      upper : (k X L : ℕ) → X * 4 ≤ 2 * (k + 2) * L → (X * 1 + 0 * L) * 4 ≤ 2 * k * (L * 1) + (0 * 1 + 1 * L) * 4
      upper k X L l = omega arith

  -- the quotient without its sign
  some-B : 0 < B
  some-B = omega arith

  between : (z : Float) → Rounded binary64 z (s-within.X * c) 0 (B * unit) → T (half_least ≼ z) × T (z ≼ f1)
  between z r =
      let S = s-within.X in
      let C' = mul-pos some-B unit-pos in (
        rounded-ge binary64 z (S * c) 0 (B * unit) r C' half_least 1 0 64 (lit< tt) (of_bits-fits binary64 0x3f90_0000_0000_0000)
            least-is (lower S unit s-within.least),
        rounded-le binary64 z (S * c) 0 (B * unit) r C' f1 1 0 1 one-pos (of_bits-fits binary64 0x3ff0_0000_0000_0000)
            one-is (upper h S unit h-most s-within.most),
      )
    where
      lower : (S L : ℕ) → 1 * L ≤ S * 4 → 1 * (B * L) + 0 * 64 ≤ S * c * 64 + 0 * (B * L)
      lower S L l =
          let w = mul-le-mul_right L small in
          let v = mul-le-mul_right (16 * c) l in
          omega arith

      upper : (k S L : ℕ) → k * c ≤ 2 * B → S * 4 ≤ 2 * k * L → S * c * 1 + 0 * (B * L) ≤ 1 * (B * L) + 0 * 1
      upper k S L a l =
          let w = mul-le-mul_right L a in
          let v = mul-le-mul_right c l in
          omega arith

  quotient : Rounded binary64 (half_bulge b) (signed_by t s-within.X 0 * c) (signed_by t 0 s-within.X * c) (B * unit)
  unfolding half_bulge
  quotient =
      let s = F64.sqrt (f1 ⊕ b ⊗ b) ⊖ f1 in
      let w = s-within in
      div-rounded binary64 s b w.X 0 unit t B c unit-pos C some-B (own-diff s false w.X unit w.value)
      value

-- ---- a float from 1/64 to 1 is above zero
record Above (z : Float) : Type 0 where
  pub number : T (finite z)
  pub unsigned : F64.abs z ≡ z
  pub turned : F64.abs (neg z) ≡ z
  pub above : (z ≺ f0) ≡ false
  pub below : (neg z ≺ f0) ≡ true

above_zero : (z : Float) → T (half_least ≼ z) → T (z ≼ f1) → Above z
unfolding F64.abs neg
above_zero z l m =
    go z (between-finite half_least z f1 (diff-finite half_least 1 0 64 least-is) (diff-finite f1 1 0 1 one-is) l m) l
  where
    never : (M d : ℕ) → 0 < d → 1 * d + M * 64 ≤ 0 * 64 + 0 * d → ⊥
    never M d D l = omega arith

    not-below : (M d : ℕ) → M * 1 + 0 * d < 0 * d + 0 * 1 → ⊥
    not-below M d l = omega arith

    under : (M d : ℕ) → 0 < d → 1 * d + 0 * 64 ≤ M * 64 + 0 * d → 0 * 1 + 0 * d < 0 * d + M * 1
    under M d D l = omega arith

    go : (z : Float) → T (finite z) → T (half_least ≼ z) → Above z
    go nan f l = absurd f
    go (inf s) f l = absurd f
    go (fin true m e) f l =
        let D = down_pos e in
        absurd (never (m * up e) (down e) D
        ((le-diff half_least (fin true m e) 1 0 64 0 (m * up e) (down e) (lit< tt) D least-is (written-diff true m e)).0 l))
    go (fin false m e) f l =
        let z = fin false m e in
        let D = down_pos e in
        let is = written-diff false m e in
        record {
          number = tt;
          unsigned = refl;
          turned = refl;
          above = is_false _ (not_T (z ≺ f0) (λ t.
              not-below (m * up e) (down e) ((lt-diff z f0 (m * up e) 0 (down e) 0 0 1 D one-pos is zero_is).0 t)));
          below = is_true _ ((lt-diff (fin true m e) f0 0 (m * up e) (down e) 0 0 1 D one-pos (written-diff true m e) zero_is).1
              (under (m * up e) (down e) D
              ((le-diff half_least z 1 0 64 (m * up e) 0 (down e) (lit< tt) D least-is is).0 l)));
        }

-- ---- all together
neg-neg : (x : Float) → neg (neg x) ≡ x
unfolding neg
neg-neg nan = refl
neg-neg (inf true) = refl
neg-neg (inf false) = refl
neg-neg (fin true m e) = refl
neg-neg (fin false m e) = refl

finite-neg : (x : Float) → T (finite (neg x)) → T (finite x)
unfolding neg
finite-neg nan f = absurd f
finite-neg (inf s) f = absurd f
finite-neg (fin s m e) f = tt

module _ (m : ℕ) (e : ℤ) (large : down e < m * up e) (small : m * up e ≤ 16 * down e) where
  abbrev B : ℕ
  B = m * up e

  abbrev c : ℕ
  c = down e

  b-sign : (t : Bool) → (fin t m e ≺ f0) ≡ t
  b-sign true =
      is_true _ ((lt-diff (fin true m e) f0 0 B c 0 0 1 (down_pos e) one-pos (written-diff true m e) zero_is).1 (under B c large))
    where
      under : (B c : ℕ) → c < B → 0 * 1 + 0 * c < 0 * c + B * 1
      under B c l = omega arith
  b-sign false =
      is_false _ (not_T (fin false m e ≺ f0) (λ t.
      never B c ((lt-diff (fin false m e) f0 B 0 c 0 0 1 (down_pos e) one-pos (written-diff false m e) zero_is).0 t)))
    where
      never : (B c : ℕ) → B * 1 + 0 * c < 0 * c + 0 * 1 → ⊥
      never B c l = omega arith

  unsigned-half : HalfOf (fin false m e) (half_bulge (fin false m e))
  unsigned-half =
      let b = fin false m e in
      let C = down_pos e in
      let S = (s-within b false B c C (refl, refl) large small).X in
      let r = rounded-at binary64 (half_bulge b) _ _ (B * unit) (S * c) 0 (B * unit) (mul-pos (some B c large) unit-pos)
      (mul-pos (some B c large) unit-pos) (plain S c (B * unit)) (quotient b false B c C (refl, refl) large small) in
      let d = between b false B c C (refl, refl) large small (half_bulge b) r in
      let a = above_zero (half_bulge b) d.0 d.1 in
      record {
        number = a.number;
        least = subst (λ (z : Float). T (half_least ≼ z)) (sym a.unsigned) d.0;
        most = subst (λ (z : Float). T (z ≼ f1)) (sym a.unsigned) d.1;
        sign = a.above ∙ sym (b-sign false);
      }
    where
      some : (B c : ℕ) → c < B → 0 < B
      some B c l = omega arith

      plain : (S c L : ℕ) → S * c * L + 0 * L ≡ S * c * L + 0 * c * L
      plain S c L = omega arith

  signed-half : HalfOf (fin true m e) (half_bulge (fin true m e))
  signed-half =
      let b = fin true m e in
      let C = down_pos e in
      let S = (s-within b true B c C (refl, refl) large small).X in
      let half = half_bulge b in
      let turned = rounded-neg binary64 half _ _ (B * unit) (quotient b true B c C (refl, refl) large small) in
      let r = rounded-at binary64 (neg half) _ _ (B * unit) (S * c) 0 (B * unit) (mul-pos (some B c large) unit-pos)
      (mul-pos (some B c large) unit-pos) (plain S c (B * unit)) turned in
      let d = between b true B c C (refl, refl) large small (neg half) r in
      let a = above_zero (neg half) d.0 d.1 in
      let size = ap F64.abs (sym (neg-neg half)) ∙ a.turned in
      record {
        number = finite-neg half a.number;
        least = subst (λ (z : Float). T (half_least ≼ z)) (sym size) d.0;
        most = subst (λ (z : Float). T (z ≼ f1)) (sym size) d.1;
        sign = ap (λ (z : Float). z ≺ f0) (sym (neg-neg half)) ∙ a.below ∙ sym (b-sign true);
      }
    where
      some : (B c : ℕ) → c < B → 0 < B
      some B c l = omega arith

      plain : (S c L : ℕ) → S * c * L + 0 * L ≡ S * c * L + 0 * c * L
      plain S c L = omega arith

pub half-bulge : (b : Float) → is_large b ≡ true → checks.Within Limit.large_bulge b → HalfOf b (half_bulge b)
unfolding is_large F64.abs
half-bulge nan l w = absurd w.number
half-bulge (inf s) l w = absurd w.number
half-bulge (fin t m e) l w = go t
  where
    large : down e < m * up e
    large = plain (down e) (m * up e)
        ((lt-diff f1 (fin false m e) 1 0 1 (m * up e) 0 (down e) one-pos (down_pos e) one-is (written-diff false m e)).0
        (subst T (sym l) tt))
      where
        plain : (c B : ℕ) → 1 * c + 0 * 1 < B * 1 + 0 * c → c < B
        plain c B l = omega arith

    small : m * up e ≤ 16 * down e
    small = plain (down e) (m * up e)
        ((le-diff (fin false m e) Limit.large_bulge (m * up e) 0 (down e) 16 0 1 (down_pos e) one-pos (written-diff false m e)
        sixteen-is).0 w.small)
      where
        plain : (c B : ℕ) → B * 1 + 0 * c ≤ 16 * c + 0 * 1 → B ≤ 16 * c
        plain c B l = omega arith

    go : (t : Bool) → HalfOf (fin t m e) (half_bulge (fin t m e))
    go true = signed-half m e large small
    go false = unsigned-half m e large small
