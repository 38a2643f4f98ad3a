-- The code's way to the millionths of a float: what its tests say, and that a number with a whole part is no NaN.
use Rattle.std.specs.Prelude.{◌≡◌, ℕ, Bool, true, false, cond, not, T, ℤ, pos, ◌≢◌, to_bits, Float}
use Rattle.std.proofs.Math.Path.{refl, ap}
use Rattle.std.proofs.Common.{sym, ◌∙◌, subst, true≢false}
use borrow.Author.Tests.{ne_eqb, eq-eqb}
use Rattle.std.specs.Float.{nan, inf, fin, binary64}
use Rattle.std.specs.Float.Ieee.{is_nan, of_bits, of_fields, to_unsigned, add, mul, lt, le, eq}
use Rattle.std.specs.Float.Ieee.Fits.{and_l, and_r}
use Rattle.float_laws.specs.Chains.{lt-le}
use Rattle.floats.specs.F64
use Rattle.layouts.specs.Layout.{whole}
use Rattle.dxf_form.specs.Numbers.{scale, value}
use Rattle.dxf_write.specs.Millionths.{Found, none, found, zero, half, top}
use Rattle.dxf_write.specs.Millionths.{raised, has_part, candidate, tested, millionths_of}

pub off : {b : Bool} → b ≡ false → T (not b)
off h = subst (λ (z : Bool). T (not z)) (sym h) tt

-- ---- the test by the division

module _ (x v : Float) (z : ℤ) (is : v ≡ value z) where
  pub same_bits : to_bits binary64 v ≡ to_bits binary64 x → found z ≡ tested x z
  unfolding tested
  same_bits h = rw (← is, eq-eqb _ _ h)

  pub other-bits : (to_bits binary64 v ≢ to_bits binary64 x) → none ≡ tested x z
  unfolding tested
  other-bits h = rw (← is, ne_eqb _ _ h)

-- ---- the whole part

module _ (y : Float) (h : has_part y ≡ true) where
  yes : T (has_part y)
  yes = subst T (sym h) tt

  minus-one-below : T (lt (fin true 1 (pos 0)) zero)
  unfolding lt of_bits of_fields
  minus-one-below = tt

  top-is : top ≡ fin false 1 (pos 64)
  unfolding of_bits of_fields
  top-is = refl

  pub part-above : T (lt (fin true 1 (pos 0)) y)
  part-above = lt-le (fin true 1 (pos 0)) zero y minus-one-below (and_l (le zero y) (lt y top) yes)

  pub part-below : T (lt y (fin false 1 (pos 64)))
  part-below = subst (λ (t : Float). T (lt y t)) top-is (and_r (le zero y) (lt y top) yes)

pub part-real : (x : Float) → has_part (raised x) ≡ true → is_nan x ≡ false
unfolding is_nan F64.abs mul add le lt eq of_bits of_fields
part-real nan h = absurd (true≢false (sym h))
part-real (inf s) h = refl
part-real (fin s m e) h = refl

module _ (x a : Float) (is : a ≡ F64.abs x) where
  pub raised_is : add binary64 (mul binary64 a scale) half ≡ raised x
  raised_is = ap (λ (b : Float). add binary64 (mul binary64 b scale) half) is

  pub tried : (said : Bool) (n : ℕ) (r : Found) → said ≡ has_part (add binary64 (mul binary64 a scale) half) → said ≡ true
      → n ≡ to_unsigned 64 (add binary64 (mul binary64 a scale) half) → r ≡ tested x (whole (lt x zero) n)
      → r ≡ millionths_of x
  unfolding millionths_of
  tried said n r e h part t =
      t
      ∙ ap (λ (k : ℕ). tested x (whole (lt x zero) k)) (part ∙ ap (to_unsigned 64) raised_is)
      ∙ ap (λ (b : Bool). cond b (tested x (candidate x)) none) (sym h ∙ e ∙ ap has_part raised_is)

  pub untried : (said : Bool) → said ≡ has_part (add binary64 (mul binary64 a scale) half) → said ≡ false
      → none ≡ millionths_of x
  unfolding millionths_of
  untried said e h = ap (λ (b : Bool). cond b (tested x (candidate x)) none) (sym h ∙ e ∙ ap has_part raised_is)
