-- The candidate of Millionths.antt is the only one: of a float of at most 2^20 in magnitude, which every x, y and bulge of an
-- export is, the millionths found are those that are read as it, and none are found exactly if none are read as it. So refusal 23
-- is given exactly if no number text has that value.
use Rattle.std.specs.Prelude.{◌≡◌, ℕ, Bool, true, false, cond, T, ◌↔◌, List, ℤ, ◌≢◌, from_bits, to_bits, Float}
use Rattle.std.proofs.Math.Path.{refl, ap}
use Rattle.std.proofs.Common.{sym, ◌∙◌, subst, true≢false, eqb→eq}
use Rattle.std.proofs.Math.Dec.{eqb_refl}
use Rattle.std.specs.Float.{binary64}
use Rattle.std.specs.Float.Ieee.{fits, le}
use Rattle.std.specs.Float.Ieee.Bits.{is_true, of_bits-to_bits}
use Rattle.floats.specs.F64
use Rattle.checks.specs.Limit
use Rattle.dxf_form.specs.Numbers.{value}
use Rattle.dxf_form.specs.Form.{NumberText}
use Rattle.dxf_write.specs.Millionths.{Found, none, found, raised, has_part, candidate, same_bits, tested, millionths_of}
use Rattle.dxf_write.specs.Written.{number_bytes}
use Rattle.dxf_write.specs.Spelt.{number-spelt}
use Rattle.dxf_write.specs.Laws.Value.{value-fits}
use Rattle.dxf_write.specs.Laws.Candidate.{raised-held, candidate-is}

found≢none : {z : ℤ} → found z ≢ none
found≢none e = let w : true ≡ false = ap is_found e in absurd (true≢false w)
  where
    is_found : Found → Bool
    is_found none = false
    is_found (found z) = true

found-inj : {z y : ℤ} → found z ≡ found y → z ≡ y
found-inj {z} {y} e = ap from e
  where
    from : Found → ℤ
    from none = z
    from (found w) = w

-- what has the bits of x is x
same_float : (x y : Float) → T (fits binary64 x) → T (fits binary64 y) → same_bits x y ≡ true → x ≡ y
same_float x y f g e =
    let bits : to_bits binary64 x ≡ to_bits binary64 y = eqb→eq _ _ (subst T (sym e) tt) in
    sym (of_bits-to_bits binary64 x f) ∙ ap (from_bits binary64) bits ∙ of_bits-to_bits binary64 y g

module _ (x : Float) (f64 : T (fits binary64 x)) where
  -- what is found is read as x, whatever x is
  pub found-reads : (z : ℤ) → millionths_of x ≡ found z → value z ≡ x
  unfolding millionths_of tested
  found-reads z =
      let v = value (candidate x) in
      go (has_part (raised x)) (same_bits v x) (same_float v x (value-fits (candidate x)) f64)
    where
      go : (a b : Bool) → (b ≡ true → value (candidate x) ≡ x) → cond a (cond b (found (candidate x)) none) none ≡ found z
          → value z ≡ x
      go true true is e = ap value (sym (found-inj e)) ∙ is refl
      go true false is e = absurd (found≢none (sym e))
      go false b is e = absurd (found≢none (sym e))

-- of a value, its millionths are found
of-value : (z : ℤ) → T (le (F64.abs (value z)) Limit.coordinate) → millionths_of (value z) ≡ found z
unfolding millionths_of tested
of-value z small =
    let v = value z in
    ap (λ (b : Bool). cond b (tested v (candidate v)) none) (raised-held z small)
    ∙ ap (tested v) (candidate-is z small)
    ∙ ap (λ (b : Bool). cond b (found z) none) (is_true (same_bits v v) (eqb_refl (to_bits binary64 v)))

module _ (x : Float) (f64 : T (fits binary64 x)) (small : T (le (F64.abs x) Limit.coordinate)) where
  reads-found : (z : ℤ) → value z ≡ x → millionths_of x ≡ found z
  reads-found z e =
      ap millionths_of (sym e) ∙ of-value z (subst (λ (y : Float). T (le (F64.abs y) Limit.coordinate)) (sym e) small)

  -- the millionths found are those that are read as x: there are no others
  pub found-when : (z : ℤ) → (millionths_of x ≡ found z) ↔ (value z ≡ x)
  found-when z = (found-reads x f64 z, reads-found z)

  -- none are found exactly if none are read as x
  pub none-when : (millionths_of x ≡ none) ↔ ((z : ℤ) → value z ≢ x)
  none-when = (
    λ e z is. found≢none (sym (reads-found z is) ∙ e),
    λ h. go (millionths_of x) (found-reads x f64) h,
  )
    where
      go : (m : Found) → ((z : ℤ) → m ≡ found z → value z ≡ x) → ((z : ℤ) → value z ≢ x) → m ≡ none
      go none reads h = refl
      go (found z) reads h = absurd (h z (reads z refl))

  -- in the words of the form: none are found exactly if no line is a number text with the value x
  pub no_text : (millionths_of x ≡ none) ↔ ((line : List ℕ) (z : ℤ) → NumberText line z → value z ≢ x)
  no_text = (
    λ e line z spelt is. none-when.0 e z is,
    λ h. none-when.1 (λ z is. h (number_bytes z) z (number-spelt z) is),
  )
