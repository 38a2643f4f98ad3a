-- `floats::abs` meets its contract: a NaN stays one; of a number, clearing the pattern's sign clears the value's.
use Rattle.std.proofs.Common.{◌≡◌, false, T, sym, refl, subst, rules}
use lib.Ieee.{Float, nan, inf, fin, binary64, fits, is_nan, to_bits}
use lib.Ieee.Bits.{to_bits-lt}
use lib.Ieee.Compare.{differs_from_itself}
use Rattle.floats.specs.F64
use Rattle.floats.specs.Bits
use Rattle.floats.specs.Agree.{abs-agrees}
use Rattle.floats.proofs.Through.{off, value_of, number_of}
use Rattle.floats.specs.Laws.Nan.{number}
use Rattle.floats.proofs.abs.Statement.{statement}
use Rattle.floats.proofs.abs.Tie as tie

nan-abs : nan ≡ F64.abs nan
unfolding F64.abs
nan-abs = refl

abs-number : (x : Float) → is_nan x ≡ false → is_nan (F64.abs x) ≡ false
unfolding F64.abs is_nan
abs-number nan h = h
abs-number (inf s) h = refl
abs-number (fin s m e) h = refl

held : (c : tie.Start) → T (fits binary64 c.args.x)
held c = subst T (sym c.well_formed.0.1) tt

returns : tie.Need-returns-then-x
returns c =
    let is-nan-lem = differs_from_itself _ (subst T (sym c.if-x.true) tt) in
    subst (λ (v : Float). v ≡ F64.abs v) (sym is-nan-lem) nan-abs

float-to-bits-abs : tie.Need-float_to_bits-x
float-to-bits-abs c = off (number _ c.if-x.false)

float-from-bits-result : tie.Need-float_from_bits-result
float-from-bits-result c =
    let x = c.before.before.args.x in
    let fit = held c.before.before in
    number_of F64.abs Bits.abs x _ fit c.abs.ensures (abs-agrees (to_bits binary64 x) (to_bits-lt binary64 x fit))
    (abs-number x (number x c.before.if-x.false))

returns-2 : tie.Need-returns
returns-2 c =
    let x = c.before.before.args.x in
    let fit = held c.before.before in
    value_of F64.abs Bits.abs x _ fit c.abs.ensures (abs-agrees (to_bits binary64 x) (to_bits-lt binary64 x fit))

pub abs_spec : {M : Type 1} → statement M
abs_spec = tie.close (tie.spec returns float-to-bits-abs (λ c. search rules) float-from-bits-result returns-2)
