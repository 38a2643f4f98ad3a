-- The NaN: only it differs from itself, and 0 / 0 gives it.
use Rattle.std.specs.Prelude.{◌≡◌, true, false, T, refl, Float}
use Rattle.std.proofs.Common.{sym, ap, subst}
use Rattle.std.specs.Float.{nan, inf, fin, binary64}
use Rattle.std.specs.Float.Ieee.{is_nan, eq, ne, of_bits, of_fields, div}
use Rattle.std.specs.Float.Ieee.Compare.{differs_from_itself}

pub differs : (x : Float) → ne x x ≡ true → is_nan x ≡ true
unfolding is_nan
differs x h = ap is_nan (differs_from_itself x (subst T (sym h) tt))

pub number : (x : Float) → ne x x ≡ false → is_nan x ≡ false
unfolding is_nan ne eq
number nan h = h
number (inf s) h = refl
number (fin s m e) h = refl

-- there is only one
pub the_nan : (x : Float) → is_nan x ≡ true → nan ≡ x
unfolding is_nan
the_nan nan h = refl
the_nan (inf s) h = absurd (subst T (sym h) tt)
the_nan (fin s m e) h = absurd (subst T (sym h) tt)

pub zero-over-zero : div binary64 (of_bits binary64 0) (of_bits binary64 0) ≡ nan
unfolding div of_bits of_fields
zero-over-zero = refl
