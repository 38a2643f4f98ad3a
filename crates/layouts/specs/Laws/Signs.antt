-- The float of a negative whole number is the float of its magnitude, negated.
use Rattle.std.specs.Prelude.{◌≡◌, ℕ, zero, suc, ◌+◌, ◌*◌, ◌^◌, Bool, true, false, cond, pos, ◌≢◌, nat_lt}
use Rattle.std.proofs.Math.Path.{refl}
use Rattle.std.specs.Float.{inf, Format, binary64}
use Rattle.std.specs.Float.Ieee.{prec, low, emax, neg, odd, units, round, of_int}
use Rattle.layouts.specs.Numbers.{coordinate}
use Rattle.layouts.specs.Layout.{whole}

odd-neg : (d q k l : ℕ) → neg (odd d false q k l) ≡ odd d true q k l
unfolding odd neg
odd-neg d zero k l = refl
odd-neg d (suc q) k l = refl

units-neg : (f : Format) (q k : ℕ) → neg (units f false q k) ≡ units f true q k
unfolding units neg
units-neg f q k = go (nat_lt (q * 2 ^ k) (2 ^ (low f + suc (emax f)))) (odd-neg (suc (prec f)) q k (low f))
  where
    go : (small : Bool) → neg (odd (suc (prec f)) false q k (low f)) ≡ odd (suc (prec f)) true q k (low f)
        → neg (cond small (odd (suc (prec f)) false q k (low f)) (inf false))
        ≡ cond small (odd (suc (prec f)) true q k (low f)) (inf true)
    go true e = e
    go false e = refl

round-neg : (f : Format) (num den : ℕ) → neg (round f false num den) ≡ round f true num den
unfolding round
round-neg f num den = units-neg f _ _

module _ (n : ℕ) where
  pub zero-value : (negative : Bool) → n ≡ 0 → of_int binary64 (pos n) ≡ coordinate (whole negative n)
  unfolding coordinate
  zero-value true e = rw e
  zero-value false e = refl

  pub plain_value : of_int binary64 (pos n) ≡ coordinate (whole false n)
  unfolding coordinate
  plain_value = refl

pub minus-value : (n : ℕ) → (n ≢ 0) → neg (of_int binary64 (pos n)) ≡ coordinate (whole true n)
unfolding coordinate of_int
minus-value zero h = absurd (h refl)
minus-value (suc n) h = round-neg binary64 (suc n) 1
