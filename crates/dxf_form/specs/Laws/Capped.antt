-- The float of a number by its sign and its millionths: beyond 2^53 millionths it is that of 2^53.
use Rattle.std.specs.Prelude.{ℕ, zero, suc, ◌≤◌, ◌<◌, ◌≡◌, refl, Bool, true, false, not, cond, T, ltb, ℤ, pos, negsuc, Float}
use Rattle.std.proofs.Common.{arith, nltb→le}
use borrow.Author.Tests.{lt-ltb, le-ltb}
use Rattle.std.specs.Float.{binary64}
use Rattle.std.specs.Float.Ieee.{div}
use Rattle.layouts.specs.Layout.{magnitude, whole}
use Rattle.layouts.specs.Exact.{negative as is_negative}
use Rattle.layouts.specs.Laws.Whole.{size-whole}
use Rattle.layouts.specs.Numbers.{coordinate}
use Rattle.dxf_form.specs.Numbers.{most, at_most, held, scale, value}

pub held_whole : (negative : Bool) (n : ℕ) → held (whole negative n) ≡ whole negative (at_most n)
unfolding held
held_whole false n = refl
held_whole true zero = refl
held_whole true (suc n) = refl

-- a number of at most 2^53 millionths is held as it is, any other as 2^53 millionths with its sign
pub held_small : (z : ℤ) → magnitude z ≤ most → held z ≡ z
unfolding held
held_small (pos n) h = rw (le-ltb most n h)
held_small (negsuc n) h = rw (le-ltb most (suc n) h)

pub held-large : (z : ℤ) → most < magnitude z → held z ≡ whole (is_negative z) most
unfolding held
held-large (pos n) h = rw (lt-ltb most n h)
held-large (negsuc n) h = rw (lt-ltb most (suc n) h)

at-most-lem : (n : ℕ) → at_most n ≤ most
at-most-lem n = go (ltb most n) (nltb→le most n)
  where
    go : (over : Bool) → (T (not over) → n ≤ most) → cond over most n ≤ most
    go true h = omega arith
    go false h = h tt

pub held-few : (z : ℤ) → magnitude (held z) ≤ most
unfolding held
held-few (pos n) = at-most-lem n
held-few (negsuc n) = rw (size-whole true (at_most (suc n))) (at-most-lem (suc n))

-- ---- what the code divides

module _ (negative : Bool) (n : ℕ) (x : Float) where
  pub value-large : most < n → x ≡ coordinate (whole negative most) → div binary64 x scale ≡ value (whole negative n)
  unfolding value coordinate
  value-large h e = rw (held_whole negative n, lt-ltb _ _ h, e)

  pub value-small : n ≤ most → x ≡ coordinate (whole negative n) → div binary64 x scale ≡ value (whole negative n)
  unfolding value coordinate
  value-small h e = rw (held_whole negative n, le-ltb _ _ h, e)
