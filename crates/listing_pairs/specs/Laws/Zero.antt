-- What is 0 by value, or no number, is not above 0.
use Rattle.std.specs.Prelude.{◌≡◌, refl, Bool, true, false, not, ◌||◌, T, Float}
use Rattle.std.proofs.Common.{sym, true≢false}
use Rattle.std.specs.Float.{nan}
use Rattle.std.specs.Float.Ieee.{le, lt, of_bits}
use Rattle.float_laws.specs.Chains.{le_not_lt}
use Rattle.floats.specs.Ops.{◌≈◌, ◌≻◌, f0}

-- what is 0 is not above 0
pub not-above : (x : Float) → (x ≈ f0) ≡ true → (x ≻ f0) ≡ false
unfolding le
not-above x e = denied (x ≻ f0) (le_not_lt x f0 (either (lt x f0) (x ≈ f0) e))
  where
    either : (a b : Bool) → b ≡ true → T (a || b)
    either true b e = tt
    either false true e = tt
    either false false e = absurd (true≢false (sym e))

    denied : (b : Bool) → T (not b) → b ≡ false
    denied true h = absurd h
    denied false h = refl

pub nan-not-above : (nan ≻ f0) ≡ false
unfolding lt of_bits
nan-not-above = refl
