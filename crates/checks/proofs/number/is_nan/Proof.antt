-- `is_nan` meets its contract: a NaN differs from itself, and an infinity or a number does not.
use mathlib.Core.Path.{◌≡◌, refl}
use mathlib.Core.Bool.{Bool, true, false, not, ◌&&◌}
use Prim.Native.Nat.{ℕ, ◌*◌}
use lib.Dec.{T, eqb, eqb_refl}
use lib.Ieee.{Float, nan, inf, fin, up, down, ne, is_nan}
use Rattle.checks.proofs.number.is_nan.Statement.{statement}
use Rattle.checks.proofs.number.is_nan.Tie as tie

same : (n : ℕ) → not (eqb n n && true) ≡ false
same n = go (eqb n n) (eqb_refl n)
  where
    go : (b : Bool) → T b → not (b && true) ≡ false
    go true t = refl
    go false t = absurd t

differs : (x : Float) → ne x x ≡ is_nan x
unfolding ne is_nan
differs nan = refl
differs (inf true) = refl
differs (inf false) = refl
differs (fin true m e) = same (m * up e * down e)
differs (fin false m e) = same (m * up e * down e)

returns : tie.Need-returns
returns c = differs c.args.x

pub is_nan_spec : {M : Type 1} → statement M
is_nan_spec = tie.close (tie.spec returns)
