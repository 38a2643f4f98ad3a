-- `spans::root::rough_root` answers for every number: below the pattern of infinity half of a pattern and the constant are the
-- pattern of a number.
use mathlib.Core.Path.{◌≡◌, sym, ◌∙◌, subst}
use Prim.Native.Nat.{ℕ, ◌%◌, ◌*◌, ◌≤◌, ◌<◌}
use native.Mathlib.Nat.{mod-le}
use native.Mathlib.Omega.{arith}
use mathlib.Core.Bool.{Bool, false, not}
use borrow.Author.Rules.{rules}
use denote.Floats.{passes}
use lib.Dec.{T, ltb, ltb→lt, not_T}
use lib.Ieee.{binary64, nan_bits, hid, ones, top}
use lib.Ieee.Bits.{nan_bits_above, is_false}
use Rattle.float_laws.specs.Chains.{le-numbers}
use Rattle.spans.proofs.root.rough_root.Statement.{statement}
use Rattle.spans.proofs.root.rough_root.Tie as tie

off : {b : Bool} → b ≡ false → T (not b)
off h = subst (λ (z : Bool). T (not z)) (sym h) tt

number : (n : ℕ) → n < 0x7ff0_0000_0000_0000 → T (not (nan_bits binary64 n))
number n h =
    off (nan_bits_above binary64 n
    ∙ is_false (ltb (ones binary64 * hid binary64) (n % top binary64))
    (not_T (ltb (ones binary64 * hid binary64) (n % top binary64)) (λ t. never (ltb→lt _ (n % top binary64) t))))
  where
    never : 0x7ff0_0000_0000_0000 < n % top binary64 → ⊥
    never g = let m : n % top binary64 ≤ n = mod-le n (top binary64) in omega arith

float-to-bits-b : tie.Need-float_to_bits-b
float-to-bits-b c = off (le-numbers _ _ (passes _ c.if-q.true)).1

pub rough_root_spec : {M : Type 1} → statement M
rough_root_spec =
    tie.close (tie.spec float-to-bits-b (λ c. search rules) (λ c. number _ (omega (arith, c.if-b-lt-INFINITY.true)))
    (λ c. search rules) (λ c. search rules) (λ c. search rules))
