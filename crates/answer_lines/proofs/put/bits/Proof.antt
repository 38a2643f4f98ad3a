-- `answer_lines::put::bits` meets its contract: only a NaN differs from itself, and its bits are those that the kit's text has
-- for it. Assumes nothing.
use mathlib.Core.Path.{◌≡◌, refl, sym, ap, ◌∙◌, subst}
use mathlib.Core.Bool.{false, not}
use borrow.Author.Rules.{rules}
use lib.Dec.{T}
use lib.Ieee.{Float, nan, inf, fin, binary64, is_nan, ne, eq, to_bits}
use lib.Ieee.Compare.{differs_from_itself}
use Rattle.answer_lines.proofs.put.bits.Statement.{statement}
use Rattle.answer_lines.proofs.put.bits.Tie as tie

nan-bits : 0x7ff8_0000_0000_0000 ≡ to_bits binary64 nan
unfolding to_bits
nan-bits = refl

number : (x : Float) → ne x x ≡ false → T (not (is_nan x))
unfolding ne eq is_nan
number nan h = subst T h tt
number (inf s) h = tt
number (fin s m e) h = tt

returns : tie.Need-returns-then-x
returns c =
    let is-nan-lem = differs_from_itself _ (subst T (sym c.if-x.true) tt) in
    nan-bits ∙ ap (to_bits binary64) (sym is-nan-lem)

float-to-bits-result : tie.Need-float_to_bits-result
float-to-bits-result c = number _ c.if-x.false

pub bits_spec : {M : Type 1} → statement M
bits_spec = tie.close (tie.spec returns float-to-bits-result (λ c. search rules))
