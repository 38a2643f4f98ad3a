-- `records::text::number` meets its contract: a NaN's pattern is read as the one NaN, which 0/0 is. Assumes nothing.
use mathlib.Core.Path.{sym, ap, ◌∙◌}
use borrow.Author.Rules.{rules}
use lib.Ieee.{binary64, of_bits}
use lib.Ieee.Bits.{nan_bits_is}
use Rattle.floats.specs.Laws.Nan.{the_nan, zero-over-zero}
use Rattle.float_laws.specs.Branches.{denied}
use Rattle.records.specs.Text.{number_at}
use Rattle.records.proofs.text.number.Statement.{statement}
use Rattle.records.proofs.text.number.Tie as tie

returns : tie.Need-returns-then-is_nan
unfolding number_at
returns c =
    let is = sym (nan_bits_is binary64 _) ∙ sym c.is_nan.ensures ∙ c.if-is_nan.true in
    zero-over-zero ∙ the_nan _ is ∙ ap (of_bits binary64) c.value-pattern.ensures

returns-2 : tie.Need-returns
unfolding number_at
returns-2 c = simp (← c.value-pattern.ensures)

pub number_spec : {M : Type 1} → statement M
number_spec = tie.close (tie.spec (λ c. search rules) (λ c. search rules) returns (λ c. search denied) returns-2)
