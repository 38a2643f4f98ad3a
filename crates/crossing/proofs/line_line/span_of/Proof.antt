-- `crossing::line_line::span_of` meets its contract: each return is a branch of the definition, by the calls and tests before it.
use borrow.Author.Rules.{rules}
use Rattle.crossing.specs.LineLine
use Rattle.crossing.proofs.line_line.span_of.Statement.{statement}
use Rattle.crossing.proofs.line_line.span_of.Tie as tie

returns : tie.Need-returns-then-fuzzy_eq_zero_eps
unfolding LineLine.span_of
returns c =
    simp (← c.fuzzy_eq_zero_eps.ensures, c.if-fuzzy_eq_zero_eps.true, ← c.rising.ensures)

returns-2 : tie.Need-returns
unfolding LineLine.span_of
returns-2 c =
    simp (← c.fuzzy_eq_zero_eps.ensures, c.if-fuzzy_eq_zero_eps.false, ← c.rising-2.ensures)

pub span_of_spec : {M : Type 1} → statement M
span_of_spec = tie.close (tie.spec (search rules) (search rules) returns (search rules) returns-2)
