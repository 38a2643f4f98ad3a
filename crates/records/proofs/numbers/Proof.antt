-- `records::numbers` meets its contract: its calls are the definition's.
use borrow.Author.Rules.{rules}
use Rattle.records.proofs.numbers.Statement.{statement}
use Rattle.records.proofs.numbers.Tie as tie

returns : tie.Need-returns
returns c = (simp (← c.name.ensures, ← c.numbers.ensures.0), c.numbers.ensures.1)

pub numbers_spec : {M : Type 1} → statement M
numbers_spec = tie.close (tie.spec (λ c. search rules) (λ c. search rules) returns)
