-- `chord` meets its contract: the comparison that it refuses by is the definition's.
use borrow.Author.Rules.{rules}
use Rattle.checks.specs.Each.{chord}
use Rattle.checks.proofs.each.chord.Statement.{statement}
use Rattle.checks.proofs.each.chord.Tie as tie

pub chord_spec : {M : Type 1} → statement M
unfolding chord
chord_spec = tie.close (tie.spec (λ c. search rules) (λ c. simp c.refuse.ensures))
