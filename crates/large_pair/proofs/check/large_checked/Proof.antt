-- `large_pair::check::large_checked` meets its contract: if the quick test finds all numbers fine, so does the check (Laws/Fine).
use mathlib.Core.Path.{sym, ◌∙◌}
use denote.Floats.{passes}
use borrow.Author.Rules.{rules}
use Rattle.large_pair.specs.Laws.Fine.{by_tests}
use Rattle.large_pair.proofs.check.large_checked.Statement.{statement}
use Rattle.large_pair.proofs.check.large_checked.Tie as tie

returns : tie.Need-returns-then-epsilon_fine-parts_fine
returns c =
    sym (by_tests _ _ _ _ _ _ _ c.requires.0 c.requires.1 c.epsilon_fine.ensures c.parts_fine.ensures
    c.parts_fine-2.ensures c.if-epsilon_fine-parts_fine.true)

pub large_checked_spec : {M : Type 1} → statement M
large_checked_spec =
    tie.close
    (tie.spec
    (λ c. search rules) (λ c. search rules) (λ c. search rules) returns (λ c. search rules) (λ c. search rules))
