-- `large_outcomes::spread::name_of` meets its contract: behind the last name there is 0.
use mathlib.Core.Path.{sym}
use borrow.Author.Rules.{rules}
use lib.ListN.{get_or-eq_default}
use Rattle.large_outcomes.proofs.spread.name_of.Statement.{statement}
use Rattle.large_outcomes.proofs.spread.name_of.Tie as tie

pub name_of_spec : {M : Type 1} → statement M
name_of_spec =
    tie.close
    (tie.spec
    (λ c. search rules) (λ c. search rules) (λ c. search rules)
    (λ c. sym (get_or-eq_default c.args.names.now 0 c.if-at-names.false)))
