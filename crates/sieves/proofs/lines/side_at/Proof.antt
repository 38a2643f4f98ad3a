-- `sieves::lines::side_at` meets its contract: four numbers are read.
use mathlib.Core.Path.{refl}
use borrow.Author.Rules.{rules}
use Rattle.sieves.specs.Workings.Lines.{side_at}
use Rattle.sieves.proofs.lines.side_at.Statement.{statement}
use Rattle.sieves.proofs.lines.side_at.Tie as tie

pub side_at_spec : {M : Type 1} → statement M
unfolding side_at
side_at_spec =
    tie.close
    (tie.spec
    (λ c. search rules) (λ c. search rules) (λ c. search rules) (λ c. search rules) (λ c. search rules)
    (λ c. search rules) (λ c. search rules) (λ c. search rules) (λ c. search rules) (λ c. search rules)
    (λ c. search rules) (λ c. search rules) (λ c. search rules) (λ c. search rules)
    (λ c. refl))
