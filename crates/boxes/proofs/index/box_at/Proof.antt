-- `boxes::index::box_at` meets its contract: it reads the four floats where they stand.
use mathlib.Core.Path.{refl}
use borrow.Author.Rules.{rules}
use Rattle.boxes.specs.Workings.Stored.{box_at}
use Rattle.boxes.proofs.index.box_at.Statement.{statement}
use Rattle.boxes.proofs.index.box_at.Tie as tie

pub box_at_spec : {M : Type 1} → statement M
unfolding box_at
box_at_spec =
    tie.close
    (tie.spec
    (λ c. search rules) (λ c. search rules) (λ c. search rules) (λ c. search rules) (λ c. search rules) (λ c. search rules)
    (λ c. search rules) (λ c. search rules) (λ c. search rules) (λ c. search rules) (λ c. search rules) (λ c. search rules)
    (λ c. refl))
