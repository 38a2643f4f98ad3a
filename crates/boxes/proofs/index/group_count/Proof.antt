-- `boxes::index::group_count` meets its contract: it is the definition's quotient.
use mathlib.Core.Path.{refl}
use borrow.Author.Rules.{rules}
use Rattle.boxes.proofs.index.group_count.Statement.{statement}
use Rattle.boxes.proofs.index.group_count.Tie as tie

pub group_count_spec : {M : Type 1} → statement M
group_count_spec = tie.close (tie.spec (λ c. search rules) (λ c. search rules) (λ c. refl))
