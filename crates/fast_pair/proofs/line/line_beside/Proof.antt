-- `fast_pair::line::line_beside` meets its contract: its calls are the definition's, one by one.
use borrow.Author.Rules.{rules}
use Rattle.fast_pair.specs.Workings.ClearlyApart
use Rattle.fast_pair.proofs.line.line_beside.Statement.{statement}
use Rattle.fast_pair.proofs.line.line_beside.Tie as tie

pub line_beside_spec : {M : Type 1} → statement M
unfolding ClearlyApart.line_beside
line_beside_spec =
    tie.close
    (tie.spec
    (λ c. search rules) (λ c. search rules) (λ c. search rules) (λ c. search rules) (λ c. search rules)
    (λ c. search rules)
    (λ c. cc))
