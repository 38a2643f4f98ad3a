-- `large_pair::put::with_circle` meets its contract: the code is the definition.
use borrow.Author.Rules.{rules}
use Rattle.large_pair.specs.Workings.Pieces.{with_circle}
use Rattle.large_pair.proofs.put.with_circle.Statement.{statement}
use Rattle.large_pair.proofs.put.with_circle.Tie as tie

pub with_circle_spec : {M : Type 1} → statement M
unfolding with_circle
with_circle_spec = tie.close (tie.spec (λ c. search rules) (λ c. simp (← c.circle_if_arc-circle.ensures)))
