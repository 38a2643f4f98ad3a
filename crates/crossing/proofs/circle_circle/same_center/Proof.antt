-- `crossing::circle_circle::same_center` meets its contract: each return is a branch of the definition, by the calls and tests
-- before it.
use borrow.Author.Rules.{rules}
use Rattle.crossing.specs.CircleCircle.{same_center}
use Rattle.float_laws.specs.Branches.{branches}
use Rattle.crossing.proofs.circle_circle.same_center.Statement.{statement}
use Rattle.crossing.proofs.circle_circle.same_center.Tie as tie

pub same_center_spec : {M : Type 1} → statement M
unfolding same_center
same_center_spec = tie.close (tie.spec (search rules) (λ c. search branches) (λ c. search branches))
