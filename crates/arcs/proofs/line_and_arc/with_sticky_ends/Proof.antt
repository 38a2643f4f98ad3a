-- `arcs::line_and_arc::with_sticky_ends` meets its contract: each return is a branch of the definition, by the calls and tests
-- before it.
use borrow.Author.Rules.{rules}
use Rattle.arcs.specs.LineAndArc.{with_sticky_ends}
use Rattle.float_laws.specs.Branches.{branches}
use Rattle.arcs.proofs.line_and_arc.with_sticky_ends.Statement.{statement}
use Rattle.arcs.proofs.line_and_arc.with_sticky_ends.Tie as tie

pub with_sticky_ends_spec : {M : Type 1} → statement M
unfolding with_sticky_ends
with_sticky_ends_spec =
    tie.close
    (tie.spec
    (search rules) (search rules) (search rules) (search rules)
    (λ c. search branches depth 8) (λ c. search branches depth 8) (λ c. search branches depth 8) (λ c. search branches depth 8)
    (search rules) (search rules) (λ c. search branches depth 8) (λ c. search branches depth 8) (λ c. search branches depth 8))
