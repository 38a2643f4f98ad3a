-- `findings::two_arcs::nearer_replaced` meets its contract: each return is a branch of the definition,
-- by the calls and tests before it.
use borrow.Author.Rules.{rules}
use Rattle.findings.specs.TwoArcs.{nearer_replaced}
use Rattle.findings.proofs.two_arcs.nearer_replaced.Statement.{statement}
use Rattle.findings.proofs.two_arcs.nearer_replaced.Tie as tie

returns : tie.Need-returns-then-dist_squared
unfolding nearer_replaced
returns c =
    simp (
      ← c.dist_squared.ensures,
      ← c.dist_squared-2.ensures,
      c.if-dist_squared.true,
      ← c.replaced.ensures,
    )

returns-2 : tie.Need-returns
unfolding nearer_replaced
returns-2 c =
    simp (
      ← c.dist_squared.ensures,
      ← c.dist_squared-2.ensures,
      c.if-dist_squared.false,
      ← c.replaced-2.ensures,
    )

pub nearer_replaced_spec : {M : Type 1} → statement M
nearer_replaced_spec =
    tie.close
    (tie.spec
    (λ c. search rules) (λ c. search rules) (λ c. search rules) returns (λ c. search rules) returns-2)
