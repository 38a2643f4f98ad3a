-- `findings::two_arcs::both_tested` meets its contract: each return is a branch of the definition,
-- by the calls and tests before it.
use borrow.Author.Rules.{rules}
use Rattle.findings.specs.TwoArcs.{both_tested}
use Rattle.findings.proofs.two_arcs.both_tested.Statement.{statement}
use Rattle.findings.proofs.two_arcs.both_tested.Tie as tie

returns : tie.Need-returns-then-counts
unfolding both_tested
returns c =
    simp (
      ← c.finding.ensures,
      ← c.from-v.ensures,
      ← c.counts.ensures,
      c.if-counts.true,
      ← c.finding-then-counts.ensures,
      ← c.from-u.ensures,
    )

returns-2 : tie.Need-returns
unfolding both_tested
returns-2 c =
    simp (
      ← c.finding.ensures,
      ← c.from-v.ensures,
      ← c.counts.ensures,
      c.if-counts.false,
    )

pub both_tested_spec : {M : Type 1} → statement M
both_tested_spec =
    tie.close
    (tie.spec
    (λ c. search rules) (λ c. search rules) (λ c. search rules) (λ c. search rules) (λ c. search rules) returns
    returns-2)
