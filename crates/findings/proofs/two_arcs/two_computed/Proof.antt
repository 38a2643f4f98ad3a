-- `findings::two_arcs::two_computed` meets its contract: each return is a branch of the definition,
-- by the calls and tests before it.
use borrow.Author.Rules.{rules}
use Rattle.findings.specs.Workings.Answers.{two_of}
use Rattle.findings.proofs.two_arcs.two_computed.Statement.{statement}
use Rattle.findings.proofs.two_arcs.two_computed.Tie as tie

returns : tie.Need-returns-then-counted2
unfolding two_of
returns c =
    simp (
      ← c.counted-counted1.ensures,
      ← c.counted-counted2.ensures,
      c.if-counted1.true,
      c.if-counted2.true,
      ← c.both_counted.ensures,
    )

returns-2 : tie.Need-returns-then-counted1
unfolding two_of
returns-2 c =
    simp (
      ← c.counted-counted1.ensures,
      ← c.counted-counted2.ensures,
      c.if-counted1.true,
      c.if-counted2.false,
      ← c.unless_ends.ensures,
    )

returns-3 : tie.Need-returns-then-counted2-2
unfolding two_of
returns-3 c =
    simp (
      ← c.counted-counted1.ensures,
      ← c.counted-counted2.ensures,
      c.if-counted1.false,
      c.if-counted2-2.true,
      ← c.unless_ends-then-counted2-2.ensures,
    )

returns-4 : tie.Need-returns
unfolding two_of
returns-4 c =
    simp (
      ← c.counted-counted1.ensures,
      ← c.counted-counted2.ensures,
      c.if-counted1.false,
      c.if-counted2-2.false,
    )

pub two_computed_spec : {M : Type 1} → statement M
two_computed_spec =
    tie.close
    (tie.spec
    (λ c. search rules) (λ c. search rules) (λ c. search rules) returns (λ c. search rules) returns-2
    (λ c. search rules) returns-3 returns-4)
