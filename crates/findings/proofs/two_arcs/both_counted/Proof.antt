-- `findings::two_arcs::both_counted` meets its contract: each return is a branch of the definition,
-- by the calls and tests before it.
use borrow.Author.Rules.{rules}
use Rattle.findings.proofs.two_arcs.both_counted.Statement.{statement}
use Rattle.findings.proofs.two_arcs.both_counted.Tie as tie

returns : tie.Need-returns-in-None-second
returns c = simp (c.in-None.is, c.in-None-second.is)

returns-2 : tie.Need-returns-in-Some-second
returns-2 c =
    simp (
      c.in-None.is,
      c.in-Some-second.is,
      ← c.nearer_replaced.ensures,
    )

returns-3 : tie.Need-returns-in-None-second-2
returns-3 c =
    simp (
      c.in-Some.is,
      c.in-None-second-2.is,
      ← c.nearer_replaced-in-None-second-2.ensures,
    )

returns-4 : tie.Need-returns-in-Some-second-2
returns-4 c =
    simp (
      c.in-Some.is,
      c.in-Some-second-2.is,
      ← c.replaced.ensures,
      ← c.replaced-in-Some-second-2.ensures,
    )

pub both_counted_spec : {M : Type 1} → statement M
both_counted_spec =
    tie.close
    (tie.spec
    (λ c. search rules) (λ c. search rules) (λ c. search rules) (λ c. search rules) (λ c. search rules)
    (λ c. search rules) (λ c. search rules) (λ c. search rules) (λ c. search rules) (λ c. search rules) returns
    returns-2 returns-3 returns-4)
