-- `findings::two_arcs::two_answer` meets its contract: each return is a branch of the definition,
-- by the calls and tests before it.
use borrow.Author.Rules.{rules}
use Rattle.findings.specs.Workings.Answers.{two_answer}
use Rattle.findings.proofs.two_arcs.two_answer.Statement.{statement}
use Rattle.findings.proofs.two_arcs.two_answer.Tie as tie

returns : tie.Need-returns-then-counted2
unfolding two_answer
returns c =
    simp (
      ← c.counted-counted1.ensures,
      ← c.counted-counted2.ensures,
      c.if-counted1.true,
      c.if-counted2.true,
      ← c.two_in_sweep.ensures,
    )

returns-2 : tie.Need-returns-then-counted1
unfolding two_answer
returns-2 c =
    simp (
      ← c.counted-counted1.ensures,
      ← c.counted-counted2.ensures,
      c.if-counted1.true,
      c.if-counted2.false,
      ← c.ends_or.ensures,
    )

returns-3 : tie.Need-returns-then-counted2-2
unfolding two_answer
returns-3 c =
    simp (
      ← c.counted-counted1.ensures,
      ← c.counted-counted2.ensures,
      c.if-counted1.false,
      c.if-counted2-2.true,
      ← c.ends_or-then-counted2-2.ensures,
    )

returns-4 : tie.Need-returns
unfolding two_answer
returns-4 c =
    simp (
      ← c.counted-counted1.ensures,
      ← c.counted-counted2.ensures,
      c.if-counted1.false,
      c.if-counted2-2.false,
      ← c.ends_or-2.ensures,
    )

pub two_answer_spec : {M : Type 1} → statement M
two_answer_spec =
    tie.close
    (tie.spec
    (λ c. search rules) (λ c. search rules) (λ c. search rules) returns (λ c. search rules) returns-2
    (λ c. search rules) returns-3 (λ c. search rules) returns-4)
