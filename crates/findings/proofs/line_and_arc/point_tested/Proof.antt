-- `findings::line_and_arc::point_tested` meets its contract: each return is a branch of the definition,
-- by the calls and tests before it.
use borrow.Author.Rules.{rules}
use Rattle.findings.specs.LineAndArc.{point_tested}
use Rattle.ranges.specs.Range.{on_segment}
use Rattle.findings.proofs.line_and_arc.point_tested.Statement.{statement}
use Rattle.findings.proofs.line_and_arc.point_tested.Tie as tie

returns : tie.Need-returns-then-not-on_segment
unfolding point_tested on_segment
returns c =
    simp (
      ← c.point_from_parametric-point.ensures,
      ← c.sub.ensures,
      ← c.on_segment.ensures,
      c.if-not-on_segment.true,
    )

returns-2 : tie.Need-returns
unfolding point_tested on_segment
returns-2 c =
    simp (
      ← c.point_from_parametric-point.ensures,
      ← c.sub.ensures,
      ← c.on_segment.ensures,
      c.if-not-on_segment.false,
      ← c.finding.ensures,
      ← c.from-finding.ensures,
    )

pub point_tested_spec : {M : Type 1} → statement M
point_tested_spec =
    tie.close
    (tie.spec
    (λ c. search rules) (λ c. search rules) (λ c. search rules) returns (λ c. search rules) (λ c. search rules)
    returns-2)
