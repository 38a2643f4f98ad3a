-- `findings::line_and_arc::stick` meets its contract: each return is a branch of the definition,
-- by the calls and tests before it.
use borrow.Author.Rules.{rules}
use Rattle.arcs.specs.LineAndArc.{with_sticky_ends}
use Rattle.findings.specs.LineAndArc.{sticky_tested}
use Rattle.findings.specs.Workings.Answers.{sticky}
use Rattle.findings.proofs.line_and_arc.stick.Statement.{statement}
use Rattle.findings.proofs.line_and_arc.stick.Tie as tie

returns : tie.Need-returns-then-p0_nearer_point1
unfolding sticky sticky_tested with_sticky_ends
returns c =
    simp (
      ← c.replaced-r1.ensures,
      ← c.replaced-r2.ensures,
      ← c.point_lies_on_arc-p0_on_arc.ensures,
      ← c.point_lies_on_arc-p1_on_arc.ensures,
      c.if-p0_on_arc.true,
      ← c.dist_squared.ensures,
      ← c.dist_squared-then-p0_on_arc.ensures,
      c.if-p1_on_arc.true,
      c.if-p0_nearer_point1.true,
    )

returns-2 : tie.Need-returns-then-p1_on_arc
unfolding sticky sticky_tested with_sticky_ends
returns-2 c =
    simp (
      ← c.replaced-r1.ensures,
      ← c.replaced-r2.ensures,
      ← c.point_lies_on_arc-p0_on_arc.ensures,
      ← c.point_lies_on_arc-p1_on_arc.ensures,
      c.if-p0_on_arc.true,
      ← c.dist_squared.ensures,
      ← c.dist_squared-then-p0_on_arc.ensures,
      c.if-p1_on_arc.true,
      c.if-p0_nearer_point1.false,
    )

returns-3 : tie.Need-returns-then-p0_nearer_point1-2
unfolding sticky sticky_tested with_sticky_ends
returns-3 c =
    simp (
      ← c.replaced-r1.ensures,
      ← c.replaced-r2.ensures,
      ← c.point_lies_on_arc-p0_on_arc.ensures,
      ← c.point_lies_on_arc-p1_on_arc.ensures,
      c.if-p0_on_arc.true,
      ← c.dist_squared.ensures,
      ← c.dist_squared-then-p0_on_arc.ensures,
      c.if-p1_on_arc.false,
      c.if-p0_nearer_point1-2.true,
    )

returns-4 : tie.Need-returns-then-p0_on_arc
unfolding sticky sticky_tested with_sticky_ends
returns-4 c =
    simp (
      ← c.replaced-r1.ensures,
      ← c.replaced-r2.ensures,
      ← c.point_lies_on_arc-p0_on_arc.ensures,
      ← c.point_lies_on_arc-p1_on_arc.ensures,
      c.if-p0_on_arc.true,
      ← c.dist_squared.ensures,
      ← c.dist_squared-then-p0_on_arc.ensures,
      c.if-p1_on_arc.false,
      c.if-p0_nearer_point1-2.false,
    )

returns-5 : tie.Need-returns-then-dist_squared
unfolding sticky sticky_tested with_sticky_ends
returns-5 c =
    simp (
      ← c.replaced-r1.ensures,
      ← c.replaced-r2.ensures,
      ← c.point_lies_on_arc-p0_on_arc.ensures,
      ← c.point_lies_on_arc-p1_on_arc.ensures,
      c.if-p0_on_arc.false,
      c.if-p1_on_arc-2.true,
      ← c.dist_squared-then-p1_on_arc-2.ensures,
      ← c.dist_squared-then-p1_on_arc-2-2.ensures,
      c.if-dist_squared.true,
    )

returns-6 : tie.Need-returns-then-p1_on_arc-2
unfolding sticky sticky_tested with_sticky_ends
returns-6 c =
    simp (
      ← c.replaced-r1.ensures,
      ← c.replaced-r2.ensures,
      ← c.point_lies_on_arc-p0_on_arc.ensures,
      ← c.point_lies_on_arc-p1_on_arc.ensures,
      c.if-p0_on_arc.false,
      c.if-p1_on_arc-2.true,
      ← c.dist_squared-then-p1_on_arc-2.ensures,
      ← c.dist_squared-then-p1_on_arc-2-2.ensures,
      c.if-dist_squared.false,
    )

returns-7 : tie.Need-returns
unfolding sticky sticky_tested with_sticky_ends
returns-7 c =
    simp (
      ← c.replaced-r1.ensures,
      ← c.replaced-r2.ensures,
      ← c.point_lies_on_arc-p0_on_arc.ensures,
      ← c.point_lies_on_arc-p1_on_arc.ensures,
      c.if-p0_on_arc.false,
      c.if-p1_on_arc-2.false,
    )

pub stick_spec : {M : Type 1} → statement M
stick_spec =
    tie.close
    (tie.spec
    (λ c. search rules) (λ c. search rules) (λ c. search rules) (λ c. search rules) (λ c. search rules)
    (λ c. search rules) returns returns-2 returns-3 returns-4 (λ c. search rules) (λ c. search rules) returns-5
    returns-6 returns-7)
