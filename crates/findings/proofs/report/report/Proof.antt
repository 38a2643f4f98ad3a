-- `findings::report::report` meets its contract: for each kind of pair, answer and findings from what the kernel found are the
-- pair's.
use mathlib.Core.Path.{◌≡◌, sym, ap, ◌∙◌}
use borrow.Author.Rules.{rules}
use Rattle.arcs.specs.Workings.Circles.{OfArc, circle-if-arc}
use Rattle.crossing.specs.Workings.PairKernel.{by-kernel, two-lines}
use Rattle.findings.specs.Workings.Answers.{arc_arc_report}
use Rattle.findings.specs.Workings.Kernel as laws
use Rattle.findings.specs.declared.reported.Reported.{Reported}
use Rattle.findings.proofs.report.report.Statement.{statement}
use Rattle.findings.proofs.report.report.Tie as tie

-- the circles are those of the arcs
of-v : (c : tie.After-circle_if_arc-circle2) → let a = c.args in
    OfArc a.v1 a.v2 c.circle_if_arc-circle1.result
of-v c = circle-if-arc _ _ _ c.circle_if_arc-circle1.ensures

of-u : (c : tie.After-circle_if_arc-circle2) → let a = c.args in OfArc a.u1 a.u2 c.circle_if_arc-circle2.result
of-u c = circle-if-arc _ _ _ c.circle_if_arc-circle2.ensures

pair-kernel-requires : tie.Need-pair_kernel-kernel-requires
pair-kernel-requires c κs = (c.requires, (of-v c, of-u c))

line-pair-requires : tie.Need-line_pair-answer-requires
line-pair-requires c κs =
    let both = two-lines _ _ _ _ _ _ _ (sym c.pair_kernel-kernel.ensures ∙ c.in-TwoLines.is) in
    (c.requires, (both.0, both.1))

arc-arc-report-requires : tie.Need-arc_arc_report-requires
arc-arc-report-requires c κs =
    let z = c.before.before in
    let found = laws.answer-is _ _ _ _ _ _ _ _ _ c.pair_kernel-kernel.ensures c.in-TwoArcs.is (of-v z) (of-u z) in
    (z.requires, (of-v z, (of-u z, found)))

returns : tie.Need-returns-in-TwoLines
returns c =
    let z = c.before.before.before.before in
    laws.of-kernel _ _ _ _ _ _ _ _ _ _ c.pair_kernel-kernel.ensures (of-v z) (of-u z) c.line_pair-answer.ensures
    (simp c.in-TwoLines.is c.none-findings.ensures)

returns-2 : tie.Need-returns-in-LineAndArc
returns-2 c =
    let z = c.before.before.before.before.before in
    let is = laws.of-u _ _ _ _ _ _ _ _ c.line_arc_report-told.ensures in
    laws.of-kernel _ _ _ _ _ _ _ _ _ _ c.pair_kernel-kernel.ensures (of-v z) (of-u z)
    (by-kernel _ _ _ _ _ _ _ _ _ c.pair_kernel-kernel.ensures (of-v z) (of-u z)
    (simp (c.in-LineAndArc.is, ← c.pos.ensures, ← c.pos-in-LineAndArc.ensures) is.1))
    (simp (c.in-LineAndArc.is, ← c.pos.ensures, ← c.pos-in-LineAndArc.ensures) is.0)

returns-3 : tie.Need-returns-in-ArcAndLine
returns-3 c =
    let z = c.before.before.before.before.before in
    let is = laws.of-v _ _ _ _ _ _ _ _ c.line_arc_report-told-in-ArcAndLine.ensures in
    laws.of-kernel _ _ _ _ _ _ _ _ _ _ c.pair_kernel-kernel.ensures (of-v z) (of-u z)
    (by-kernel _ _ _ _ _ _ _ _ _ c.pair_kernel-kernel.ensures (of-v z) (of-u z)
    (simp (c.in-ArcAndLine.is, ← c.pos-in-ArcAndLine.ensures, ← c.pos-in-ArcAndLine-2.ensures) is.1))
    (simp (c.in-ArcAndLine.is, ← c.pos-in-ArcAndLine.ensures, ← c.pos-in-ArcAndLine-2.ensures) is.0)

returns-4 : tie.Need-returns-in-TwoArcs
unfolding arc_arc_report
returns-4 c =
    let z = c.before.before.before in
    let is = c.arc_arc_report.ensures in
    laws.of-kernel _ _ _ _ _ _ _ _ _ _ c.pair_kernel-kernel.ensures (of-v z) (of-u z)
    (by-kernel _ _ _ _ _ _ _ _ _ c.pair_kernel-kernel.ensures (of-v z) (of-u z)
    (simp c.in-TwoArcs.is (ap (λ (r : Reported). r.answer) is)))
    (simp c.in-TwoArcs.is (ap (λ (r : Reported). r.findings) is))

pub report_spec : {M : Type 1} → statement M
report_spec =
    tie.close
    (tie.spec
    (λ c. search rules) (λ c. search rules) pair-kernel-requires (λ c. search rules) line-pair-requires
    (λ c. search rules) (λ c. search rules) (λ c. search rules) (λ c. search rules) (λ c. search rules)
    (λ c. search rules) (λ c. search rules) (λ c. search rules) (λ c. search rules) (λ c. search rules)
    arc-arc-report-requires returns returns-2 returns-3 returns-4)
