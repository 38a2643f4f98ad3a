-- `findings::line_and_arc::both_report` meets its contract: the points that stand in the answer decide its order, and the entries
-- go with them.
use mathlib.Core.Path.{◌≡◌, ap}
use borrow.Author.Rules.{rules}
use Rattle.arcs.specs.LineAndArc.{with_sticky_ends, in_order}
use Rattle.findings.specs.LineAndArc.{sticky_tested, both_tested}
use Rattle.findings.specs.Workings.Answers.{sticky, both_report}
use Rattle.findings.specs.declared.line_and_arc.Sticky.{Sticky}
use Rattle.findings.proofs.line_and_arc.both_report.Statement.{statement}
use Rattle.findings.proofs.line_and_arc.both_report.Tie as tie

points : (c : tie.After-stick-stuck) → let a = c.args in
    c.stick-stuck.result.points ≡ with_sticky_ends a.e1.point a.e2.point a.p0 a.p1 a.arc_geometry
unfolding sticky
points c = ap (λ (s : Sticky). s.points) c.stick-stuck.ensures

entries : (c : tie.After-stick-stuck) → let a = c.args in
    c.stick-stuck.result.entries ≡ sticky_tested a.e1 a.e2 a.p0 a.p1 a.arc_geometry
unfolding sticky
entries c = ap (λ (s : Sticky). s.entries) c.stick-stuck.ensures

returns : tie.Need-returns-then-u_is_line-dist_squared
unfolding both_report in_order both_tested
returns c =
    let s = c.before.before.before.before.before.before.before.before.before in
    simp (← points s, ← entries s, ← c.dist_squared.ensures, ← c.dist_squared-2.ensures, c.if-u_is_line-dist_squared.true)

returns-2 : tie.Need-returns
unfolding both_report in_order both_tested
returns-2 c =
    let s = c.before.before.before.before.before.before.before.before.before in
    simp (← points s, ← entries s, ← c.dist_squared.ensures, ← c.dist_squared-2.ensures, c.if-u_is_line-dist_squared.false)

pub both_report_spec : {M : Type 1} → statement M
both_report_spec =
    tie.close
    (tie.spec
    (λ c. search rules) (λ c. search rules) (λ c. search rules) returns returns-2)
