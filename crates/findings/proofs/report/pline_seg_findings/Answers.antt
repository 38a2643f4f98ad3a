-- `pline_seg_findings` meets its contract: the check decides, and a pair without fault is reported.
use Rattle.std.proofs.Common.{sym, ◌∙◌}
use Rattle.checks.specs.Laws.Steps.{raised}
use Rattle.findings.specs.Report.{pline_seg_findings}
use Rattle.findings.proofs.report.pline_seg_findings.Goals as goal

pub returns-in_err-pair_checked : goal.returns-in_err-pair_checked
unfolding pline_seg_findings
returns-in_err-pair_checked c = raised c.from_residual.ensures ∙ simp (← c.in_err-pair_checked.ensures)

pub report-requires : goal.report-requires
report-requires c = sym c.in_ok-pair_checked.ensures

pub returns : goal.returns
unfolding pline_seg_findings
returns c = simp (← c.in_ok-pair_checked.ensures, ← c.report.ensures)
