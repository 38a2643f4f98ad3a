-- A found sweep as a finding meets its contract: each case answers what the definition does.
use borrow.Author.Rules.{rules}
use Rattle.findings.proofs.finding.FindingFromSweepFinding.from.Statement.{statement}
use Rattle.findings.proofs.finding.FindingFromSweepFinding.from.Tie as tie

pub from_spec : {M : Type 1} → statement M
from_spec =
    tie.close
    (tie.spec
    (search rules) (search rules) (search rules) (search rules) (search rules)
    (λ c. simp c.in-Outside.is)
    (λ c. simp c.in-NearCenter.is)
    (λ c. simp c.in-Inside.is)
    (λ c. simp c.in-NearStart.is)
    (λ c. simp c.in-NearEnd.is))
