-- `arcs::sweep_finding::SweepFinding::is_yes` meets its contract: each case answers what the definition does.
use borrow.Author.Rules.{rules}
use Rattle.arcs.proofs.sweep_finding.SweepFinding.is_yes.Statement.{statement}
use Rattle.arcs.proofs.sweep_finding.SweepFinding.is_yes.Tie as tie

pub is_yes_spec : {M : Type 1} → statement M
is_yes_spec =
    tie.close
    (tie.spec
    (search rules) (search rules) (search rules) (search rules) (search rules)
    (λ c. simp c.in-Outside.is)
    (λ c. simp c.in-NearCenter.is)
    (λ c. simp c.in-Inside.is)
    (λ c. simp c.in-NearStart.is)
    (λ c. simp c.in-NearEnd.is))
