-- `records::on_crossing::line_line` meets its contract: its calls are the definition's.
use borrow.Author.Rules.{rules}
use Rattle.records.specs.OnCrossing
use Rattle.records.proofs.on_crossing.line_line.Statement.{statement}
use Rattle.records.proofs.on_crossing.line_line.Tie as tie

pub line_line_spec : {M : Type 1} → statement M
unfolding OnCrossing.line_line
line_line_spec =
    tie.close
    (tie.spec
    (λ c. search rules) (λ c. search rules) (λ c. search rules) (λ c. search rules) (λ c. search rules)
    (λ c. search rules) (λ c. search rules) (λ c. search rules) (λ c. cc))
