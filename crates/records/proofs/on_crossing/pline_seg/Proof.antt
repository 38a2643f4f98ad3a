-- `records::on_crossing::pline_seg` meets its contract: its calls are the definition's.
use borrow.Author.Rules.{rules}
use Rattle.records.specs.OnCrossing
use Rattle.records.proofs.on_crossing.pline_seg.Statement.{statement}
use Rattle.records.proofs.on_crossing.pline_seg.Tie as tie

pub pline_seg_spec : {M : Type 1} → statement M
unfolding OnCrossing.pline_seg
pline_seg_spec =
    tie.close
    (tie.spec
    (λ c. search rules) (λ c. search rules) (λ c. search rules) (λ c. search rules) (λ c. search rules)
    (λ c. search rules) (λ c. search rules) (λ c. search rules) (λ c. cc))
