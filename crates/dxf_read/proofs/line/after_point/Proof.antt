-- `dxf_read::line::after_point` meets its contract: its tests are the definition's.
use borrow.Author.Rules.{rules}
use Rattle.dxf_read.specs.Workings.Shown.{shown_number}
use Rattle.dxf_read.proofs.Lines.{no-places, some-places}
use Rattle.dxf_read.proofs.line.after_point.Statement.{statement}
use Rattle.dxf_read.proofs.line.after_point.Tie as tie

pub after_point_spec : {M : Type 1} → statement M
unfolding shown_number
after_point_spec =
    tie.close
    (tie.spec
    (λ c. search rules) (λ c. search no-places) (λ c. search rules) (λ c. search rules) (λ c. search some-places))
