-- `dxf_read::state::step` meets its contract, turn by turn.
use borrow.Author.Rules.{rules}
use Rattle.dxf_read.specs.Workings.Scanning.{stepped}
use Rattle.dxf_read.proofs.state.step.Statement.{statement}
use Rattle.dxf_read.proofs.state.step.Tie as tie

pub step_spec : {M : Type 1} → statement M
unfolding stepped
step_spec =
    tie.close
    (tie.spec
    (λ c. search rules) (λ c. search rules) (λ c. search rules) (λ c. search rules) (λ c. search rules) (λ c. search rules)
    (λ c. search rules) (λ c. search rules) (λ c. search rules)
    (λ c. simp c.in-Count.is) (λ c. simp c.in-Flags.is) (λ c. simp c.in-X.is)
    (λ c. simp c.in-Y.is) (λ c. simp c.in-Bulge.is) (λ c. simp c.in-Other.is)
    (λ c. simp c.in-OutOfPlace.is))
