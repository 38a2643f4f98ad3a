-- `spans::sweep::off_sweep` meets its contract: its calls are the operations of the definition.
use borrow.Author.Rules.{rules}
use Rattle.spans.specs.Workings.Sweep
use Rattle.spans.proofs.sweep.off_sweep.Statement.{statement}
use Rattle.spans.proofs.sweep.off_sweep.Tie as tie

returns : tie.Need-returns
unfolding Sweep.off_sweep
returns c =
    simp (
      ← c.minus-px.ensures,
      ← c.minus-py.ensures,
      ← c.times.ensures,
      ← c.times-2.ensures,
      ← c.difference-start_cross.ensures,
      ← c.times-3.ensures,
      ← c.times-4.ensures,
      ← c.difference-end_cross.ensures,
      ← c.clear.ensures,
      ← c.clear-2.ensures,
      ← c.clear-from_start.ensures,
      ← c.clear-from_end.ensures,
      ← c.bounded.ensures,
      ← c.beside.ensures,
    )

pub off_sweep_spec : {M : Type 1} → statement M
off_sweep_spec = tie.close (tie.spec (λ c. search rules) (λ c. search rules) (λ c. search rules) (λ c. search rules) (λ c. search rules) (λ c. search rules) (λ c. search rules) (λ c. search rules) (λ c. search rules) (λ c. search rules) (λ c. search rules) (λ c. search rules) (λ c. search rules) (λ c. search rules) returns)
