-- `arcs::two_arcs::both_sweep` meets its contract: each return is a branch of the definition, by the calls and tests before it.
use borrow.Author.Rules.{rules}
use Rattle.arcs.specs.TwoArcs.{both_sweep}
use Rattle.arcs.specs.Laws.Sweep.{yes_of}
use Rattle.arcs.proofs.two_arcs.both_sweep.Statement.{statement}
use Rattle.arcs.proofs.two_arcs.both_sweep.Tie as tie

pub both_sweep_spec : {M : Type 1} → statement M
unfolding both_sweep
both_sweep_spec =
    tie.close
    (tie.spec
    (search rules) (search rules) (search rules) (search rules)
    (λ c. let t = c.before.before in
    simp (
      ← yes_of _ _ _ _ t.finding.ensures t.is_yes.ensures,
      t.if-is_yes.true,
      ← yes_of _ _ _ _ c.finding-then-is_yes.ensures c.is_yes-then-is_yes.ensures,
    ))
    (λ c. simp (← yes_of _ _ _ _ c.finding.ensures c.is_yes.ensures, c.if-is_yes.false)))
