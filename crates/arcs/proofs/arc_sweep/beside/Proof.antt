-- `arcs::arc_sweep::beside` meets its contract: its calls are the definition's.
use borrow.Author.Rules.{rules}
use Rattle.arcs.proofs.arc_sweep.beside.Statement.{statement}
use Rattle.arcs.proofs.arc_sweep.beside.Tie as tie

pub beside_spec : {M : Type 1} → statement M
beside_spec = tie.close (tie.spec (search rules) (λ c. simp (← c.dot.ensures)))
