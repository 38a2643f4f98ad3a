-- `arcs::arc_sweep::ArcSweep::new` meets its contract: its calls are the definition's.
use borrow.Author.Rules.{rules}
use Rattle.arcs.specs.ArcSweep as sweep
use Rattle.arcs.proofs.arc_sweep.ArcSweep.new.Statement.{statement}
use Rattle.arcs.proofs.arc_sweep.ArcSweep.new.Tie as tie

pub new_spec : {M : Type 1} → statement M
unfolding sweep.new
new_spec =
    tie.close
    (tie.spec
    (search rules) (search rules) (search rules) (search rules)
    (λ c. let l = c.before in let s = l.before in
    simp (← s.sub-start_vector.ensures, ← s.sub-end_vector.ensures, ← l.length_squared.ensures, ← c.length_squared-2.ensures)))
