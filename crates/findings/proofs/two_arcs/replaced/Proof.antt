-- `findings::two_arcs::replaced` meets its contract: the point stays, and both findings are "end point".
use mathlib.Core.Path.{refl}
use borrow.Author.Rules.{rules}
use Rattle.findings.proofs.two_arcs.replaced.Statement.{statement}
use Rattle.findings.proofs.two_arcs.replaced.Tie as tie

pub replaced_spec : {M : Type 1} → statement M
replaced_spec = tie.close (tie.spec (λ c. refl))
