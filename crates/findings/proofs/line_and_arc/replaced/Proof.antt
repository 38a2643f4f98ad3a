-- `findings::line_and_arc::replaced` meets its contract: the point stays, and the finding is "end point".
use mathlib.Core.Path.{refl}
use borrow.Author.Rules.{rules}
use Rattle.findings.proofs.line_and_arc.replaced.Statement.{statement}
use Rattle.findings.proofs.line_and_arc.replaced.Tie as tie

pub replaced_spec : {M : Type 1} → statement M
replaced_spec = tie.close (tie.spec (λ c. refl))
