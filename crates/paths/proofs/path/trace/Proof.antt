-- `paths::path::trace` meets its contract: the number that it reads lies in the slice, since whole vertices up to this one do.
use borrow.Author.Rules.{rules}
use Rattle.paths.specs.Path
use Rattle.paths.proofs.path.trace.Statement.{statement}
use Rattle.paths.proofs.path.trace.Tie as tie

pub trace_spec : {M : Type 1} → statement M
unfolding Path.trace
trace_spec =
    tie.close
    (tie.spec (λ c. search rules) (λ c. search rules) (λ c. search rules) (λ c. search rules) (λ c. search rules))
