-- `spans::span::times` meets its contract: its return is the definition written out.
use borrow.Author.Rules.{rules}
use Rattle.spans.specs.Workings.Span as span
use Rattle.spans.proofs.span.times.Statement.{statement}
use Rattle.spans.proofs.span.times.Tie as tie

pub times_spec : {M : Type 1} → statement M
unfolding span.times
times_spec = tie.close (tie.spec (λ c. search rules) (λ c. c.between.ensures))
