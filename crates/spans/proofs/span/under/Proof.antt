-- `spans::span::under` meets its contract: its return is the definition written out.
use borrow.Author.Rules.{rules}
use Rattle.spans.specs.Workings.Span as span
use Rattle.spans.proofs.span.under.Statement.{statement}
use Rattle.spans.proofs.span.under.Tie as tie

pub under_spec : {M : Type 1} → statement M
unfolding span.under
under_spec = tie.close (tie.spec (λ c. search rules) (λ c. c.between.ensures))
