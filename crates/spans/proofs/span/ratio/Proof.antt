-- `spans::span::ratio` meets its contract: one test decides.
use Rattle.float_laws.specs.Branches.{branches}
use Rattle.spans.specs.Workings.Span as span
use Rattle.spans.proofs.span.ratio.Statement.{statement}
use Rattle.spans.proofs.span.ratio.Tie as tie

pub ratio_spec : {M : Type 1} → statement M
unfolding span.ratio
ratio_spec = tie.close (tie.spec (λ c. search branches) (λ c. search branches))
