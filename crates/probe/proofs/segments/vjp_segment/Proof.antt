-- `probe::segments::vjp_segment` meets its contract: it hands over what `segment` answers.
use borrow.Author.Rules.{rules}
use Rattle.paths.specs.SegmentNumbers.{segment_numbers}
use Rattle.probe.proofs.Written.{handed}
use Rattle.probe.proofs.segments.vjp_segment.Statement.{statement}
use Rattle.probe.proofs.segments.vjp_segment.Tie as tie

pub vjp_segment_spec : {M : Type 1} → statement M
vjp_segment_spec =
    tie.close
    (tie.spec
    (λ c. search rules) (λ c. search rules) (λ c. search rules) (λ c. search (handed segment_numbers)))
