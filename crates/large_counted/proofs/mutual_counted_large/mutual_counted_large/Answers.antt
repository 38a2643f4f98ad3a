-- No room, 19, or the listing and what it adds.
use Rattle.std.proofs.Common.{sym, ◌∙◌, rules}
use Rattle.checks.specs.Laws.Raised.{raised_as}
use Rattle.large_counted.specs.Laws.LargeCounting.{counted-no-room, counted-full, counted-listed}
use Rattle.large_counted.proofs.mutual_counted_large.mutual_counted_large.Goals as goal

pub returns-then-report-lt-WORDS : goal.returns-then-report-lt-WORDS
returns-then-report-lt-WORDS c = counted-no-room _ _ _ _ _ _ _ _ c.if-report-lt-WORDS.true

pub returns-then-full : goal.returns-then-full
returns-then-full c = counted-full _ _ _ _ _ _ _ _ (search rules) _ c.full.ensures c.if-full.true _ c.whole.ensures

pub counted_listing-answer-requires : goal.counted_listing-answer-requires
counted_listing-answer-requires c = (search rules, sym c.full.ensures ∙ c.if-full.false)

pub returns-in_err-answer : goal.returns-in_err-answer
returns-in_err-answer c =
    let done = counted-listed _ _ _ _ _ _ _ _ (search rules) _ c.full.ensures c.if-full.false _ _ _ _
    c.counted_listing-answer.ensures in
    rw (raised_as c.from_residual.ensures) (rw c.in_err-answer.was at done)

pub returns : goal.returns
returns c =
    let done = counted-listed _ _ _ _ _ _ _ _ (search rules) _ c.full.ensures c.if-full.false _ _ _ _
    c.counted_listing-answer.ensures in
    rw c.in_ok-answer.was at done
