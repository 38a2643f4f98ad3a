-- No room, 19, or the listing and what it adds.
use Rattle.std.proofs.Common.{sym, ◌∙◌, rules}
use Rattle.checks.specs.Laws.Raised.{raised_as}
use Rattle.month.specs.Laws.Ends.{counted-no-room, counted-full, counted-listed}
use Rattle.month.specs.Laws.Listings.{mutual-countable, mutual-written}
use Rattle.month.proofs.mutual_counted.mutual_counted.Goals as goal

pub returns-then-report-lt-WORDS : goal.returns-then-report-lt-WORDS
returns-then-report-lt-WORDS c = counted-no-room _ _ _ _ _ _ _ _ c.if-report-lt-WORDS.true

pub returns-then-full : goal.returns-then-full
returns-then-full c = counted-full _ _ _ _ _ _ _ _ (search rules) _ c.full.ensures c.if-full.true _ c.whole.ensures

pub count-requires : goal.count-requires
count-requires c =
    mutual-countable _ _ _ _ _ _ _ _ (search rules) (sym c.full.ensures ∙ c.if-full.false) _ _ _
    c.mutual_listing-answer.ensures

pub returns-in_err-answer : goal.returns-in_err-answer
returns-in_err-answer c =
    let report = c.args.report.now in
    let done = counted-listed _ _ _ _ _ _ _ _ (search rules) _ c.full.ensures c.if-full.false _ _ _ _
    c.mutual_listing-answer.ensures
    (mutual-written _ _ _ _ _ _ _ report _ _ _ c.mutual_listing-answer.ensures _ c.count.ensures) in
    rw (raised_as c.from_residual.ensures) (rw c.in_err-answer.was at done)

pub returns : goal.returns
returns c =
    let report = c.args.report.now in
    let done = counted-listed _ _ _ _ _ _ _ _ (search rules) _ c.full.ensures c.if-full.false _ _ _ _
    c.mutual_listing-answer.ensures
    (mutual-written _ _ _ _ _ _ _ report _ _ _ c.mutual_listing-answer.ensures _ c.count.ensures) in
    rw c.in_ok-answer.was at done
