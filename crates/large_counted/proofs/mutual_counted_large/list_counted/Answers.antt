-- What the listing leaves in the lent parts is counted, and with its rows spread it is the outcome with rows of five.
use Rattle.std.proofs.Common.{arith, ◌≤◌, length}
use Rattle.checks.specs.Laws.Steps.{raised}
use Rattle.listing_pairs.specs.declared.order.Job.{Job}
use Rattle.listing_pairs.specs.Workings.Job.{every}
use Rattle.listing_pairs.specs.Workings.Ready.{Ready, look_by}
use Rattle.listing_outcomes.specs.Workings.PageOutcome.{every-few}
use Rattle.month.specs.Report.{most_added}
use Rattle.std.specs.Prelude.{List, Float}
use Rattle.large_counted.specs.Laws.LargeGiven.{room-known}
use Rattle.large_counted.specs.Laws.LargeCounting.{countable, still-fits, counted-refused, counted-spread}
use Rattle.large_counted.proofs.mutual_counted_large.list_counted.Goals as goal

-- there are not too many pairs
few : {first second : List Float} {job : Job} → Ready first second job → length (every job) ≤ most_added
few {job = job} ready = omega (arith, every-few job ready.few ready.few-second)

pub count-requires : goal.count-requires
count-requires c =
    let a = c.args in
    let p = c.requires.words_in_bounds in
    countable (look_by a.first.now a.second.now a.job) (every a.job) (few c.requires.ready) a.indices.now a.points.now _
    c.large_row_room-room.ensures (λ c. c) (λ c e. e) (room-known _ _ _) _ _ _ c.list_in-answer.ensures.leaves _ p.0 p.1

pub returns-in_err-counts : goal.returns-in_err-counts
returns-in_err-counts c =
    let a = c.args in
    rw (raised c.from_residual.ensures)
    (counted-refused a.first_names.now a.second_names.now (look_by a.first.now a.second.now a.job) (every a.job)
    (few c.requires.ready) a.indices.now a.points.now _ c.large_row_room-room.ensures _ _ _ c.list_in-answer.ensures.leaves
    a.report.now _ c.count.ensures _ c.in_err-counts.was)

pub spread-requires : goal.spread-requires
spread-requires c =
    let a = c.args in
    still-fits (look_by a.first.now a.second.now a.job) (every a.job) (few c.requires.ready) a.indices.now a.points.now _
    c.large_row_room-room.ensures (λ c. c) (λ c e. e) (room-known _ _ _) _ _ _ c.list_in-answer.ensures.leaves a.report.now _ _
    c.in_ok-counts.was

pub returns : goal.returns
returns c =
    let a = c.args in
    counted-spread a.first_names.now a.second_names.now (look_by a.first.now a.second.now a.job) (every a.job)
    (few c.requires.ready) a.indices.now a.points.now _ c.large_row_room-room.ensures _ _ _ c.list_in-answer.ensures.leaves
    a.report.now _ c.count.ensures _ _ _ c.in_ok-counts.was c.spread.ensures
