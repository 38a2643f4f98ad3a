-- What the boxed listing leaves in the lent parts, with its rows spread, is the outcome with rows of five.
use Rattle.std.proofs.Common.{arith, refl, []}
use Rattle.checks.specs.Laws.Steps.{raised}
use Rattle.listing_pairs.specs.Workings.Job.{every}
use Rattle.listing_pairs.specs.Workings.Ready.{look_by}
use Rattle.listing_outcomes.specs.Workings.BoxedOutcome.{index_for}
use Rattle.large_outcomes.specs.Workings.Spread.{by_names}
use Rattle.large_outcomes.specs.Laws.Large.{boxed-refused, boxed-spread, boxed-few}
use Rattle.large_outcomes.proofs.listed.list_boxed_large.Goals as goal

pub returns-in_err-counts-clause-leaves_boxed : goal.returns-in_err-counts-clause-leaves_boxed
returns-in_err-counts-clause-leaves_boxed c =
    let a = c.args in
    rw (raised c.from_residual.ensures)
    (boxed-refused a.indices.now a.points.now _ c.large_row_room-room.ensures
    (by_names a.first_names.now a.second_names.now) (λ i j class. refl)
    (look_by a.first.now a.second.now a.job) (every a.job) [] (index_for a.first.now a.second.now a.job) a.boxes.now
    _ _ _ _ _ refl c.in_err-counts.ensures.leaves_boxed)

pub spread-requires : goal.spread-requires
spread-requires c =
    let a = c.args in
    let few = boxed-few a.indices.now a.points.now _ c.large_row_room-room.ensures
    (by_names a.first_names.now a.second_names.now) (λ i j class. refl)
    (look_by a.first.now a.second.now a.job) (every a.job) [] (index_for a.first.now a.second.now a.job) a.boxes.now
    _ _ _ _ _ _ refl c.in_ok-counts.ensures.leaves_boxed in
    omega (arith, few)

pub returns-clause-leaves_boxed : goal.returns-clause-leaves_boxed
returns-clause-leaves_boxed c =
    let a = c.args in
    boxed-spread a.indices.now a.points.now _ c.large_row_room-room.ensures
    (by_names a.first_names.now a.second_names.now) (λ i j class. refl)
    (look_by a.first.now a.second.now a.job) (every a.job) [] (index_for a.first.now a.second.now a.job) a.boxes.now
    _ _ _ _ _ _ _ refl c.in_ok-counts.ensures.leaves_boxed c.spread.ensures
