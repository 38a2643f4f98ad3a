-- What the listing leaves in the lent parts, with its rows spread, is the outcome with rows of five.
use Rattle.std.proofs.Common.{arith, refl}
use Rattle.checks.specs.Laws.Steps.{raised}
use Rattle.listing_pairs.specs.Workings.Job.{every}
use Rattle.listing_pairs.specs.Workings.Ready.{look_by}
use Rattle.large_outcomes.specs.Workings.Spread.{by_names}
use Rattle.large_outcomes.specs.Laws.Large.{listed-refused, listed-spread, listed-few}
use Rattle.large_outcomes.proofs.listed.list_large.Goals as goal

pub returns-in_err-counts-clause-leaves : goal.returns-in_err-counts-clause-leaves
returns-in_err-counts-clause-leaves c =
    let a = c.args in
    rw (raised c.from_residual.ensures)
    (listed-refused a.indices.now a.points.now _ c.large_row_room-room.ensures
    (by_names a.first_names.now a.second_names.now) (λ i j class. refl)
    (look_by a.first.now a.second.now a.job) (every a.job) (λ c. c) (λ c e. e)
    _ _ _ _ refl c.in_err-counts.ensures.leaves)

pub spread-requires : goal.spread-requires
spread-requires c =
    let a = c.args in
    let few = listed-few a.indices.now a.points.now _ c.large_row_room-room.ensures
    (by_names a.first_names.now a.second_names.now) (λ i j class. refl)
    (look_by a.first.now a.second.now a.job) (every a.job) (λ c. c) (λ c e. e)
    _ _ _ _ _ refl c.in_ok-counts.ensures.leaves in
    omega (arith, few)

pub returns-clause-leaves : goal.returns-clause-leaves
returns-clause-leaves c =
    let a = c.args in
    listed-spread a.indices.now a.points.now _ c.large_row_room-room.ensures
    (by_names a.first_names.now a.second_names.now) (λ i j class. refl)
    (look_by a.first.now a.second.now a.job) (every a.job) (λ c. c) (λ c e. e)
    _ _ _ _ _ _ refl c.in_ok-counts.ensures.leaves c.spread.ensures
