-- `listing_outcomes::buffer::list_by` meets its contract: where every pair could have a row, the page of all pairs is the
-- listing; else rows are held back.
use native.Mathlib.Omega.{arith}
use borrow.Author.Rules.{rules}
use Rattle.listing_pairs.specs.Workings.Ready.{look_by}
use Rattle.listing_pairs.specs.Workings.Job as JobDefs
use Rattle.listing_pairs.specs.Workings.Reached.{all-ready}
use Rattle.sieves.specs.Workings.Marks.{no-recall}
use Rattle.listing_outcomes.specs.Workings.Outcome.{filled-first, joins-every, no_more, on-one-page}
use Rattle.listing_outcomes.proofs.buffer.list_by.Statement.{statement}
use Rattle.listing_outcomes.proofs.buffer.list_by.Tie as tie

abbrev start : tie.After-row_room-room → tie.Start
start c = c.before.before.before.before.before.before.before

every-pair-requires : tie.Need-every_pair-budget-requires
every-pair-requires c κs = let ready = (start c).requires.0.pairs in (ready.few, ready.few-second)

fill-requires : tie.Need-fill-all-requires
fill-requires c κs =
    let n = c.before.before.before.before.before.before in
    let e = n.row_room-room.ensures in
    let h = (start n).requires in (
      all-ready h.0 _ _ _,
      (
        (omega arith, omega arith),
        ((omega (arith, e), omega (arith, e)), (h.1, no-recall _ _ _ _ _ (omega arith))),
      ),
    )

returns : tie.Need-returns-then-budget-room
returns c =
    let n = c.before.before.before.before.before.before.before.before.before.before.before.before in
    let a = (start n).args in
    let F = look_by a.first.now a.second.now a.job in
    let ps = JobDefs.every a.job in
    let room = n.row_room-room.result in
    let done = filled-first F a.job c.from-start.result room c.every_pair-budget.result c.fill-all.result
    a.indices.now _ a.points.now _ c.from-start.ensures c.every_pair-budget.ensures
    c.fill-all.ensures.0 in
    on-one-page F ps a.indices.now a.points.now (joins-every F a.job room) (omega (arith, n.row_room-room.ensures))
    (no_more F a.job room (rw c.every_pair-budget.ensures at c.if-budget-room.true)) _ _ _ _
    done.rows done.looked done.indices done.points

list-held-back-requires : tie.Need-list_held_back-requires
list-held-back-requires c κs = let n = c.before.before.before.before in ((start n).requires.0, (n.row_room-room.ensures, (start n).requires.1))

pub list_by_spec : {M : Type 1} → statement M
list_by_spec =
    tie.close
    (tie.spec
    (λ c. search rules) every-pair-requires (λ c. search rules) (λ c. search rules) fill-requires (λ c. search rules) (λ c. search rules) returns
    list-held-back-requires (λ c. search rules) (λ c. search rules) (λ c. search rules))
