-- `large_calls::self_boxed_large::self_boxed_large` meets its contract. If the old mode refuses a bulge, the slices are as they
-- were, and the path is cut; else its answer holds, with its rows spread.
use mathlib.Core.Path.{sym, ◌∙◌}
use native.Mathlib.Omega.{arith}
use borrow.Author.Rules.{rules}
use lib.Seq.{length-take-le}
use Rattle.listing_calls.specs.Boxed.{self_boxed}
use Rattle.large_outcomes.specs.Laws.Parts.{indices-inside, points-inside}
use Rattle.large_listings.specs.LargeListings.{self_boxed_large}
use Rattle.large_calls.specs.Laws.Answered.{boxed-answered-few, boxed-answered, boxed-refusal-kept}
use Rattle.large_calls.specs.Laws.OldFirst.{self-boxed-first, then-boxed-cut}
use Rattle.large_calls.proofs.self_boxed_large.self_boxed_large.Statement.{statement}
use Rattle.large_calls.proofs.self_boxed_large.self_boxed_large.Tie as tie

abbrev start : tie.After-large_row_room-room → tie.Start
start c = c.before.before.before.before.before.before.before

-- from the place after the test to that after the old mode's call, and from there to the room
abbrev listed : tie.After-listed_bulge → tie.After-self_boxed-answer
listed c = c.before.before.before.before.before.before.before

abbrev roomed : tie.After-self_boxed-answer → tie.After-large_row_room-room
roomed c = c.before.before.before.before

indices-long : tie.Need-slice_bounds-self_boxed-end-2
indices-long c =
    let r = c.before.before in
    let a = (start r).args in
    sym (length-take-le _ _ (indices-inside a.indices.now a.points.now _ r.large_row_room-room.ensures))

points-long : tie.Need-slice_bounds-self_boxed-end-4
points-long c =
    let r = c.before.before.before in
    let a = (start r).args in
    sym (length-take-le _ _ (points-inside a.indices.now a.points.now _ r.large_row_room-room.ensures))

returns-2 : tie.Need-returns-then-listed_bulge
unfolding self_boxed
returns-2 c =
    let h = c.before.before.before.before.before.before.before.before.before.before.before in
    let l = listed h in
    let r = roomed l in
    let a = (start r).args in
    then-boxed-cut (self_boxed_large a.path.now a.closed a.epsilon)
    a.boxes.now _ a.indices.now _ a.points.now _
    (boxed-refusal-kept _ _ _ a.indices.now a.points.now _ r.large_row_room-room.ensures _ a.boxes.now _ _ _ _
    (sym h.listed_bulge.ensures ∙ c.if-listed_bulge.true) l.self_boxed-answer.ensures)
    _ _ _ _ c.self_boxed_cut-then-listed_bulge.ensures

spread-listed-requires : tie.Need-spread_listed-requires
unfolding self_boxed
spread-listed-requires c κs =
    let l = listed c.before.before in
    let r = roomed l in
    let a = (start r).args in
    let few = boxed-answered-few _ _ _ a.indices.now a.points.now _ r.large_row_room-room.ensures _ a.boxes.now
    _ _ _ _
    l.self_boxed-answer.ensures in
    omega (arith, few)

returns-3 : tie.Need-returns
unfolding self_boxed
returns-3 c =
    let h = c.before.before.before.before.before in
    let l = listed h in
    let r = roomed l in
    let a = (start r).args in
    self-boxed-first a.path.now a.closed a.epsilon
    a.indices.now a.points.now _ _ a.boxes.now _ _ (sym h.listed_bulge.ensures ∙ c.if-listed_bulge.false)
    (boxed-answered _ _ _ a.indices.now a.points.now _ r.large_row_room-room.ensures _ a.boxes.now _ _ _ _ _
    l.self_boxed-answer.ensures c.spread_listed.ensures)

pub self_boxed_large_spec : {M : Type 1} → statement M
self_boxed_large_spec =
    tie.close
    (tie.spec
    (λ c. search rules) (λ c. search rules) (λ c. search rules) (λ c. search rules) (λ c. search rules) (λ c. search rules)
    (λ c. search rules) (λ c. search rules) (λ c. search rules)
    (λ c. search rules) indices-long (λ c. search rules) points-long
    (λ c. search rules) (λ c. search rules) (λ c. search rules)
    (λ c. search rules) (λ c. search rules) (λ c. search rules) returns-2
    spread-listed-requires (λ c. search rules) (λ c. search rules) (λ c. search rules) returns-3)
