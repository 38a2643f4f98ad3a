-- `large_calls::self_large::self_large` meets its contract. If the old mode refuses a bulge, the slices are as they
-- were, and the path is cut; else its answer holds, with its rows spread.
use mathlib.Core.Path.{sym, ◌∙◌}
use native.Mathlib.Omega.{arith}
use borrow.Author.Rules.{rules}
use lib.Seq.{length-take-le}
use Rattle.listing_calls.specs.Listing.{self_listing}
use Rattle.large_outcomes.specs.Laws.Parts.{indices-inside, points-inside}
use Rattle.large_listings.specs.LargeListings.{self_large}
use Rattle.large_calls.specs.Laws.Answered.{answered-few, answered, refusal-kept}
use Rattle.large_calls.specs.Laws.OldFirst.{self-first, then-cut}
use Rattle.large_calls.proofs.self_large.self_large.Statement.{statement}
use Rattle.large_calls.proofs.self_large.self_large.Tie as tie

abbrev start : tie.After-large_row_room-room → tie.Start
start c = c.before.before.before.before.before.before

-- from the place after the test to that after the old mode's call, and from there to the room
abbrev listed : tie.After-listed_bulge → tie.After-self_listing-answer
listed c = c.before.before.before.before.before

abbrev roomed : tie.After-self_listing-answer → tie.After-large_row_room-room
roomed c = c.before.before.before

indices-long : tie.Need-slice_bounds-self_listing-end-2
indices-long c =
    let r = c.before in
    let a = (start r).args in
    sym (length-take-le _ _ (indices-inside a.indices.now a.points.now _ r.large_row_room-room.ensures))

points-long : tie.Need-slice_bounds-self_listing-end-4
points-long c =
    let r = c.before.before in
    let a = (start r).args in
    sym (length-take-le _ _ (points-inside a.indices.now a.points.now _ r.large_row_room-room.ensures))

returns-2 : tie.Need-returns-then-listed_bulge
unfolding self_listing
returns-2 c =
    let h = c.before.before.before.before.before.before.before.before in
    let l = listed h in
    let r = roomed l in
    let a = (start r).args in
    then-cut (self_large a.path.now a.closed a.epsilon)
    a.indices.now _ a.points.now _
    (refusal-kept _ _ _ a.indices.now a.points.now _ r.large_row_room-room.ensures _ _ _
    (sym h.listed_bulge.ensures ∙ c.if-listed_bulge.true) l.self_listing-answer.ensures)
    _ _ _ c.self_cut-then-listed_bulge.ensures

spread-listed-requires : tie.Need-spread_listed-requires
unfolding self_listing
spread-listed-requires c κs =
    let l = listed c.before.before in
    let r = roomed l in
    let a = (start r).args in
    let few = answered-few _ _ _ a.indices.now a.points.now _ r.large_row_room-room.ensures _ _ _
    l.self_listing-answer.ensures in
    omega (arith, few)

returns-3 : tie.Need-returns
unfolding self_listing
returns-3 c =
    let h = c.before.before.before.before.before in
    let l = listed h in
    let r = roomed l in
    let a = (start r).args in
    self-first a.path.now a.closed a.epsilon
    a.indices.now a.points.now _ _ _ (sym h.listed_bulge.ensures ∙ c.if-listed_bulge.false)
    (answered _ _ _ a.indices.now a.points.now _ r.large_row_room-room.ensures _ _ _ _
    l.self_listing-answer.ensures c.spread_listed.ensures)

pub self_large_spec : {M : Type 1} → statement M
self_large_spec =
    tie.close
    (tie.spec
    (λ c. search rules) (λ c. search rules) (λ c. search rules) (λ c. search rules) (λ c. search rules)
    (λ c. search rules) (λ c. search rules) (λ c. search rules)
    (λ c. search rules) indices-long (λ c. search rules) points-long
    (λ c. search rules) (λ c. search rules) (λ c. search rules)
    (λ c. search rules) (λ c. search rules) returns-2
    spread-listed-requires (λ c. search rules) (λ c. search rules) returns-3)
