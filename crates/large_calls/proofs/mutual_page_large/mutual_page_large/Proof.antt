-- `large_calls::mutual_page_large::mutual_page_large` meets its contract. If the old mode refuses a bulge, the slices are as they
-- were, and the paths are cut; else its answer holds, with its rows spread.
use mathlib.Core.Path.{sym, ◌∙◌}
use native.Mathlib.Omega.{arith}
use borrow.Author.Rules.{rules}
use lib.Seq.{length-take-le}
use Rattle.listing_calls.specs.Pages.{mutual_page}
use Rattle.large_outcomes.specs.Laws.Parts.{indices-inside, points-inside}
use Rattle.large_listings.specs.LargeListings.{mutual_page_large}
use Rattle.large_calls.specs.Laws.Answered.{paged-answered-few, paged-answered, page-refusal-kept}
use Rattle.large_calls.specs.Laws.OldFirst.{mutual-page-first, then-cut}
use Rattle.large_calls.proofs.mutual_page_large.mutual_page_large.Statement.{statement}
use Rattle.large_calls.proofs.mutual_page_large.mutual_page_large.Tie as tie

abbrev start : tie.After-large_row_room-room → tie.Start
start c = c.before.before.before.before.before.before.before

-- from the place after the test to that after the old mode's call, and from there to the room
abbrev listed : tie.After-paged_bulge → tie.After-mutual_page-answer
listed c = c.before.before.before.before.before

abbrev roomed : tie.After-mutual_page-answer → tie.After-large_row_room-room
roomed c = c.before.before.before

indices-long : tie.Need-slice_bounds-mutual_page-end-2
indices-long c =
    let r = c.before in
    let a = (start r).args in
    sym (length-take-le _ _ (indices-inside a.indices.now a.points.now _ r.large_row_room-room.ensures))

points-long : tie.Need-slice_bounds-mutual_page-end-4
points-long c =
    let r = c.before.before in
    let a = (start r).args in
    sym (length-take-le _ _ (points-inside a.indices.now a.points.now _ r.large_row_room-room.ensures))

returns-2 : tie.Need-returns-then-paged_bulge
unfolding mutual_page
returns-2 c =
    let h = c.before.before.before.before.before.before.before.before in
    let l = listed h in
    let r = roomed l in
    let a = (start r).args in
    then-cut (mutual_page_large a.first.now a.first_closed a.second.now a.second_closed a.epsilon
    a.position a.budget)
    a.indices.now _ a.points.now _
    (page-refusal-kept _ _ _ a.indices.now a.points.now _ r.large_row_room-room.ensures _ _ _ _ _
    (sym h.paged_bulge.ensures ∙ c.if-paged_bulge.true) l.mutual_page-answer.ensures)
    _ _ _ c.mutual_page_cut-then-paged_bulge.ensures

spread-paged-requires : tie.Need-spread_paged-requires
unfolding mutual_page
spread-paged-requires c κs =
    let l = listed c.before.before in
    let r = roomed l in
    let a = (start r).args in
    let few = paged-answered-few _ _ _ a.indices.now a.points.now _ r.large_row_room-room.ensures _ _ _ _ _
    l.mutual_page-answer.ensures in
    omega (arith, few)

returns-3 : tie.Need-returns
unfolding mutual_page
returns-3 c =
    let h = c.before.before.before.before.before in
    let l = listed h in
    let r = roomed l in
    let a = (start r).args in
    mutual-page-first a.first.now a.first_closed a.second.now a.second_closed a.epsilon
    a.indices.now a.points.now _ _ a.position a.budget _ (sym h.paged_bulge.ensures ∙ c.if-paged_bulge.false)
    (paged-answered _ _ _ a.indices.now a.points.now _ r.large_row_room-room.ensures _ _ _ _ _ _
    l.mutual_page-answer.ensures c.spread_paged.ensures)

pub mutual_page_large_spec : {M : Type 1} → statement M
mutual_page_large_spec =
    tie.close
    (tie.spec
    (λ c. search rules) (λ c. search rules) (λ c. search rules) (λ c. search rules) (λ c. search rules)
    (λ c. search rules) (λ c. search rules) (λ c. search rules)
    (λ c. search rules) indices-long (λ c. search rules) points-long
    (λ c. search rules) (λ c. search rules) (λ c. search rules)
    (λ c. search rules) (λ c. search rules) returns-2
    spread-paged-requires (λ c. search rules) (λ c. search rules) returns-3)
