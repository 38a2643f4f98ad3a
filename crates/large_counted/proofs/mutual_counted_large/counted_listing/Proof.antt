-- `large_counted::mutual_counted_large::counted_listing` meets its contract: if the old mode refuses a bulge, the slices are as
-- they were, and the paths are cut; else its answer holds, with its rows counted and spread.
use mathlib.Core.Path.{sym, ◌∙◌}
use borrow.Author.Rules.{rules}
use lib.Seq.{length-take-le}
use Rattle.large_outcomes.specs.Laws.Parts.{indices-inside, points-inside}
use Rattle.large_counted.specs.Laws.OldCounted.{old-countable, old-fits, old-added, then-counted}
use Rattle.large_counted.proofs.mutual_counted_large.counted_listing.Statement.{statement}
use Rattle.large_counted.proofs.mutual_counted_large.counted_listing.Tie as tie

abbrev start : tie.After-large_row_room-room → tie.Start
start c = c.before.before.before.before.before.before.before.before

-- from the place after the test to that after the old mode's call, and from there to the room
abbrev listed : tie.After-listed_bulge → tie.After-mutual_listing-answer
listed c = c.before.before.before.before.before

abbrev roomed : tie.After-mutual_listing-answer → tie.After-large_row_room-room
roomed c = c.before.before.before

indices-long : tie.Need-slice_bounds-mutual_listing-end-2
indices-long c =
    let r = c.before in
    let a = (start r).args in
    sym (length-take-le _ _ (indices-inside a.indices.now a.points.now _ r.large_row_room-room.ensures))

points-long : tie.Need-slice_bounds-mutual_listing-end-4
points-long c =
    let r = c.before.before in
    let a = (start r).args in
    sym (length-take-le _ _ (points-inside a.indices.now a.points.now _ r.large_row_room-room.ensures))

returns-2 : tie.Need-returns-then-listed_bulge
returns-2 c =
    let h = c.before.before.before.before.before.before.before.before.before.before.before in
    let l = listed h in
    let r = roomed l in
    let a = (start r).args in
    then-counted a.first.now a.first_closed a.second.now a.second_closed a.epsilon
    a.indices.now a.points.now _ r.large_row_room-room.ensures _ _ _ l.mutual_listing-answer.ensures a.report.now
    (sym h.listed_bulge.ensures ∙ c.if-listed_bulge.true) _ _ _ _ c.counted_large-then-listed_bulge.ensures

count-requires : tie.Need-count-requires
count-requires c κs =
    let l = listed c.before.before in
    let r = roomed l in
    let s = start r in
    let a = s.args in
    old-countable a.first.now a.first_closed a.second.now a.second_closed a.epsilon
    a.indices.now a.points.now _ r.large_row_room-room.ensures _ _ _ l.mutual_listing-answer.ensures a.report.now
    s.requires.0 s.requires.1

spread-listed-requires : tie.Need-spread_listed-requires
spread-listed-requires c κs =
    let l = listed c.before.before.before.before.before.before in
    let r = roomed l in
    let a = (start r).args in
    old-fits a.first.now a.first_closed a.second.now a.second_closed a.epsilon
    a.indices.now a.points.now _ r.large_row_room-room.ensures _ _ _ l.mutual_listing-answer.ensures a.report.now

returns-3 : tie.Need-returns
returns-3 c =
    let h = c.before.before.before.before.before.before.before.before.before in
    let l = listed h in
    let r = roomed l in
    let a = (start r).args in
    old-added a.first.now a.first_closed a.second.now a.second_closed a.epsilon
    a.indices.now a.points.now _ r.large_row_room-room.ensures _ _ _ l.mutual_listing-answer.ensures a.report.now
    (sym h.listed_bulge.ensures ∙ c.if-listed_bulge.false) _ _ c.count.ensures c.spread_listed.ensures

pub counted_listing_spec : {M : Type 1} → statement M
counted_listing_spec =
    tie.close
    (tie.spec
    (λ c. search rules) (λ c. search rules) (λ c. search rules) (λ c. search rules) (λ c. search rules) (λ c. search rules)
    (λ c. search rules) (λ c. search rules) (λ c. search rules)
    (λ c. search rules) indices-long (λ c. search rules) points-long
    (λ c. search rules) (λ c. search rules) (λ c. search rules)
    (λ c. search rules) (λ c. search rules) (λ c. search rules) returns-2
    count-requires spread-listed-requires
    (λ c. search rules) (λ c. search rules) (λ c. search rules) returns-3)
