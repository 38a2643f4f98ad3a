-- `layout_listing::list_paths` meets its contract: it writes the lines of what the listing answers.
use borrow.Author.Rules.{rules}
use Rattle.layout_listing.specs.Answer.{lines_for}
use Rattle.layout_listing.specs.Laws.Ends.{no_room, refused-lines, listed-lines}
use Rattle.layout_listing.proofs.list_paths.Statement.{statement}
use Rattle.layout_listing.proofs.list_paths.Tie as tie

abbrev start : tie.Else-out-lt-ROOM → tie.Start
start c = c.before.before.before.before

returns : tie.Need-returns-then-out-lt-ROOM
returns c =
    let a = c.args in
    no_room (lines_for a.first.now a.second.now) a.out.now c.if-out-lt-ROOM.true

returns-2 : tie.Need-returns-in-Err
returns-2 c =
    let e = c.before.before.before.before.before.before.before.before.before.before in
    let a = (start e).args in
    refused-lines a.first.now a.second.now a.out.now e.if-out-lt-ROOM.false c.mutual_listing-listed.result _ _
    c.mutual_listing-listed.ensures _ _ _ c.in-Err.is c.write_refusal.ensures

returns-3 : tie.Need-returns-in-Ok
returns-3 c =
    let e = c.before.before.before.before.before.before.before.before.before.before.before.before in
    let a = (start e).args in
    listed-lines a.first.now a.second.now a.out.now e.if-out-lt-ROOM.false c.mutual_listing-listed.result _ _
    c.mutual_listing-listed.ensures _ _ _ _ c.in-Ok.is c.write_answer.ensures

pub list_paths_spec : {M : Type 1} → statement M
list_paths_spec =
    tie.close
    (tie.spec
    returns (λ c. search rules) (λ c. search rules) (λ c. search rules) (λ c. search rules) (λ c. search rules)
    (λ c. search rules) (λ c. search rules) (λ c. search rules) (λ c. search rules) (λ c. search rules) returns-2
    (λ c. search rules) returns-3)
