-- `layout_listing::list_layout` meets its contract: an input without its first line is answered by 16's line, and what follows the
-- line as a packed file.
use Prim.Native.Nat.{◌≤◌}
use mathlib.Core.Path.{sym, ◌∙◌}
use native.Mathlib.Omega.{arith}
use borrow.Author.Rules.{rules}
use lib.ListN.{length}
use Rattle.layout_listing.specs.Answer.{first_line, answer_to}
use Rattle.layout_listing.specs.Laws.Begins.{begins-long}
use Rattle.layout_listing.specs.Laws.Ends.{no_room, begun-answer, missing-answer}
use Rattle.layout_listing.proofs.list_layout.Statement.{statement}
use Rattle.layout_listing.proofs.list_layout.Tie as tie

abbrev start : tie.After-begins_with → tie.Start
start c = c.before.before.before.before.before.before

-- where the line was found, there are its bytes
long : (c : tie.Then-begins_with) → length first_line ≤ length (start c.before).args.input.now
long c = begins-long first_line (start c.before).args.input.now (sym c.begins_with.ensures ∙ c.if-begins_with.true)

returns : tie.Need-returns-then-out-lt-ROOM
returns c =
    let a = c.args in no_room (answer_to a.input.now) a.out.now c.if-out-lt-ROOM.true

returns-2 : tie.Need-returns-then-begins_with
returns-2 c =
    let a = (start c.before.before.before.before.before.before).args in
    begun-answer a.input.now a.out.now _ _ (sym c.begins_with.ensures ∙ c.if-begins_with.true) c.list_file.ensures

returns-3 : tie.Need-returns
returns-3 c =
    let a = (start c.before.before.before.before.before).args in
    missing-answer a.input.now a.out.now _ _ c.if-out-lt-ROOM.false (sym c.begins_with.ensures ∙ c.if-begins_with.false)
    c.write_refusal.ensures

pub list_layout_spec : {M : Type 1} → statement M
list_layout_spec =
    tie.close
    (tie.spec
    returns (λ c. search rules) (λ c. omega (arith, long c)) (λ c. omega (arith, long c))
    (λ c. search rules) (λ c. search rules) (λ c. search rules) returns-2 (λ c. search rules) (λ c. search rules) returns-3)
