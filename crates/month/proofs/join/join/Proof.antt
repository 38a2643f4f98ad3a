-- `month::join::join` meets its contract: no room in one of the slices, 19, or the sums.
use mathlib.Core.Path.{sym, ◌∙◌}
use borrow.Author.Rules.{rules}
use Rattle.month.specs.Laws.Words.{much-fits}
use Rattle.month.specs.Laws.Ends.{join-no-room, join-no-room-there, join-refused, join-joined}
use Rattle.month.proofs.join.join.Statement.{statement}
use Rattle.month.proofs.join.join.Tie as tie

returns-3 : tie.Need-returns-then-too_much
returns-3 c =
    join-refused _ _ (search rules) (search rules) _ c.too_much.ensures c.if-too_much.true _ c.whole.ensures

add-words-requires : tie.Need-add_words-requires
add-words-requires c κs =
    ((search rules, search rules), much-fits _ _ (search rules) (search rules) (sym c.if-too_much.false ∙ c.too_much.ensures))

returns-4 : tie.Need-returns
returns-4 c =
    join-joined _ _ (search rules) (search rules) _ c.too_much.ensures c.if-too_much.false _ c.add_words.ensures

pub join_spec : {M : Type 1} → statement M
join_spec =
    tie.close
    (tie.spec
    (λ c. join-no-room _ _ c.if-into-lt-WORDS.true)
    (λ c. join-no-room-there _ _ (search rules) c.if-other-lt-WORDS.true)
    (λ c. search rules) (λ c. search rules) (λ c. search rules) returns-3
    add-words-requires (λ c. search rules) returns-4)
