-- The tests are the definition's: the turn, whether text is left, and the value.
use Rattle.dxf_read.proofs.Pairs.{is-out, misplaced, no_value, a-value}
use Rattle.dxf_read.proofs.pair.after_code.Goals as goal

pub returns-then-eq : goal.returns-then-eq
returns-then-eq c =
    let both = misplaced c.args.text.now c.args.at _ _ (is-out _ _ c.eq.ensures) c.if-eq.true in
    record { result_value = both.0; same_turn = both.1 }

pub returns-then-text-at : goal.returns-then-text-at
returns-then-text-at c =
    let both = no_value c.args.text.now _ _ _ (is-out _ _ c.eq.ensures) c.if-eq.false c.if-text-at.true in
    record { result_value = both.0; same_turn = both.1 }

pub returns : goal.returns
returns c =
    let both = a-value c.args.text.now _ _ _ (is-out _ _ c.eq.ensures) c.if-eq.false c.if-text-at.false _
    (c.value_at.ensures.result_value, c.value_at.ensures.same_turn) in
    record { result_value = both.0; same_turn = both.1 }
