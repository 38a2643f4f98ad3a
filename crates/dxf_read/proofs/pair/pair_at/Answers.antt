-- The code, then what it is for.
use Rattle.dxf_read.proofs.Pairs.{no_code, with_code}
use Rattle.dxf_read.proofs.pair.pair_at.Goals as goal

pub returns-in_default : goal.returns-in_default
returns-in_default c =
    let both = no_code c.args.text.now _ c.args.due _ c.whole_line.ensures c.in_default.is in
    record { result_value = both.0; in_turn = both.1 }

pub returns : goal.returns
returns c =
    let both = with_code c.args.text.now _ _ _ c.whole_line.ensures _ c.in-Some.is _ c.turn_at.ensures _
    (c.after_code.ensures.result_value, c.after_code.ensures.same_turn) in
    record { result_value = both.0; in_turn = both.1 }
