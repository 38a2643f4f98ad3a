-- One turn: what a read answers is no more than what was left.
use Rattle.std.proofs.Common.{arith}
use Rattle.std.proofs.lemmas.Option.{MatchOption-at_some}
use Rattle.streams.proofs.read_full.Goals as goal

pub loop-n-preserved : goal.loop-n-preserved
loop-n-preserved c =
    let more = MatchOption-at_some _ _ _ c.in_ok-more.ensures.ok_part c.read_some.ensures in
    omega (arith, more, c.read_some.auto.bytes, c.loop-n.auto.bytes)
