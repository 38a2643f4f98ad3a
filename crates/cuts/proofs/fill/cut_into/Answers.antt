-- `cut_into` meets its contract: each turn writes what one vertex becomes (Workings/Writing).
use Rattle.std.proofs.Common.{arith, rules}
use Rattle.cuts.specs.CutPath.{cut_path}
use Rattle.cuts.specs.Laws.Pieces.{vertices-short}
use Rattle.cuts.specs.Workings.Writing.{writing-starts, writing-turn, writing-ends}
use Rattle.cuts.proofs.fill.cut_into.Goals as goal

pub loop-i-init : goal.loop-i-init
loop-i-init c = writing-starts _ _ _ _

pub put_vertices-at-requires : goal.put_vertices-at-requires
put_vertices-at-requires c =
    record {
      i_bound = search rules;
      room = omega (arith, c.loop-i-test.true, c.loop-i.invariant.within, c.loop-i.invariant.long, c.requires);
    }

pub loop-i-preserved : goal.loop-i-preserved
loop-i-preserved c =
    writing-turn c.loop-i.invariant (search rules) (vertices-short _ _ _) c.put_vertices-at.ensures

pub returns : goal.returns
unfolding cut_path
returns c = rw (← c.segment_count-n.ensures) (writing-ends c.loop-i.invariant (search rules))
