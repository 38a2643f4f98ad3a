-- `names_into` meets its contract: each turn writes the names of what one segment becomes (Workings/Writing).
use Rattle.std.proofs.Common.{refl, arith, rules}
use Rattle.paths.specs.Laws.Segments.{count-within, few-segments}
use Rattle.cuts.specs.Workings.Words.{words-short, all_named}
use Rattle.cuts.specs.Workings.Writing.{writing-starts, writing-turn, writing-ends}
use Rattle.cuts.proofs.fill.names_into.Goals as goal

pub loop-i-init : goal.loop-i-init
loop-i-init c = writing-starts _ _ _ _

pub put_names-at-requires : goal.put_names-at-requires
put_names-at-requires c =
    let within = count-within c.args.path.now c.args.closed in
    let few = few-segments c.args.path.now c.args.closed in
    record {
      i_bound = (omega (arith, within), omega (arith, few));
      at_in_bounds = omega (arith, within, c.loop-i.invariant.within, c.loop-i.invariant.long, c.requires);
    }

pub loop-i-preserved : goal.loop-i-preserved
loop-i-preserved c = writing-turn c.loop-i.invariant (search rules) (words-short _ _) c.put_names-at.ensures

pub returns : goal.returns
returns c = all_named _ _ _ _ _ _ refl (writing-ends c.loop-i.invariant (search rules))
