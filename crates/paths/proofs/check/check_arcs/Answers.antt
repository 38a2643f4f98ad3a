-- `check_arcs` meets its contract: a fault of segment i is the first of the path, and if it is fine the others remain.
use Rattle.std.proofs.Common.{◌∙◌, arith, rules}
use Rattle.checks.specs.Laws.Steps.{raised}
use Rattle.paths.specs.Laws.Along.{found, turned}
use Rattle.paths.specs.Laws.Segments.{count-within}
use Rattle.paths.specs.Laws.Steps.{segment-step}
use Rattle.paths.proofs.check.check_arcs.Goals as goal

pub segment_from-s-requires : goal.segment_from-s-requires
segment_from-s-requires c = omega (arith, count-within c.args.path.now c.args.closed)

pub returns-in_err-arc_chord : goal.returns-in_err-arc_chord
returns-in_err-arc_chord c =
    raised c.from_residual.ensures
    ∙ found c.loop-i.invariant (search rules) (segment-step _ _ _ _ _ c.segment_from-s.ensures c.in_err-arc_chord.ensures)

pub loop-i-preserved : goal.loop-i-preserved
loop-i-preserved c =
    turned c.loop-i.invariant (search rules) (segment-step _ _ _ _ _ c.segment_from-s.ensures c.in_ok-arc_chord.ensures)
