-- The loop of `check_arcs`: the segments below i are fine, so those from i on have the first fault (Laws/Along).
use Rattle.checks.specs.First.{first}
use Rattle.paths.specs.Segments.{segment_count}
use Rattle.paths.specs.Check.{of_segment, arc_checks}
use Rattle.paths.specs.Laws.Along.{Looking}
use Rattle.paths.proofs.check.check_arcs.Given as goal

abbrev pub invariant-loop-i : goal.invariant-loop-i
invariant-loop-i l =
    Looking (of_segment l.path l.owner) (segment_count l.path l.closed) (first (arc_checks l.path l.closed l.owner)) l.i
