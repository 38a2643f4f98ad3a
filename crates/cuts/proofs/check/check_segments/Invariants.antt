-- The loop of `check_segments`: the segments below i are fine, so those from i on have the first fault (Laws/Along).
use Rattle.checks.specs.First.{first}
use Rattle.paths.specs.Segments.{segment_count}
use Rattle.cuts.specs.LargeChecks.{of_segment, all_segments}
use Rattle.paths.specs.Laws.Along.{Looking}
use Rattle.cuts.proofs.check.check_segments.Given as goal

abbrev pub invariant-loop-i : goal.invariant-loop-i
invariant-loop-i l =
    Looking (of_segment l.path l.owner) (segment_count l.path l.closed) (first (all_segments l.path l.closed l.owner)) l.i
