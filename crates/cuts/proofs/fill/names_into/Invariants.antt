-- The loop of `names_into`: the names of what the segments from i on become are still to be written (Workings/Writing).
use Rattle.paths.specs.Segments.{segment_count}
use Rattle.cuts.specs.Workings.Words.{words_of}
use Rattle.cuts.specs.Workings.Writing.{Writing}
use Rattle.cuts.proofs.fill.names_into.Given as goal

abbrev pub invariant-loop-i : goal.invariant-loop-i
invariant-loop-i l = Writing (words_of l.path) (segment_count l.path l.closed) 2 l.fn.names l.names l.at l.i
