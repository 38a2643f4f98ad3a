-- What is left to check has the first fault of the whole, and what is left to count makes up the whole.
use Rattle.std.proofs.Common.{◌*◌, ◌≤◌}
use Rattle.paths.specs.Path.{vertex_count}
use Rattle.dxf_write.specs.Workings.Told.{vertex_most}
use Rattle.dxf_write.specs.Laws.Passes.{Counted}
use Rattle.dxf_write.proofs.vertices.measure.Given as goal

abbrev pub invariant-loop-i : goal.invariant-loop-i
invariant-loop-i l =
    record {
      counted : Counted l.path (vertex_count l.path) l.i l.size;
      few : l.size ≤ l.i * vertex_most;
    }
