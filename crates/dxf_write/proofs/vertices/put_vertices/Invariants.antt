-- The text of the vertices that are left, put after what stands now, gives what all of them give.
use Rattle.paths.specs.Path.{vertex_count}
use Rattle.dxf_write.specs.Laws.Passes.{Putting}
use Rattle.dxf_write.proofs.vertices.put_vertices.Given as goal

abbrev pub invariant-loop-i : goal.invariant-loop-i
invariant-loop-i l = Putting l.path (vertex_count l.path) l.i l.initial.out l.start l.out l.next
