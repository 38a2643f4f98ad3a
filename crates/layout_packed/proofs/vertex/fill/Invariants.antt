-- The loop of `layout_packed::vertex::fill`: the vertices that are left, written after what stands now, give what all of them
-- give.
use Rattle.std.proofs.Common.{◌≡◌, ◌-◌, ◌*◌, drop}
use Rattle.layouts.specs.Limits.{numbers_a_vertex}
use Rattle.layout_packed.specs.Workings.Reader.{vertices_from}
use Rattle.layout_packed.proofs.Vertices.{stored}
use Rattle.layout_packed.proofs.vertex.fill.Given as goal

abbrev pub invariant-loop-i : goal.invariant-loop-i
invariant-loop-i l =
    stored (vertices_from (l.n - l.i) l.at (drop l.at l.bytes)) l.out (l.i * numbers_a_vertex)
    ≡ stored (vertices_from l.n l.start (drop l.start l.bytes)) l.initial.out 0
