-- The loop of `layout_moves::vertices::unpack_vertices`: the vertices that are left, put after what stands now, give what all of
-- them give.
use Rattle.std.proofs.Common.{◌≡◌, ◌+◌, ◌-◌, ◌*◌, ◌≤◌, drop}
use Rattle.layout_text.specs.Form.{vertices_text}
use Rattle.layout_text.specs.Sizes.{vertex_line}
use Rattle.layout_packed.specs.Workings.Reader.{vertices_from}
use Rattle.layout_moves.specs.Workings.Carried.{from_packed}
use Rattle.layout_moves.specs.Laws.Carried.{stored}
use Rattle.layout_moves.proofs.vertices.unpack_vertices.Given as goal

abbrev pub invariant-loop : goal.invariant-loop
invariant-loop l =
    (l.next ≤ l.to + l.counter * vertex_line)
    × (stored vertices_text (from_packed (vertices_from (l.n - l.counter) l.at (drop l.at l.bytes))) l.out l.next
    ≡ stored vertices_text (from_packed (vertices_from l.n l.start (drop l.start l.bytes))) l.initial.out l.to)
