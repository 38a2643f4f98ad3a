-- The loop of `layout_moves::vertices::pack_vertices`: the text lines that are left, put after what stands now, give what all of
-- them give.
use Rattle.std.proofs.Common.{◌≡◌, ◌+◌, ◌-◌, ◌*◌, ◌≤◌, drop}
use Rattle.layout_text.specs.Workings.Reader.{vertices_of}
use Rattle.layout_packed.specs.Limits.{vertex_bytes}
use Rattle.layout_moves.specs.Workings.Carried.{from_text, vertices_bytes}
use Rattle.layout_moves.specs.Laws.Carried.{stored}
use Rattle.layout_moves.proofs.vertices.pack_vertices.Given as goal

abbrev pub invariant-loop : goal.invariant-loop
invariant-loop l =
    (l.next ≤ l.to + l.counter * vertex_bytes)
    × (stored vertices_bytes (from_text (vertices_of (l.n - l.counter) (drop l.at l.text))) l.out l.next
    ≡ stored vertices_bytes (from_text (vertices_of l.n (drop l.start l.text))) l.initial.out l.to)
