-- The loop of `layout_packed::vertex::skip`: after the vertices that are left stands what stands after all.
use Rattle.std.proofs.Common.{◌≡◌, ◌-◌, drop}
use Rattle.layout_packed.specs.Workings.Reader.{passed, vertices_from}
use Rattle.layout_packed.proofs.vertex.skip.Given as goal

abbrev pub invariant-loop : goal.invariant-loop
invariant-loop l =
    passed (vertices_from (l.n - l.counter) l.at (drop l.at l.bytes)) ≡ passed (vertices_from l.n l.start (drop l.start l.bytes))
