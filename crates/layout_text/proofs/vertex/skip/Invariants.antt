-- The loop of `layout_text::vertex::skip`: after the text lines that are left stands what stands after all.
use Rattle.std.proofs.Common.{◌≡◌, ◌-◌, drop}
use Rattle.layout_text.specs.Workings.Reader.{passed, vertices_of}
use Rattle.layout_text.proofs.vertex.skip.Given as goal

abbrev pub invariant-loop : goal.invariant-loop
invariant-loop l = passed (vertices_of (l.n - l.counter) (drop l.at l.text)) ≡ passed (vertices_of l.n (drop l.start l.text))
