-- Where the parts of a segment start: src/starts.rt.
use Rattle.std.specs.Prelude.{cond}
use Rattle.plane.specs.declared.pline_vertex.PlineVertex.{PlineVertex}
use Rattle.cuts.specs.declared.cut.Halves.{Halves}
use Rattle.cuts.specs.Cut.{is_large, halve}

unfoldable pub starts : PlineVertex → PlineVertex → Halves
starts v1 v2 = cond (is_large v1.bulge) (halve v1 v2) (record { first = v1; second = v2 })
