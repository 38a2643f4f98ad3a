-- What a yes of src/misses.rt means.
use Rattle.std.specs.Prelude.{◌≡◌, Bool, true, Float}
use Rattle.plane.specs.declared.pline_vertex.PlineVertex.{PlineVertex}
use Rattle.crossing.specs.PlineSeg.{pline_seg}
use Rattle.arcs.specs.declared.pline_seg_intr.PlineSegIntr.TheVariants.{NoIntersect}

abbrev pub Misses : Bool → PlineVertex → PlineVertex → PlineVertex → PlineVertex → Float → Type 0
Misses r v1 v2 u1 u2 eps = r ≡ true → pline_seg v1 v2 u1 u2 eps ≡ NoIntersect
