-- What the methods of `PlineVertex` answer: from the scope's rules, since the text of pline_vertex.rs is not at hand.
use Rattle.std.specs.Prelude.{Bool, Float}
use Rattle.floats.specs.Ops.{◌≺◌, f0}
use Rattle.plane.specs.Fuzzy.{fuzzy_eq_zero}
use Rattle.plane.specs.declared.vector2.Vector2.{Vector2}
use Rattle.plane.specs.declared.pline_vertex.PlineVertex.{PlineVertex}

unfoldable pub new : Float → Float → Float → PlineVertex
new x y bulge = record { x = x; y = y; bulge = bulge }

unfoldable pub pos : PlineVertex → Vector2
pos self = record { x = self.x; y = self.y }

-- the bulge of a line: near zero by the default epsilon
abbrev pub bulge_is_zero : PlineVertex → Bool
bulge_is_zero self = fuzzy_eq_zero self.bulge

-- negative: below 0
abbrev pub bulge_is_neg : PlineVertex → Bool
bulge_is_neg self = self.bulge ≺ f0
