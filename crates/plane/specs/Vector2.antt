-- What the methods of `Vector2` answer: from the scope's rules, since the text of vector2.rs is not at hand.
use Rattle.std.specs.Prelude.{Bool, ◌&&◌, Float}
use Rattle.std.specs.Float.Ieee.{neg}
use Rattle.floats.specs.Ops.{◌⊕◌, ◌⊖◌, ◌⊗◌, ◌≈◌}
use Rattle.floats.specs.F64
use Rattle.plane.specs.Fuzzy
use Rattle.plane.specs.declared.vector2.Vector2.{Vector2}

unfoldable pub new : Float → Float → Vector2
new x y = record { x = x; y = y }

unfoldable pub add : Vector2 → Vector2 → Vector2
add self other = record { x = self.x ⊕ other.x; y = self.y ⊕ other.y }

unfoldable pub sub : Vector2 → Vector2 → Vector2
sub self other = record { x = self.x ⊖ other.x; y = self.y ⊖ other.y }

unfoldable pub scale : Vector2 → Float → Vector2
scale self factor = record { x = self.x ⊗ factor; y = self.y ⊗ factor }

-- x1*x2 + y1*y2
abbrev pub dot : Vector2 → Vector2 → Float
dot self other = self.x ⊗ other.x ⊕ self.y ⊗ other.y

-- x1*y2 - y1*x2
abbrev pub perp_dot : Vector2 → Vector2 → Float
perp_dot self other = self.x ⊗ other.y ⊖ self.y ⊗ other.x

-- (-y, x)
unfoldable pub perp : Vector2 → Vector2
perp self = record { x = neg self.y; y = self.x }

-- the dot product with itself
abbrev pub length_squared : Vector2 → Float
length_squared self = dot self self

-- the square root of the dot product with itself
unfoldable pub length : Vector2 → Float
length self = F64.sqrt (dot self self)

-- near equal in each coordinate
unfoldable pub fuzzy_eq_eps : Vector2 → Vector2 → Float → Bool
fuzzy_eq_eps self other eps =
    Fuzzy.fuzzy_eq_eps self.x other.x eps && Fuzzy.fuzzy_eq_eps self.y other.y eps

-- exactly the same position, by the float ==: -0 equals +0
abbrev pub eq : Vector2 → Vector2 → Bool
eq self other = (self.x ≈ other.x) && (self.y ≈ other.y)
