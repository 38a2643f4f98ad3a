-- What the groups of a text give: the count, the flags and the vertices, one group after the other. Exactly.antt proves that it
-- is what `Gives` of Form.antt says.
use Rattle.std.specs.Prelude.{ℕ, List, [], ◌∷◌, ◌++◌, ℤ, pos}
use Rattle.dxf_form.specs.Numbers.{Corner}
use Rattle.dxf_form.specs.Form.{Group, count, flags, x, y, bulge, other}

pub record Body : Type 0 where
  pub declared : ℕ
  pub flags-are : ℕ
  pub vertices : List Corner

-- the last vertex changed; of none there is none
unfoldable pub at_last : (Corner → Corner) → List Corner → List Corner
at_last f [] = []
at_last f (v ∷ []) = f v ∷ []
at_last f (v ∷ w ∷ rest) = v ∷ at_last f (w ∷ rest)

abbrev pub with_y : ℤ → Corner → Corner
with_y z v = record { x = v.x; y = z; bulge = v.bulge }

abbrev pub with_bulge : ℤ → Corner → Corner
with_bulge z v = record { x = v.x; y = v.y; bulge = z }

-- one more group
unfoldable pub taken : Body → Group → Body
taken b (count n) = record { declared = n; flags-are = b.flags-are; vertices = b.vertices }
taken b (flags n) = record { declared = b.declared; flags-are = n; vertices = b.vertices }
taken b (x z) =
    record {
      declared = b.declared;
      flags-are = b.flags-are;
      vertices = b.vertices ++ (record { x = z; y = pos 0; bulge = pos 0 } ∷ []);
    }
taken b (y z) = record { declared = b.declared; flags-are = b.flags-are; vertices = at_last (with_y z) b.vertices }
taken b (bulge z) = record { declared = b.declared; flags-are = b.flags-are; vertices = at_last (with_bulge z) b.vertices }
taken b other = b

unfoldable pub taken_all : Body → List Group → Body
taken_all b [] = b
taken_all b (g ∷ gs) = taken_all (taken b g) gs

abbrev pub empty_body : Body
empty_body = record { declared = 0; flags-are = 0; vertices = [] }

abbrev pub body_of : List Group → Body
body_of gs = taken_all empty_body gs
