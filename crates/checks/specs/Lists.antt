-- The checks of a point, a vertex, a path's vertex with its trace and a kernel's circle, in the scope's order. The list of a call is made of these.
use Rattle.checks.specs.Checked.{Checked}
use Rattle.std.specs.Prelude.{List, [], ◌∷◌, ◌++◌, ℕ, Float}
use Rattle.checks.specs.declared.fault.Item.TheVariants.{X, Y, Bulge, Radius, CenterX, CenterY, Trace}
use Rattle.checks.specs.Fault.{at}
use Rattle.checks.specs.Each

abbrev pub point_checks : Float → Float → ℕ → ℕ → List Checked
point_checks x y owner index = Each.coordinate x (at owner index X) ∷ Each.coordinate y (at owner index Y) ∷ []

abbrev pub vertex_checks : Float → Float → Float → ℕ → ℕ → List Checked
vertex_checks x y bulge owner index = point_checks x y owner index ++ (Each.bulge bulge (at owner index Bulge) ∷ [])

-- a vertex of a path: its trace comes last
abbrev pub traced_checks : Float → Float → Float → Float → ℕ → ℕ → List Checked
traced_checks x y bulge trace owner index =
    vertex_checks x y bulge owner index ++ (Each.trace trace (at owner index Trace) ∷ [])

abbrev pub circle_checks : Float → Float → Float → ℕ → List Checked
circle_checks radius x y owner =
    Each.radius radius (at owner 0 Radius)
    ∷ Each.center x (at owner 0 CenterX)
    ∷ Each.center y (at owner 0 CenterY)
    ∷ []
