-- The path that an export gives back: the same x, y and bulges, and traces of 0.
use Rattle.std.specs.Prelude.{List, [], ◌∷◌, Float}
use Rattle.dxf_form.specs.Numbers.{trace}

-- a list that has no whole number of vertices loses its rest
abbrev pub untraced : List Float → List Float
untraced [] = []
untraced (a ∷ []) = []
untraced (a ∷ b ∷ []) = []
untraced (a ∷ b ∷ c ∷ []) = []
untraced (a ∷ b ∷ c ∷ t ∷ rest) = a ∷ b ∷ c ∷ trace ∷ untraced rest
