-- The numbers of things, one thing after the other: a listing's rows and a path's boxes stand so in their slices.
use Rattle.std.specs.Prelude.{List, [], ◌∷◌, ◌++◌}

abbrev pub flat : {A : Type 0} {B : Type 0} → (B → List A) → List B → List A
flat numbers [] = []
flat numbers (b ∷ bs) = numbers b ++ flat numbers bs
