-- Which refusals a mutual listing can give: 2 to 8, 11, 12 and 15.
use Rattle.std.specs.Prelude.{Bool, false, ◌||◌, List, [], ◌∷◌, ℕ, eqb}
use Rattle.checks.specs.Refusal

-- n is one of these numbers
abbrev pub among : ℕ → List ℕ → Bool
among n [] = false
among n (m ∷ ms) = eqb n m || among n ms

abbrev pub given : List ℕ
given =
    Refusal.coordinate ∷ Refusal.bulge ∷ Refusal.epsilon ∷ Refusal.chord ∷ Refusal.path_length ∷ Refusal.vertices ∷ Refusal.rows
    ∷ Refusal.nan ∷ Refusal.infinite ∷ Refusal.trace ∷ []
