-- Where the fault of a file lies, told without the reader: all numbers before it are sound, each within the range of its
-- turn; and the number that is due there is not, or none is due and bytes are left. Offset.antt proves that it is the offset
-- told.
use Rattle.std.specs.Prelude.{ℕ, zero, suc, ◌≤◌, ◌<◌, ◌≡◌, List, [], ◌∷◌, ◌++◌, length}
use Rattle.layouts.specs.Limits as limit
use Rattle.layout_packed.specs.Limits as written
use Rattle.layout_packed.specs.Groups.{groups_of}
use Rattle.layout_packed.specs.Packed.{joined}

-- ---- the largest numbers that may be written, in the order of a layout's numbers

abbrev pub vertex_limits : List ℕ
vertex_limits = written.coordinate ∷ written.coordinate ∷ written.bulge ∷ []

abbrev pub vertices_limits : ℕ → List ℕ
vertices_limits zero = []
vertices_limits (suc n) = vertex_limits ++ vertices_limits n

-- as far as they are known from the first numbers: the two counts say how many vertices there are
abbrev pub limits_of : List ℕ → List ℕ
limits_of [] = limit.vertices ∷ limit.vertices ∷ []
limits_of (n ∷ []) = limit.vertices ∷ limit.vertices ∷ []
limits_of (n ∷ m ∷ rest) = limit.vertices ∷ limit.vertices ∷ (vertices_limits n ++ vertices_limits m)

-- ---- numbers that are sound

-- `Sound limits numbers due`: each of the numbers is at most the limit of its turn, and the numbers with the limits `due` are due
-- after them
pub data Sound : List ℕ → List ℕ → List ℕ → Type 0 where
  unread : {limits : List ℕ} → Sound limits [] limits
  read : {most n : ℕ} {limits numbers due : List ℕ} → n ≤ most → Sound limits numbers due
      → Sound (most ∷ limits) (n ∷ numbers) due

-- no number of at most `most` has its groups at the front of these bytes: what starts here is not the shortest form, or is cut
-- off, or is out of range
abbrev pub NoNumber : ℕ → List ℕ → Type 0
NoNumber most bytes = (n : ℕ) (rest : List ℕ) → n ≤ most → bytes ≡ groups_of n ++ rest → ⊥

-- what is wrong with the bytes that are left, by what is due
abbrev pub Wrong : List ℕ → List ℕ → Type 0
Wrong [] rest = 0 < length rest
Wrong (most ∷ due) rest = NoNumber most rest

pub record FaultAt (bytes : List ℕ) (k : ℕ) : Type 0 where
  pub numbers : List ℕ
  pub due : List ℕ
  pub rest : List ℕ
  pub is : bytes ≡ joined numbers ++ rest
  pub here : k ≡ length (joined numbers)
  pub sound : Sound (limits_of numbers) numbers due
  pub wrong : Wrong due rest
