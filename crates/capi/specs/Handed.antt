-- How an answer goes to a caller in C, as decided here: a number is returned, and four values go into the lent slice.
use Rattle.std.specs.Prelude.{ℕ, ◌≡◌, Bool, cond, ◌||◌, List, [], ◌∷◌, ltb, length, Float}
use Rattle.std.proofs.lemmas.List.Edits.{sets}
use Rattle.plane.specs.declared.vector2.Vector2.{Vector2}
use Rattle.plane.specs.declared.pline_vertex.PlineVertex.{PlineVertex}
use Rattle.answers.specs.declared.padded.PaddedAnswer.{PaddedAnswer}

-- ---- in

abbrev pub point : Float → Float → Vector2
point x y = record { x = x; y = y }

abbrev pub vertex : Float → Float → Float → PlineVertex
vertex x y bulge = record { x = x; y = y; bulge = bulge }

-- ---- out: a code if the slice has too few places, else the word of a refusal, else the number of the case

-- how many places an answer takes
abbrev pub places : ℕ
places = 4

-- what is returned if the slice has too few places
abbrev pub no_room_code : ℕ
no_room_code = 512

abbrev pub short : List Float → Bool
short old = ltb (length old) places

abbrev pub code : PaddedAnswer → List Float → ℕ
code f old = cond (short old) no_room_code f.number

abbrev pub written : PaddedAnswer → List Float → List Float
written f old = cond (short old || f.refused) old (sets old 0 (f.a ∷ f.b ∷ f.c ∷ f.d ∷ []))

pub record Handed (f : PaddedAnswer) (returned : ℕ) (old now : List Float) : Type 0 where
  pub code_is : returned ≡ code f old
  pub holds : now ≡ written f old
