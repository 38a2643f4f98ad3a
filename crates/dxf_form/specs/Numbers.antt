-- The f64 of a number in a drawing's text, by request 10: the whole number of millionths, divided once by 1,000,000. A whole
-- number of at most 2^53 is a float itself, so only the division rounds.
use Rattle.std.specs.Prelude.{ℕ, suc, true, cond, List, [], ◌∷◌, ltb, ℤ, pos, negsuc, Float}
use Rattle.std.specs.Float.{binary64}
use Rattle.std.specs.Float.Ieee.{of_bits, of_int, div}
use Rattle.layouts.specs.Layout.{whole}

-- how many digits may follow the point, and how many millionths are 1
abbrev pub places : ℕ
places = 6

abbrev pub million : ℕ
million = 1_000_000

-- the most millionths that are divided, 2^53. A number with more is read as one with this many: that is beyond every limit too,
-- and no number is infinite (Held.antt)
abbrev pub most : ℕ
most = 9_007_199_254_740_992

abbrev pub at_most : ℕ → ℕ
at_most n = cond (ltb most n) most n

unfoldable pub held : ℤ → ℤ
held (pos n) = pos (at_most n)
held (negsuc n) = whole true (at_most (suc n))

-- 1,000,000 as a float
abbrev pub scale : Float
scale = of_bits binary64 0x412e_8480_0000_0000

-- the f64 of a whole number of millionths
unfoldable pub value : ℤ → Float
value z = div binary64 (of_int binary64 (held z)) scale

-- ---- vertices

-- x, y and the bulge of a vertex, each in millionths
pub record Corner : Type 0 where
  pub x : ℤ
  pub y : ℤ
  pub bulge : ℤ

-- the trace of every vertex, +0: a drawing has no traces
abbrev pub trace : Float
trace = of_bits binary64 0

-- a path as it is lent: four numbers for each vertex
abbrev pub path_of : List Corner → List Float
path_of [] = []
path_of (v ∷ rest) = value v.x ∷ value v.y ∷ value v.bulge ∷ trace ∷ path_of rest
