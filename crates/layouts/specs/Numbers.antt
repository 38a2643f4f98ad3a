-- The f64 numbers of a layout's whole numbers, by the scope, and the trace by request 8. x and y are at most 2^20 in magnitude, so
-- the float is the whole number itself; 65,536 is a power of two, so the quotient is exact (Exact.antt).
use Rattle.std.specs.Prelude.{List, [], ◌∷◌, ℤ, from_bits, Float}
use Rattle.std.specs.Float.{binary64}
use Rattle.std.specs.Float.Ieee.{of_int, div}
use Rattle.layouts.specs.Layout.{Vertex}

unfoldable pub coordinate : ℤ → Float
coordinate n = of_int binary64 n

-- 65,536 as a float
abbrev pub scale : Float
scale = from_bits binary64 0x40f0_0000_0000_0000

unfoldable pub bulge : ℤ → Float
bulge n = div binary64 (of_int binary64 n) scale

-- the trace of every vertex, +0: a layout has no traces
abbrev pub trace : Float
trace = from_bits binary64 0

-- a path as it is lent: four numbers for each vertex
abbrev pub path_of : List Vertex → List Float
path_of [] = []
path_of (v ∷ rest) = coordinate v.x ∷ coordinate v.y ∷ bulge v.bulge ∷ trace ∷ path_of rest
