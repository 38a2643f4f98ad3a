-- The scope's numbers of the refusals that the checks of numbers, of a path's length, of a listing's rows and index of boxes, of
-- a page's position and budget, and of a month's report can give.
use Rattle.std.specs.Prelude.{ℕ}

-- a coordinate of a point or vertex is too large
abbrev pub coordinate : ℕ
coordinate = 2

-- a bulge is too large
abbrev pub bulge : ℕ
bulge = 3

-- epsilon is NaN, infinite, or out of its range
abbrev pub epsilon : ℕ
epsilon = 4

-- an arc's chord is too short
abbrev pub chord : ℕ
chord = 5

-- the count of a path's numbers is no multiple of 4
abbrev pub path_length : ℕ
path_length = 6

-- a path has too many vertices
abbrev pub vertices : ℕ
vertices = 7

-- a listing has more rows than there is room for, or a page has room for none
abbrev pub rows : ℕ
rows = 8

-- a circle's radius is out of its range, or a coordinate of its centre is too large
abbrev pub circle : ℕ
circle = 9

-- a coordinate, bulge, radius or trace is NaN; it is infinite
abbrev pub nan : ℕ
nan = 11

abbrev pub infinite : ℕ
infinite = 12

-- a page's position is beyond the end
abbrev pub position : ℕ
position = 13

-- a page's budget is 0
abbrev pub budget : ℕ
budget = 14

-- a trace is no whole number from 0 to 255
abbrev pub trace : ℕ
trace = 15

-- a boxed listing's index of boxes does not fit
abbrev pub boxes : ℕ
boxes = 17

-- a report is full, or the sum of two reports would be
abbrev pub report : ℕ
report = 19

-- every refusal's number is below this, so that a code in C can be this plus the number
abbrev pub numbers_below : ℕ
numbers_below = 256
