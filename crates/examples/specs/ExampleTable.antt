-- The scope's worked examples in one table: each entry is a call and its answer in numbers. Proved.antt proves all of them by one
-- claim. Epsilon is 1e-5 unless an entry says otherwise. Floats are written by their bits.
use Rattle.std.specs.Prelude.{ℕ, true, false, List, [], ◌∷◌, Float}
use Rattle.std.specs.Float.{binary64}
use Rattle.std.specs.Float.Ieee.{of_bits}
use Rattle.plane.specs.declared.vector2.Vector2.{Vector2}
use Rattle.plane.specs.declared.pline_vertex.PlineVertex.{PlineVertex}
use Rattle.crossing.specs.AnswerNumbers.{AnswerNumbers, of_fault, of_case}
use Rattle.checks.specs.declared.fault.Item.{Item}
use Rattle.checks.specs.declared.fault.Item.TheVariants.{X, Bulge, Chord}
use Rattle.crossing.specs.LineLineIntersect as lines
use Rattle.crossing.specs.LineCircleIntersect as line_circle
use Rattle.crossing.specs.CircleCircleIntersect as circles
use Rattle.crossing.specs.PlineSegIntersect as pairs

-- ---- numbers, points and vertices
-- 0 to 5, -1, -2, 1/2, 1/4, 1/8
abbrev pub n0 : Float
n0 = of_bits binary64 0x0000_0000_0000_0000

abbrev pub n1 : Float
n1 = of_bits binary64 0x3ff0_0000_0000_0000

abbrev pub n2 : Float
n2 = of_bits binary64 0x4000_0000_0000_0000

abbrev pub n3 : Float
n3 = of_bits binary64 0x4008_0000_0000_0000

abbrev pub n4 : Float
n4 = of_bits binary64 0x4010_0000_0000_0000

abbrev pub n5 : Float
n5 = of_bits binary64 0x4014_0000_0000_0000

abbrev pub m1 : Float
m1 = of_bits binary64 0xbff0_0000_0000_0000

abbrev pub m2 : Float
m2 = of_bits binary64 0xc000_0000_0000_0000

abbrev pub half : Float
half = of_bits binary64 0x3fe0_0000_0000_0000

abbrev pub quarter : Float
quarter = of_bits binary64 0x3fd0_0000_0000_0000

abbrev pub eighth : Float
eighth = of_bits binary64 0x3fc0_0000_0000_0000

-- 1e-5
abbrev pub eps : Float
eps = of_bits binary64 0x3ee4_f8b5_88e3_68f1

-- 1,048,576 and the next float; the next float above 1
abbrev most : Float
most = of_bits binary64 0x4130_0000_0000_0000

abbrev more : Float
more = of_bits binary64 0x4130_0000_0000_0001

abbrev n1up : Float
n1up = of_bits binary64 0x3ff0_0000_0000_0001

abbrev pt : Float → Float → Vector2
pt x y = record { x = x; y = y }

-- a vertex where a line starts, and one where an arc with this bulge starts
abbrev pub at : Float → Float → PlineVertex
at x y = record { x = x; y = y; bulge = n0 }

abbrev pub arc_at : Float → Float → Float → PlineVertex
arc_at x y bulge = record { x = x; y = y; bulge = bulge }

-- ---- entries
-- what the call answers, and what it should answer
pub record Entry : Type 0 where
  pub found : AnswerNumbers
  pub due : AnswerNumbers

abbrev met : ℕ → List Float → AnswerNumbers
met case values = of_case case values

-- the refusal of a number, with its place: owner, index, item
abbrev refused : ℕ → ℕ → ℕ → Item → AnswerNumbers
refused n owner index item = of_fault (record { number = n; place = record { owner = owner; index = index; item = item } })

-- a pair: v1, v2, u1, u2, epsilon, and the answer that it should give
abbrev pair : PlineVertex → PlineVertex → PlineVertex → PlineVertex → Float → AnswerNumbers → Entry
pair v1 v2 u1 u2 e numbers = record { found = pairs.numbers_of (pairs.pline_seg_intr v1 v2 u1 u2 e); due = numbers }

-- the points of a pair's answer: a point that the class lacks is +0, +0
abbrev none : AnswerNumbers
none = met 0 (n0 ∷ n0 ∷ n0 ∷ n0 ∷ [])

abbrev one : ℕ → Float → Float → AnswerNumbers
one class x y = met class (x ∷ y ∷ n0 ∷ n0 ∷ [])

abbrev two : ℕ → Float → Float → Float → Float → AnswerNumbers
two class x1 y1 x2 y2 = met class (x1 ∷ y1 ∷ x2 ∷ y2 ∷ [])

abbrev pub table : List Entry
table =
    -- A: (0,0)-(1,0) with (0.5,-1)-(0.5,1): both t 0.5
    record {
      found = lines.numbers_of (lines.line_line_intr (pt n0 n0) (pt n1 n0) (pt half m1) (pt half n1) eps);
      due = met 1 (half ∷ half ∷ []);
    }
    -- B: (0,0)-(1,0), circle radius 1 at (0,1): tangent, t 0
    ∷ record {
      found = line_circle.numbers_of (line_circle.line_circle_intr (pt n0 n0) (pt n1 n0) n1 (pt n0 n1) eps);
      due = met 1 (n0 ∷ []);
    }
    -- C: unit circles at (0,0) and (0,2): tangent (0,1)
    ∷ record {
      found = circles.numbers_of (circles.circle_circle_intr n1 (pt n0 n0) n1 (pt n0 n2) eps);
      due = met 1 (n0 ∷ n1 ∷ []);
    }
    -- D: (0,0)-(4,0) with (1,0)-(5,0): OverlappingLines (1,0), (4,0)
    ∷ pair (at n0 n0) (at n4 n0) (at n1 n0) (at n5 n0) eps (two 4 n1 n0 n4 n0)
    -- E: (0,0)-(2,0) with (2,0)-(5,0): OneIntersect (2,0)
    ∷ pair (at n0 n0) (at n2 n0) (at n2 n0) (at n5 n0) eps (one 2 n2 n0)
    -- F: (0,0)-(2,0) with (3,0)-(5,0), epsilon 1/2: NoIntersect
    ∷ pair (at n0 n0) (at n2 n0) (at n3 n0) (at n5 n0) half none
    -- G: (0,0)-(4,0) with (2,0.25)-(2,4): epsilon 1/2 OneIntersect (2,0); epsilon 1/8 NoIntersect
    ∷ pair (at n0 n0) (at n4 n0) (at n2 quarter) (at n2 n4) half (one 2 n2 n0)
    ∷ pair (at n0 n0) (at n4 n0) (at n2 quarter) (at n2 n4) eighth none
    -- H: half circles (-1,0) to (1,0) and (1,0) to (-1,0), both bulge 1: TwoIntersects (1,0), (-1,0)
    ∷ pair (arc_at m1 n0 n1) (at n1 n0) (arc_at n1 n0 n1) (at m1 n0) eps (two 3 n1 n0 m1 n0)
    -- I: as H, second bulge -1: OverlappingArcs (1,0), (-1,0)
    ∷ pair (arc_at m1 n0 n1) (at n1 n0) (arc_at n1 n0 m1) (at m1 n0) eps (two 5 n1 n0 m1 n0)
    -- J: (0,-2)-(0,2) with H's first arc: OneIntersect (0,-1)
    ∷ pair (at n0 m2) (at n0 n2) (arc_at m1 n0 n1) (at n1 n0) eps (one 2 n0 m1)
    -- K: (-2,-1)-(2,-1) with H's first arc: TangentIntersect (0,-1)
    ∷ pair (at m2 m1) (at n2 m1) (arc_at m1 n0 n1) (at n1 n0) eps (one 1 n0 m1)
    -- L: a point (1,0)-(1,0) with (0,0)-(2,0): OneIntersect (1,0)
    ∷ pair (at n1 n0) (at n1 n0) (at n0 n0) (at n2 n0) eps (one 2 n1 n0)
    -- a coordinate of 1,048,576 passes; the next float gets refusal 2
    ∷ pair (at most n0) (at n0 n0) (at n0 n0) (at n0 n1) eps (one 2 n0 n0)
    ∷ pair (at more n0) (at n0 n0) (at n0 n0) (at n0 n1) eps (refused 2 0 0 X)
    -- a bulge of 1 passes (H); the next float gets refusal 3
    ∷ pair (arc_at m1 n0 n1up) (at n1 n0) (arc_at n1 n0 n1) (at m1 n0) eps (refused 3 0 0 Bulge)
    -- equal ends with bulge 0.5 get refusal 5; with bulge 0 they are a point (L)
    ∷ pair (arc_at n1 n0 half) (at n1 n0) (at n0 n0) (at n2 n0) eps (refused 5 0 0 Chord)
    ∷ []
