-- Worked examples, computed by the definitions: the arc from (0, 0) to (1/8, 0) with bulge 8 and with bulge -8, the bulges
-- beside 1, the shortest chords beside 1 and at 16, and a path of two vertices. Floats are written by their bits.
use Rattle.std.specs.Prelude.{◌≡◌, refl, true, false, List, [], ◌∷◌, Float, Ok}
use Rattle.std.specs.Float.{binary64}
use Rattle.std.specs.Float.Ieee.{of_bits, of_fields, odd, add, sub, mul, div, neg, lt, le, is_nan, sum, round, units, size, span, climb}
use Rattle.floats.specs.F64
use Rattle.floats.specs.F64.{root_of, root_at, isqrt, root_in}
use Rattle.plane.specs.declared.pline_vertex.PlineVertex.{PlineVertex}
use Rattle.plane.specs.Vector2 as vector2
use Rattle.plane.specs.PlineVertex as vertices
use Rattle.plane.specs.PlineVertex.{pos}
use Rattle.plane.specs.Fuzzy.{fuzzy_eq_zero_eps}
use Rattle.checks.specs.declared.fault.Item.TheVariants.{Chord}
use Rattle.checks.specs.Fault.{at, bad, refuse, later}
use Rattle.checks.specs.Number.{is_infinite, beyond}
use Rattle.checks.specs.Each
use Rattle.checks.specs.Arc.{arc_chord}
use Rattle.checks.specs.First.{first}
use Rattle.paths.specs.Path.{vertex, trace}
use Rattle.paths.specs.Shape.{refused}
use Rattle.paths.specs.Segments.{segment_count, segment_from, after}
use Rattle.cuts.specs.Cut.{is_large, half_bulge, cut_point, bent, cut_vertex}
use Rattle.cuts.specs.LargeChecks.{segment_checks}
use Rattle.cuts.specs.CutPath.{name, vertices_of, cut_path, names_of, names}

-- 0, 1/8, 1/16, 1/2, 1, 2, 3, 8, -1/2, -8
abbrev n0 : Float
n0 = of_bits binary64 0x0000_0000_0000_0000

abbrev eighth : Float
eighth = of_bits binary64 0x3fc0_0000_0000_0000

abbrev sixteenth : Float
sixteenth = of_bits binary64 0x3fb0_0000_0000_0000

abbrev half : Float
half = of_bits binary64 0x3fe0_0000_0000_0000

abbrev n1 : Float
n1 = of_bits binary64 0x3ff0_0000_0000_0000

abbrev n2 : Float
n2 = of_bits binary64 0x4000_0000_0000_0000

abbrev n3 : Float
n3 = of_bits binary64 0x4008_0000_0000_0000

abbrev n8 : Float
n8 = of_bits binary64 0x4020_0000_0000_0000

abbrev mhalf : Float
mhalf = of_bits binary64 0xbfe0_0000_0000_0000

abbrev m8 : Float
m8 = of_bits binary64 0xc020_0000_0000_0000

-- the half bulges of 8 and of -8: about 0.8828
abbrev of8 : Float
of8 = of_bits binary64 0x3fec_3fc0_7ec3_75a0

abbrev ofm8 : Float
ofm8 = of_bits binary64 0xbfec_3fc0_7ec3_75a0

abbrev from : Float → PlineVertex
from bulge = record { x = n0; y = n0; bulge = bulge }

abbrev to : Float → PlineVertex
to x = record { x = x; y = n0; bulge = n0 }

-- ---- the cut: bulge 8 turns to the right of the chord, and bulge -8 to the left
pub half-of-8 : half_bulge n8 ≡ of8
unfolding half_bulge F64.sqrt root_of root_at isqrt root_in add sub mul div sum round units odd size span climb of_bits of_fields
half-of-8 = refl

pub half-of-minus-8 : half_bulge m8 ≡ ofm8
unfolding half_bulge F64.sqrt root_of root_at isqrt root_in add sub mul div sum round units odd size span climb of_bits of_fields
half-of-minus-8 = refl

pub cut_at_8 : cut_point (from n8) (to eighth) ≡ record { x = sixteenth; y = mhalf }
unfolding cut_point vector2.new add sub mul div neg sum round units odd size span climb of_bits of_fields
cut_at_8 = refl

pub cut-at-minus-8 : cut_point (from m8) (to eighth) ≡ record { x = sixteenth; y = half }
unfolding cut_point vector2.new add sub mul div neg sum round units odd size span climb of_bits of_fields
cut-at-minus-8 = refl

-- ---- 1 and -1 stay whole; the next floats are cut
pub one-stays : is_large n1 ≡ false
unfolding is_large F64.abs lt of_bits
one-stays = refl

pub minus-one-stays : is_large (of_bits binary64 0xbff0_0000_0000_0000) ≡ false
unfolding is_large F64.abs lt of_bits
minus-one-stays = refl

pub above-one : is_large (of_bits binary64 0x3ff0_0000_0000_0001) ≡ true
unfolding is_large F64.abs lt of_bits
above-one = refl

pub below-minus-one : is_large (of_bits binary64 0xbff0_0000_0000_0001) ≡ true
unfolding is_large F64.abs lt of_bits
below-minus-one = refl

-- ---- 5 is judged on the halves alone: a chord of 2^-40 passes at 1 and fails just above, and one of 2^-43 passes at 16
abbrev chord40 : Float
chord40 = of_bits binary64 0x3d70_0000_0000_0000

abbrev chord43 : Float
chord43 = of_bits binary64 0x3d40_0000_0000_0000

pub short-at-one : first (segment_checks (from n1) (to chord40) 0 7) ≡ Ok tt
unfolding segment_checks is_large arc_chord Each.chord refuse later vector2.length vector2.sub pos fuzzy_eq_zero_eps F64.abs
    F64.sqrt root_of root_at isqrt root_in add sub mul div sum round units odd size span climb lt le neg of_bits of_fields
short-at-one = refl

pub short-above-one : first (segment_checks (from (of_bits binary64 0x3ff0_0000_0000_0001)) (to chord40) 0 7) ≡ bad 5 (at 0 7 Chord)
unfolding segment_checks is_large half_bulge cut_point bent cut_vertex vertices.new vector2.new arc_chord
    Each.coordinate Each.finite_then Each.finite Each.chord is_nan is_infinite beyond refuse later
    vector2.length vector2.sub pos fuzzy_eq_zero_eps F64.abs
    F64.sqrt root_of root_at isqrt root_in add sub mul div sum round units odd size span climb lt le neg of_bits of_fields
short-above-one = refl

pub short-at-16 : first (segment_checks (from (of_bits binary64 0x4030_0000_0000_0000)) (to chord43) 0 7) ≡ Ok tt
unfolding segment_checks is_large half_bulge cut_point bent cut_vertex vertices.new vector2.new arc_chord
    Each.coordinate Each.finite_then Each.finite Each.chord is_nan is_infinite beyond refuse later
    vector2.length vector2.sub pos fuzzy_eq_zero_eps F64.abs
    F64.sqrt root_of root_at isqrt root_in add sub mul div sum round units odd size span climb lt le neg of_bits of_fields
short-at-16 = refl

-- ---- a path: (0, 0) with bulge 8 and trace 3, then (1/8, 0) with bulge -8 and trace 1; if it is open, the last bulge stays
abbrev two : List Float
two = n0 ∷ n0 ∷ n8 ∷ n3 ∷ eighth ∷ n0 ∷ m8 ∷ n1 ∷ []

pub open-path : cut_path two false
    ≡ n0 ∷ n0 ∷ of8 ∷ n3 ∷ sixteenth ∷ mhalf ∷ of8 ∷ n3 ∷ eighth ∷ n0 ∷ m8 ∷ n1 ∷ []
unfolding cut_path vertices_of segment_count refused segment_from after vertex trace
    is_large half_bulge cut_point bent cut_vertex vertices.new vector2.new F64.abs
    F64.sqrt root_of root_at isqrt root_in add sub mul div sum round units odd size span climb lt neg of_bits of_fields
open-path = refl

pub open-names : names two false ≡ name 0 1 ∷ name 0 2 ∷ []
unfolding names names_of segment_count refused vertex vertices.new is_large F64.abs lt of_bits
open-names = refl

pub closed-names : names two true ≡ name 0 1 ∷ name 0 2 ∷ name 1 1 ∷ name 1 2 ∷ []
unfolding names names_of segment_count refused vertex vertices.new is_large F64.abs lt of_bits
closed-names = refl
