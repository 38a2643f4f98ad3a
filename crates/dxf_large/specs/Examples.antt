-- Worked examples: a loop from (0, 0) to (1/8, 0) with bulge 8 is imported and exported in the mode of large arcs; the old mode
-- refuses it, and both refuse bulge 17.
use Rattle.std.specs.Prelude.{ℕ, zero, suc, ◌≡◌, refl, false, List, [], ◌∷◌, ◌++◌, replicate, Float, Ok, Err}
use Prim.Native.Char.{code}
use Prim.Native.String.{String, len, char_at}
use Rattle.std.specs.Float.{binary64}
use Rattle.std.specs.Float.Ieee.{is_nan, of_bits, of_fields, to_bits, to_unsigned, of_int, odd, units, size, span, climb, round, sum, add, sub, mul, div, neg, lt, le, eq}
use Rattle.floats.specs.F64
use Rattle.floats.specs.F64.{root_of, root_at, isqrt, root_in}
use Rattle.plane.specs.Vector2 as vector2
use Rattle.plane.specs.PlineVertex as vertices
use Rattle.plane.specs.PlineVertex.{pos}
use Rattle.plane.specs.Fuzzy.{fuzzy_eq_zero_eps}
use Rattle.checks.specs.declared.fault.Item.TheVariants.{Bulge}
use Rattle.checks.specs.Fault.{at, refuse, later}
use Rattle.checks.specs.Each
use Rattle.checks.specs.Arc.{arc_chord}
use Rattle.checks.specs.Number.{is_infinite, beyond, is_whole, no_trace}
use Rattle.paths.specs.Path.{vertex, trace}
use Rattle.paths.specs.Shape.{shape, refused}
use Rattle.paths.specs.Segments.{segment_count, segment_from, after}
use Rattle.paths.specs.Check as old
use Rattle.put_text.specs.Decimal.{decimal, decimal_in}
use Rattle.cuts.specs.Cut.{is_large, half_bulge, cut_point, bent, cut_vertex}
use Rattle.cuts.specs.LargeChecks.{segment_checks, of_vertex, of_segment}
use Rattle.dxf_form.specs.Numbers.{held, value}
use Rattle.dxf_form.specs.Body.{at_last, taken, taken_all}
use Rattle.dxf_form.specs.Workings.Reader.{read_groups, read_from, pair_of, whole_line, number_line, skip_line, line_end, signed_end}
use Rattle.dxf_form.specs.Workings.Reader.{after_point, after_sign, digits_from, past_blanks}
use Rattle.dxf_read.specs.Import.{Path, ImportOutcome, import_dxf}
use Rattle.dxf_write.specs.Millionths.{tested, millionths_of}
use Rattle.dxf_write.specs.Written.{six_digits, size_bytes, number_bytes, group_bytes, vertex_bytes, vertices_bytes, body_bytes}
use Rattle.dxf_write.specs.Export.{corner_at, bytes_of, of_texts, export_after}
use Rattle.dxf_large.specs.Large.{import_large, export_large}

-- the bytes of a text of ASCII characters
abbrev bytes_from : ℕ → ℕ → String → List ℕ
bytes_from zero i s = []
bytes_from (suc k) i s = code (char_at s i) ∷ bytes_from k (suc i) s

abbrev bytes : String → List ℕ
bytes s = bytes_from (len s) 0 s

-- 0, 1/8, 1, 8
abbrev n0 : Float
n0 = of_bits binary64 0

abbrev eighth : Float
eighth = of_bits binary64 0x3fc0_0000_0000_0000

abbrev n1 : Float
n1 = of_bits binary64 0x3ff0_0000_0000_0000

abbrev n8 : Float
n8 = of_bits binary64 0x4020_0000_0000_0000

-- an open path of two vertices; the first one has this bulge
abbrev loop_text : String → List ℕ
loop_text bulge = bytes "90\n2\n70\n0\n10\n0\n20\n0\n42\n" ++ (bytes bulge ++ bytes "\n10\n0.125\n20\n0\n")

abbrev loop_path : List Float
loop_path = n0 ∷ n0 ∷ n8 ∷ n0 ∷ eighth ∷ n0 ∷ n0 ∷ n0 ∷ []

-- room for two vertices, and one float more
abbrev room : List Float
room = replicate 9 n1

-- a bulge beyond its limit, at vertex 0: nothing is written
abbrev beyond_limit : ImportOutcome
beyond_limit = record { answer = Err (record { number = 3; place = at 0 0 Bulge }); path = room }

-- ---- imported uncut, and what follows stays

pub loop-imported : import_large (loop_text "8") room
    ≡ record { answer = Path 2 false; path = loop_path ++ (n1 ∷ []) }
unfolding import_large read_groups read_from pair_of whole_line number_line skip_line line_end signed_end after_point after_sign digits_from
    past_blanks taken_all taken at_last value held of_int shape refused segment_count segment_from after vertex trace vertices.new
    of_vertex of_segment segment_checks is_large half_bulge cut_point bent cut_vertex vector2.new vector2.length vector2.sub pos
    fuzzy_eq_zero_eps arc_chord Each.coordinate Each.large_bulge Each.trace Each.finite_then Each.finite Each.chord is_nan is_infinite
    beyond is_whole no_trace refuse later F64.abs F64.sqrt root_of root_at isqrt root_in add sub mul div neg sum round units odd size
    span climb lt le eq of_bits of_fields
loop-imported = refl

-- ---- refused: 17 in this mode, 8 in the old one

pub seventeen-refused : import_large (loop_text "17") room ≡ beyond_limit
unfolding import_large read_groups read_from pair_of whole_line number_line skip_line line_end signed_end after_point after_sign digits_from
    past_blanks taken_all taken at_last value held of_int shape refused segment_count segment_from after vertex trace vertices.new
    of_vertex of_segment segment_checks is_large half_bulge cut_point bent cut_vertex vector2.new vector2.length vector2.sub pos
    fuzzy_eq_zero_eps arc_chord Each.coordinate Each.large_bulge Each.trace Each.finite_then Each.finite Each.chord is_nan is_infinite
    beyond is_whole no_trace refuse later F64.abs F64.sqrt root_of root_at isqrt root_in add sub mul div neg sum round units odd size
    span climb lt le eq of_bits of_fields
seventeen-refused = refl

pub eight-refused : import_dxf (loop_text "8") room ≡ beyond_limit
unfolding import_dxf read_groups read_from pair_of whole_line number_line skip_line line_end signed_end after_point after_sign digits_from
    past_blanks taken_all taken at_last value held of_int shape refused segment_count segment_from after vertex trace vertices.new
    old.of_vertex old.of_segment vector2.new vector2.length vector2.sub pos fuzzy_eq_zero_eps arc_chord Each.coordinate Each.bulge
    Each.trace Each.finite_then Each.finite Each.chord is_nan is_infinite beyond is_whole no_trace refuse later F64.abs div sum round
    units odd size span climb lt le eq of_bits of_fields
eight-refused = refl

-- ---- exported back

pub loop-exported : export_large loop_path false (replicate 83 46)
    ≡ record {
      answer = Ok 82;
      text =
          bytes
          "90\n2\n70\n0\n10\n0.000000\n20\n0.000000\n42\n8.000000\n10\n0.125000\n20\n0.000000\n42\n0.000000\n.";
    }
unfolding export_large export_after bytes_of corner_at of_texts millionths_of tested value held of_int body_bytes vertices_bytes
    vertex_bytes group_bytes number_bytes size_bytes six_digits decimal decimal_in shape refused segment_count segment_from after vertex
    trace vertices.new of_vertex of_segment segment_checks is_large half_bulge cut_point bent cut_vertex vector2.new vector2.length
    vector2.sub pos fuzzy_eq_zero_eps arc_chord Each.coordinate Each.large_bulge Each.trace Each.finite_then Each.finite Each.chord
    is_nan is_infinite beyond is_whole no_trace refuse later F64.abs F64.sqrt root_of root_at isqrt root_in add sub mul div neg sum
    round units odd size span climb lt le eq to_bits to_unsigned of_bits of_fields
loop-exported = refl
