-- Worked examples of an export: which floats have a text, what the text is, and what is refused.
use Rattle.std.specs.Prelude.{◌≡◌, ℕ, zero, suc, true, false, List, [], ◌∷◌, map, pos, negsuc, refl, Float, Err}
use Prim.Native.Char.{code}
use Prim.Native.String.{String, len, char_at}
use Rattle.std.specs.Float.{nan, inf, binary64}
use Rattle.std.specs.Float.Ieee.{is_nan, of_bits, of_fields, to_bits, to_unsigned, of_int, odd, units, size, span, climb, round, sum, add, mul, div, lt, le, eq}
use Rattle.floats.specs.F64
use Rattle.plane.specs.PlineVertex as vertices
use Rattle.checks.specs.declared.fault.Item.TheVariants.{Bulge, Room}
use Rattle.checks.specs.Fault.{at, refuse, later}
use Rattle.checks.specs.Each
use Rattle.checks.specs.Number.{is_infinite, beyond, is_whole, no_trace}
use Rattle.paths.specs.Path as paths
use Rattle.paths.specs.Shape
use Rattle.paths.specs.Segments.{segment_count}
use Rattle.paths.specs.Check.{of_vertex}
use Rattle.put_text.specs.Decimal.{decimal, decimal_in}
use Rattle.dxf_form.specs.Numbers.{held, value}
use Rattle.dxf_write.specs.Millionths.{none, found, tested, millionths_of}
use Rattle.dxf_write.specs.Written.{
  six_digits,
  size_bytes,
  number_bytes,
  group_bytes,
  vertex_bytes,
  vertices_bytes,
  body_bytes,
}
use Rattle.dxf_write.specs.Export.{corner_at, bytes_of, of_texts, export_after, export_dxf}

-- the bytes of a text of ASCII characters
abbrev bytes_from : ℕ → ℕ → String → List ℕ
bytes_from zero i s = []
bytes_from (suc k) i s = code (char_at s i) ∷ bytes_from k (suc i) s

abbrev bytes : String → List ℕ
bytes s = bytes_from (len s) 0 s

abbrev float : ℕ → Float
float = of_bits binary64

-- ---- which floats have a text

-- 0; 1/64, 0.015625; 0.1; -1.5; 2^20
pub have-text : map millionths_of
    (float 0
    ∷ float 0x3f90_0000_0000_0000
    ∷ float 0x3fb9_9999_9999_999a
    ∷ float 0xbff8_0000_0000_0000
    ∷ float 0x4130_0000_0000_0000
    ∷ [])
    ≡ found (pos 0)
    ∷ found (pos 15_625)
    ∷ found (pos 100_000)
    ∷ found (negsuc 1_499_999)
    ∷ found (pos 1_048_576_000_000)
    ∷ []
unfolding millionths_of tested value held F64.abs of_bits of_fields to_bits to_unsigned of_int odd units size span climb round sum add
    mul div lt le eq
have-text = refl

-- -0; 1/128; the float after 0.1; the bulge of a quarter circle, the tangent of 22.5 degrees; a NaN and an infinity
pub have-none : map millionths_of
    (float 0x8000_0000_0000_0000
    ∷ float 0x3f80_0000_0000_0000
    ∷ float 0x3fb9_9999_9999_999b
    ∷ float 0x3fda_8279_99fc_ef32
    ∷ nan
    ∷ inf false
    ∷ [])
    ≡ none ∷ none ∷ none ∷ none ∷ none ∷ none ∷ []
unfolding millionths_of tested value held F64.abs of_bits of_fields to_bits to_unsigned of_int odd units size span climb round sum add
    mul div lt le eq
have-none = refl

-- ---- the text

-- six digits after the point, and no minus before 0
pub number-texts : map number_bytes (pos 0 ∷ pos 15_625 ∷ negsuc 0 ∷ negsuc 1_499_999 ∷ pos 1_048_576_000_000 ∷ [])
    ≡ bytes "0.000000" ∷ bytes "0.015625" ∷ bytes "-0.000001" ∷ bytes "-1.500000" ∷ bytes "1048576.000000" ∷ []
unfolding number_bytes size_bytes six_digits decimal decimal_in
number-texts = refl

-- a closed path of two vertices: 42 is always written
pub body-text : body_bytes true
    (record { x = pos 0; y = negsuc 249_999; bulge = pos 0 }
    ∷ record { x = pos 12_000_000; y = pos 1; bulge = pos 1_000_000 }
    ∷ [])
    ≡ bytes
    "90\n2\n70\n1\n10\n0.000000\n20\n-0.250000\n42\n0.000000\n10\n12.000000\n20\n0.000001\n42\n1.000000\n"
unfolding body_bytes vertices_bytes vertex_bytes group_bytes number_bytes size_bytes six_digits decimal decimal_in
body-text = refl

-- ---- exports of one vertex: x is 1, y is 0.1, the bulge is as given, and the trace is 7

abbrev one : Float → List Float
one b = float 0x3ff0_0000_0000_0000 ∷ float 0x3fb9_9999_9999_999a ∷ b ∷ float 0x401c_0000_0000_0000 ∷ []

-- the bulge 1/64 is written, and the trace is not
pub one_written : (export_dxf (one (float 0x3f90_0000_0000_0000)) false (bytes "...............................................|")
    ).text
    ≡ bytes "90\n1\n70\n0\n10\n1.000000\n20\n0.100000\n42\n0.015625\n.|"
unfolding export_dxf export_after bytes_of corner_at of_texts refuse later Shape.shape Shape.refused paths.vertex paths.trace
    vertices.new segment_count of_vertex Each.coordinate Each.bulge Each.trace Each.finite Each.finite_then is_infinite beyond is_whole
    no_trace is_nan millionths_of tested value held body_bytes vertices_bytes vertex_bytes group_bytes number_bytes size_bytes six_digits
    decimal decimal_in F64.abs of_bits of_fields to_bits to_unsigned of_int odd units size span climb round sum add mul div lt le eq
one_written = refl

-- 1/128 has no text: 23 is told before 24, with the vertex and the number, and nothing is written
pub one-refused : export_dxf (one (float 0x3f80_0000_0000_0000)) false (bytes "too short")
    ≡ record {
      answer = Err (record { number = 23; place = at 0 0 Bulge });
      text = bytes "too short";
    }
unfolding export_dxf export_after bytes_of corner_at of_texts refuse later Shape.shape Shape.refused paths.vertex paths.trace
    vertices.new segment_count of_vertex Each.coordinate Each.bulge Each.trace Each.finite Each.finite_then is_infinite beyond is_whole
    no_trace is_nan millionths_of tested value held body_bytes vertices_bytes vertex_bytes group_bytes number_bytes size_bytes six_digits
    decimal decimal_in F64.abs of_bits of_fields to_bits to_unsigned of_int odd units size span climb round sum add mul div lt le eq
one-refused = refl

-- the text does not fit: 24, and nothing is written
pub one-too-long : export_dxf (one (float 0x3f90_0000_0000_0000)) false (bytes "too short")
    ≡ record {
      answer = Err (record { number = 24; place = at 0 0 Room });
      text = bytes "too short";
    }
unfolding export_dxf export_after bytes_of corner_at of_texts refuse later Shape.shape Shape.refused paths.vertex paths.trace
    vertices.new segment_count of_vertex Each.coordinate Each.bulge Each.trace Each.finite Each.finite_then is_infinite beyond is_whole
    no_trace is_nan millionths_of tested value held body_bytes vertices_bytes vertex_bytes group_bytes number_bytes size_bytes six_digits
    decimal decimal_in F64.abs of_bits of_fields to_bits to_unsigned of_int odd units size span climb round sum add mul div lt le eq
one-too-long = refl
