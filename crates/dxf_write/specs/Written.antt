-- The text of a path, by request 10: 90 and the number of vertices, 70 and 0 or 1, then 10, 20 and 42 of each vertex, 42 always.
-- A number has six digits after its point. No blanks, no needless zero in front, and a minus only before what is not zero.
use Rattle.std.specs.Prelude.{ℕ, ◌+◌, ◌/◌, ◌%◌, Bool, true, false, List, [], ◌∷◌, ◌++◌, length, ℤ, pos, negsuc}
use Rattle.layouts.specs.Layout.{magnitude}
use Rattle.put_text.specs.Decimal.{decimal}
use Rattle.dxf_form.specs.Numbers.{million, Corner}
use Rattle.dxf_form.specs.Form.{count_code, flags_code, x_code, y_code, bulge_code}

-- ---- numbers

abbrev pub minus : ℤ → List ℕ
minus (pos n) = []
minus (negsuc n) = 45 ∷ []

-- the last digit of n
abbrev pub digit : ℕ → ℕ
digit n = 48 + n % 10

-- the last six digits of n
unfoldable pub six_digits : ℕ → List ℕ
six_digits n =
    digit (n / 100_000)
    ∷ digit (n / 10_000)
    ∷ digit (n / 1_000)
    ∷ digit (n / 100)
    ∷ digit (n / 10)
    ∷ digit n
    ∷ []

-- n millionths: the whole part, a point and six digits
unfoldable pub size_bytes : ℕ → List ℕ
size_bytes n = decimal (n / million) ++ (46 ∷ six_digits (n % million))

unfoldable pub number_bytes : ℤ → List ℕ
number_bytes z = minus z ++ size_bytes (magnitude z)

-- ---- groups: a line with the code, a line with the value

unfoldable pub group_bytes : ℕ → List ℕ → List ℕ
group_bytes code value = (decimal code ++ (10 ∷ [])) ++ (value ++ (10 ∷ []))

unfoldable pub vertex_bytes : Corner → List ℕ
vertex_bytes v =
    group_bytes x_code (number_bytes v.x)
    ++ (group_bytes y_code (number_bytes v.y) ++ group_bytes bulge_code (number_bytes v.bulge))

unfoldable pub vertices_bytes : List Corner → List ℕ
vertices_bytes [] = []
vertices_bytes (v ∷ rest) = vertex_bytes v ++ vertices_bytes rest

-- ---- a body

abbrev pub flag_of : Bool → ℕ
flag_of false = 0
flag_of true = 1

unfoldable pub body_bytes : Bool → List Corner → List ℕ
body_bytes closed vs =
    group_bytes count_code (decimal (length vs)) ++ (group_bytes flags_code (decimal (flag_of closed)) ++ vertices_bytes vs)
