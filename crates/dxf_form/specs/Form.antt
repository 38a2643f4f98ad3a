-- The form of the body of one LWPOLYLINE entity, by request 10: which texts spell which groups, and which groups give which
-- vertices. A text is a list of bytes. A group is two lines, a code and a value, and a newline (10) ends every line.
use Rattle.std.specs.Prelude.{ℕ, zero, suc, ◌+◌, ◌*◌, ◌-◌, ◌^◌, ◌≤◌, ◌<◌, ◌%◌, ◌≡◌, Bool, true, false, List, [], ◌∷◌, ◌++◌, eqb, length, ℤ, pos}
use Rattle.layouts.specs.Layout.{whole}
use Rattle.dxf_form.specs.Numbers.{places, Corner}

-- ---- lines, without their newline

-- blanks: spaces, no tab
abbrev pub blanks : ℕ → List ℕ
blanks zero = []
blanks (suc k) = 32 ∷ blanks k

-- every byte is a decimal digit
pub data AllDigits : List ℕ → Type 0 where
  none : AllDigits []
  more : {d : ℕ} {rest : List ℕ} → d < 10 → AllDigits rest → AllDigits ((48 + d) ∷ rest)

-- the whole number that digits spell, after those of n; zeros may stand in front
abbrev pub whole_from : ℕ → List ℕ → ℕ
whole_from n [] = n
whole_from n (b ∷ rest) = whole_from (n * 10 + (b - 48)) rest

-- a code, or the value of 90 or 70: blanks, then one digit or more
pub record WholeText (line : List ℕ) (n : ℕ) : Type 0 where
  pub before : ℕ
  pub digits : List ℕ
  pub is : line ≡ blanks before ++ digits
  pub all : AllDigits digits
  pub some : 0 < length digits
  pub spelt : n ≡ whole_from 0 digits

-- a minus, or none
abbrev pub sign : Bool → List ℕ
sign true = 45 ∷ []
sign false = []

-- a point and the digits after it; no point if there are none
abbrev pub pointed : List ℕ → List ℕ
pointed [] = []
pointed (b ∷ rest) = 46 ∷ (b ∷ rest)

-- the millionths of these digits before and after the point
abbrev pub millionths_of : List ℕ → List ℕ → ℕ
millionths_of digits after = whole_from (whole_from 0 digits) after * 10 ^ (places - length after)

-- the value of 10, 20 or 42: blanks, a minus or none, one digit or more, and perhaps a point and one to six digits; no minus
-- before a zero number
pub record NumberText (line : List ℕ) (z : ℤ) : Type 0 where
  pub before : ℕ
  pub negative : Bool
  pub digits : List ℕ
  pub after : List ℕ
  pub is : line ≡ blanks before ++ (sign negative ++ (digits ++ pointed after))
  pub all : AllDigits digits
  pub some : 0 < length digits
  pub all_after : AllDigits after
  pub few-after : length after ≤ places
  pub no-minus-zero : negative ≡ true → 0 < millionths_of digits after
  pub spelt : z ≡ whole negative (millionths_of digits after)

-- a value that is skipped: any bytes but a newline
pub data Skipped : List ℕ → Type 0 where
  none : Skipped []
  more : {b : ℕ} {rest : List ℕ} → eqb b 10 ≡ false → Skipped rest → Skipped (b ∷ rest)

-- the first line of a text is one of which P holds, and the rest follows its newline
pub record First (P : List ℕ → Type 0) (text rest : List ℕ) : Type 0 where
  pub line : List ℕ
  pub is : text ≡ line ++ (10 ∷ rest)
  pub holds : P line

-- ---- groups

-- the codes that count
abbrev pub count_code : ℕ
count_code = 90

abbrev pub flags_code : ℕ
flags_code = 70

abbrev pub x_code : ℕ
x_code = 10

abbrev pub y_code : ℕ
y_code = 20

abbrev pub bulge_code : ℕ
bulge_code = 42

pub data Group : Type 0 where
  count : ℕ → Group
  flags : ℕ → Group
  x : ℤ → Group
  y : ℤ → Group
  bulge : ℤ → Group
  other : Group

-- every other code is skipped with its value, 0 too
pub record OtherCode (c : ℕ) : Type 0 where
  pub not-count : eqb c count_code ≡ false
  pub not-flags : eqb c flags_code ≡ false
  pub not-x : eqb c x_code ≡ false
  pub not-y : eqb c y_code ≡ false
  pub not-bulge : eqb c bulge_code ≡ false

-- the group of a code and its value's line
pub data ValueText : ℕ → List ℕ → Group → Type 0 where
  count-value : {line : List ℕ} {n : ℕ} → WholeText line n → ValueText count_code line (count n)
  flags-value : {line : List ℕ} {n : ℕ} → WholeText line n → ValueText flags_code line (flags n)
  x-value : {line : List ℕ} {z : ℤ} → NumberText line z → ValueText x_code line (x z)
  y-value : {line : List ℕ} {z : ℤ} → NumberText line z → ValueText y_code line (y z)
  bulge-value : {line : List ℕ} {z : ℤ} → NumberText line z → ValueText bulge_code line (bulge z)
  other-value : {c : ℕ} {line : List ℕ} → OtherCode c → Skipped line → ValueText c line other

-- the text spells these groups, all of them
pub data Spells : List ℕ → List Group → Type 0 where
  nothing : Spells [] []
  group : {line value rest : List ℕ} {c : ℕ} {g : Group} {gs : List Group} → WholeText line c → ValueText c value g
      → Spells rest gs → Spells (line ++ (10 ∷ (value ++ (10 ∷ rest)))) (g ∷ gs)

-- ---- what groups give

-- the groups that count
abbrev pub counted : List Group → List Group
counted [] = []
counted (count n ∷ rest) = count n ∷ counted rest
counted (flags n ∷ rest) = flags n ∷ counted rest
counted (x z ∷ rest) = x z ∷ counted rest
counted (y z ∷ rest) = y z ∷ counted rest
counted (bulge z ∷ rest) = bulge z ∷ counted rest
counted (other ∷ rest) = counted rest

-- for each vertex x, y and perhaps the bulge, which is 0 if it is absent
pub data Vertices : List Group → List Corner → Type 0 where
  none : Vertices [] []
  straight : {a b : ℤ} {gs : List Group} {vs : List Corner} → Vertices gs vs
      → Vertices (x a ∷ y b ∷ gs) (record { x = a; y = b; bulge = pos 0 } ∷ vs)
  bent : {a b c : ℤ} {gs : List Group} {vs : List Corner} → Vertices gs vs
      → Vertices (x a ∷ y b ∷ bulge c ∷ gs) (record { x = a; y = b; bulge = c } ∷ vs)

-- the count, then the flags, then the vertices
pub record Gives (groups : List Group) (n f : ℕ) (vs : List Corner) : Type 0 where
  pub vertex_groups : List Group
  pub in_order : counted groups ≡ count n ∷ flags f ∷ vertex_groups
  pub vertices : Vertices vertex_groups vs

-- the text spells groups that give this count, these flags and these vertices
pub record SpellsBody (text : List ℕ) (n f : ℕ) (vs : List Corner) : Type 0 where
  pub gs : List Group
  pub spelt : Spells text gs
  pub gives : Gives gs n f vs

-- the first bit of the flags: closed exactly if they are odd
abbrev pub closed_by : ℕ → Bool
closed_by f = eqb (f % 2) 1

-- the line on which the value of 90 stands: each group before it has two lines
abbrev pub count_line : List Group → ℕ
count_line [] = 0
count_line (count n ∷ rest) = 2
count_line (flags n ∷ rest) = 2 + count_line rest
count_line (x z ∷ rest) = 2 + count_line rest
count_line (y z ∷ rest) = 2 + count_line rest
count_line (bulge z ∷ rest) = 2 + count_line rest
count_line (other ∷ rest) = 2 + count_line rest

-- the count n is the value of a group behind these, and its line is told
pub record CountAt (gs : List Group) (n : ℕ) : Type 0 where
  pub before : List Group
  pub rest : List Group
  pub is : gs ≡ before ++ (count n ∷ rest)
  pub line : count_line gs ≡ 2 * length before + 2
