-- What an export writes, in the words of the form (dxf_form/specs/Form.antt): a number's bytes are a number text of it, and a
-- body's bytes spell the groups of its vertices. So every whole number of millionths has a number text.
use Rattle.std.specs.Prelude.{◌≡◌, ℕ, ◌+◌, ◌-◌, ◌*◌, ◌/◌, ◌%◌, ◌^◌, ◌<◌, ◌≤◌, Bool, true, List, [], ◌∷◌, ◌++◌, length, ℤ, pos, negsuc, refl}
use Rattle.std.proofs.Common.{sym, ap, ◌∙◌, subst, append_assoc, append-nil, arith}
use Rattle.std.proofs.lemmas.Bool.{false≢true}
use Rattle.layouts.specs.Layout.{whole, magnitude}
use Rattle.layouts.specs.Exact.{negative}
use Rattle.put_text.specs.Decimal.{decimal}
use Rattle.put_text.specs.Laws.Decimal.{decimal-small, decimal-large, by_digits}
use Rattle.dxf_form.specs.Numbers.{million, Corner}
use Rattle.dxf_form.specs.Form.{
  AllDigits,
  whole_from,
  sign,
  pointed,
  WholeText,
  millionths_of,
  NumberText,
  count_code,
  flags_code,
  x_code,
  y_code,
  bulge_code,
  Group,
  count,
  flags,
  x,
  y,
  bulge,
  ValueText,
  count-value,
  flags-value,
  x-value,
  y-value,
  bulge-value,
  Spells,
  nothing,
  group,
  counted,
  Vertices,
  bent,
  SpellsBody,
}
use Rattle.dxf_write.specs.Written.{
  digit,
  six_digits,
  size_bytes,
  number_bytes,
  group_bytes,
  vertex_bytes,
  vertices_bytes,
  flag_of,
  body_bytes,
}

-- ---- whole numbers

digit-byte : (n : ℕ) {rest : List ℕ} → AllDigits rest → AllDigits (digit n ∷ rest)
digit-byte n all = let small : n % 10 < 10 = omega arith in AllDigits.more small all

decimal-digits : (n : ℕ) → AllDigits (decimal n)
decimal-digits n = subst AllDigits (append-nil (decimal n)) (by_digits P one more n [] AllDigits.none)
  where
    P : ℕ → List ℕ → Type 0
    P m t = AllDigits t → AllDigits (decimal m ++ t)

    one : (m : ℕ) (t : List ℕ) → m < 10 → P m t
    one m t h all = rw (decimal-small m h) (AllDigits.more h all)

    more : (m : ℕ) (t : List ℕ) → 10 ≤ m → P (m / 10) ((48 + m % 10) ∷ t) → P m t
    more m t h rest all =
        rw (decimal-large m h, append_assoc (decimal (m / 10)) ((48 + m % 10) ∷ []) t) (rest (digit-byte m all))

decimal-value : (n : ℕ) → whole_from 0 (decimal n) ≡ n
decimal-value n = ap (whole_from 0) (sym (append-nil (decimal n))) ∙ by_digits P one more n []
  where
    P : ℕ → List ℕ → Type 0
    P m t = whole_from 0 (decimal m ++ t) ≡ whole_from m t

    one : (m : ℕ) (t : List ℕ) → m < 10 → P m t
    one m t h =
        let e : 0 * 10 + (48 + m - 48) ≡ m = omega arith in
        rw (decimal-small m h) (ap (λ (k : ℕ). whole_from k t) e)

    more : (m : ℕ) (t : List ℕ) → 10 ≤ m → P (m / 10) ((48 + m % 10) ∷ t) → P m t
    more m t h rest =
        let e : m / 10 * 10 + (48 + m % 10 - 48) ≡ m = omega arith in
        rw (decimal-large m h, append_assoc (decimal (m / 10)) ((48 + m % 10) ∷ []) t)
        (rest ∙ ap (λ (k : ℕ). whole_from k t) e)

decimal-some : (n : ℕ) → 0 < length (decimal n)
decimal-some n = subst (λ (l : List ℕ). 0 < length l) (append-nil (decimal n)) (by_digits P one more n [])
  where
    P : ℕ → List ℕ → Type 0
    P m t = 0 < length (decimal m ++ t)

    one : (m : ℕ) (t : List ℕ) → m < 10 → P m t
    one m t h = rw (decimal-small m h) (omega arith)

    more : (m : ℕ) (t : List ℕ) → 10 ≤ m → P (m / 10) ((48 + m % 10) ∷ t) → P m t
    more m t h rest = rw (decimal-large m h, append_assoc (decimal (m / 10)) ((48 + m % 10) ∷ []) t) rest

pub whole-spelt : (n : ℕ) → WholeText (decimal n) n
whole-spelt n =
    record {
      before = 0;
      digits = decimal n;
      is = refl;
      all = decimal-digits n;
      some = decimal-some n;
      spelt = sym (decimal-value n);
    }

-- ---- numbers

six-digits : (m : ℕ) → AllDigits (six_digits m)
unfolding six_digits
six-digits m =
    digit-byte (m / 100_000) (digit-byte (m / 10_000) (digit-byte (m / 1_000) (digit-byte (m / 100) (digit-byte (m / 10)
    (digit-byte m AllDigits.none)))))

-- one more digit
step : (n r a b : ℕ) → b / 10 ≡ a → n ≡ r + a → n * 10 + (digit b - 48) ≡ r * 10 + b
step n r a b e h = omega arith

six-value : (q m : ℕ) → m < million → whole_from q (six_digits m) ≡ q * million + m
unfolding six_digits
six-value q m h =
    let s0 : q ≡ q + m / 1_000_000 = omega arith in
    let s1 = step q q (m / 1_000_000) (m / 100_000) (omega arith) s0 in
    let s2 = step _ (q * 10) (m / 100_000) (m / 10_000) (omega arith) s1 in
    let s3 = step _ (q * 10 * 10) (m / 10_000) (m / 1_000) (omega arith) s2 in
    let s4 = step _ (q * 10 * 10 * 10) (m / 1_000) (m / 100) (omega arith) s3 in
    let s5 = step _ (q * 10 * 10 * 10 * 10) (m / 100) (m / 10) (omega arith) s4 in
    let s6 = step _ (q * 10 * 10 * 10 * 10 * 10) (m / 10) m refl s5 in
    let all : q * 10 * 10 * 10 * 10 * 10 * 10 + m ≡ q * million + m = omega arith in
    s6 ∙ all

six-long : (m : ℕ) → length (six_digits m) ≡ 6
unfolding six_digits
six-long m = refl

size-value : (n : ℕ) → millionths_of (decimal (n / million)) (six_digits (n % million)) ≡ n
size-value n =
    let q = n / million in
    let m = n % million in
    let back : (q * million + m) * 1 ≡ n = omega arith in
    ap (λ (k : ℕ). whole_from k (six_digits m) * 10 ^ (6 - length (six_digits m))) (decimal-value q)
    ∙ ap (λ (k : ℕ). whole_from q (six_digits m) * 10 ^ (6 - k)) (six-long m)
    ∙ ap (λ (k : ℕ). k * 1) (six-value q m (omega arith))
    ∙ back

-- every number's bytes are a number text of it
pub number-spelt : (z : ℤ) → NumberText (number_bytes z) z
unfolding number_bytes size_bytes six_digits
number-spelt z =
    let n = magnitude z in
    record {
      before = 0;
      negative = negative z;
      digits = decimal (n / million);
      after = six_digits (n % million);
      is = bytes z;
      all = decimal-digits (n / million);
      some = decimal-some (n / million);
      all_after = six-digits (n % million);
      few-after = omega arith;
      no-minus-zero = λ e. subst (λ (k : ℕ). 0 < k) (sym (size-value n)) (some_size z e);
      spelt = signed z ∙ ap (whole (negative z)) (sym (size-value n));
    }
  where
    bytes : (u : ℤ)
        → number_bytes u
        ≡ sign (negative u) ++ (decimal (magnitude u / million) ++ pointed (six_digits (magnitude u % million)))
    bytes (pos k) = refl
    bytes (negsuc k) = refl

    some_size : (u : ℤ) → negative u ≡ true → 0 < magnitude u
    some_size (pos k) e = absurd (false≢true e)
    some_size (negsuc k) e = omega arith

    signed : (u : ℤ) → u ≡ whole (negative u) (magnitude u)
    signed (pos k) = refl
    signed (negsuc k) = refl

-- ---- groups

group-then : (code : ℕ) (value rest : List ℕ)
    → group_bytes code value ++ rest ≡ decimal code ++ (10 ∷ (value ++ (10 ∷ rest)))
unfolding group_bytes
group-then code value rest =
    append_assoc (decimal code ++ (10 ∷ [])) (value ++ (10 ∷ [])) rest
    ∙ append_assoc (decimal code) (10 ∷ []) ((value ++ (10 ∷ [])) ++ rest)
    ∙ ap (λ (l : List ℕ). decimal code ++ (10 ∷ l)) (append_assoc value (10 ∷ []) rest)

-- one more group in front
spelt-group : (code : ℕ) (value : List ℕ) {rest : List ℕ} {g : Group} {gs : List Group} → ValueText code value g → Spells rest gs
    → Spells (group_bytes code value ++ rest) (g ∷ gs)
spelt-group code value {rest} v s = rw (group-then code value rest) (group (whole-spelt code) v s)

abbrev vertex_groups : List Corner → List Group
vertex_groups [] = []
vertex_groups (v ∷ rest) = x v.x ∷ y v.y ∷ bulge v.bulge ∷ vertex_groups rest

vertices-spelt : (vs : List Corner) → Spells (vertices_bytes vs) (vertex_groups vs)
unfolding vertices_bytes vertex_bytes
vertices-spelt [] = nothing
vertices-spelt (v ∷ rest) =
    let a = group_bytes x_code (number_bytes v.x) in
    let b = group_bytes y_code (number_bytes v.y) in
    let c = group_bytes bulge_code (number_bytes v.bulge) in
    rw (append_assoc a (b ++ c) (vertices_bytes rest), append_assoc b c (vertices_bytes rest))
    (spelt-group x_code (number_bytes v.x) (x-value (number-spelt v.x))
    (spelt-group y_code (number_bytes v.y) (y-value (number-spelt v.y))
    (spelt-group bulge_code (number_bytes v.bulge) (bulge-value (number-spelt v.bulge)) (vertices-spelt rest))))

vertices-given : (vs : List Corner) → Vertices (vertex_groups vs) vs
vertices-given [] = Vertices.none
vertices-given (v ∷ rest) = bent (vertices-given rest)

all-counted : (vs : List Corner) → counted (vertex_groups vs) ≡ vertex_groups vs
all-counted [] = refl
all-counted (v ∷ rest) = ap (λ (l : List Group). x v.x ∷ y v.y ∷ bulge v.bulge ∷ l) (all-counted rest)

-- ---- a body

-- the bytes of a body spell groups that give its count, its flags and its vertices
pub body-spelt : (closed : Bool) (vs : List Corner) → SpellsBody (body_bytes closed vs) (length vs) (flag_of closed) vs
unfolding body_bytes
body-spelt closed vs =
    record {
      gs = count (length vs) ∷ flags (flag_of closed) ∷ vertex_groups vs;
      spelt =
          spelt-group count_code (decimal (length vs)) (count-value (whole-spelt (length vs)))
          (spelt-group flags_code (decimal (flag_of closed)) (flags-value (whole-spelt (flag_of closed))) (vertices-spelt vs));
      gives =
          record {
            vertex_groups = vertex_groups vs;
            in_order = ap (λ (l : List Group). count (length vs) ∷ flags (flag_of closed) ∷ l) (all-counted vs);
            vertices = vertices-given vs;
          };
    }
