-- The rows of a class, counted in the slice that a listing wrote: a loop that counts them, and that they are the listing's rows.
use Rattle.std.specs.Prelude.{◌≡◌, refl, Bool, true, false, List, [], ◌∷◌, ◌++◌, ℕ, zero, suc, ◌+◌, ◌-◌, ◌*◌, ◌≤◌, ◌<◌, eqb, length, get_or, drop}
use Rattle.std.proofs.Common.{sym, ap, ◌∙◌, zero-le, zero-add, arith, get_or-drop, drop-drop}
use Rattle.listing_pairs.specs.declared.row.Row.{Row}
use Rattle.listing_pairs.specs.Row.{indices_a_row, indices_of, numbers_of_rows}
use Rattle.month.specs.Counted.{one_if, in_class}
use Rattle.month.specs.Workings.Written.{in_rows}

pub one-if-few : (b : Bool) → one_if b ≤ 1
one-if-few true = omega arith
one-if-few false = omega arith

-- what is found before row k, and what is left to find, make up the whole
pub record Counting (class rows : ℕ) (l : List ℕ) (k found : ℕ) : Type 0 where
  pub whole : found + in_rows class (rows - k) (drop (k * indices_a_row) l) ≡ in_rows class rows l
  pub within : k ≤ rows
  pub few : found ≤ k

pub counting-starts : (class rows : ℕ) (l : List ℕ) → Counting class rows l 0 0
counting-starts class rows l =
    let e : rows - 0 ≡ rows = omega arith in
    record { whole = zero-add _ ∙ ap (λ (n : ℕ). in_rows class n l) e; within = zero-le; few = zero-le }

module _ {class rows k found : ℕ} {l : List ℕ} (s : Counting class rows l k found) where
  pub counting-turn : k < rows → (r : ℕ) → r ≡ one_if (eqb (get_or l (k * indices_a_row + 2) 0) class)
      → Counting class rows l (k + 1) (found + r)
  counting-turn below r is =
      let e : rows - k ≡ suc (rows - (k + 1)) = omega (arith, below) in
      let next : k * indices_a_row + indices_a_row ≡ (k + 1) * indices_a_row = omega arith in
      let front : List ℕ = drop (k * indices_a_row) l in
      let split : in_rows class (rows - k) front
      ≡ one_if (eqb (get_or l (k * indices_a_row + 2) 0) class)
      + in_rows class (rows - (k + 1)) (drop ((k + 1) * indices_a_row) l) =
      ap (λ (n : ℕ). in_rows class n front) e
      ∙ ap (λ (x : ℕ). one_if (eqb x class) + in_rows class (rows - (k + 1)) (drop indices_a_row front))
      (get_or-drop (k * indices_a_row) l 2 0)
      ∙ ap (λ (m : List ℕ). one_if (eqb (get_or l (k * indices_a_row + 2) 0) class) + in_rows class (rows - (k + 1)) m)
      (drop-drop indices_a_row (k * indices_a_row) l ∙ ap (λ (n : ℕ). drop n l) next) in
      record {
        whole = omega (arith, s.whole, split, is);
        within = omega (arith, below);
        few = omega (arith, s.few, is, one-if-few (eqb (get_or l (k * indices_a_row + 2) 0) class));
      }

  pub counting-fits : (r : ℕ) → r ≡ one_if (eqb (get_or l (k * indices_a_row + 2) 0) class) → found + r ≤ k + 1
  counting-fits r is = omega (arith, s.few, is, one-if-few (eqb (get_or l (k * indices_a_row + 2) 0) class))

  pub counting-ends : rows ≤ k → found ≡ in_rows class rows l
  counting-ends done =
      let e : rows - k ≡ 0 = omega (arith, done) in
      let none : in_rows class (rows - k) (drop (k * indices_a_row) l) ≡ 0 =
      ap (λ (n : ℕ). in_rows class n (drop (k * indices_a_row) l)) e in
      omega (arith, s.whole, none)

-- the rows that a listing wrote are its rows
pub written-class : (class : ℕ) (rows : List Row) (rest : List ℕ)
    → in_rows class (length rows) (numbers_of_rows indices_of rows ++ rest) ≡ in_class class rows
written-class class [] rest = refl
written-class class (r ∷ rows) rest = ap (λ (n : ℕ). one_if (eqb r.class class) + n) (written-class class rows rest)
