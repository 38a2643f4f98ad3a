-- The numbers of rows, stored from a row on in one of the two lent slices, or not at all if rows are only counted; and what the
-- slice holds after one row is stored.
use Rattle.std.specs.Prelude.{◌≡◌, refl, Bool, true, false, List, [], ◌∷◌, ℕ, ◌+◌, ◌*◌, Float, length, set}
use Rattle.std.proofs.Common.{ap, ◌∙◌, append-nil, add-mul, arith}
use Rattle.std.proofs.lemmas.List.Edits.{sets}
use Rattle.listing_pairs.specs.declared.row.Row.{Row}
use Rattle.listing_pairs.specs.Row.{indices_a_row, points_a_row, indices_of, points_of, numbers_of_rows}
use Rattle.float_laws.specs.Stores.{sets-append, three-set, four-set}

-- the rows that are written: all of them, or none if rows are only counted
abbrev pub written : Bool → List Row → List Row
written true rows = rows
written false rows = []

-- the list after the numbers of rows are stored from row k on; one kind of numbers, `width` of them for each row
abbrev pub stored : {A : Type 0} → (Row → List A) → ℕ → Bool → List A → ℕ → List Row → List A
stored numbers width write l k rows = sets l (k * width) (numbers_of_rows numbers (written write rows))

module _ {A : Type 0} (numbers : Row → List A) (width : ℕ) where
  pub stored-none : (write : Bool) (l : List A) (k : ℕ) → l ≡ stored numbers width write l k []
  stored-none true l k = refl
  stored-none false l k = refl

  -- one row, then the others after it
  pub stored_one : (write : Bool) (l : List A) (k : ℕ) (r : Row) (rows : List Row) → length (numbers r) ≡ width
      → stored numbers width write (stored numbers width write l k (r ∷ [])) (k + 1) rows
      ≡ stored numbers width write l k (r ∷ rows)
  stored_one true l k r rows e =
      let next : (k + 1) * width ≡ k * width + length (numbers r) = omega (arith, e, add-mul k 1 width) in
      ap (λ (vs : List A). sets (sets l (k * width) vs) ((k + 1) * width) (numbers_of_rows numbers rows)) (append-nil (numbers r))
      ∙ ap (λ (i : ℕ). sets (sets l (k * width) (numbers r)) i (numbers_of_rows numbers rows)) next
      ∙ sets-append l (k * width) (numbers r) (numbers_of_rows numbers rows)
  stored_one false l k r rows e = refl

-- a row stored as row k
abbrev pub put_indices : Bool → List ℕ → ℕ → Row → List ℕ
put_indices write l k r = stored indices_of indices_a_row write l k (r ∷ [])

abbrev pub put_points : Bool → List Float → ℕ → Row → List Float
put_points write l k r = stored points_of points_a_row write l k (r ∷ [])

-- ---- what a row's stores leave, written out one by one
module _ (k : ℕ) (r : Row) (write : Bool) (e : write ≡ true) where
  pub put-indices : (l : List ℕ)
      → (let at = k * indices_a_row in set (set (set l at r.i) (at + 1) r.j) (at + 2) r.class ≡ put_indices write l k r)
  put-indices l = rw e (three-set l (k * indices_a_row) r.i r.j r.class)

  pub put-points : (l : List Float)
      → (let at = k * points_a_row in
      set (set (set (set l at r.x1) (at + 1) r.y1) (at + 2) r.x2) (at + 3) r.y2 ≡ put_points write l k r)
  put-points l = rw e (four-set l (k * points_a_row) r.x1 r.y1 r.x2 r.y2)

-- and if nothing is written
module _ (k : ℕ) (r : Row) (write : Bool) (e : write ≡ false) where
  pub no-indices : (l : List ℕ) → l ≡ put_indices write l k r
  no-indices l = rw e refl

  pub no-points : (l : List Float) → l ≡ put_points write l k r
  no-points l = rw e refl
