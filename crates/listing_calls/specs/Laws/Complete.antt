-- Where the row of a pair stands: the pair in the sequence, its row among the rows, and that row's numbers in the slice.
use Rattle.std.specs.Prelude.{◌≡◌, refl, Bool, true, false, cond, List, [], ◌∷◌, ◌++◌, ℕ, zero, suc, ◌+◌, ◌-◌, ◌*◌, ◌<◌, ◌≤◌, length, get_or, drop}
use Rattle.std.proofs.Common.{sym, ap, ◌∙◌, inl, inr, append_assoc, append-nil, eq-or-lt_of_le, add-zero, arith, length-append, get_or-append-add}
use Rattle.listing_pairs.specs.declared.row.Row.{Row}
use Rattle.listing_pairs.specs.declared.row.Look.{Look}
use Rattle.listing_pairs.specs.declared.row.Look.TheVariants.{Skipped, Nothing, Made}
use Rattle.listing_pairs.specs.Row.{indices_a_row, indices_of, numbers_of_rows}
use Rattle.listing_pairs.specs.Order.{Pair, along, pairs_from, those}
use Rattle.listing_pairs.specs.Rows.{onto, rows_of}
use Rattle.float_laws.specs.Stores.{flat_append, flat-length}
use Rattle.listing_outcomes.specs.Outcome.{overwrite}
use Rattle.listing_calls.specs.HasRow.{RowAt}

-- x stands in the list: what is before it, and what is after it
pub record Within {A : Type 0} (x : A) (l : List A) : Type 0 where
  pub before : List A
  pub after : List A
  pub is : l ≡ before ++ x ∷ after

-- ---- a pair in the sequence
module _ {A : Type 0} {x : A} where
  next : (y : A) (l : List A) → Within x l → Within x (y ∷ l)
  next y l w = record { before = y ∷ w.before; after = w.after; is = ap (λ (r : List A). y ∷ r) w.is }

  in-front : (l m : List A) → Within x l → Within x (l ++ m)
  in-front l m w =
      record {
        before = w.before;
        after = w.after ++ m;
        is = ap (λ (r : List A). r ++ m) w.is ∙ append_assoc w.before (x ∷ w.after) m;
      }

  behind : (l m : List A) → Within x m → Within x (l ++ m)
  behind l m w =
      record {
        before = l ++ w.before;
        after = w.after;
        is = ap (λ (r : List A). l ++ r) w.is ∙ sym (append_assoc l w.before (x ∷ w.after));
      }

along-has : (i j k b : ℕ) → b ≤ j → j < b + k → Within (record { i = i; j = j }) (along i b k)
along-has i j zero b h l = absurd (omega (arith, h, l))
along-has i j (suc k) b h l =
    elim (eq-or-lt_of_le h) [
      | inl same ↦
          record {
            before = [];
            after = along i (suc b) k;
            is = ap (λ (c : ℕ). record { i = i; j = c } ∷ along i (suc b) k) same;
          }
      | inr less ↦
          next (record { i = i; j = b }) (along i (suc b) k) (along-has i j k (suc b) (omega (arith, less)) (omega (arith, l)))
    ]

pub pairs-have : (from to : ℕ → ℕ) (i j count a : ℕ) → a ≤ i → i < a + count → from i ≤ j → j < to i
    → Within (record { i = i; j = j }) (pairs_from from to a (from a) count)
pairs-have from to i j zero a h l f t = absurd (omega (arith, h, l))
pairs-have from to i j (suc count) a h l f t =
    let rest = pairs_from from to (suc a) (from (suc a)) count in
    let row = along a (from a) (to a - from a) in
    elim (eq-or-lt_of_le h) [
      | inl same ↦ in-front row rest (rw same (along-has i j (to i - from i) (from i) f (omega (arith, f, t))))
      | inr less ↦ behind row rest (pairs-have from to i j count (suc a) (omega (arith, less)) (omega (arith, l)) f t)
    ]

-- ---- a pair that the test keeps
module _ (test : Pair → Bool) where
  those-append : (ps qs : List Pair) → those test (ps ++ qs) ≡ those test ps ++ those test qs
  those-append [] qs = refl
  those-append (p ∷ ps) qs = go (test p) (those-append ps qs)
    where
      go : (t : Bool) → those test (ps ++ qs) ≡ those test ps ++ those test qs
          → cond t (p ∷ those test (ps ++ qs)) (those test (ps ++ qs))
          ≡ cond t (p ∷ those test ps) (those test ps) ++ those test qs
      go true e = ap (λ (r : List Pair). p ∷ r) e
      go false e = e

  pub those-have : (p : Pair) (ps : List Pair) → test p ≡ true → Within p ps → Within p (those test ps)
  those-have p ps kept w =
      record {
        before = those test w.before;
        after = those test w.after;
        is =
            ap (those test) w.is
            ∙ those-append w.before (p ∷ w.after)
            ∙ ap (λ (t : Bool). those test w.before ++ cond t (p ∷ those test w.after) (those test w.after)) kept;
      }

-- ---- its row among the rows
module _ (look : ℕ → ℕ → Look) where
  pub rows_append : (ps qs : List Pair) → rows_of look (ps ++ qs) ≡ rows_of look ps ++ rows_of look qs
  rows_append [] qs = refl
  rows_append (p ∷ ps) qs = go (look p.i p.j) (rows_append ps qs)
    where
      go : (s : Look) → rows_of look (ps ++ qs) ≡ rows_of look ps ++ rows_of look qs
          → onto s (rows_of look (ps ++ qs)) ≡ onto s (rows_of look ps) ++ rows_of look qs
      go Skipped e = e
      go Nothing e = e
      go (Made r) e = ap (λ (l : List Row). r ∷ l) e

  pub row-of-pair : (p : Pair) (ps : List Pair) (r : Row) → Within p ps → look p.i p.j ≡ Made r → Within r (rows_of look ps)
  row-of-pair p ps r w e =
      record {
        before = rows_of look w.before;
        after = rows_of look w.after;
        is =
            ap (rows_of look) w.is
            ∙ rows_append w.before (p ∷ w.after)
            ∙ ap (λ (s : Look). rows_of look w.before ++ onto s (rows_of look w.after)) e;
      }

-- ---- its numbers in the slice
-- over nothing at all
pub overwrite-none : (l : List ℕ) → overwrite [] l ≡ l
overwrite-none l = ap (λ (r : List ℕ). l ++ r) (nothing (length l)) ∙ append-nil l
  where
    nothing : (n : ℕ) → ◌≡◌ {A = List ℕ} (drop n []) []
    nothing zero = refl
    nothing (suc n) = refl

pub row-in-slice : (r : Row) (rows : List Row) (old : List ℕ) (w : Within r rows)
    → (length w.before < length rows) × RowAt (overwrite old (numbers_of_rows indices_of rows)) (length w.before) r.i r.j
row-in-slice r rows old w =
    let k = length w.before in
    let numbers = numbers_of_rows indices_of rows in
    let front = numbers_of_rows indices_of w.before in
    let rest = numbers_of_rows indices_of w.after ++ drop (length numbers) old in
    let count = ap length w.is ∙ length-append w.before (r ∷ w.after) in
    let long : length front ≡ k * indices_a_row = flat-length indices_of indices_a_row (λ r. refl) w.before in
    let shown : overwrite old numbers ≡ front ++ r.i ∷ r.j ∷ r.class ∷ rest =
    ap (λ (l : List ℕ). l ++ drop (length numbers) old)
    (ap (numbers_of_rows indices_of) w.is ∙ flat_append indices_of w.before (r ∷ w.after))
    ∙ append_assoc front (numbers_of_rows indices_of (r ∷ w.after)) (drop (length numbers) old) in
    let whole = ap length shown ∙ length-append front (r.i ∷ r.j ∷ r.class ∷ rest) in
    let at : (n : ℕ) → get_or (overwrite old numbers) (k * indices_a_row + n) 0 ≡ get_or (r.i ∷ r.j ∷ r.class ∷ rest) n 0 =
    λ n. ap (λ (l : List ℕ). get_or l (k * indices_a_row + n) 0) shown
    ∙ ap (λ (m : ℕ). get_or (front ++ r.i ∷ r.j ∷ r.class ∷ rest) (m + n) 0) (sym long)
    ∙ get_or-append-add front (r.i ∷ r.j ∷ r.class ∷ rest) n 0 in (
      omega (arith, count),
      record {
        inside = omega (arith, whole, long);
        first = ap (λ (m : ℕ). get_or (overwrite old numbers) m 0) (sym (add-zero (k * indices_a_row))) ∙ at 0;
        second = at 1;
      },
    )
