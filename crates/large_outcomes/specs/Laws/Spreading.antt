-- What rows of three numbers become if they are spread from the last to the first: the loop's turns, and that the rows of five
-- are those of the rows of three.
use Rattle.std.specs.Prelude.{◌≡◌, refl, List, [], ◌∷◌, ◌++◌, ℕ, zero, suc, ◌+◌, ◌-◌, ◌*◌, ◌/◌, ◌%◌, ◌≤◌, ◌<◌, length, get_or, take, drop, set}
use Rattle.std.proofs.Common.{sym, ap, ◌∙◌, append_assoc, append-nil, le_refl, arith, length-append, length-drop, length-take-le, drop_at, drop-drop}
use Rattle.std.proofs.lemmas.List.Edits.{sets, sets-eq}
use Rattle.std.proofs.Math.Seq.{length-sets, drop-append-add}
use Rattle.float_laws.specs.Stores.{sets-before, flat-length}
use Rattle.listing_pairs.specs.declared.row.Row.{Row}
use Rattle.listing_pairs.specs.Row.{indices_a_row, indices_of, numbers_of_rows}
use Rattle.listing_outcomes.specs.Outcome.{overwrite}
use Rattle.large_outcomes.specs.LargeRow.{large_indices_a_row}
use Rattle.large_outcomes.specs.Workings.Spread.{names_and_class, by_names, spread_row, spread, numbers_by}

-- ---- stores
pub five-set : (l : List ℕ) (at : ℕ) (v w x y z : ℕ)
    → set (set (set (set (set l at v) (at + 1) w) (at + 2) x) (at + 3) y) (at + 4) z ≡ sets l at (v ∷ w ∷ x ∷ y ∷ z ∷ [])
five-set l at v w x y z =
    let one : at + 1 ≡ suc at = omega arith in
    let two : at + 2 ≡ suc (suc at) = omega arith in
    let three : at + 3 ≡ suc (suc (suc at)) = omega arith in
    let four : at + 4 ≡ suc (suc (suc (suc at))) = omega arith in
    rw (one, two, three, four) refl

-- ---- the loop: rows k and later are spread
pub record Spreading (five : ℕ → ℕ → ℕ → List ℕ) (rows : ℕ) (old now : List ℕ) (k : ℕ) : Type 0 where
  pub whole : spread five k now ≡ spread five rows old
  pub long : length now ≡ length old
  pub within : k ≤ rows

pub spreading-starts : (five : ℕ → ℕ → ℕ → List ℕ) (rows : ℕ) (old : List ℕ) → Spreading five rows old old rows
spreading-starts five rows old = record { whole = refl; long = refl; within = le_refl rows }

module _ {five : ℕ → ℕ → ℕ → List ℕ} {rows k : ℕ} {old now : List ℕ} (s : Spreading five rows old now k) where
  -- row k - 1
  pub spreading-turn : 0 < k → (next : List ℕ) → next ≡ sets now ((k - 1) * large_indices_a_row) (spread_row five now (k - 1))
      → Spreading five rows old next (k - 1)
  spreading-turn some next put =
      let e : k ≡ suc (k - 1) = omega (arith, some) in
      record {
        whole = ap (spread five (k - 1)) put ∙ sym (ap (λ (n : ℕ). spread five n now) e) ∙ s.whole;
        long = ap length put ∙ length-sets now ((k - 1) * large_indices_a_row) (spread_row five now (k - 1)) ∙ s.long;
        within = omega (arith, s.within);
      }

  pub spreading-ends : k ≤ 0 → now ≡ spread five rows old
  spreading-ends done = let e : k ≡ 0 = omega (arith, done) in sym (ap (λ (n : ℕ). spread five n now) e) ∙ s.whole

-- the same by names: i and j are those of row k - 1
pub names-turn : (first second : List ℕ) {rows k : ℕ} {old now : List ℕ}
    → Spreading (by_names first second) rows old now k → 0 < k → (i j : ℕ) (next : List ℕ)
    → i ≡ get_or first (get_or now ((k - 1) * indices_a_row) 0) 0
    → j ≡ get_or second (get_or now ((k - 1) * indices_a_row + 1) 0) 0
    → next ≡ sets now ((k - 1) * large_indices_a_row) (names_and_class i j (get_or now ((k - 1) * indices_a_row + 2) 0))
    → Spreading (by_names first second) rows old next (k - 1)
names-turn first second {k = k} {now = now} s some i j next first-is second_is is =
    spreading-turn s some next
    (is ∙ ap (λ (a : ℕ). sets now ((k - 1) * large_indices_a_row) (names_and_class a j (get_or now ((k - 1) * indices_a_row + 2) 0)))
    first-is
    ∙ ap (λ (b : ℕ). sets now ((k - 1) * large_indices_a_row)
    (names_and_class (get_or first (get_or now ((k - 1) * indices_a_row) 0) 0) b (get_or now ((k - 1) * indices_a_row + 2) 0)))
    second_is)

-- ---- the rows of five, from the first on
abbrev fives : (ℕ → ℕ → ℕ → List ℕ) → ℕ → List ℕ → List ℕ
fives five zero l = []
fives five (suc k) l = fives five k l ++ spread_row five l k

module _ (five : ℕ → ℕ → ℕ → List ℕ) (wide : (i j class : ℕ) → length (five i j class) ≡ large_indices_a_row) where
  -- a row is what its three numbers say
  row_same : (k : ℕ) (l m : List ℕ) → ((n : ℕ) → n < suc k * indices_a_row → get_or l n 0 ≡ get_or m n 0)
      → spread_row five l k ≡ spread_row five m k
  row_same k l m same =
      let x = same (k * indices_a_row) (omega arith) in
      let y = same (k * indices_a_row + 1) (omega arith) in
      let z = same (k * indices_a_row + 2) (omega arith) in
      rw (x, y, z) refl

  fives-same : (k : ℕ) (l m : List ℕ) → ((n : ℕ) → n < k * indices_a_row → get_or l n 0 ≡ get_or m n 0)
      → fives five k l ≡ fives five k m
  fives-same zero l m same = refl
  fives-same (suc k) l m same =
      ap (λ (r : List ℕ). fives five k l ++ r) (row_same k l m same)
      ∙ ap (λ (f : List ℕ). f ++ spread_row five m k)
      (fives-same k l m (λ n h. same n (omega (arith, h))))

  -- what is stored from a place on stands there
  from-there : (l vs : List ℕ) (i : ℕ) → i + length vs ≤ length l → drop i (sets l i vs) ≡ vs ++ drop (i + length vs) l
  from-there l vs i h =
      ap (drop i) (sets-eq vs l i h ∙ append_assoc (take i l) vs (drop (i + length vs) l))
      ∙ drop_at (take i l) (vs ++ drop (i + length vs) l) i (length-take-le i l (omega (arith, h)))

  -- the rows of five, and behind them what stood there
  pub spread-is : (k : ℕ) (l : List ℕ) → k * large_indices_a_row ≤ length l
      → spread five k l ≡ fives five k l ++ drop (k * large_indices_a_row) l
  spread-is zero l h = refl
  spread-is (suc k) l h =
      let row = spread_row five l k in
      let next = sets l (k * large_indices_a_row) row in
      let long = length-sets l (k * large_indices_a_row) row in
      let row-long : length row ≡ large_indices_a_row = wide _ _ _ in
      let behind : k * large_indices_a_row + length row ≡ suc k * large_indices_a_row = omega (arith, row-long) in
      spread-is k next (omega (arith, long, h))
      ∙ ap (λ (f : List ℕ). f ++ drop (k * large_indices_a_row) next)
      (fives-same k next l (λ n g. sets-before l row (k * large_indices_a_row) n 0 (omega (arith, g))))
      ∙ ap (λ (d : List ℕ). fives five k l ++ d)
      (from-there l row (k * large_indices_a_row) (omega (arith, behind, h))
      ∙ ap (λ (n : ℕ). row ++ drop n l) behind)
      ∙ sym (append_assoc (fives five k l) row (drop (suc k * large_indices_a_row) l))

  -- ---- the same from the front
  row-behind : (k x y z : ℕ) (l : List ℕ)
      → spread_row five (x ∷ y ∷ z ∷ l) (suc k) ≡ spread_row five l k
  row-behind k x y z l =
      let a : suc k * indices_a_row ≡ suc (suc (suc (k * indices_a_row))) = omega arith in
      let b : suc k * indices_a_row + 1 ≡ suc (suc (suc (k * indices_a_row + 1))) = omega arith in
      let c : suc k * indices_a_row + 2 ≡ suc (suc (suc (k * indices_a_row + 2))) = omega arith in
      rw (c, b, a) refl

  fives-front : (k x y z : ℕ) (l : List ℕ)
      → fives five (suc k) (x ∷ y ∷ z ∷ l) ≡ five x y z ++ fives five k l
  fives-front zero x y z l = sym (append-nil (five x y z))
  fives-front (suc k) x y z l =
      let front = five x y z in
      ap (λ (f : List ℕ). f ++ spread_row five (x ∷ y ∷ z ∷ l) (suc k)) (fives-front k x y z l)
      ∙ ap (λ (r : List ℕ). (front ++ fives five k l) ++ r) (row-behind k x y z l)
      ∙ append_assoc front (fives five k l) (spread_row five l k)

  fives-rows : (rows : List Row) (rest : List ℕ)
      → fives five (length rows) (numbers_of_rows indices_of rows ++ rest) ≡ numbers_of_rows (numbers_by five) rows
  fives-rows [] rest = refl
  fives-rows (r ∷ rows) rest =
      fives-front (length rows) r.i r.j r.class (numbers_of_rows indices_of rows ++ rest)
      ∙ ap (λ (l : List ℕ). five r.i r.j r.class ++ l) (fives-rows rows rest)

  -- rows of three at the front of a slice, spread, are the rows of five at its front
  pub spread-rows : (rows : List Row) (old : List ℕ) → length rows * large_indices_a_row ≤ length old
      → spread five (length rows) (overwrite old (numbers_of_rows indices_of rows))
      ≡ overwrite old (numbers_of_rows (numbers_by five) rows)
  spread-rows rows old h =
      let n = length rows in
      let three = numbers_of_rows indices_of rows in
      let rest = drop (length three) old in
      let three-long = flat-length indices_of indices_a_row (λ r. refl) rows in
      let five-long = flat-length (numbers_by five) large_indices_a_row (λ r. wide r.i r.j r.class) rows in
      let split : n * large_indices_a_row ≡ length three + n * 2 = omega (arith, three-long) in
      let whole : length three + n * 2 ≡ length (numbers_of_rows (numbers_by five) rows) = omega
      (arith, three-long, five-long) in
      let long : length (three ++ rest) ≡ length old =
      omega (arith, length-append three rest, length-drop (length three) old, three-long, h) in
      spread-is n (three ++ rest) (omega (arith, long, h))
      ∙ ap (λ (f : List ℕ). f ++ drop (n * large_indices_a_row) (three ++ rest)) (fives-rows rows rest)
      ∙ ap (λ (d : List ℕ). numbers_of_rows (numbers_by five) rows ++ d)
      (ap (λ (k : ℕ). drop k (three ++ rest)) split
      ∙ drop-append-add three rest (n * 2)
      ∙ drop-drop (n * 2) (length three) old
      ∙ ap (λ (k : ℕ). drop k old) whole)
