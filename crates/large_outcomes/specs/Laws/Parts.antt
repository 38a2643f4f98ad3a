-- A listing of cut paths is lent the front of the caller's slices, of three numbers for each row of five that fits. So its own
-- room is that of the rows of five, and what it leaves, with its rows spread, is the outcome with rows of five.
use Rattle.checks.specs.Checked.{Checked}
use Rattle.std.specs.Prelude.{◌≡◌, refl, List, [], ◌∷◌, ◌++◌, ℕ, ◌+◌, ◌*◌, ◌≤◌, ltb, Float, length, take, drop, Err, Ok}
use Rattle.std.proofs.Common.{sym, ap, ◌∙◌, append_assoc, mul-le-mul, le_refl, arith, ltb-false, take-append-drop, length-take-le}
use Rattle.std.proofs.lemmas.List.{drop-append-le}
use Rattle.float_laws.specs.Stores.{flat-length}
use Rattle.checks.specs.declared.fault.Fault.{Fault}
use Rattle.listing_pairs.specs.declared.row.Row.{Row}
use Rattle.listing_pairs.specs.Row.{indices_a_row, points_a_row, indices_of, points_of, numbers_of_rows}
use Rattle.listing_outcomes.specs.Outcome.{Leaves, overwrite, room, outcome_of}
use Rattle.large_outcomes.specs.LargeRow.{large_indices_a_row, large_room}
use Rattle.large_outcomes.specs.LargeOutcome.{large_of}
use Rattle.large_outcomes.specs.Workings.Spread.{spread, numbers_by}
use Rattle.large_outcomes.specs.Laws.Spreading.{spread-rows}

-- ---- values that overwrite the front of a part overwrite the front of the whole
pub over-part : {A : Type 0} (l vs : List A) (n : ℕ) → length vs ≤ n → n ≤ length l
    → overwrite (take n l) vs ++ drop n l ≡ overwrite l vs
over-part {A} l vs n few inside =
    let k = length vs in
    let long = length-take-le n l inside in
    append_assoc vs (drop k (take n l)) (drop n l)
    ∙ ap (λ (rest : List A). vs ++ rest)
    (sym (drop-append-le k (take n l) (drop n l) (omega (arith, few, long))) ∙ ap (drop k) (take-append-drop n l))

-- ---- the parts: so many rows fit
module _ (indices : List ℕ) (points : List Float) (m : ℕ) (is : m ≡ large_room indices points) where
  pub indices-inside : m * indices_a_row ≤ length indices
  indices-inside = omega (arith, is)

  pub points-inside : m * points_a_row ≤ length points
  points-inside = omega (arith, is)

  pub rows_inside : m * large_indices_a_row ≤ length indices
  rows_inside = omega (arith, is)

  abbrev pub indices_part : List ℕ
  indices_part = take (m * indices_a_row) indices

  abbrev pub points_part : List Float
  points_part = take (m * points_a_row) points

  -- their own room
  pub same-room : room indices_part points_part ≡ m
  same-room =
      let a = length-take-le (m * indices_a_row) indices indices-inside in
      let b = length-take-le (m * points_a_row) points points-inside in
      rw (a, b) (omega arith)

  -- ---- any call, by its first fault
  module _ {A : Type 0} (refused : Fault → A) (answer : A) (rows : List Row) (five : ℕ → ℕ → ℕ → List ℕ)
      (wide : (i j class : ℕ) → length (five i j class) ≡ large_indices_a_row) where
    abbrev part : Checked → A → List ℕ → List Float → Type 0
    part c r i p = Leaves (outcome_of refused c answer rows indices_part points_part) r i p

    abbrev large : Checked → A → List ℕ → List Float → Type 0
    large c r i p = Leaves (large_of (numbers_by five) refused c answer rows indices points) r i p

    -- what stands in the whole slices, before anything is spread
    pub part-whole : (c : Checked) (r : A) (i : List ℕ) (p : List Float) → (c ≡ Ok tt → length rows ≤ m) → part c r i p
        → Leaves (outcome_of refused c answer rows indices points) r
        (i ++ drop (m * indices_a_row) indices) (p ++ drop (m * points_a_row) points)
    part-whole (Err g) r i p few l =
        record {
          answer = l.answer;
          indices =
              ap (λ (x : List ℕ). x ++ drop (m * indices_a_row) indices) l.indices
              ∙ take-append-drop (m * indices_a_row) indices;
          points =
              ap (λ (x : List Float). x ++ drop (m * points_a_row) points) l.points
              ∙ take-append-drop (m * points_a_row) points;
        }
    part-whole (Ok _) r i p few l =
        let fits = few refl in
        let three-long = flat-length indices_of indices_a_row (λ r. refl) rows in
        let points-long = flat-length points_of points_a_row (λ r. refl) rows in
        record {
          answer = l.answer;
          indices =
              ap (λ (x : List ℕ). x ++ drop (m * indices_a_row) indices) l.indices
              ∙ over-part indices (numbers_of_rows indices_of rows) (m * indices_a_row)
              (omega (arith, three-long, fits)) indices-inside;
          points =
              ap (λ (x : List Float). x ++ drop (m * points_a_row) points) l.points
              ∙ over-part points (numbers_of_rows points_of rows) (m * points_a_row) (omega (arith, points-long, fits)) points-inside;
        }

    pub part-refused : (c : Checked) (r : A) (i : List ℕ) (p : List Float) (f : Fault) → r ≡ refused f
        → (refused f ≡ answer → ⊥) → part c r i p
        → large c (refused f) (i ++ drop (m * indices_a_row) indices) (p ++ drop (m * points_a_row) points)
    part-refused (Err g) r i p f e apart l =
        let w = part-whole (Err g) r i p (λ h. absurd (never h)) l in
        record { answer = sym e ∙ w.answer; indices = w.indices; points = w.points }
      where
        never : ◌≡◌ {A = Checked} (Err g) (Ok tt) → ⊥
        never h = let z : ◌≡◌ {A = ℕ} 0 1 = cc in omega (arith, z)
    part-refused (Ok _) r i p f e apart l = absurd (apart (sym e ∙ l.answer))

    -- n rows were answered
    pub part-spread : (c : Checked) (r : A) (i now : List ℕ) (p : List Float) (n : ℕ)
        → ((f : Fault) → r ≡ refused f → ⊥) → (r ≡ answer → n ≡ length rows) → (c ≡ Ok tt → length rows ≤ m)
        → part c r i p → now ≡ spread five n (i ++ drop (m * indices_a_row) indices)
        → large c r now (p ++ drop (m * points_a_row) points)
    part-spread (Err g) r i now p n made count few l done = absurd (made g l.answer)
    part-spread (Ok _) r i now p n made count few l done =
        let w = part-whole (Ok tt) r i p few l in
        let fits = few refl in
        record {
          answer = l.answer;
          indices =
              done
              ∙ ap (λ (k : ℕ). spread five k (i ++ drop (m * indices_a_row) indices)) (count l.answer)
              ∙ ap (spread five (length rows)) w.indices
              ∙ spread-rows five wide rows indices (omega (arith, fits, rows_inside));
          points = w.points;
        }
