-- The rows of the mode of large arcs with halves 0 beside the rows of the old mode: the same checks, look and pairs, in slices
-- that have room for as many rows. The answer is the same; the indices are the old ones with zeros between them, and the points
-- are the same. NoLarge.antt says which listings these are.
use Rattle.checks.specs.Checked.{Checked}
use Rattle.std.specs.Prelude.{◌≡◌, List, [], ◌∷◌, ◌++◌, ℕ, zero, suc, ◌+◌, ◌*◌, ltb, Float, take, drop, Err, Ok}
use Rattle.std.proofs.Math.Path.{refl, sym, ap}
use Rattle.std.proofs.Common.{◌∙◌, arith, take_at}
use Rattle.std.proofs.Math.ListN.{length}
use Rattle.float_laws.specs.Stores.{flat-length}
use Rattle.checks.specs.declared.fault.Item.TheVariants.{Rows}
use Rattle.checks.specs.declared.fault.Fault.{Fault}
use Rattle.checks.specs.Fault.{at, refuse}
use Rattle.checks.specs.Refusal
use Rattle.checks.specs.First.{first as first_fault}
use Rattle.listing_pairs.specs.declared.row.Row.{Row}
use Rattle.listing_pairs.specs.declared.row.Look.{Look}
use Rattle.listing_pairs.specs.Row.{indices_a_row, points_a_row, indices_of, points_of, numbers_of_rows}
use Rattle.listing_pairs.specs.Order.{Pair}
use Rattle.listing_pairs.specs.Rows.{rows_of, looked_at}
use Rattle.listing_outcomes.specs.Answer.{Listed, ListingAnswer}
use Rattle.listing_outcomes.specs.Outcome.{Outcome, overwrite, room, room_check, listed_of, outcome}
use Rattle.listing_outcomes.specs.Laws.Counts.{same-rows}
use Rattle.large_outcomes.specs.LargeRow.{large_indices_a_row, with_zeros, large_room}
use Rattle.large_outcomes.specs.LargeOutcome.{large_room_check, large_listed_of, large_outcome}

-- the numbers of n rows of three, with a zero behind each of both indices
abbrev pub zeros_between : ℕ → List ℕ → List ℕ
zeros_between zero l = []
zeros_between (suc n) [] = []
zeros_between (suc n) (i ∷ []) = []
zeros_between (suc n) (i ∷ j ∷ []) = []
zeros_between (suc n) (i ∷ j ∷ class ∷ l) = i ∷ 0 ∷ j ∷ 0 ∷ class ∷ zeros_between n l

-- n rows were listed in both
pub record SameRows (large old : Outcome ListingAnswer) (n : ℕ) : Type 0 where
  pub indices :
      take (n * large_indices_a_row) large.indices ≡ zeros_between n (take (n * indices_a_row) old.indices)
  pub points : take (n * points_a_row) large.points ≡ take (n * points_a_row) old.points

zeros-rows : (rows : List Row) → numbers_of_rows with_zeros rows ≡ zeros_between (length rows) (numbers_of_rows indices_of rows)
zeros-rows [] = refl
zeros-rows (r ∷ rows) = ap (λ (l : List ℕ). r.i ∷ 0 ∷ r.j ∷ 0 ∷ r.class ∷ l) (zeros-rows rows)

never : {f : Fault} {k m : ℕ} → Err f ≡ Listed k m → ⊥
never e = let z : ◌≡◌ {A = ℕ} 0 1 = cc in omega (arith, z)

module _ (checks : List Checked) (look : ℕ → ℕ → Look) (ps : List Pair) (indices others : List ℕ) (points more : List Float)
    (fit : large_room indices points ≡ room others more) where
  abbrev rows : List Row
  rows = rows_of look ps

  checks-same : large_room_check rows indices points ≡ room_check rows others more
  unfolding large_room_check room_check
  checks-same = ap (λ (n : ℕ). refuse (ltb n (length rows)) Refusal.rows (at 0 0 Rows)) fit

  pub same_answer : (large_outcome with_zeros checks look ps indices points).answer ≡ (outcome checks look ps others more).answer
  unfolding large_outcome outcome
  same_answer =
      go (first_fault (checks ++ (large_room_check rows indices points ∷ [])))
      ∙ ap (λ (c : Checked). (listed_of (first_fault (checks ++ (c ∷ []))) rows (looked_at look ps) others more).answer) checks-same
    where
      go : (c : Checked) → (large_listed_of with_zeros c rows (looked_at look ps) indices points).answer
          ≡ (listed_of c rows (looked_at look ps) others more).answer
      go (Ok _) = refl
      go (Err f) = refl

  front : {A : Type 0} (each : Row → List A) (width : ℕ) → ((r : Row) → length (each r) ≡ width) → (old : List A) (n : ℕ)
      → n ≡ length rows → take (n * width) (overwrite old (numbers_of_rows each rows)) ≡ numbers_of_rows each rows
  front each width long old n is =
      take_at (numbers_of_rows each rows) (drop (length (numbers_of_rows each rows)) old) (n * width)
      (flat-length each width long rows ∙ ap (λ (k : ℕ). k * width) (sym is))

  pub same_rows : (n k : ℕ) → (outcome checks look ps others more).answer ≡ Listed n k
      → SameRows (large_outcome with_zeros checks look ps indices points) (outcome checks look ps others more) n
  unfolding large_outcome outcome
  same_rows n k e =
      rw checks-same (go (first_fault (checks ++ (room_check rows others more ∷ []))) e)
    where
      go : (c : Checked) → (listed_of c rows (looked_at look ps) others more).answer ≡ Listed n k
          → SameRows (large_listed_of with_zeros c rows (looked_at look ps) indices points)
          (listed_of c rows (looked_at look ps) others more) n
      go (Err f) e = absurd (never e)
      go (Ok _) e =
          let count : n ≡ length rows = sym (same-rows e) in
          record {
            indices =
                front with_zeros large_indices_a_row (λ r. refl) indices n count
                ∙ zeros-rows rows
                ∙ ap (λ (j : ℕ). zeros_between j (numbers_of_rows indices_of rows)) (sym count)
                ∙ ap (zeros_between n) (sym (front indices_of indices_a_row (λ r. refl) others n count));
            points =
                front points_of points_a_row (λ r. refl) points n count
                ∙ sym (front points_of points_a_row (λ r. refl) more n count);
          }
