-- What a caller knows of a listing that was not refused: it has no more rows than both slices have room for, and the lengths of
-- the slices are unchanged.
use Rattle.checks.specs.Checked.{Checked}
use Rattle.std.specs.Prelude.{◌≡◌, refl, Bool, true, false, cond, List, [], ◌∷◌, ◌++◌, ℕ, ◌≤◌, ltb, Float, length, drop, Err, Ok}
use Rattle.std.proofs.Math.Logic.Iff
use Rattle.std.proofs.Common.{arith, ltb-false, length-append, length-drop}
use Rattle.checks.specs.declared.fault.Item.TheVariants.{Rows}
use Rattle.checks.specs.declared.fault.Fault.{Fault}
use Rattle.checks.specs.Fault.{at, refuse, bad}
use Rattle.checks.specs.First.{first as first_fault}
use Rattle.checks.specs.Laws.Chains.{append-fine}
use Rattle.checks.specs.Laws.Later.{alone-fine}
use Rattle.paths.specs.Segments.{segment_count}
use Rattle.listing_pairs.specs.declared.row.Row.{Row}
use Rattle.listing_pairs.specs.declared.row.Look.{Look}
use Rattle.listing_pairs.specs.Row.{indices_a_row, points_a_row, indices_of, points_of, numbers_of_rows}
use Rattle.listing_pairs.specs.Order.{Pair, mutual_pairs}
use Rattle.listing_pairs.specs.Rows.{rows_of, looked_at}
use Rattle.listing_pairs.specs.Look.{traced_look}
use Rattle.float_laws.specs.Stores.{flat-length}
use Rattle.listing_outcomes.specs.Answer.{Listed, ListingAnswer}
use Rattle.listing_outcomes.specs.Outcome.{Outcome, overwrite, room, room_check, listed_of, outcome}
use Rattle.listing_outcomes.specs.Laws.Counts.{same-rows}
use Rattle.listing_calls.specs.Listing.{mutual_checks, mutual_listing}

-- at most `most` rows, in slices as long as these
pub record Fits (o : Outcome ListingAnswer) (most : ℕ) (i₀ : List ℕ) (p₀ : List Float) : Type 0 where
  pub few : (rows pairs : ℕ) → o.answer ≡ Listed rows pairs → rows ≤ most
  pub indices : length o.indices ≡ length i₀
  pub points : length o.points ≡ length p₀

never : {f : Fault} {k m : ℕ} → Err f ≡ Listed k m → ⊥
never e = let z : ◌≡◌ {A = ℕ} 0 1 = cc in omega (arith, z)

-- the check of the room finds no fault only if the rows fit
within : (rows : List Row) (i₀ : List ℕ) (p₀ : List Float) → room_check rows i₀ p₀ ≡ Ok tt → length rows ≤ room i₀ p₀
unfolding room_check refuse
within rows i₀ p₀ e = ltb-false _ _ (go (ltb (room i₀ p₀) (length rows)) e)
  where
    go : (b : Bool) → cond b (bad 8 (at 0 0 Rows)) (Ok tt) ≡ Ok tt → b ≡ false
    go true e = let z : ◌≡◌ {A = ℕ} 0 1 = cc in absurd (omega (arith, z))
    go false e = refl

over-long : {A : Type 0} (old values : List A) → length values ≤ length old → length (overwrite old values) ≡ length old
over-long old values h =
    omega (arith, length-append values (drop (length values) old), length-drop (length values) old, h)

module _ (rows : List Row) (looked : ℕ) (i₀ : List ℕ) (p₀ : List Float) where
  of-checked : (c : Checked) → (c ≡ Ok tt → room_check rows i₀ p₀ ≡ Ok tt) → Fits (listed_of c rows looked i₀ p₀) (room i₀ p₀) i₀ p₀
  of-checked (Err fault) h = record { few = λ n m e. absurd (never e); indices = refl; points = refl }
  of-checked (Ok _) h =
      let fits = within rows i₀ p₀ (h refl) in
      let wide = flat-length indices_of indices_a_row (λ r. refl) rows in
      let long = flat-length points_of points_a_row (λ r. refl) rows in
      record {
        few = λ n m e. omega (arith, fits, same-rows e);
        indices = over-long i₀ (numbers_of_rows indices_of rows) (omega (arith, fits, wide));
        points = over-long p₀ (numbers_of_rows points_of rows) (omega (arith, fits, long));
      }

outcome_fits : (checks : List Checked) (f : ℕ → ℕ → Look) (ps : List Pair) (i₀ : List ℕ) (p₀ : List Float)
    → Fits (outcome checks f ps i₀ p₀) (room i₀ p₀) i₀ p₀
unfolding outcome
outcome_fits checks f ps i₀ p₀ =
    let last : List Checked = room_check (rows_of f ps) i₀ p₀ ∷ [] in
    of-checked (rows_of f ps) (looked_at f ps) i₀ p₀ (first_fault (checks ++ last))
    (λ e. ((append-fine checks last Iff.rfl (alone-fine Iff.rfl)).0 e).1)

pub mutual-fits : (first : List Float) (first_closed : Bool) (second : List Float) (second_closed : Bool) (epsilon : Float)
    (i₀ : List ℕ) (p₀ : List Float) → Fits (mutual_listing first first_closed second second_closed epsilon i₀ p₀) (room i₀ p₀) i₀ p₀
unfolding mutual_listing
mutual-fits first first_closed second second_closed epsilon i₀ p₀ =
    outcome_fits (mutual_checks first first_closed second second_closed epsilon) (traced_look first second epsilon)
    (mutual_pairs (segment_count first first_closed) (segment_count second second_closed)) i₀ p₀
