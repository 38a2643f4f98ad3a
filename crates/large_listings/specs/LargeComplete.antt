-- No row is left out in the mode of large arcs: if two paths were listed, every pair of segments of the cut paths that meets, in
-- any class except NoIntersect, and is not of one trace has a row with both names. In a boxed listing this holds for every such
-- pair whose boxes meet.
use Rattle.checks.specs.Checked.{Checked}
use Rattle.std.specs.Prelude.{◌≡◌, Bool, true, false, List, ℕ, ◌<◌, Float, length, Err, Ok}
use Rattle.std.proofs.Common.{zero-le, arith, sym}
use Rattle.checks.specs.declared.fault.Fault.{Fault}
use Rattle.checks.specs.First.{first as first_fault}
use Rattle.arcs.specs.declared.pline_seg_intr.PlineSegIntr.{PlineSegIntr}
use Rattle.crossing.specs.PlineSegIntr.{class_of}
use Rattle.cuts.specs.CutPath.{Name, cut_path, cut_count, name_at}
use Rattle.listing_pairs.specs.declared.row.Row.{Row}
use Rattle.listing_pairs.specs.declared.row.Look.{Look}
use Rattle.listing_pairs.specs.declared.row.Look.TheVariants.{Made}
use Rattle.listing_pairs.specs.Row.{row}
use Rattle.listing_pairs.specs.Order.{Pair, mutual_pairs}
use Rattle.listing_pairs.specs.Rows.{rows_of, looked_at}
use Rattle.listing_pairs.specs.Look.{traced_look}
use Rattle.listing_pairs.specs.Traces.{one_trace}
use Rattle.listing_pairs.specs.Boxed.{boxes_meet, boxed_pairs}
use Rattle.listing_calls.specs.Complete.{pair_of, makes}
use Rattle.listing_calls.specs.Laws.Complete.{Within, pairs-have, those-have, row-of-pair}
use Rattle.large_outcomes.specs.LargeRow.{large_indices_of}
use Rattle.large_outcomes.specs.LargeOutcome.{large_listed_of, large_outcome, large_boxed_outcome}
use Rattle.large_listings.specs.LargeListings.{
  mutual_numbers,
  mutual_large_checks,
  mutual_large_pairs,
  mutual_large_index,
  mutual_large,
  mutual_boxed_large,
}
use Rattle.large_listings.specs.LargeRefusals.{all}
use Rattle.large_listings.specs.LargeBoxedRefusals.{boxed_checks}
use Rattle.large_listings.specs.HasLargeRow.{HasLargeRow}
use Rattle.large_listings.specs.Laws.LargeComplete.{large-row-in-slice}
use Rattle.listing_outcomes.specs.Answer.{Listed}
use Rattle.listing_outcomes.specs.Laws.Counts.{same-rows}

never : {f : Fault} {k m : ℕ} → Err f ≡ Listed k m → ⊥
never e = let z : ◌≡◌ {A = ℕ} 0 1 = cc in omega (arith, z)

-- a pair of the sequence that makes a row has it, for any names and any `look`
pub listed-row-of : (names others : ℕ → Name) (found : Checked) (f : ℕ → ℕ → Look) (ps : List Pair) (indices : List ℕ)
    (points : List Float) (rows pairs i j : ℕ) (met : PlineSegIntr)
    → (let o = large_listed_of (large_indices_of names others) found (rows_of f ps) (looked_at f ps) indices points in
    o.answer ≡ Listed rows pairs → Within (record { i = i; j = j }) ps → f i j ≡ Made (row i j met)
    → HasLargeRow rows o.indices (names i) (others j))
listed-row-of names others found f ps indices points rows pairs i j met e here made = go found e
  where
    go : (c : Checked)
        → (let o = large_listed_of (large_indices_of names others) c (rows_of f ps) (looked_at f ps) indices points in
        o.answer ≡ Listed rows pairs → HasLargeRow rows o.indices (names i) (others j))
    go (Err fault) e = absurd (never e)
    go (Ok _) e =
        let count : rows ≡ length (rows_of f ps) = sym (same-rows e) in
        let w = row-of-pair f (record { i = i; j = j }) ps (row i j met) here made in
        let stands = large-row-in-slice names others (row i j met) (rows_of f ps) indices w in
        record { k = length w.before; written = omega (arith, stands.0, count); at = stands.1 }

-- each of n with each of m
pub between : (n m i j : ℕ) → i < n → j < m → Within (record { i = i; j = j }) (mutual_pairs n m)
between n m i j hi hj = pairs-have (λ i. 0) (λ i. m) i j n 0 zero-le (omega (arith, hi)) zero-le hj

module _ (first : List Float) (first_closed : Bool) (second : List Float) (second_closed : Bool) (epsilon : Float) where
  abbrev a : List Float
  a = cut_path first first_closed

  abbrev b : List Float
  b = cut_path second second_closed

  pub large-complete : (indices : List ℕ) (points : List Float) (rows pairs : ℕ)
      → (mutual_large first first_closed second second_closed epsilon indices points).answer ≡ Listed rows pairs
      → (i j : ℕ) → i < cut_count first first_closed → j < cut_count second second_closed
      → 0 < class_of (pair_of a b epsilon i j) → one_trace a b (record { i = i; j = j }) ≡ false
      → HasLargeRow rows (mutual_large first first_closed second second_closed epsilon indices points).indices
      (name_at first first_closed i) (name_at second second_closed j)
  unfolding mutual_large large_outcome
  large-complete indices points rows pairs e i j hi hj meets other =
      let ps = mutual_large_pairs first first_closed second second_closed in
      listed-row-of (name_at first first_closed) (name_at second second_closed)
      (first_fault (all (mutual_numbers first first_closed second second_closed)
      (mutual_large_checks first first_closed second second_closed epsilon) (traced_look a b epsilon) ps indices points))
      (traced_look a b epsilon) ps indices points rows pairs i j (pair_of a b epsilon i j) e
      (between (cut_count first first_closed) (cut_count second second_closed) i j hi hj) (makes a b epsilon i j meets other)

  pub large-boxed-complete : (boxes : List Float) (indices : List ℕ) (points : List Float) (rows pairs : ℕ)
      → (mutual_boxed_large first first_closed second second_closed epsilon boxes indices points).listing.answer ≡ Listed rows pairs
      → (i j : ℕ) → i < cut_count first first_closed → j < cut_count second second_closed
      → boxes_meet a b epsilon (record { i = i; j = j }) ≡ true
      → 0 < class_of (pair_of a b epsilon i j) → one_trace a b (record { i = i; j = j }) ≡ false
      → HasLargeRow rows (mutual_boxed_large first first_closed second second_closed epsilon boxes indices points).listing.indices
      (name_at first first_closed i) (name_at second second_closed j)
  unfolding mutual_boxed_large large_boxed_outcome
  large-boxed-complete boxes indices points rows pairs e i j hi hj boxed meets other =
      let all = mutual_large_pairs first first_closed second second_closed in
      let ps = boxed_pairs a b epsilon all in
      listed-row-of (name_at first first_closed) (name_at second second_closed)
      (first_fault (boxed_checks (mutual_numbers first first_closed second second_closed)
      (mutual_large_checks first first_closed second second_closed epsilon) (traced_look a b epsilon) ps
      (mutual_large_index first first_closed second second_closed epsilon) boxes indices points))
      (traced_look a b epsilon) ps indices points rows pairs i j (pair_of a b epsilon i j) e
      (those-have (boxes_meet a b epsilon) (record { i = i; j = j }) all boxed
      (between (cut_count first first_closed) (cut_count second second_closed) i j hi hj)) (makes a b epsilon i j meets other)
