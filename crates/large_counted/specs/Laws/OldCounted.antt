-- The counted listing that asks the old mode first: what the old mode's rows of three add to the report is what the definition
-- adds, unless the old mode refuses a bulge.
use Rattle.checks.specs.Checked.{Checked}
use Rattle.std.specs.Prelude.{◌≡◌, Bool, true, false, List, [], ◌∷◌, ◌++◌, ℕ, ◌*◌, ◌≤◌, Float, Err, Ok}
use Rattle.std.proofs.Math.Path.{refl, ap}
use Rattle.std.proofs.Common.{sym, ◌∙◌, mul-le-mul}
use native.Mathlib.Omega.{arith}
use Rattle.std.proofs.Math.ListN.{length, drop}
use Rattle.checks.specs.declared.fault.Fault.{Fault}
use Rattle.checks.specs.First.{first as first_fault}
use Rattle.checks.specs.Laws.Chains.{first-append}
use Rattle.checks.specs.Laws.Later.{later-fine}
use Rattle.paths.specs.Segments.{segment_count}
use Rattle.paths.specs.Laws.Segments.{few-segments}
use Rattle.listing_pairs.specs.declared.row.Row.{Row}
use Rattle.listing_pairs.specs.declared.row.Look.{Look}
use Rattle.listing_pairs.specs.Row.{indices_a_row, points_a_row}
use Rattle.listing_pairs.specs.Order.{Pair, mutual_pairs}
use Rattle.listing_pairs.specs.Rows.{rows_of, looked_at}
use Rattle.listing_pairs.specs.Look.{traced_look}
use Rattle.listing_pairs.specs.Laws.Order.{few-pairs}
use Rattle.listing_outcomes.specs.Answer.{Listed, ListingAnswer}
use Rattle.listing_outcomes.specs.Outcome.{Leaves, room_check, listed_of, outcome}
use Rattle.listing_calls.specs.Listing.{mutual_checks, mutual_listing}
use Rattle.listing_calls.specs.Laws.Entry.{after-bad}
use Rattle.large_outcomes.specs.LargeRow.{large_indices_a_row, large_room}
use Rattle.large_outcomes.specs.LargeOutcome.{large_room_check}
use Rattle.large_outcomes.specs.Workings.Spread.{zero_halves, spread}
use Rattle.large_outcomes.specs.Laws.Parts.{indices_part, points_part}
use Rattle.large_outcomes.specs.Laws.Large.{last-fine}
use Rattle.month.specs.Report.{words, most_added, full, plus}
use Rattle.month.specs.Counted.{adds}
use Rattle.month.specs.Workings.Written.{adds_by, Countable}
use Rattle.month.specs.Laws.Given.{Known, fine, and, append, mutual-known}
use Rattle.large_listings.specs.NoLarge.{mutual-rows-plain}
use Rattle.large_calls.specs.Workings.Answers.{listed_rows, listed_bulge}
use Rattle.large_calls.specs.Laws.Agree.{plain-mutual}
use Rattle.large_calls.specs.Laws.Answered.{Kept, answered, refusal-kept}
use Rattle.large_calls.specs.Laws.OldFirst.{mutual-first}
use Rattle.large_counted.specs.LargeCounted.{mutual_large_rows}
use Rattle.large_counted.specs.Workings.Counting.{LargeAdded}
use Rattle.large_counted.specs.Laws.LargeGiven.{room-known}
use Rattle.large_counted.specs.Laws.LargeCounting.{countable, still-fits, added}

-- rows were listed, so the checks are fine
listed-fine : (checks : List Checked) (look : ℕ → ℕ → Look) (ps : List Pair) (a : List ℕ) (b : List Float) (n k : ℕ)
    → Listed n k ≡ (outcome checks look ps a b).answer → first_fault checks ≡ Ok tt
unfolding outcome
listed-fine checks look ps a b n k e = go (first_fault checks) refl
  where
    never : (f : Fault) → Listed n k ≡ Err f → ⊥
    never f e = let z : ◌≡◌ {A = ℕ} 0 1 = sym cc in omega (arith, z)

    go : (c : Checked) → first_fault checks ≡ c → c ≡ Ok tt
    go (Ok _) h = refl
    go (Err f) h =
        let all = after-bad checks (room_check (rows_of look ps) a b ∷ []) f h in
        absurd (never f (e ∙ ap (λ (t : Checked). (listed_of t (rows_of look ps) (looked_at look ps) a b).answer) all))

known-first : (cs ds : List Checked) → Known (first_fault (cs ++ ds)) → Known (first_fault cs)
known-first cs ds k = record { known = λ f e. k.known f (after-bad cs ds f e) }

module _ (first : List Float) (first_closed : Bool) (second : List Float) (second_closed : Bool) (epsilon : Float)
    (i₀ : List ℕ) (p₀ : List Float) (m : ℕ) (is : m ≡ large_room i₀ p₀) (r : ListingAnswer) (i : List ℕ) (p : List Float) where
  abbrev checks : List Checked
  checks = mutual_checks first first_closed second second_closed epsilon

  abbrev look : ℕ → ℕ → Look
  look = traced_look first second epsilon

  abbrev ps : List Pair
  ps = mutual_pairs (segment_count first first_closed) (segment_count second second_closed)

  few : length ps ≤ most_added
  few =
      let n = segment_count first first_closed in
      let k = segment_count second second_closed in
      omega (
        arith,
        few-pairs (λ i. 0) (λ i. k) n k (λ i. omega arith) 0 0 n,
        mul-le-mul (few-segments first first_closed) (few-segments second second_closed),
      )

  known : Known (first_fault (checks ++ (large_room_check (rows_of look ps) i₀ p₀ ∷ [])))
  known =
      append checks (large_room_check (rows_of look ps) i₀ p₀ ∷ [])
      (known-first checks (room_check (rows_of look ps) i₀ p₀ ∷ [])
      (mutual-known first first_closed second second_closed epsilon (rows_of look ps) i₀ p₀))
      (and (room-known (rows_of look ps) i₀ p₀) fine)

  module _ (l : Leaves (mutual_listing first first_closed second second_closed epsilon (indices_part i₀ p₀ m is)
      (points_part i₀ p₀ m is)) r i p) (w₀ : List ℕ) where
    pub old-countable : words ≤ length w₀ → full w₀ ≡ false → Countable r (i ++ drop (m * indices_a_row) i₀) w₀
    unfolding mutual_listing outcome
    old-countable =
        countable look ps few i₀ p₀ m is (λ c. first_fault (checks ++ (c ∷ []))) (last-fine checks) known r i p l w₀

    -- the rows of five fit into what stands there
    pub old-fits : listed_rows r * large_indices_a_row ≤ length (i ++ drop (m * indices_a_row) i₀)
    unfolding mutual_listing outcome
    old-fits = go r refl
      where
        go : (a : ListingAnswer) → r ≡ a → listed_rows a * large_indices_a_row ≤ length (i ++ drop (m * indices_a_row) i₀)
        go (Err f) e = omega arith
        go (Ok counts) e =
            still-fits look ps few i₀ p₀ m is (λ c. first_fault (checks ++ (c ∷ []))) (last-fine checks) known r i p l w₀ counts.rows counts.pairs e

    rows-added : (w : List ℕ) → w ≡ plus w₀ (adds_by r (i ++ drop (m * indices_a_row) i₀)) → w ≡ plus w₀ (adds r (rows_of look ps))
    unfolding mutual_listing outcome
    rows-added = added look ps few i₀ p₀ m is (λ c. first_fault (checks ++ (c ∷ []))) (last-fine checks) known r i p l w₀

    fine-if-listed : (n k : ℕ) → r ≡ Listed n k → first_fault checks ≡ Ok tt
    unfolding mutual_listing
    fine-if-listed n k e =
        listed-fine checks look ps (indices_part i₀ p₀ m is) (points_part i₀ p₀ m is) n k (sym e ∙ l.answer)

    same_rows : adds r (rows_of look ps) ≡ adds r (mutual_large_rows first first_closed second second_closed epsilon)
    same_rows = go r refl
      where
        go : (a : ListingAnswer) → r ≡ a
            → adds r (rows_of look ps) ≡ adds r (mutual_large_rows first first_closed second second_closed epsilon)
        go (Err f) e =
            ap (λ (a : ListingAnswer). adds a (rows_of look ps)) e
            ∙ sym (ap (λ (a : ListingAnswer). adds a (mutual_large_rows first first_closed second second_closed epsilon)) e)
        go (Ok counts) e =
            let both = plain-mutual first first_closed second second_closed epsilon (fine-if-listed counts.rows counts.pairs e) in
            ap (adds r) (sym (mutual-rows-plain first first_closed second second_closed epsilon both.0 both.1))

    pub old-added : listed_bulge r ≡ false → (w now : List ℕ) → w ≡ plus w₀ (adds_by r (i ++ drop (m * indices_a_row) i₀))
        → now ≡ spread zero_halves (listed_rows r) (i ++ drop (m * indices_a_row) i₀)
        → LargeAdded first first_closed second second_closed epsilon i₀ p₀ w₀ r now (p ++ drop (m * points_a_row) p₀) w
    unfolding mutual_listing
    old-added b w now sum done =
        record {
          listing =
              mutual-first first first_closed second second_closed epsilon i₀ p₀ now (p ++ drop (m * points_a_row) p₀) r b
              (answered checks look ps i₀ p₀ m is r i p now l done);
          report = rows-added w sum ∙ ap (plus w₀) same_rows;
        }

    -- a bulge is refused: the slices are as they were, and the paths are cut
    pub then-counted : listed_bulge r ≡ true → (a : ListingAnswer) (j : List ℕ) (q : List Float) (w : List ℕ)
        → LargeAdded first first_closed second second_closed epsilon (i ++ drop (m * indices_a_row) i₀)
        (p ++ drop (m * points_a_row) p₀) w₀ a j q w
        → LargeAdded first first_closed second second_closed epsilon i₀ p₀ w₀ a j q w
    unfolding mutual_listing
    then-counted b a j q w h =
        let kept = refusal-kept checks look ps i₀ p₀ m is r i p b l in
        rw (kept.indices, kept.points) at h
