-- What a listing of the mode of large arcs adds to a report: what is read from its rows of three, before they are spread, is what
-- the definition adds.
use Rattle.checks.specs.Checked.{Checked}
use Rattle.std.specs.Prelude.{◌≡◌, Bool, List, [], ◌∷◌, ◌++◌, ℕ, ◌+◌, ◌*◌, ◌≤◌, ◌<◌, Float, length, drop, Err, Ok}
use Rattle.std.proofs.Math.Path.{refl, ap}
use Rattle.std.proofs.Common.{sym, ◌∙◌, arith, le-ltb, lt-ltb, length-append, length-drop}
use Rattle.std.proofs.Math.Bool.{true, false}
use Rattle.float_laws.specs.Stores.{flat-length}
use Rattle.checks.specs.declared.fault.Item.TheVariants.{Report}
use Rattle.checks.specs.declared.fault.Fault.{Fault}
use Rattle.checks.specs.Fault.{at, whole, refuse}
use Rattle.checks.specs.First.{first as first_fault}
use Rattle.checks.specs.Refusal
use Rattle.cuts.specs.CutPath.{cut_path, cut_count, name_words}
use Rattle.listing_pairs.specs.declared.row.Row.{Row}
use Rattle.listing_pairs.specs.declared.row.Look.{Look}
use Rattle.listing_pairs.specs.declared.order.Job.{Job}
use Rattle.listing_pairs.specs.Order.{Pair}
use Rattle.listing_pairs.specs.Look as looks_of
use Rattle.listing_pairs.specs.Workings.Job.{every}
use Rattle.listing_pairs.specs.Workings.Ready.{look_on, look_by}
use Rattle.listing_pairs.specs.Laws.Sequence.{mutual-every}
use Rattle.listing_pairs.specs.Row.{indices_a_row, points_a_row, indices_of, numbers_of_rows}
use Rattle.listing_pairs.specs.Rows.{rows_of, looked_at}
use Rattle.listing_loop.specs.Laws.Pages.{few-looked}
use Rattle.listing_outcomes.specs.Answer.{Listed, ListingAnswer}
use Rattle.listing_outcomes.specs.Outcome.{Outcome, Leaves, overwrite, room_check, listed_of}
use Rattle.listing_outcomes.specs.Workings.Outcome.{listed}
use Rattle.listing_outcomes.specs.Laws.Counts.{same-rows, same-pairs}
use Rattle.checks.specs.declared.call.CallError.TheVariants.{NoRoom}
use Rattle.large_outcomes.specs.LargeRow.{large_indices_a_row, large_room}
use Rattle.large_outcomes.specs.LargeOutcome.{large_room_check, large_listed_of}
use Rattle.large_outcomes.specs.Laws.Parts.{indices_part, points_part, rows_inside}
use Rattle.large_outcomes.specs.Workings.Spread.{by_names, spread, five_of}
use Rattle.large_outcomes.specs.Laws.Large.{few-rows, listed-whole, listed-refused, listed-spread}
use Rattle.month.specs.Report.{words, refusal_numbers, most_added, full, plus}
use Rattle.month.specs.Counted.{LeavesCounted, adds, counted_of, report_check, Answered}
use Rattle.month.specs.Workings.Written.{adds_by, Listing, Countable}
use Rattle.month.specs.Laws.Given.{Known, given_below}
use Rattle.month.specs.Laws.Listings.{rows-looked, same-adds}
use Rattle.large_listings.specs.LargeListings.{mutual_large_checks, check_mutual_large, mutual_large}
use Rattle.large_counted.specs.LargeCounted.{mutual_large_rows, mutual_counted_large}
use Rattle.large_listings.specs.Workings.Jobs.{mutual_job}
use Rattle.large_counted.specs.Workings.Counting.{ListedCounted, LargeAdded}
use Rattle.large_counted.specs.Laws.LargeGiven.{mutual-checks-known, room-known}
use Rattle.large_listings.specs.Laws.LargeEntry.{mutual-listed, mutual-refused}

never : {f : Fault} {k m : ℕ} → Err f ≡ Listed k m → ⊥
never e = let z : ◌≡◌ {A = ℕ} 0 1 = cc in omega (arith, z)

same-fault : {f g : Fault} → ◌≡◌ {A = ListingAnswer} (Err f) (Err g) → f ≡ g
same-fault e = cc

-- ---- a listing in the lent parts. `found` makes the first fault of all checks from 8's check, which is among them
module _ (look : ℕ → ℕ → Look) (ps : List Pair) (few : length ps ≤ most_added) (i₀ : List ℕ) (p₀ : List Float) (m : ℕ)
    (is : m ≡ large_room i₀ p₀) (found : Checked → Checked) (among : (c : Checked) → found c ≡ Ok tt → c ≡ Ok tt)
    (known : Known (found (large_room_check (rows_of look ps) i₀ p₀))) (r : ListingAnswer) (i : List ℕ) (p : List Float)
    (l : Leaves (listed_of (found (room_check (rows_of look ps) (indices_part i₀ p₀ m is) (points_part i₀ p₀ m is)))
    (rows_of look ps) (looked_at look ps) (indices_part i₀ p₀ m is) (points_part i₀ p₀ m is)) r i p) (w₀ : List ℕ) where
  abbrev rows : List Row
  rows = rows_of look ps

  abbrev check : Checked
  check = found (large_room_check rows i₀ p₀)

  abbrev now : List ℕ
  now = i ++ drop (m * indices_a_row) i₀

  all : Leaves (listed_of check rows (looked_at look ps) i₀ p₀) r now (p ++ drop (m * points_a_row) p₀)
  all = listed-whole i₀ p₀ m is (by_names [] []) (λ x y class. refl) look ps found among r i p l

  pub countable : words ≤ length w₀ → full w₀ ≡ false → Countable r (i ++ drop (m * indices_a_row) i₀) w₀
  countable long roomy =
      record {
        long = long;
        roomy = roomy;
        refused = λ f e. go-refused check known all.answer f e;
        listed = λ n k e. go check refl all n k e;
      }
    where
      go-refused : (c : Checked) → Known c → r ≡ (listed_of c rows (looked_at look ps) i₀ p₀).answer → (f : Fault) → r ≡ Err f
          → f.number < refusal_numbers
      go-refused (Ok _) k h f e = absurd (never (sym e ∙ h))
      go-refused (Err g) k h f e = given_below f.number (k.known f (ap Err (same-fault (sym h ∙ e))))

      go : (c : Checked) → check ≡ c → Leaves (listed_of c rows (looked_at look ps) i₀ p₀) r now (p ++ drop (m * points_a_row) p₀)
          → (n k : ℕ) → r ≡ Listed n k → Listing n k now
      go (Err g) h leaves n k e = absurd (never (sym leaves.answer ∙ e))
      go (Ok _) h leaves n k e =
          let made = sym e ∙ leaves.answer in
          let count : n ≡ length rows = same-rows made in
          let pairs : k ≡ looked_at look ps = same-pairs made in
          let three = numbers_of_rows indices_of rows in
          let three-long = flat-length indices_of indices_a_row (λ r. refl) rows in
          record {
            few-rows = omega (arith, count, pairs, rows-looked look ps);
            few-pairs = omega (arith, pairs, few-looked look ps, few);
            inside =
                omega (
                  arith,
                  count,
                  ap length leaves.indices,
                  length-append three (drop (length three) i₀),
                  three-long,
                );
          }

  -- the rows of five fit into what stands there
  pub still-fits : (n k : ℕ) → r ≡ Listed n k → n * large_indices_a_row ≤ length (i ++ drop (m * indices_a_row) i₀)
  still-fits n k e = go check refl all
    where
      go : (c : Checked) → check ≡ c → Leaves (listed_of c rows (looked_at look ps) i₀ p₀) r now (p ++ drop (m * points_a_row) p₀)
          → n * large_indices_a_row ≤ length now
      go (Err g) h leaves = absurd (never (sym leaves.answer ∙ e))
      go (Ok _) h leaves =
          let made = sym e ∙ leaves.answer in
          let count : n ≡ length rows = same-rows made in
          let three = numbers_of_rows indices_of rows in
          omega (
            arith,
            count,
            few-rows i₀ p₀ m is rows (among (large_room_check rows i₀ p₀) h),
            rows_inside i₀ p₀ m is,
            ap length leaves.indices,
            length-append three (drop (length three) i₀),
            length-drop (length three) i₀,
            flat-length indices_of indices_a_row (λ r. refl) rows,
          )

  pub added : (w : List ℕ) → w ≡ plus w₀ (adds_by r (i ++ drop (m * indices_a_row) i₀)) → w ≡ plus w₀ (adds r (rows_of look ps))
  added w sum =
      let o = listed_of check rows (looked_at look ps) i₀ p₀ in
      sum
      ∙ ap (λ (a : ListingAnswer). plus w₀ (adds_by a now)) all.answer
      ∙ ap (λ (x : List ℕ). plus w₀ (adds_by o.answer x)) all.indices
      ∙ ap (plus w₀) (same-adds check rows (looked_at look ps) i₀ p₀)
      ∙ ap (λ (a : ListingAnswer). plus w₀ (adds a rows)) (sym all.answer)

-- ---- two paths
module _ (first : List Float) (first_closed : Bool) (second : List Float) (second_closed : Bool) (epsilon : Float)
    (i₀ : List ℕ) (p₀ : List Float) (w₀ : List ℕ) where
  -- a fault of the checks
  module _ (x : Fault) (e : check_mutual_large first first_closed second second_closed epsilon ≡ Err x) where
    pub refused-countable : words ≤ length w₀ → full w₀ ≡ false → (i : List ℕ) → Countable (Err x) i w₀
    unfolding check_mutual_large
    refused-countable long roomy i =
        record {
          long = long;
          roomy = roomy;
          refused =
              λ f h. given_below f.number
              ((mutual-checks-known first first_closed second second_closed epsilon).known f (e ∙ ap Err (same-fault h)));
          listed = λ n k h. absurd (never h);
        }

    pub refused-added : (w : List ℕ) → w ≡ plus w₀ (adds_by (Err x) i₀)
        → LargeAdded first first_closed second second_closed epsilon i₀ p₀ w₀ (Err x) i₀ p₀ w
    refused-added w sum =
        record { listing = mutual-refused first first_closed second second_closed epsilon x i₀ p₀ e; report = sum }

  -- ---- the ends of a counted listing
  pub counted-no-room : length w₀ < words
      → LeavesCounted (mutual_counted_large first first_closed second second_closed epsilon i₀ p₀ w₀) (Err NoRoom) i₀ p₀ w₀
  unfolding mutual_counted_large
  counted-no-room h =
      rw (lt-ltb (length w₀) words h)
      (record { listing = record { answer = refl; indices = refl; points = refl }; report = refl })

  module _ (long : words ≤ length w₀) (test : Bool) (is : test ≡ full w₀) where
    checked-report : (b : Bool) → test ≡ b
        → mutual_counted_large first first_closed second second_closed epsilon i₀ p₀ w₀
        ≡ counted_of (refuse b Refusal.report (at 0 0 Report)) (mutual_large first first_closed second second_closed epsilon i₀ p₀)
        (mutual_large_rows first first_closed second second_closed epsilon) i₀ p₀ w₀
    unfolding mutual_counted_large report_check
    checked-report b e =
        rw (le-ltb (length w₀) words long)
        (ap (λ (c : Bool).
        counted_of (refuse c Refusal.report (at 0 0 Report)) (mutual_large first first_closed second second_closed epsilon i₀ p₀)
        (mutual_large_rows first first_closed second second_closed epsilon) i₀ p₀ w₀) (sym is ∙ e))

    pub counted-full : test ≡ true → (fault : Fault) → fault ≡ whole Refusal.report Report
        → LeavesCounted (mutual_counted_large first first_closed second second_closed epsilon i₀ p₀ w₀)
        (Answered (Err fault)) i₀ p₀ w₀
    unfolding refuse
    counted-full e fault told =
        rw (checked-report true e)
        (record {
          listing = record { answer = ap (λ (f : Fault). Answered (Err f)) told; indices = refl; points = refl };
          report = refl;
        })

    pub counted-listed : test ≡ false → (a : ListingAnswer) (i : List ℕ) (p : List Float) (w : List ℕ)
        → LargeAdded first first_closed second second_closed epsilon i₀ p₀ w₀ a i p w
        → LeavesCounted (mutual_counted_large first first_closed second second_closed epsilon i₀ p₀ w₀) (Answered a) i p w
    unfolding refuse
    counted-listed e a i p w added =
        let leaves = added.listing in
        rw (checked-report false e)
        (record {
          listing = record { answer = ap Answered leaves.answer; indices = leaves.indices; points = leaves.points };
          report =
              added.report
              ∙ ap (λ (x : ListingAnswer). plus w₀ (adds x (mutual_large_rows first first_closed second second_closed epsilon)))
              leaves.answer;
        })

-- ---- the outcome with rows of five, and the report
module _ (firsts seconds : List ℕ) (look : ℕ → ℕ → Look) (ps : List Pair) (few : length ps ≤ most_added) (i₀ : List ℕ)
    (p₀ : List Float) (m : ℕ) (is : m ≡ large_room i₀ p₀) (r : ListingAnswer) (i : List ℕ) (p : List Float)
    (l : Leaves (listed look ps (indices_part i₀ p₀ m is) (points_part i₀ p₀ m is)) r i p) (w₀ w : List ℕ)
    (sum : w ≡ plus w₀ (adds_by r (i ++ drop (m * indices_a_row) i₀))) where
  its-report : (a : ListingAnswer) → r ≡ a → w ≡ plus w₀ (adds a (rows_of look ps))
  its-report a e =
      added look ps few i₀ p₀ m is (λ c. c) (λ c e. e) (room-known (rows_of look ps) i₀ p₀) r i p l w₀ w sum
      ∙ ap (λ (x : ListingAnswer). plus w₀ (adds x (rows_of look ps))) e

  pub counted-refused : (f : Fault) → r ≡ Err f
      → ListedCounted (five_of firsts seconds) look ps i₀ p₀ w₀ (Err f) (i ++ drop (m * indices_a_row) i₀)
      (p ++ drop (m * points_a_row) p₀) w
  counted-refused f e =
      record {
        listing = listed-refused i₀ p₀ m is (by_names firsts seconds) (λ x y class. refl) look ps (λ c. c) (λ c e. e) r i p f e l;
        report = its-report (Err f) e;
      }

  pub counted-spread : (now : List ℕ) (n k : ℕ) → r ≡ Listed n k
      → now ≡ spread (by_names firsts seconds) n (i ++ drop (m * indices_a_row) i₀)
      → ListedCounted (five_of firsts seconds) look ps i₀ p₀ w₀ (Listed n k) now (p ++ drop (m * points_a_row) p₀) w
  counted-spread now n k e done =
      record {
        listing =
            listed-spread i₀ p₀ m is (by_names firsts seconds) (λ x y class. refl) look ps (λ c. c) (λ c e. e)
            r i now p n k e l done;
        report = its-report (Listed n k) e;
      }

-- ---- of two cut paths
module _ (first : List Float) (first_closed : Bool) (second : List Float) (second_closed : Bool) (epsilon : Float)
    (a b : List Float) (words₁ others : List ℕ) (n m : ℕ)
    (a-is : a ≡ cut_path first first_closed) (b-is : b ≡ cut_path second second_closed)
    (words_are : words₁ ≡ name_words first first_closed) (others-are : others ≡ name_words second second_closed)
    (n-is : n ≡ cut_count first first_closed) (m-is : m ≡ cut_count second second_closed)
    (e : check_mutual_large first first_closed second second_closed epsilon ≡ Ok tt) (i₀ i : List ℕ) (p₀ p : List Float) where
  pub mutual-counted : (r : ListingAnswer) (w₀ w : List ℕ) (j : Job) → j ≡ mutual_job n m false epsilon
      → ListedCounted (five_of words₁ others) (look_by a b j) (every j) i₀ p₀ w₀ r i p w
      → LargeAdded first first_closed second second_closed epsilon i₀ p₀ w₀ r i p w
  unfolding look_on looks_of.look
  mutual-counted r w₀ w j is h =
      let plain = mutual_job (cut_count first first_closed) (cut_count second second_closed) false epsilon in
      let g : w ≡ plus w₀ (adds r (mutual_large_rows first first_closed second second_closed epsilon)) =
      rw (is, n-is, m-is, a-is, b-is, mutual-every plain refl) at h.report in
      record {
        listing =
            mutual-listed first first_closed second second_closed epsilon a b words₁ others n m a-is b-is words_are others-are n-is
            m-is e i₀ i p₀ p r j is h.listing;
        report = g;
      }
