-- Chains of pages of the mode of large arcs beside the listing, as ChainedCalls.antt of the crate `listing_calls` has it for the
-- old mode: calls from position 0 to the end, none refused, join to the listing's rows, as read from its slices, and pass all
-- pairs of the cut paths. No row is left out of the joined rows. A call at the end gives nothing.
use Rattle.checks.specs.Checked.{Checked}
use Rattle.std.specs.Prelude.{◌≡◌, refl, Bool, false, List, [], ◌∷◌, ◌++◌, ℕ, ◌+◌, ◌-◌, ◌*◌, ◌<◌, Float, length, take, drop, Err, Ok}
use Rattle.std.proofs.Common.{sym, ap, ◌∙◌, arith, length-drop, take_at}
use Rattle.float_laws.specs.Stores.{flat-length}
use Rattle.checks.specs.declared.fault.Fault.{Fault}
use Rattle.checks.specs.First.{first as first_fault}
use Rattle.arcs.specs.declared.pline_seg_intr.PlineSegIntr.{PlineSegIntr}
use Rattle.crossing.specs.PlineSegIntr.{class_of}
use Rattle.cuts.specs.CutPath.{Name, cut_path, cut_count, name_at}
use Rattle.listing_pairs.specs.declared.row.Row.{Row}
use Rattle.listing_pairs.specs.declared.row.Look.{Look}
use Rattle.listing_pairs.specs.declared.row.Look.TheVariants.{Made}
use Rattle.listing_pairs.specs.Order.{Pair}
use Rattle.listing_pairs.specs.Row.{points_a_row, points_of, numbers_of_rows, row}
use Rattle.listing_pairs.specs.Rows.{rows_of, looked_at}
use Rattle.listing_pairs.specs.Traces.{one_trace, traced_pairs}
use Rattle.listing_loop.specs.Laws.Pages.{joins}
use Rattle.listing_outcomes.specs.Answer.{Listed, ListingAnswer, PageAnswer, Paged}
use Rattle.listing_outcomes.specs.Outcome.{Outcome, overwrite, room}
use Rattle.listing_outcomes.specs.Laws.Counts.{same-rows, same-pairs}
use Rattle.listing_calls.specs.Chain.{Lent, Joined, between}
use Rattle.listing_calls.specs.ChainedCalls.{mutual-looked, self-looked}
use Rattle.listing_calls.specs.Complete.{pair_of, makes}
use Rattle.listing_calls.specs.Joints.{own_pair}
use Rattle.listing_calls.specs.Laws.Complete.{Within, row-of-pair, overwrite-none}
use Rattle.listing_calls.specs.Laws.Chains.{Called, goes_on, its-count, passes}
use Rattle.large_outcomes.specs.LargeRow.{large_indices_a_row, large_indices_of}
use Rattle.large_outcomes.specs.LargeOutcome.{large_room_check, large_listed_of, large_outcome, large_page_outcome}
use Rattle.large_listings.specs.LargeListings.{
  mutual_numbers,
  mutual_large_checks,
  mutual_large_look,
  mutual_large_pairs,
  mutual_large,
  self_numbers,
  self_large_checks,
  self_large_look,
  self_large_pairs,
  self_large,
}
use Rattle.large_listings.specs.HasLargeRow.{HasLargeRow}
use Rattle.large_listings.specs.LargeComplete as complete
use Rattle.large_listings.specs.LargeChained.{LargeWhole, mutual_large_chain, mutual-large-whole, self_large_chain, self-large-whole}
use Rattle.large_listings.specs.Laws.LargeChains.{as_called}
use Rattle.large_listings.specs.Laws.LargeComplete.{large-row-in-slice}
use Rattle.large_promise.specs.LargeJoints.{met_large, AtLargeJoint, OneLargeTrace, large-row-when}

-- ---- what was joined is what a listing wrote: all pairs were passed, and the listing looked at those that are kept of them
pub record LargeSameAs (o : Outcome ListingAnswer) (all kept : List Pair) (rows pairs : ℕ) (j : Joined) : Type 0 where
  pub row_count : j.rows ≡ rows
  pub passed-count : j.pairs ≡ length all
  pub looked-count : pairs ≡ length kept
  pub indices : j.indices ≡ take (rows * large_indices_a_row) o.indices
  pub points : j.points ≡ take (rows * points_a_row) o.points

never : {f : Fault} {k m : ℕ} → Err f ≡ Listed k m → ⊥
never e = let z : ◌≡◌ {A = ℕ} 0 1 = cc in omega (arith, z)

module _ (names others : ℕ → Name) (f : ℕ → ℕ → Look) (ps : List Pair) (j : Joined)
    (w : LargeWhole (large_indices_of names others) f ps j) where
  abbrev five : Row → List ℕ
  five = large_indices_of names others

  -- a pair of the sequence that makes a row has it among the joined rows
  joined-row : (a b : ℕ) (met : PlineSegIntr) → Within (record { i = a; j = b }) ps → f a b ≡ Made (row a b met)
      → HasLargeRow j.rows j.indices (names a) (others b)
  joined-row a b met here made =
      let r = row a b met in
      let v = row-of-pair f (record { i = a; j = b }) ps r here made in
      let stands = large-row-in-slice names others r (rows_of f ps) [] v in
      let all : overwrite [] (numbers_of_rows five (rows_of f ps)) ≡ j.indices =
      overwrite-none (numbers_of_rows five (rows_of f ps)) ∙ sym w.indices in
      record { k = length v.before; written = omega (arith, stands.0, w.rows); at = rw all at stands.1 }

  module _ (kept : List Pair) (seen : looked_at f ps ≡ length kept) (checks : List Checked) (indices : List ℕ)
      (points : List Float) where
    read : {A : Type 0} (numbers : Row → List A) (width : ℕ) → ((r : Row) → length (numbers r) ≡ width) → (old : List A)
        (rows : ℕ) → rows ≡ length (rows_of f ps)
        → numbers_of_rows numbers (rows_of f ps) ≡ take (rows * width) (overwrite old (numbers_of_rows numbers (rows_of f ps)))
    read numbers width each old rows is =
        let written = numbers_of_rows numbers (rows_of f ps) in
        sym (take_at written (drop (length written) old) (rows * width)
        (flat-length numbers width each (rows_of f ps) ∙ ap (λ (n : ℕ). n * width) (sym is)))

    same-checked : (c : Checked) {rows pairs : ℕ}
        → (large_listed_of five c (rows_of f ps) (looked_at f ps) indices points).answer ≡ Listed rows pairs
        → LargeSameAs (large_listed_of five c (rows_of f ps) (looked_at f ps) indices points) ps kept rows pairs j
    same-checked (Err fault) e = absurd (never e)
    same-checked (Ok _) {rows} {pairs} e =
        let rows_are : rows ≡ length (rows_of f ps) = sym (same-rows e) in
        let pairs-are : pairs ≡ looked_at f ps = sym (same-pairs e) in
        record {
          row_count = w.rows ∙ sym rows_are;
          passed-count = w.pairs;
          looked-count = pairs-are ∙ seen;
          indices = w.indices ∙ read five large_indices_a_row (λ r. refl) indices rows rows_are;
          points = w.points ∙ read points_of points_a_row (λ r. refl) points rows rows_are;
        }

    same_outcome : {rows pairs : ℕ} → (large_outcome five checks f ps indices points).answer ≡ Listed rows pairs
        → LargeSameAs (large_outcome five checks f ps indices points) ps kept rows pairs j
    unfolding large_outcome
    same_outcome e = same-checked (first_fault (checks ++ (large_room_check (rows_of f ps) indices points ∷ []))) e

-- ---- two paths
module _ (first : List Float) (first_closed : Bool) (second : List Float) (second_closed : Bool) (epsilon : Float) where
  abbrev a : List Float
  a = cut_path first first_closed

  abbrev b : List Float
  b = cut_path second second_closed

  abbrev ps : List Pair
  ps = mutual_large_pairs first first_closed second second_closed

  abbrev f : ℕ → ℕ → Look
  f = mutual_large_look first first_closed second second_closed epsilon

  -- how many pairs there are
  abbrev pub mutual_large_end : ℕ
  mutual_large_end = length (mutual_large_pairs first first_closed second second_closed)

  module _ (lents : List Lent) (fine : (mutual_large_chain first first_closed second second_closed epsilon lents).refused ≡ false)
      (end : (mutual_large_chain first first_closed second second_closed epsilon lents).next ≡ mutual_large_end) where
    abbrev j : Joined
    j = mutual_large_chain first first_closed second second_closed epsilon lents

    all : LargeWhole (mutual_numbers first first_closed second second_closed) f ps j
    all = mutual-large-whole first first_closed second second_closed epsilon lents fine end

    pub mutual-large-chain : (indices : List ℕ) (points : List Float) (rows pairs : ℕ)
        → (mutual_large first first_closed second second_closed epsilon indices points).answer ≡ Listed rows pairs
        → LargeSameAs (mutual_large first first_closed second second_closed epsilon indices points) ps (traced_pairs a b ps) rows pairs
        j
    unfolding mutual_large
    mutual-large-chain indices points rows pairs e =
        same_outcome (name_at first first_closed) (name_at second second_closed) f ps j all (traced_pairs a b ps)
        (mutual-looked a b epsilon ps) (mutual_large_checks first first_closed second second_closed epsilon) indices points e

    -- no row is left out
    pub large-chain-complete : (x y : ℕ) → x < cut_count first first_closed → y < cut_count second second_closed
        → 0 < class_of (pair_of a b epsilon x y) → one_trace a b (record { i = x; j = y }) ≡ false
        → HasLargeRow j.rows j.indices (name_at first first_closed x) (name_at second second_closed y)
    large-chain-complete x y hx hy meets other =
        joined-row (name_at first first_closed) (name_at second second_closed) f ps j all x y (pair_of a b epsilon x y)
        (complete.between (cut_count first first_closed) (cut_count second second_closed) x y hx hy)
        (makes a b epsilon x y meets other)

-- ---- one path
module _ (path : List Float) (closed : Bool) (epsilon : Float) where
  abbrev cut : List Float
  cut = cut_path path closed

  abbrev own : List Pair
  own = self_large_pairs path closed

  abbrev g : ℕ → ℕ → Look
  g = self_large_look path closed epsilon

  abbrev pub self_large_end : ℕ
  self_large_end = length (self_large_pairs path closed)

  module _ (lents : List Lent) (fine : (self_large_chain path closed epsilon lents).refused ≡ false)
      (end : (self_large_chain path closed epsilon lents).next ≡ self_large_end) where
    abbrev joined : Joined
    joined = self_large_chain path closed epsilon lents

    whole : LargeWhole (self_numbers path closed) g own joined
    whole = self-large-whole path closed epsilon lents fine end

    pub self-large-chain : (indices : List ℕ) (points : List Float) (rows pairs : ℕ)
        → (self_large path closed epsilon indices points).answer ≡ Listed rows pairs
        → LargeSameAs (self_large path closed epsilon indices points) own (traced_pairs cut cut own) rows pairs joined
    unfolding self_large
    self-large-chain indices points rows pairs e =
        same_outcome (name_at path closed) (name_at path closed) g own joined whole (traced_pairs cut cut own)
        (self-looked (cut_count path closed) cut closed epsilon own) (self_large_checks path closed epsilon) indices points e

    -- no row is left out, where a pair meets and not only at a joint
    pub large-self-chain-complete : (x y : ℕ) → x < y → y < cut_count path closed
        → 0 < class_of (met_large path closed epsilon x y) → (AtLargeJoint path closed epsilon x y → ⊥)
        → OneLargeTrace path closed epsilon x y ≡ false
        → HasLargeRow joined.rows joined.indices (name_at path closed x) (name_at path closed y)
    large-self-chain-complete x y order last meets elsewhere other =
        joined-row (name_at path closed) (name_at path closed) g own joined whole x y (met_large path closed epsilon x y)
        (own_pair (cut_count path closed) x y order last)
        ((large-row-when path closed epsilon x y).1 ((meets, elsewhere), other))

-- ---- one call
called-at-end : {look : ℕ → ℕ → Look} {ps : List Pair} {position budget : ℕ} {i : List ℕ} {p : List Float}
    {o : Outcome PageAnswer} {rows pairs next all : ℕ} → Called look ps position budget i p o rows pairs next all → position ≡ length ps
    → (rows ≡ 0) × (pairs ≡ 0) × (next ≡ position) × (all ≡ position)
called-at-end {look} {ps} {position} {budget} {i} {p} {o} {rows} {pairs} {next} c end =
    let q = joins look (drop position ps) (room i p) budget in
    let no-pair : pairs ≡ 0 = omega (arith, c.pairs-are, q.passed, length-drop position ps, end) in
    let here : next ≡ position = omega (arith, goes_on c, no-pair) in
    let none : position - position ≡ 0 = omega arith in
    let no_row = its-count c ∙ ap (λ (n : ℕ). length (rows_of look (between position n ps))) here
    ∙ ap (λ (n : ℕ). length (rows_of look (take n (drop position ps)))) none in
    (no_row, no-pair, here, omega (arith, c.all_are, end))

module _ (numbers : Row → List ℕ) (wide : (r : Row) → length (numbers r) ≡ large_indices_a_row) (checks : List Checked)
    (look : ℕ → ℕ → Look) (ps : List Pair) (position budget : ℕ) (indices : List ℕ) (points : List Float)
    {rows pairs next all : ℕ}
    (e : (large_page_outcome numbers checks look ps position budget indices points).answer ≡ Paged rows pairs next all) where
  -- before the end it passes a pair
  pub large-goes-forward : position < length ps → 0 < pairs
  large-goes-forward before = passes (as_called numbers wide checks look ps position budget indices points e) before

  -- at the end: no rows, no pairs, and the next position is the same
  pub large-at-end : position ≡ length ps → (rows ≡ 0) × (pairs ≡ 0) × (next ≡ position) × (all ≡ position)
  large-at-end end = called-at-end (as_called numbers wide checks look ps position budget indices points e) end
