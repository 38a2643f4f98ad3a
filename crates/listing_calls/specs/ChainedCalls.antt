-- Chains of `mutual_page` and of `self_page` beside the listing: calls from position 0 to the end, none refused, join to the
-- listing's rows, as read from its slices, and pass all pairs of the order. The listing looks at those of them that are not of one
-- trace. No row is left out of the joined rows either.
use Rattle.checks.specs.Checked.{Checked}
use Rattle.std.specs.Prelude.{◌≡◌, refl, Bool, true, false, cond, List, [], ◌∷◌, ◌++◌, ℕ, zero, suc, ◌+◌, ◌*◌, ◌<◌, Float, length, take, drop, Err, Ok}
use Rattle.std.proofs.Common.{sym, ap, ◌∙◌, zero-le, arith, take_at}
use Rattle.checks.specs.declared.fault.Fault.{Fault}
use Rattle.checks.specs.First.{first as first_fault}
use Rattle.arcs.specs.declared.pline_seg_intr.PlineSegIntr.{PlineSegIntr}
use Rattle.crossing.specs.PlineSegIntr.{class_of}
use Rattle.paths.specs.Segments.{segment_count}
use Rattle.listing_pairs.specs.declared.row.Row.{Row}
use Rattle.listing_pairs.specs.declared.row.Look.{Look}
use Rattle.listing_pairs.specs.declared.row.Look.TheVariants.{Nothing, Made}
use Rattle.listing_pairs.specs.Order.{Pair, mutual_pairs, self_pairs}
use Rattle.listing_pairs.specs.Row.{indices_a_row, points_a_row, indices_of, points_of, numbers_of_rows, row, unless_apart, look_of}
use Rattle.listing_pairs.specs.Rows.{rows_of, count, looked_at}
use Rattle.listing_pairs.specs.Look.{look, self_look_of, traced_look, traced_self_look}
use Rattle.listing_pairs.specs.Traces.{one_trace, traced, traced_pairs}
use Rattle.listing_pairs.specs.TracedListing.{traced-looked}
use Rattle.listing_pairs.specs.Neighbours.{at_joint}
use Rattle.float_laws.specs.Stores.{flat-length}
use Rattle.listing_outcomes.specs.Answer.{Listed, ListingAnswer, PageAnswer}
use Rattle.listing_outcomes.specs.Outcome.{Outcome, overwrite, room_check, listed_of, outcome}
use Rattle.listing_outcomes.specs.Laws.Counts.{same-rows, same-pairs}
use Rattle.listing_calls.specs.Listing.{mutual_checks, mutual_listing, self_checks, self_listing}
use Rattle.listing_calls.specs.Pages.{mutual_page, self_page}
use Rattle.listing_calls.specs.HasRow.{HasRow}
use Rattle.listing_calls.specs.Complete.{pair_of, makes}
use Rattle.listing_calls.specs.Chain.{Lent, Joined, chain}
use Rattle.listing_calls.specs.Chained.{Whole, whole}
use Rattle.listing_calls.specs.Joints.{AtJoint, own_pair, row-when}
use Rattle.listing_calls.specs.Laws.Complete.{Within, pairs-have, row-of-pair, row-in-slice, overwrite-none}

-- ---- the calls of a chain
abbrev pub mutual_pages : List Float → Bool → List Float → Bool → Float → ℕ → Lent → Outcome PageAnswer
mutual_pages first first_closed second second_closed epsilon position l =
    mutual_page first first_closed second second_closed epsilon position l.budget l.indices l.points

abbrev pub self_pages : List Float → Bool → Float → ℕ → Lent → Outcome PageAnswer
self_pages path closed epsilon position l = self_page path closed epsilon position l.budget l.indices l.points

-- ---- what was joined is what a listing wrote: all pairs were passed, and the listing looked at those that are kept of them
pub record SameAs (o : Outcome ListingAnswer) (all kept : List Pair) (rows pairs : ℕ) (j : Joined) : Type 0 where
  pub row_count : j.rows ≡ rows
  pub passed-count : j.pairs ≡ length all
  pub looked-count : pairs ≡ length kept
  pub indices : j.indices ≡ take (rows * indices_a_row) o.indices
  pub points : j.points ≡ take (rows * points_a_row) o.points

-- every pair is looked at, traces apart
never-skipped : (class : ℕ) (r : Row) (n : ℕ) → count (unless_apart class r) n ≡ suc n
never-skipped zero r n = refl
never-skipped (suc class) r n = refl

all-looked : (f : ℕ → ℕ → Look) → ((i j n : ℕ) → count (f i j) n ≡ suc n) → (ps : List Pair) → looked_at f ps ≡ length ps
all-looked f each [] = refl
all-looked f each (p ∷ ps) = each p.i p.j (looked_at f ps) ∙ ap suc (all-looked f each ps)

looks : (first second : List Float) (epsilon : Float) (i j n : ℕ) → count (look first second epsilon i j) n ≡ suc n
unfolding look look_of
looks first second epsilon i j n =
    let m = pair_of first second epsilon i j in never-skipped (class_of m) (row i j m) n

looks-at-own : (n : ℕ) (path : List Float) (closed : Bool) (epsilon : Float) (i j k : ℕ)
    → count (self_look_of n path closed epsilon i j) k ≡ suc k
unfolding self_look_of look_of
looks-at-own n path closed epsilon i j k =
    let m = pair_of path path epsilon i j in
    go (at_joint path closed n epsilon i j m) (unless_apart (class_of m) (row i j m))
    (never-skipped (class_of m) (row i j m) k)
  where
    go : (b : Bool) (s : Look) → count s k ≡ suc k → count (cond b Nothing s) k ≡ suc k
    go true s e = refl
    go false s e = e

-- so a listing looks at the pairs that are not of one trace
pub mutual-looked : (first second : List Float) (epsilon : Float) (ps : List Pair)
    → looked_at (traced_look first second epsilon) ps ≡ length (traced_pairs first second ps)
mutual-looked first second epsilon ps =
    traced-looked first second (look first second epsilon) ps
    ∙ all-looked (look first second epsilon) (looks first second epsilon) (traced_pairs first second ps)

-- of one path of n segments
pub self-looked : (n : ℕ) (path : List Float) (closed : Bool) (epsilon : Float) (ps : List Pair)
    → looked_at (traced path path (self_look_of n path closed epsilon)) ps ≡ length (traced_pairs path path ps)
self-looked n path closed epsilon ps =
    traced-looked path path (self_look_of n path closed epsilon) ps
    ∙ all-looked (self_look_of n path closed epsilon) (looks-at-own n path closed epsilon) (traced_pairs path path ps)

listed-never : {f : Fault} {k m : ℕ} → Err f ≡ Listed k m → ⊥
listed-never e = let z : ◌≡◌ {A = ℕ} 0 1 = cc in omega (arith, z)

module _ (f : ℕ → ℕ → Look) (ps kept : List Pair) (seen : looked_at f ps ≡ length kept) (checks : List Checked) (j : Joined)
    (w : Whole checks f ps j) (indices : List ℕ) (points : List Float) where
  read : {A : Type 0} (numbers : Row → List A) (width : ℕ) → ((r : Row) → length (numbers r) ≡ width) → (old : List A) (rows : ℕ)
      → rows ≡ length (rows_of f ps)
      → numbers_of_rows numbers (rows_of f ps) ≡ take (rows * width) (overwrite old (numbers_of_rows numbers (rows_of f ps)))
  read numbers width each old rows is =
      let written = numbers_of_rows numbers (rows_of f ps) in
      sym (take_at written (drop (length written) old) (rows * width)
      (flat-length numbers width each (rows_of f ps) ∙ ap (λ (n : ℕ). n * width) (sym is)))

  same-checked : (c : Checked) {rows pairs : ℕ}
      → (listed_of c (rows_of f ps) (looked_at f ps) indices points).answer ≡ Listed rows pairs
      → SameAs (listed_of c (rows_of f ps) (looked_at f ps) indices points) ps kept rows pairs j
  same-checked (Err fault) e = absurd (listed-never e)
  same-checked (Ok _) {rows} {pairs} e =
      let rows_are : rows ≡ length (rows_of f ps) = sym (same-rows e) in
      let pairs-are : pairs ≡ looked_at f ps = sym (same-pairs e) in
      record {
        row_count = w.rows ∙ sym rows_are;
        passed-count = w.pairs;
        looked-count = pairs-are ∙ seen;
        indices = w.indices ∙ read indices_of indices_a_row (λ r. refl) indices rows rows_are;
        points = w.points ∙ read points_of points_a_row (λ r. refl) points rows rows_are;
      }

  -- a pair of the sequence that makes a row has it among the joined rows
  joined-row : (a b : ℕ) (met : PlineSegIntr) → Within (record { i = a; j = b }) ps → f a b ≡ Made (row a b met)
      → HasRow j.rows j.indices a b
  joined-row a b met here made =
      let r = row a b met in
      let v = row-of-pair f (record { i = a; j = b }) ps r here made in
      let stands = row-in-slice r (rows_of f ps) [] v in
      let all : overwrite [] (numbers_of_rows indices_of (rows_of f ps)) ≡ j.indices =
      overwrite-none (numbers_of_rows indices_of (rows_of f ps)) ∙ sym w.indices in
      record { k = length v.before; written = omega (arith, stands.0, w.rows); at = rw all at stands.1 }

  same_outcome : {rows pairs : ℕ} → (outcome checks f ps indices points).answer ≡ Listed rows pairs
      → SameAs (outcome checks f ps indices points) ps kept rows pairs j
  unfolding outcome
  same_outcome e = same-checked (first_fault (checks ++ (room_check (rows_of f ps) indices points ∷ []))) e

-- ---- two paths
module _ (first : List Float) (first_closed : Bool) (second : List Float) (second_closed : Bool) (epsilon : Float) where
  -- how many pairs there are, and the chain from the first on
  abbrev pub mutual_end : ℕ
  mutual_end = length (mutual_pairs (segment_count first first_closed) (segment_count second second_closed))

  abbrev pub mutual_chain : List Lent → Joined
  mutual_chain lents = chain (mutual_pages first first_closed second second_closed epsilon) 0 lents

  mutual-whole : (lents : List Lent) → (mutual_chain lents).refused ≡ false → (mutual_chain lents).next ≡ mutual_end
      → Whole (mutual_checks first first_closed second second_closed epsilon) (traced_look first second epsilon)
      (mutual_pairs (segment_count first first_closed) (segment_count second second_closed)) (mutual_chain lents)
  unfolding mutual_page
  mutual-whole lents =
      whole (mutual_checks first first_closed second second_closed epsilon) (traced_look first second epsilon)
      (mutual_pairs (segment_count first first_closed) (segment_count second second_closed)) lents

  pub mutual-chain : (lents : List Lent) → (mutual_chain lents).refused ≡ false → (mutual_chain lents).next ≡ mutual_end
      → (indices : List ℕ) (points : List Float) (rows pairs : ℕ)
      → (mutual_listing first first_closed second second_closed epsilon indices points).answer ≡ Listed rows pairs
      → let ps = mutual_pairs (segment_count first first_closed) (segment_count second second_closed) in
      SameAs (mutual_listing first first_closed second second_closed epsilon indices points) ps (traced_pairs first second ps)
      rows pairs (mutual_chain lents)
  unfolding mutual_listing
  mutual-chain lents fine end indices points rows pairs e =
      let ps = mutual_pairs (segment_count first first_closed) (segment_count second second_closed) in
      let kept = traced_pairs first second ps in
      same_outcome (traced_look first second epsilon) ps kept (mutual-looked first second epsilon ps)
      (mutual_checks first first_closed second second_closed epsilon) (mutual_chain lents) (mutual-whole lents fine end)
      indices points e

  -- no row is left out
  pub chain-complete : (lents : List Lent) → (mutual_chain lents).refused ≡ false → (mutual_chain lents).next ≡ mutual_end
      → (i j : ℕ) → i < segment_count first first_closed → j < segment_count second second_closed
      → 0 < class_of (pair_of first second epsilon i j) → one_trace first second (record { i = i; j = j }) ≡ false
      → HasRow (mutual_chain lents).rows (mutual_chain lents).indices i j
  chain-complete lents fine end i j hi hj meets other =
      let n = segment_count first first_closed in
      let m = segment_count second second_closed in
      joined-row (traced_look first second epsilon) (mutual_pairs n m) (traced_pairs first second (mutual_pairs n m))
      (mutual-looked first second epsilon (mutual_pairs n m)) (mutual_checks first first_closed second second_closed epsilon)
      (mutual_chain lents) (mutual-whole lents fine end) [] [] i j (pair_of first second epsilon i j)
      (pairs-have (λ i. 0) (λ i. m) i j n 0 zero-le (omega (arith, hi)) zero-le hj) (makes first second epsilon i j meets other)

-- ---- one path
module _ (path : List Float) (closed : Bool) (epsilon : Float) where
  abbrev pub self_end : ℕ
  self_end = length (self_pairs (segment_count path closed))

  abbrev pub self_chain : List Lent → Joined
  self_chain lents = chain (self_pages path closed epsilon) 0 lents

  self-whole : (lents : List Lent) → (self_chain lents).refused ≡ false → (self_chain lents).next ≡ self_end
      → Whole (self_checks path closed epsilon) (traced_self_look path closed epsilon) (self_pairs (segment_count path closed))
      (self_chain lents)
  unfolding self_page
  self-whole lents =
      whole (self_checks path closed epsilon) (traced_self_look path closed epsilon) (self_pairs (segment_count path closed)) lents

  pub self-chain : (lents : List Lent) → (self_chain lents).refused ≡ false → (self_chain lents).next ≡ self_end
      → (indices : List ℕ) (points : List Float) (rows pairs : ℕ)
      → (self_listing path closed epsilon indices points).answer ≡ Listed rows pairs
      → let ps = self_pairs (segment_count path closed) in
      SameAs (self_listing path closed epsilon indices points) ps (traced_pairs path path ps) rows pairs (self_chain lents)
  unfolding self_listing
  self-chain lents fine end indices points rows pairs e =
      let n = segment_count path closed in
      same_outcome (traced_self_look path closed epsilon) (self_pairs n) (traced_pairs path path (self_pairs n))
      (self-looked n path closed epsilon (self_pairs n)) (self_checks path closed epsilon) (self_chain lents)
      (self-whole lents fine end) indices points e

  -- no row is left out, where a pair meets and not only at a joint
  pub self-chain-complete : (lents : List Lent) → (self_chain lents).refused ≡ false → (self_chain lents).next ≡ self_end
      → (i j : ℕ) → i < j → j < segment_count path closed → 0 < class_of (pair_of path path epsilon i j)
      → (AtJoint (segment_count path closed) path closed epsilon i j → ⊥) → one_trace path path (record { i = i; j = j }) ≡ false
      → HasRow (self_chain lents).rows (self_chain lents).indices i j
  self-chain-complete lents fine end i j order last meets elsewhere other =
      let n = segment_count path closed in
      joined-row (traced_self_look path closed epsilon) (self_pairs n) (traced_pairs path path (self_pairs n))
      (self-looked n path closed epsilon (self_pairs n)) (self_checks path closed epsilon) (self_chain lents)
      (self-whole lents fine end) [] [] i j (pair_of path path epsilon i j) (own_pair n i j order last)
      ((row-when n path closed epsilon i j).1 ((meets, elsewhere), other))
