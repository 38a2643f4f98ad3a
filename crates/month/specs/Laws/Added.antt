-- The words of what a listing adds to a report.
use Rattle.std.specs.Prelude.{◌≡◌, refl, Bool, true, false, List, [], ◌∷◌, ltb, Float, drop, set, Err, Ok}
use Rattle.std.proofs.Math.Path.{ap}
use Rattle.std.proofs.Common.{◌∙◌, arith, ltb-true, ltb-false, drop_of_length-le}
use Prim.Native.Nat.{ℕ, zero, suc, ◌+◌, ◌-◌, ◌≤◌, ◌<◌}
use Rattle.std.proofs.Math.ListN.{length, length-set}
use Rattle.std.proofs.Math.Seq.{get_or-set_same, get_or-set_other}
use Rattle.float_laws.specs.Stores.{sets_behind}
use Rattle.paths.specs.Segments.{segment_count}
use Rattle.listing_pairs.specs.declared.row.Row.{Row}
use Rattle.listing_pairs.specs.Order.{Pair, mutual_pairs, those}
use Rattle.listing_pairs.specs.Rows.{rows_of, looked_at}
use Rattle.listing_pairs.specs.Look.{look, traced_look}
use Rattle.listing_pairs.specs.Traces.{traced_pairs}
use Rattle.listing_pairs.specs.TracedListing.{traced-rows}
use Rattle.listing_outcomes.specs.Answer.{ListingAnswer}
use Rattle.listing_outcomes.specs.Outcome.{Outcome}
use Rattle.listing_calls.specs.Listing.{mutual_listing}
use Rattle.listing_calls.specs.ChainedCalls.{mutual-looked}
use Rattle.month.specs.Report.{words, layouts, pairs, classes, refusals, refusal_numbers, fresh, word, full, plus}
use Rattle.month.specs.Counted.{CountedOutcome, in_class, refused_adds, accepted_adds, adds, counted_listing, mutual_rows}
use Rattle.month.specs.Laws.Words.{zeros, drop-plus, plus_none}
use Rattle.month.specs.Laws.Listings.{Adds, refused-small, accepted-small, few-looked-at, rows-looked, mutual-counts}
use Rattle.month.specs.Laws.Pairs.{is_of, rows-of-class, pairs-without-row}
use Rattle.month.specs.Laws.Cases.{no-room-is, full_is, counted_is}

-- ---- a refused layout
module _ (n : ℕ) where
  pub refused-layout : word (refused_adds n) layouts ≡ 1
  unfolding refused_adds
  refused-layout = get_or-set_other (set fresh layouts 1) (refusals + n) layouts 1 0 (λ x. omega (arith, x))

  pub refused-number : n < refusal_numbers → word (refused_adds n) (refusals + n) ≡ 1
  unfolding refused_adds
  refused-number h =
      get_or-set_same (set fresh layouts 1) (refusals + n) 1 0 (omega (arith, h, length-set fresh layouts 1))

  pub refused-else : (k : ℕ) → (k ≡ layouts → ⊥) → (k ≡ refusals + n → ⊥) → word (refused_adds n) k ≡ 0
  unfolding refused_adds
  refused-else k a b =
      get_or-set_other (set fresh layouts 1) (refusals + n) k 1 0 b ∙ get_or-set_other fresh layouts k 1 0 a ∙ zeros words k

-- ---- an accepted one
pub accepted-else : (rows : List Row) (looked k : ℕ) → refusals ≤ k → word (accepted_adds rows looked) k ≡ 0
unfolding accepted_adds
accepted-else rows looked k far =
    sets_behind fresh
    (1 ∷ looked ∷ (looked - length rows)
    ∷ in_class 1 rows ∷ in_class 2 rows ∷ in_class 3 rows ∷ in_class 4 rows ∷ in_class 5 rows ∷ [])
    layouts k 0 (omega (arith, far))
    ∙ zeros words k

-- either adds one layout
pub adds-one-layout : (a : ListingAnswer) (rows : List Row) → word (adds a rows) layouts ≡ 1
unfolding accepted_adds
adds-one-layout (Err f) rows = refused-layout f.number
adds-one-layout (Ok counts) rows = refl

-- of the pairs ps of two paths, taken by traces
module _ (first second : List Float) (epsilon : Float) (ps : List Pair) where
  abbrev kept : List Pair
  kept = traced_pairs first second ps

  abbrev rows : List Row
  rows = rows_of (traced_look first second epsilon) ps

  -- the words of what an accepted layout adds
  pub record Accepts (l : List ℕ) : Type 0 where
    pub one-layout : word l layouts ≡ 1
    pub its-pairs : word l pairs ≡ length kept
    pub each-class : (class : ℕ) → class < 6 → word l (classes + class) ≡ length (those (is_of first second epsilon class) kept)
    pub no-refusal : (k : ℕ) → refusals ≤ k → word l k ≡ 0

  same_rows : rows_of (traced_look first second epsilon) ps ≡ rows_of (look first second epsilon) kept
  same_rows = traced-rows first second (look first second epsilon) ps

  class-rows : (c : ℕ) → 0 < c → in_class c rows ≡ length (those (is_of first second epsilon c) kept)
  class-rows c h = ap (in_class c) same_rows ∙ rows-of-class first second epsilon c h kept

  pub accepted-adds : (looked : ℕ) → looked ≡ looked_at (traced_look first second epsilon) ps
      → Accepts (accepted_adds (rows_of (traced_look first second epsilon) ps) looked)
  unfolding accepted_adds
  accepted-adds looked is =
      let all : looked ≡ length kept = is ∙ mutual-looked first second epsilon ps in
      let none : looked - length rows ≡ length (those (is_of first second epsilon 0) kept) =
      omega (arith, all, ap length same_rows, pairs-without-row first second epsilon kept) in
      record {
        one-layout = refl;
        its-pairs = all;
        each-class = λ class h. of none class h;
        no-refusal = λ k far. accepted-else rows looked k far;
      }
    where
      of : looked - length rows ≡ length (those (is_of first second epsilon 0) kept) → (class : ℕ) → class < 6
          → word (accepted_adds rows looked) (classes + class) ≡ length (those (is_of first second epsilon class) kept)
      of none zero h = none
      of none (suc zero) h = class-rows 1 (omega arith)
      of none (suc (suc zero)) h = class-rows 2 (omega arith)
      of none (suc (suc (suc zero))) h = class-rows 3 (omega arith)
      of none (suc (suc (suc (suc zero)))) h = class-rows 4 (omega arith)
      of none (suc (suc (suc (suc (suc zero))))) h = class-rows 5 (omega arith)
      of none (suc (suc (suc (suc (suc (suc c)))))) h = absurd (omega (arith, h))

-- ---- 40 words, each small
module _ (first : List Float) (first_closed : Bool) (second : List Float) (second_closed : Bool) (epsilon : Float)
    (indices : List ℕ) (points : List Float) where
  pub mutual-small : Adds (adds (mutual_listing first first_closed second second_closed epsilon indices points).answer
      (mutual_rows first first_closed second second_closed epsilon))
  mutual-small = go (mutual_listing first first_closed second second_closed epsilon indices points).answer refl
    where
      go : (a : ListingAnswer) → (mutual_listing first first_closed second second_closed epsilon indices points).answer ≡ a
          → Adds (adds a (mutual_rows first first_closed second second_closed epsilon))
      go (Err f) e = refused-small f.number
      go (Ok counts) e =
          let is = mutual-counts first first_closed second second_closed epsilon indices points counts.rows counts.pairs e in
          let ps = mutual_pairs (segment_count first first_closed) (segment_count second second_closed) in
          accepted-small (mutual_rows first first_closed second second_closed epsilon) counts.pairs
          (omega (arith, is.1, rows-looked (traced_look first second epsilon) ps))
          (omega (arith, is.1, few-looked-at first first_closed second second_closed epsilon indices points))

-- ---- words behind the report's are unchanged, by any listing that adds no more words
module _ (listing : Outcome ListingAnswer) (rows : List Row) (indices : List ℕ) (points : List Float)
    (few : Adds (adds listing.answer rows)) where
  pub unchanged-behind : (report : List ℕ)
      → drop words (counted_listing listing rows indices points report).report ≡ drop words report
  unchanged-behind report =
      go (ltb (length report) words) (ltb-true (length report) words) (ltb-false (length report) words) (full report) refl
    where
      go : (t : Bool) → (t ≡ true → length report < words) → (t ≡ false → words ≤ length report)
          → (b : Bool) → full report ≡ b
          → drop words (counted_listing listing rows indices points report).report ≡ drop words report
      go true short long b f =
          ap (λ (x : CountedOutcome). drop words x.report) (no-room-is listing rows indices points report (short refl))
      go false short long true f =
          ap (λ (x : CountedOutcome). drop words x.report) (full_is listing rows indices points report (long refl) f)
      go false short long false f =
          let l = adds listing.answer rows in
          let none : drop words l ≡ [] = drop_of_length-le l {i = words} (omega (arith, few.long)) in
          ap (λ (x : CountedOutcome). drop words x.report) (counted_is listing rows indices points report (long refl) f)
          ∙ drop-plus words report l
          ∙ ap (plus (drop words report)) none
          ∙ plus_none (drop words report)
