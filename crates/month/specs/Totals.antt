-- What a counted listing adds, word by word. If the layout is accepted: each class total grows by the number of pairs of that
-- class, by the pair's own definition, among the pairs that are not of one trace. If it is refused: one layout, and one refused
-- with its number. Words behind the 40 are unchanged.
use Rattle.std.specs.Prelude.{◌≡◌, Bool, ℕ, ◌+◌, ◌≤◌, ◌<◌, eqb, Float, length, drop, Err}
use Rattle.std.proofs.Math.Path.{ap}
use Rattle.std.proofs.Common.{◌∙◌, arith}
use mathlib.Core.List.{List}
use Rattle.checks.specs.declared.fault.Fault.{Fault}
use Rattle.checks.specs.Refusal
use Rattle.crossing.specs.PlineSegIntr.{class_of}
use Rattle.paths.specs.Segments.{segment_count}
use Rattle.listing_pairs.specs.Order.{Pair, mutual_pairs, those}
use Rattle.listing_pairs.specs.Traces.{traced_pairs}
use Rattle.listing_calls.specs.Listing.{mutual_listing}
use Rattle.listing_calls.specs.Complete.{pair_of}
use Rattle.month.specs.Report.{words, layouts, pairs, classes, refusals, refusal_numbers, word}
use Rattle.month.specs.Counted.{refused_adds, accepted_adds, mutual_rows, mutual_counted, Answered}
use Rattle.month.specs.Laws.Words.{word-plus, word_same}
use Rattle.month.specs.Laws.Given.{given_below}
use Rattle.month.specs.Laws.Listings.{mutual-counts, mutual-given}
use Rattle.month.specs.Laws.Cases.{told-listed, told-refused}
use Rattle.listing_outcomes.specs.Answer.{Listed}
use Rattle.month.specs.Laws.Added.{
  accepted-adds,
  refused-layout,
  refused-number,
  refused-else,
  mutual-small,
  unchanged-behind,
}

-- how many classes there are
abbrev pub class_count : ℕ
class_count = 6

module _ (first : List Float) (first_closed : Bool) (second : List Float) (second_closed : Bool) (epsilon : Float) where
  -- the pairs that are looked at: all but those of one trace
  abbrev pub looked_pairs : List Pair
  looked_pairs = traced_pairs first second (mutual_pairs (segment_count first first_closed) (segment_count second second_closed))

  -- those of a class, by the pair's own definition
  abbrev pub of_class : ℕ → List Pair
  of_class class = those (λ p. eqb (class_of (pair_of first second epsilon p.i p.j)) class) looked_pairs

  -- the report w is the report r with an accepted layout
  pub record WithAccepted (r w : List ℕ) : Type 0 where
    pub one-layout : word w layouts ≡ word r layouts + 1
    pub its-pairs : word w pairs ≡ word r pairs + length looked_pairs
    pub each-class : (class : ℕ) → class < class_count
        → word w (classes + class) ≡ word r (classes + class) + length (of_class class)
    pub no-refusal : (k : ℕ) → refusals ≤ k → word w k ≡ word r k

-- the report w is the report r with a layout refused with n
pub record WithRefused (n : ℕ) (r w : List ℕ) : Type 0 where
  pub one-layout : word w layouts ≡ word r layouts + 1
  pub its-number : word w (refusals + n) ≡ word r (refusals + n) + 1
  pub nothing-else : (k : ℕ) → (k ≡ layouts → ⊥) → (k ≡ refusals + n → ⊥) → word w k ≡ word r k

-- ---- an accepted layout
module _ (first : List Float) (first_closed : Bool) (second : List Float) (second_closed : Bool) (epsilon : Float)
    (indices : List ℕ) (points : List Float) (report : List ℕ) where
  abbrev w : List ℕ
  w = (mutual_counted first first_closed second second_closed epsilon indices points report).report

  pub accepted-totals : (rows looked : ℕ)
      → (mutual_counted first first_closed second second_closed epsilon indices points report).listing.answer
      ≡ Answered (Listed rows looked)
      → WithAccepted first first_closed second second_closed epsilon report
      (mutual_counted first first_closed second second_closed epsilon indices points report).report
  unfolding mutual_counted
  accepted-totals rows looked e =
      let told =
      told-listed (mutual_listing first first_closed second second_closed epsilon indices points)
      (mutual_rows first first_closed second second_closed epsilon) indices points report rows looked e in
      let its = mutual-counts first first_closed second second_closed epsilon indices points rows looked told.listed in
      let l =
      accepted-adds first second epsilon (mutual_pairs (segment_count first first_closed) (segment_count second second_closed)) looked
      its.1 in
      let at : (k : ℕ) → k < words → word w k ≡ word report k + word (accepted_adds (mutual_rows first first_closed second
      second_closed epsilon) looked) k =
      λ k h. ap (λ (x : List ℕ). word x k) told.sum ∙ word-plus report _ k (omega (arith, h, told.long)) in
      record {
        one-layout = at 0 (omega arith) ∙ ap (λ (n : ℕ). word report 0 + n) l.one-layout;
        its-pairs = at 1 (omega arith) ∙ ap (λ (n : ℕ). word report 1 + n) l.its-pairs;
        each-class =
            λ class h. at (classes + class) (omega (arith, h))
            ∙ ap (λ (n : ℕ). word report (classes + class) + n) (l.each-class class h);
        no-refusal = λ k far. ap (λ (x : List ℕ). word x k) told.sum ∙ word_same report _ k (l.no-refusal k far);
      }

  -- ---- a refused one
  pub refused-totals : (f : Fault)
      → (mutual_counted first first_closed second second_closed epsilon indices points report).listing.answer ≡ Answered (Err f)
      → (f.number ≡ Refusal.report → ⊥)
      → WithRefused f.number report (mutual_counted first first_closed second second_closed epsilon indices points report).report
  unfolding mutual_counted
  refused-totals f e other =
      let told =
      told-refused (mutual_listing first first_closed second second_closed epsilon indices points)
      (mutual_rows first first_closed second second_closed epsilon) indices points report f e other in
      let n = f.number in
      let below : n < refusal_numbers =
      given_below n (mutual-given first first_closed second second_closed epsilon indices points f told.listed) in
      let at : (k : ℕ) → k < words → word w k ≡ word report k + word (refused_adds n) k =
      λ k h. ap (λ (x : List ℕ). word x k) told.sum ∙ word-plus report _ k (omega (arith, h, told.long)) in
      record {
        one-layout = at 0 (omega arith) ∙ ap (λ (x : ℕ). word report 0 + x) (refused-layout n);
        its-number =
            at (refusals + n) (omega (arith, below)) ∙ ap (λ (x : ℕ). word report (refusals + n) + x) (refused-number n below);
        nothing-else =
            λ k a b. ap (λ (x : List ℕ). word x k) told.sum ∙ word_same report _ k (refused-else n k a b);
      }

-- ---- words behind the report's are unchanged
pub behind : (first : List Float) (first_closed : Bool) (second : List Float) (second_closed : Bool) (epsilon : Float)
    (indices : List ℕ) (points : List Float) (report : List ℕ)
    → drop words (mutual_counted first first_closed second second_closed epsilon indices points report).report ≡ drop words report
unfolding mutual_counted
behind first first_closed second second_closed epsilon indices points report =
    unchanged-behind (mutual_listing first first_closed second second_closed epsilon indices points)
    (mutual_rows first first_closed second second_closed epsilon) indices points
    (mutual-small first first_closed second second_closed epsilon indices points) report
