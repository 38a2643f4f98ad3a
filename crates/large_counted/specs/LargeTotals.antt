-- What a counted listing of the mode of large arcs adds, word by word. If the layout is accepted: each class total grows by the
-- number of pairs of the cut paths of that class, by the pair's own definition, among the pairs that are not of one trace. If it
-- is refused: one layout, and one refused with its number, which is one of the old mode's.
use Rattle.checks.specs.Checked.{Checked}
use Rattle.std.specs.Prelude.{◌≡◌, Bool, ℕ, ◌+◌, ◌-◌, ◌≤◌, ◌<◌, Float, length, Err, Ok}
use Rattle.std.proofs.Common.{sym, ◌∙◌, arith}
use Rattle.std.proofs.Math.Path.{ap}
use Rattle.std.proofs.Math.Bool.{true}
use mathlib.Core.List.{List}
use Rattle.checks.specs.declared.fault.Fault.{Fault}
use Rattle.checks.specs.First.{first as first_fault}
use Rattle.checks.specs.Refusal
use Rattle.cuts.specs.CutPath.{cut_path}
use Rattle.listing_pairs.specs.declared.row.Row.{Row}
use Rattle.listing_pairs.specs.Order.{Pair, those}
use Rattle.listing_pairs.specs.Rows.{looked_at}
use Rattle.listing_pairs.specs.Traces.{traced_pairs}
use Rattle.large_outcomes.specs.LargeOutcome.{large_listed_of, large_outcome}
use Rattle.month.specs.Report.{words, layouts, pairs, classes, refusals, refusal_numbers, word}
use Rattle.month.specs.Given.{among, given}
use Rattle.month.specs.Counted.{CountedOutcome, refused_adds, accepted_adds, adds, Answered}
use Rattle.month.specs.Totals.{class_count, WithRefused}
use Rattle.month.specs.Laws.Words.{word-plus, word_same}
use Rattle.month.specs.Laws.Given.{Known, given_below, append, and, fine}
use Rattle.month.specs.Laws.Pairs.{is_of}
use Rattle.month.specs.Laws.Cases.{kinds-differ, same-fault, told-listed, told-refused}
use Rattle.month.specs.Laws.Added.{accepted-adds, refused-layout, refused-number, refused-else}
use Rattle.large_listings.specs.LargeListings.{mutual_numbers, mutual_large_checks, mutual_large_look, mutual_large_pairs, mutual_large}
use Rattle.large_counted.specs.LargeCounted.{mutual_large_rows, mutual_counted_large}
use Rattle.large_listings.specs.LargeRefusals.{all}
use Rattle.large_counted.specs.Laws.LargeGiven.{mutual-checks-known, room-known}
use Rattle.listing_outcomes.specs.Answer.{Listed}
use Rattle.listing_outcomes.specs.Laws.Counts.{same-pairs}

module _ (first : List Float) (first_closed : Bool) (second : List Float) (second_closed : Bool) (epsilon : Float) where
  abbrev a : List Float
  a = cut_path first first_closed

  abbrev b : List Float
  b = cut_path second second_closed

  -- the pairs that are looked at: all of the cut paths but those of one trace
  abbrev pub looked_pairs : List Pair
  looked_pairs = traced_pairs a b (mutual_large_pairs first first_closed second second_closed)

  -- those of a class, by the pair's own definition
  abbrev pub of_class : ℕ → List Pair
  of_class class = those (is_of a b epsilon class) looked_pairs

  -- the report w is the report r with an accepted layout
  pub record WithAccepted (r w : List ℕ) : Type 0 where
    pub one-layout : word w layouts ≡ word r layouts + 1
    pub its-pairs : word w pairs ≡ word r pairs + length looked_pairs
    pub each-class : (class : ℕ) → class < class_count
        → word w (classes + class) ≡ word r (classes + class) + length (of_class class)
    pub no-refusal : (k : ℕ) → refusals ≤ k → word w k ≡ word r k

  abbrev five : Row → List ℕ
  five = mutual_numbers first first_closed second second_closed

  abbrev ps : List Pair
  ps = mutual_large_pairs first first_closed second second_closed

  abbrev rows : List Row
  rows = mutual_large_rows first first_closed second second_closed epsilon

  module _ (indices : List ℕ) (points : List Float) (report : List ℕ) where
    abbrev o : CountedOutcome
    o = mutual_counted_large first first_closed second second_closed epsilon indices points report

    -- ---- an accepted layout
    pub looked-is : (n k : ℕ) → (mutual_large first first_closed second second_closed epsilon indices points).answer ≡ Listed n k
        → k ≡ looked_at (mutual_large_look first first_closed second second_closed epsilon)
        (mutual_large_pairs first first_closed second second_closed)
    unfolding mutual_large large_outcome
    looked-is n k e =
        go (first_fault (all five (mutual_large_checks first first_closed second second_closed epsilon)
        (mutual_large_look first first_closed second second_closed epsilon) (mutual_large_pairs first first_closed second second_closed)
        indices points)) e
      where
        go : (c : Checked)
            → (large_listed_of (mutual_numbers first first_closed second second_closed) c rows
            (looked_at (mutual_large_look first first_closed second second_closed epsilon)
            (mutual_large_pairs first first_closed second second_closed)) indices points).answer
            ≡ Listed n k
            → k
            ≡ looked_at (mutual_large_look first first_closed second second_closed epsilon)
            (mutual_large_pairs first first_closed second second_closed)
        go (Ok _) e = sym (same-pairs e)
        go (Err g) e = absurd (kinds-differ e)

    pub accepted-totals : (n looked : ℕ) → o.listing.answer ≡ Answered (Listed n looked) → WithAccepted report o.report
    unfolding mutual_counted_large
    accepted-totals n looked e =
        let t =
        told-listed (mutual_large first first_closed second second_closed epsilon indices points) rows indices points report n looked
        e in
        let l = accepted-adds a b epsilon ps looked (looked-is n looked t.listed) in
        let at : (k : ℕ) → k < words → word o.report k ≡ word report k + word (accepted_adds rows looked) k =
        λ k h. ap (λ (x : List ℕ). word x k) t.sum ∙ word-plus report _ k (omega (arith, h, t.long)) in
        record {
          one-layout = at 0 (omega arith) ∙ ap (λ (n : ℕ). word report 0 + n) l.one-layout;
          its-pairs = at 1 (omega arith) ∙ ap (λ (n : ℕ). word report 1 + n) l.its-pairs;
          each-class =
              λ class h. at (classes + class) (omega (arith, h))
              ∙ ap (λ (n : ℕ). word report (classes + class) + n) (l.each-class class h);
          no-refusal = λ k far. ap (λ (x : List ℕ). word x k) t.sum ∙ word_same report _ k (l.no-refusal k far);
        }

    -- ---- a refused one
    pub refusal-given : (f : Fault) → (mutual_large first first_closed second second_closed epsilon indices points).answer ≡ Err f
        → among f.number given ≡ true
    unfolding mutual_large large_outcome
    refusal-given f e =
        go (first_fault (all five (mutual_large_checks first first_closed second second_closed epsilon)
        (mutual_large_look first first_closed second second_closed epsilon) (mutual_large_pairs first first_closed second second_closed)
        indices points))
        (append (mutual_large_checks first first_closed second second_closed epsilon) _
        (mutual-checks-known first first_closed second second_closed epsilon) (and (room-known rows indices points) fine)) e
      where
        go : (c : Checked) → Known c
            → (large_listed_of (mutual_numbers first first_closed second second_closed) c rows
            (looked_at (mutual_large_look first first_closed second second_closed epsilon)
            (mutual_large_pairs first first_closed second second_closed)) indices points).answer
            ≡ Err f
            → among f.number given ≡ true
        go (Ok _) k e = absurd (kinds-differ (sym e))
        go (Err g) k e = k.known f (ap Err (same-fault e))

    pub refused-totals : (f : Fault) → o.listing.answer ≡ Answered (Err f) → (f.number ≡ Refusal.report → ⊥)
        → WithRefused f.number report o.report
    unfolding mutual_counted_large
    refused-totals f e other =
        let t =
        told-refused (mutual_large first first_closed second second_closed epsilon indices points) rows indices points report f e
        other in
        let n = f.number in
        let below : n < refusal_numbers = given_below n (refusal-given f t.listed) in
        let at : (k : ℕ) → k < words → word o.report k ≡ word report k + word (refused_adds n) k =
        λ k h. ap (λ (x : List ℕ). word x k) t.sum ∙ word-plus report _ k (omega (arith, h, t.long)) in
        record {
          one-layout = at 0 (omega arith) ∙ ap (λ (x : ℕ). word report 0 + x) (refused-layout n);
          its-number =
              at (refusals + n) (omega (arith, below)) ∙ ap (λ (x : ℕ). word report (refusals + n) + x) (refused-number n below);
          nothing-else =
              λ k x y. ap (λ (z : List ℕ). word z k) t.sum ∙ word_same report _ k (refused-else n k x y);
        }
