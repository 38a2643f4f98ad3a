-- The words of what a run adds: the classes, and the refusals. First for layouts of any kind; then that the layouts of the old
-- mode are such a kind.
use Rattle.std.specs.Prelude.{◌≡◌, Bool, true, false, cond, ◌⊎◌, List, [], ◌∷◌, eqb, Float, length, drop, replicate, set, Err, Ok}
use Rattle.std.proofs.Math.Path.{refl}
use Rattle.std.proofs.Common.{sym, ap, ◌∙◌, true≢false, inl, inr, arith, eqb-true, length-drop}
use Prim.Native.Nat.{ℕ, zero, suc, ◌+◌, ◌-◌, ◌≤◌, ◌<◌}
use Rattle.std.proofs.lemmas.Bool.{eqb-false}
use Rattle.std.proofs.Math.ListN.{get_or-eq_default}
use Rattle.std.proofs.lemmas.List.{drop-set-add}
use Rattle.paths.specs.Segments.{segment_count}
use Rattle.listing_pairs.specs.declared.row.Row.{Row}
use Rattle.listing_pairs.specs.Order.{mutual_pairs, those}
use Rattle.listing_pairs.specs.Rows.{rows_of, looked_at}
use Rattle.listing_pairs.specs.Look.{traced_look}
use Rattle.listing_pairs.specs.Traces.{one_trace, traced_pairs}
use Rattle.listing_pairs.specs.Laws.Order.{lt-or-le}
use Rattle.listing_outcomes.specs.Answer.{Listed, ListingAnswer}
use Rattle.listing_outcomes.specs.Outcome.{Outcome}
use Rattle.listing_calls.specs.Listing.{mutual_listing}
use Rattle.month.specs.Report.{words, layouts, pairs, classes, refusals, refusal_numbers, fresh, word, plus}
use Rattle.month.specs.Counted.{CountedOutcome, one_if, refused_adds, accepted_adds, adds, mutual_rows, mutual_counted}
use Rattle.month.specs.Given.{among, given}
use Rattle.month.specs.Run.{Layout, after, six_classes, sum_words, answer, accepted, refused, refused_with, if_accepted}
use Rattle.month.specs.Run.{pairs_between, pairs_of, sum_of}
use Rattle.month.specs.Laws.Words.{word-plus, drop-plus}
use Rattle.month.specs.Laws.Listings.{mutual-given, mutual-counts}
use Rattle.month.specs.Laws.Given.{given_below}
use Rattle.month.specs.Laws.Pairs.{those-split, mutual-length, six-classes}
use Rattle.month.specs.Laws.Cases.{full_is, counted_is}
use Rattle.month.specs.Laws.Added.{Accepts, accepted-adds, accepted-else, refused-number, refused-else, mutual-small}
use Rattle.month.specs.Laws.Runs.{Kind, adds_of, total, length-total, word_total}

-- ---- one layout
module _ {L : Type 0} {after : List ℕ → L → List ℕ} {answer : L → ListingAnswer} {rows : L → List Row} {pairs_of : L → ℕ}
    (kind : Kind after answer rows pairs_of) (l : L) where
  pub its-six : six_classes (adds (answer l) (rows l)) ≡ if_accepted (answer l) (pairs_of l)
  its-six = go (answer l) refl
    where
      go : (a : ListingAnswer) → answer l ≡ a → six_classes (adds a (rows l)) ≡ if_accepted a (pairs_of l)
      go (Err f) e =
          let none : (k : ℕ) → (k ≡ layouts → ⊥) → k < refusals → word (refused_adds f.number) k ≡ 0 =
          λ k p q. refused-else f.number k p (λ x. omega (arith, x, q)) in
          omega (
            arith,
            none 2 (λ x. omega (arith, x)) (omega arith),
            none 3 (λ x. omega (arith, x)) (omega arith),
            none 4 (λ x. omega (arith, x)) (omega arith),
            none 5 (λ x. omega (arith, x)) (omega arith),
            none 6 (λ x. omega (arith, x)) (omega arith),
            none 7 (λ x. omega (arith, x)) (omega arith),
          )
      go (Ok counts) e = kind.six l counts.rows counts.pairs e

  pub its-pairs : word (adds (answer l) (rows l)) pairs ≡ if_accepted (answer l) (pairs_of l)
  its-pairs = go (answer l) refl
    where
      go : (a : ListingAnswer) → answer l ≡ a → word (adds a (rows l)) pairs ≡ if_accepted a (pairs_of l)
      go (Err f) e = refused-else f.number pairs (λ x. omega (arith, x)) (λ x. omega (arith, x))
      go (Ok counts) e = kind.all l counts.rows counts.pairs e

  pub its-refusal : (k : ℕ) → k < refusal_numbers → word (adds (answer l) (rows l)) (refusals + k) ≡ refused_with k (answer l)
  its-refusal k h = go (answer l) refl
    where
      go : (a : ListingAnswer) → answer l ≡ a → word (adds a (rows l)) (refusals + k) ≡ refused_with k a
      go (Err f) e = by (eqb f.number k) (eqb-true f.number k) (eqb-false f.number k)
        where
          by : (b : Bool) → (b ≡ true → f.number ≡ k) → (b ≡ false → f.number ≡ k → ⊥)
              → word (refused_adds f.number) (refusals + k) ≡ cond b 1 0
          by true is other =
              ap (λ (x : ℕ). word (refused_adds x) (refusals + k)) (is refl) ∙ refused-number k h
          by false is other =
              refused-else f.number (refusals + k) (λ x. omega (arith, x))
              (λ x. other refl (same f.number x))
            where
              same : (n : ℕ) → refusals + k ≡ refusals + n → n ≡ k
              same n x = omega (arith, x)
      go (Ok counts) e = accepted-else (rows l) counts.pairs (refusals + k) (omega arith)

  pub its-refusals : sum_words (drop refusals (adds (answer l) (rows l))) ≡ refused (answer l)
  unfolding refused_adds accepted_adds
  its-refusals = go (answer l) refl
    where
      marked : (m n : ℕ) → n < m → sum_words (set (replicate m 0) n 1) ≡ 1
      marked zero n h = absurd (omega (arith, h))
      marked (suc m) zero h = omega (arith, none m)
        where
          none : (m : ℕ) → sum_words (replicate m 0) ≡ 0
          none zero = refl
          none (suc m) = omega (arith, none m)
      marked (suc m) (suc n) h = omega (arith, marked m n (omega (arith, h)))

      of-refused : (n : ℕ) → n < refusal_numbers → sum_words (drop refusals (refused_adds n)) ≡ 1
      of-refused n h = ap sum_words (drop-set-add refusals (set fresh layouts 1) n 1) ∙ marked refusal_numbers n h

      go : (a : ListingAnswer) → answer l ≡ a → sum_words (drop refusals (adds a (rows l))) ≡ refused a
      go (Err f) e = of-refused f.number (given_below f.number (kind.known l f e))
      go (Ok counts) e = refl

  pub not-given : (k : ℕ) → among k given ≡ false → refused_with k (answer l) ≡ 0
  not-given k h = go (answer l) refl
    where
      go : (a : ListingAnswer) → answer l ≡ a → refused_with k a ≡ 0
      go (Err f) e = by (eqb f.number k) (eqb-true f.number k) (kind.known l f e)
        where
          by : (b : Bool) → (b ≡ true → f.number ≡ k) → among f.number given ≡ true → one_if b ≡ 0
          by true is known =
              absurd (true≢false (sym known ∙ ap (λ (x : ℕ). among x given) (is refl) ∙ h))
          by false is known = refl
      go (Ok counts) e = refl

-- ---- all of them
sum-plus : (a b : List ℕ) → length a ≡ length b → sum_words (plus a b) ≡ sum_words a + sum_words b
sum-plus [] [] e = refl
sum-plus [] (y ∷ b) e = absurd (omega (arith, e))
sum-plus (x ∷ a) [] e = absurd (omega (arith, e))
sum-plus (x ∷ a) (y ∷ b) e = omega (arith, sum-plus a b (omega (arith, e)))

-- a number of each layout, worked out in two ways
pub sum_same : {L : Type 0} (f g : L → ℕ) → ((l : L) → f l ≡ g l) → (ls : List L) → sum_of f ls ≡ sum_of g ls
sum_same f g each [] = refl
sum_same f g each (l ∷ ls) = omega (arith, each l, sum_same f g each ls)

sum-none : {L : Type 0} (f : L → ℕ) → ((l : L) → f l ≡ 0) → (ls : List L) → sum_of f ls ≡ 0
sum-none f each [] = refl
sum-none f each (l ∷ ls) = omega (arith, each l, sum-none f each ls)

pub two-sums : {L : Type 0} (answer : L → ListingAnswer) (ls : List L)
    → sum_of (λ l. accepted (answer l)) ls + sum_of (λ l. refused (answer l)) ls ≡ length ls
two-sums answer [] = refl
two-sums answer (l ∷ ls) = omega (arith, one_of_two (answer l), two-sums answer ls)
  where
    one_of_two : (a : ListingAnswer) → accepted a + refused a ≡ 1
    one_of_two (Err f) = refl
    one_of_two (Ok counts) = refl

module _ {L : Type 0} {after : List ℕ → L → List ℕ} {answer : L → ListingAnswer} {rows : L → List Row} {pairs_of : L → ℕ}
    (kind : Kind after answer rows pairs_of) where
  abbrev its : L → List ℕ
  its = adds_of answer rows

  abbrev sum : List L → List ℕ
  sum = total answer rows

  pub six-total : (ls : List L)
      → six_classes (total answer rows ls) ≡ sum_of (λ l. if_accepted (answer l) (pairs_of l)) ls
  six-total [] = refl
  six-total (l ∷ ls) =
      let at : (k : ℕ) → k < words → word (plus (its l) (sum ls)) k ≡ word (its l) k + word (sum ls) k =
      λ k h. word-plus (its l) (sum ls) k (omega (arith, h, (kind.small l).long)) in
      omega (
        arith,
        at 2 (omega arith),
        at 3 (omega arith),
        at 4 (omega arith),
        at 5 (omega arith),
        at 6 (omega arith),
        at 7 (omega arith),
        its-six kind l,
        six-total ls,
      )

  pub refused-total : (ls : List L) → sum_words (drop refusals (total answer rows ls)) ≡ sum_of (λ l. refused (answer l)) ls
  refused-total [] = refl
  refused-total (l ∷ ls) =
      let both : length (drop refusals (its l)) ≡ length (drop refusals (sum ls)) =
      omega (
        arith,
        length-drop refusals (its l),
        length-drop refusals (sum ls),
        (kind.small l).long,
        length-total kind ls,
      ) in
      omega (
        arith,
        ap sum_words (drop-plus refusals (its l) (sum ls)),
        sum-plus (drop refusals (its l)) (drop refusals (sum ls)) both,
        its-refusals kind l,
        refused-total ls,
      )

  -- a word of a number that is not given, or of none at all
  pub over-total : (ls : List L) (k : ℕ) → among k given ≡ false → word (total answer rows ls) (refusals + k) ≡ 0
  over-total ls k h = go (lt-or-le k refusal_numbers)
    where
      go : (k < refusal_numbers) ⊎ (refusal_numbers ≤ k) → word (sum ls) (refusals + k) ≡ 0
      go (inl below) =
          word_total kind ls (refusals + k) (omega (arith, below))
          ∙ sum-none _ (λ l. its-refusal kind l k below ∙ not-given kind l k h) ls
      go (inr beyond) =
          get_or-eq_default (sum ls) 0 {n = refusals + k} (omega (arith, beyond, length-total kind ls))

-- ---- what an accepted layout of two paths of n and m segments adds: its pairs, by segments and traces
module _ (first second : List Float) (epsilon : Float) (n m looked : ℕ)
    (is : looked ≡ looked_at (traced_look first second epsilon) (mutual_pairs n m)) where
  abbrev words_are : Accepts first second epsilon (mutual_pairs n m)
      (accepted_adds (rows_of (traced_look first second epsilon) (mutual_pairs n m)) looked)
  words_are = accepted-adds first second epsilon (mutual_pairs n m) looked is

  kept-pairs : length (traced_pairs first second (mutual_pairs n m)) ≡ pairs_between first second n m
  kept-pairs = omega (arith, those-split (one_trace first second) (mutual_pairs n m), mutual-length n m)

  pub six-added : six_classes (accepted_adds (rows_of (traced_look first second epsilon) (mutual_pairs n m)) looked)
      ≡ pairs_between first second n m
  six-added =
      omega (
        arith,
        words_are.each-class 0 (omega arith),
        words_are.each-class 1 (omega arith),
        words_are.each-class 2 (omega arith),
        words_are.each-class 3 (omega arith),
        words_are.each-class 4 (omega arith),
        words_are.each-class 5 (omega arith),
        six-classes first second epsilon (traced_pairs first second (mutual_pairs n m)),
        kept-pairs,
      )

  pub pairs-added : word (accepted_adds (rows_of (traced_look first second epsilon) (mutual_pairs n m)) looked) pairs
      ≡ pairs_between first second n m
  pairs-added = words_are.its-pairs ∙ kept-pairs

-- ---- the layouts of the old mode are a kind
abbrev pub old_rows : Layout → List Row
old_rows l = mutual_rows l.first l.first_closed l.second l.second_closed l.epsilon

abbrev its-listing : Layout → Outcome ListingAnswer
its-listing l =
    mutual_listing l.first l.first_closed l.second l.second_closed l.epsilon l.indices l.points

looked-is : (l : Layout) (count looked : ℕ) → answer l ≡ Listed count looked
    → looked ≡ looked_at (traced_look l.first l.second l.epsilon)
    (mutual_pairs (segment_count l.first l.first_closed) (segment_count l.second l.second_closed))
looked-is l count looked e =
    (mutual-counts l.first l.first_closed l.second l.second_closed l.epsilon l.indices l.points count looked
    e).1

pub old-kind : Kind after answer old_rows pairs_of
unfolding mutual_counted
old-kind =
    record {
      if-full =
          λ r l long e. ap (λ (o : CountedOutcome). o.report)
          (full_is (its-listing l) (old_rows l) l.indices l.points r long e);
      if-not =
          λ r l long e. ap (λ (o : CountedOutcome). o.report)
          (counted_is (its-listing l) (old_rows l) l.indices l.points r long e);
      small =
          λ l. mutual-small l.first l.first_closed l.second l.second_closed l.epsilon l.indices l.points;
      known =
          λ l f e. mutual-given l.first l.first_closed l.second l.second_closed l.epsilon l.indices l.points
          f e;
      six =
          λ l n k e. six-added l.first l.second l.epsilon (segment_count l.first l.first_closed)
          (segment_count l.second l.second_closed) k (looked-is l n k e);
      all =
          λ l n k e. pairs-added l.first l.second l.epsilon (segment_count l.first l.first_closed)
          (segment_count l.second l.second_closed) k (looked-is l n k e);
    }
