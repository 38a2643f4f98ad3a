-- A report after any run from zeros of counted listings of both modes, as Runs.antt and Joined.antt of the crate `month` have it
-- for the old mode. The six classes sum to the pairs of all accepted layouts, worked out from the segments and traces of their
-- paths, cut where the mode says so; a refused layout adds only to the layouts and to its refusal's word. The join of two runs,
-- if it is not refused, is what one run over both would have given.
use Rattle.std.specs.Prelude.{◌≡◌, refl, Bool, true, false, cond, List, ◌++◌, ℕ, ◌≤◌, length, drop, Err, Ok}
use Rattle.std.proofs.Common.{ap, mul-le-mul, arith}
use Rattle.checks.specs.declared.fault.Fault.{Fault}
use Rattle.cuts.specs.CutPath.{cut_path, cut_count}
use Rattle.cuts.specs.Segments.{few}
use Rattle.listing_pairs.specs.declared.row.Row.{Row}
use Rattle.listing_pairs.specs.declared.row.Look.{Look}
use Rattle.listing_pairs.specs.Order.{Pair}
use Rattle.listing_pairs.specs.Rows.{looked_at}
use Rattle.listing_loop.specs.Laws.Pages.{few-looked}
use Rattle.listing_outcomes.specs.Answer.{Listed, ListingAnswer}
use Rattle.listing_outcomes.specs.Outcome.{Outcome}
use Rattle.month.specs.Report.{words, most_added, fresh, word, full, plus}
use Rattle.month.specs.Counted.{CountedOutcome, accepted_adds, adds}
use Rattle.month.specs.Join.{join}
use Rattle.month.specs.Run.{Layout, six_classes}
use Rattle.month.specs.Run as old
use Rattle.month.specs.Runs.{AfterRunOf, after-run-of}
use Rattle.month.specs.Joined.{join-of-runs-of}
use Rattle.month.specs.Given.{among, given}
use Rattle.month.specs.Laws.Pairs.{mutual-length}
use Rattle.month.specs.Laws.Listings.{Adds, refused-small, accepted-small, rows-looked}
use Rattle.month.specs.Laws.Cases.{full_is, counted_is}
use Rattle.month.specs.Laws.Added.{unchanged-behind}
use Rattle.month.specs.Laws.Runs.{Kind}
use Rattle.month.specs.Laws.RunWords.{six-added, pairs-added, old_rows, old-kind}
use Rattle.large_listings.specs.LargeListings.{mutual_large_look, mutual_large_pairs, mutual_large}
use Rattle.large_counted.specs.LargeCounted.{mutual_large_rows, mutual_counted_large}
use Rattle.large_counted.specs.LargeTotals.{looked-is, refusal-given}
use Rattle.large_promise.specs.LargeRun.{after_large, answer_large, pairs_of_large, ModeLayout, after, answer, pairs_of, run}

-- ---- the layouts of the mode of large arcs are a kind
abbrev large_rows : Layout → List Row
large_rows l = mutual_large_rows l.first l.first_closed l.second l.second_closed l.epsilon

abbrev its-listing : Layout → Outcome ListingAnswer
its-listing l =
    mutual_large l.first l.first_closed l.second l.second_closed l.epsilon l.indices l.points

module _ (l : Layout) where
  abbrev f : ℕ → ℕ → Look
  f = mutual_large_look l.first l.first_closed l.second l.second_closed l.epsilon

  abbrev ps : List Pair
  ps = mutual_large_pairs l.first l.first_closed l.second l.second_closed

  few-pairs : looked_at f ps ≤ most_added
  few-pairs =
      let n = cut_count l.first l.first_closed in
      let m = cut_count l.second l.second_closed in
      omega (
        arith,
        few-looked f ps,
        mutual-length n m,
        mul-le-mul (few l.first l.first_closed) (few l.second l.second_closed),
      )

  looked : (n k : ℕ) → answer_large l ≡ Listed n k → k ≡ looked_at f ps
  looked n k e =
      looked-is l.first l.first_closed l.second l.second_closed l.epsilon l.indices l.points fresh n k e

  small : Adds (adds (answer_large l) (large_rows l))
  small = go (answer_large l) refl
    where
      go : (a : ListingAnswer) → answer_large l ≡ a → Adds (adds a (large_rows l))
      go (Err g) e = refused-small g.number
      go (Ok counts) e =
          accepted-small (large_rows l) counts.pairs (omega (arith, looked counts.rows counts.pairs e, rows-looked f ps)) (omega (arith, looked counts.rows counts.pairs e, few-pairs))

large-kind : Kind after_large answer_large large_rows pairs_of_large
unfolding mutual_counted_large
large-kind =
    record {
      if-full =
          λ r l long e. ap (λ (o : CountedOutcome). o.report)
          (full_is (its-listing l) (large_rows l) l.indices l.points r long e);
      if-not =
          λ r l long e. ap (λ (o : CountedOutcome). o.report)
          (counted_is (its-listing l) (large_rows l) l.indices l.points r long e);
      small = λ l. small l;
      known =
          λ l g e. refusal-given l.first l.first_closed l.second l.second_closed l.epsilon l.indices l.points
          fresh g e;
      six =
          λ l n k e. six-added (cut_path l.first l.first_closed) (cut_path l.second l.second_closed) l.epsilon
          (cut_count l.first l.first_closed) (cut_count l.second l.second_closed) k (looked l n k e);
      all =
          λ l n k e. pairs-added (cut_path l.first l.first_closed) (cut_path l.second l.second_closed) l.epsilon
          (cut_count l.first l.first_closed) (cut_count l.second l.second_closed) k (looked l n k e);
    }

-- words behind the report's are unchanged
pub large-behind : (l : Layout) (report : List ℕ) → drop words (after_large report l) ≡ drop words report
unfolding mutual_counted_large
large-behind l report = unchanged-behind (its-listing l) (large_rows l) l.indices l.points (small l) report

-- ---- layouts of both modes are a kind
abbrev rows : ModeLayout → List Row
rows l = cond l.large (large_rows l.layout) (old_rows l.layout)

mode-kind : Kind after answer rows pairs_of
mode-kind =
    record {
      if-full = λ r l. if-full r l.layout l.large;
      if-not = λ r l. if-not r l.layout l.large;
      small = λ l. its-small l.layout l.large;
      known = λ l. known l.layout l.large;
      six = λ l. six l.layout l.large;
      all = λ l. all l.layout l.large;
    }
  where
    if-full : (r : List ℕ) (l : Layout) (b : Bool) → words ≤ length r → full r ≡ true
        → cond b (after_large r l) (old.after r l) ≡ r
    if-full r l true = large-kind.if-full r l
    if-full r l false = old-kind.if-full r l

    if-not : (r : List ℕ) (l : Layout) (b : Bool) → words ≤ length r → full r ≡ false
        → cond b (after_large r l) (old.after r l)
        ≡ plus r (adds (cond b (answer_large l) (old.answer l)) (cond b (large_rows l) (old_rows l)))
    if-not r l true = large-kind.if-not r l
    if-not r l false = old-kind.if-not r l

    its-small : (l : Layout) (b : Bool) → Adds (adds (cond b (answer_large l) (old.answer l)) (cond b (large_rows l) (old_rows l)))
    its-small l true = small l
    its-small l false = old-kind.small l

    known : (l : Layout) (b : Bool) (g : Fault) → cond b (answer_large l) (old.answer l) ≡ Err g
        → among g.number given ≡ true
    known l true = large-kind.known l
    known l false = old-kind.known l

    six : (l : Layout) (b : Bool) (n k : ℕ) → cond b (answer_large l) (old.answer l) ≡ Listed n k
        → six_classes (accepted_adds (cond b (large_rows l) (old_rows l)) k) ≡ cond b (pairs_of_large l) (old.pairs_of l)
    six l true = large-kind.six l
    six l false = old-kind.six l

    all : (l : Layout) (b : Bool) (n k : ℕ) → cond b (answer_large l) (old.answer l) ≡ Listed n k
        → word (accepted_adds (cond b (large_rows l) (old_rows l)) k) 1 ≡ cond b (pairs_of_large l) (old.pairs_of l)
    all l true = large-kind.all l
    all l false = old-kind.all l

-- ---- what a run of both modes leaves
pub after-mode-run : (ls : List ModeLayout) → AfterRunOf answer pairs_of ls (run fresh ls)
after-mode-run ls = after-run-of mode-kind ls

pub join-of-mode-runs : (ks ls : List ModeLayout)
    → (join (run fresh ks) (run fresh ls)).answer ≡ Ok tt
    → (join (run fresh ks) (run fresh ls)).into ≡ run fresh (ks ++ ls)
join-of-mode-runs ks ls = join-of-runs-of mode-kind ks ls
