-- A report after any run from zeros. The six classes sum to the pairs of all accepted layouts, worked out from their segments and
-- traces. The layouts are those accepted and those refused, each refusal stands in its own word, and the words of numbers that no
-- listing gives are 0. Only the first 10,000 layouts are counted, and no word ever comes near the limit of 19.
use Rattle.std.specs.Prelude.{◌≡◌, false, List, ℕ, ◌+◌, ◌≤◌, ◌<◌, leb, length, drop, take}
use Rattle.std.proofs.Common.{sym, ap, ◌∙◌, arith, length-take, take_all}
use Rattle.std.proofs.Math.Seq.{slice}
use Rattle.listing_pairs.specs.declared.row.Row.{Row}
use Rattle.month.specs.Report.{
  words,
  layouts,
  pairs,
  classes,
  refusals,
  refusal_numbers,
  most_layouts,
  most_held,
  fresh,
  word,
  some_above,
  full,
}
use Rattle.month.specs.Given.{among, given}
use Rattle.month.specs.Run.{Layout, run_of, run, counted, answer, accepted, refused, refused_with, if_accepted}
use Rattle.month.specs.Run.{pairs_of, sum_of, sum_words, six_classes}
use Rattle.month.specs.Laws.Runs.{Kind, total, word_total, length-total, run_is, grown-total, never-large, full-grown}
use Rattle.listing_outcomes.specs.Answer.{ListingAnswer}
use Rattle.month.specs.Laws.RunWords.{
  six-total,
  refused-total,
  its-pairs,
  its-refusal,
  sum_same,
  two-sums,
  over-total,
  old-kind,
}

-- of layouts of any kind, of which these are the answers and the numbers of pairs
pub record AfterRunOf {L : Type 0} (answer : L → ListingAnswer) (pairs_of : L → ℕ) (ls : List L) (w : List ℕ) : Type 0 where
  -- the pairs of all accepted layouts: by the six classes, and by the word of pairs
  pub six-classes : six_classes w ≡ sum_of (λ l. if_accepted (answer l) (pairs_of l)) (counted ls)
  pub all-pairs : word w pairs ≡ sum_of (λ l. if_accepted (answer l) (pairs_of l)) (counted ls)
  -- the layouts
  pub all-layouts :
      word w layouts ≡ sum_of (λ l. accepted (answer l)) (counted ls) + sum_of (λ l. refused (answer l)) (counted ls)
  pub its-layouts : word w layouts ≡ length (counted ls)
  -- the refusals, all together and one by one
  pub all-refusals : sum_words (slice refusals words w) ≡ sum_of (λ l. refused (answer l)) (counted ls)
  pub each-refusal : (n : ℕ) → n < refusal_numbers
      → word w (refusals + n) ≡ sum_of (λ l. refused_with n (answer l)) (counted ls)
  pub no_other : (n : ℕ) → among n given ≡ false → word w (refusals + n) ≡ 0
  -- 19 next exactly if 10,000 layouts are counted: no other word is the reason
  pub never-large : some_above most_held (slice pairs words w) ≡ false
  pub full-when : full w ≡ leb most_layouts (length (counted ls))

pub after-run-of : {L : Type 0} {after : List ℕ → L → List ℕ} {answer : L → ListingAnswer} {rows : L → List Row}
    {pairs_of : L → ℕ} (kind : Kind after answer rows pairs_of) (ls : List L)
    → AfterRunOf answer pairs_of ls (run_of after fresh ls)
after-run-of {answer = answer} {rows = rows} {pairs_of = pairs_of} kind ls =
    let few : length (counted ls) ≤ most_layouts = omega (arith, length-take most_layouts ls) in
    let g = grown-total kind (counted ls) in
    rw (run_is kind ls)
    (record {
      six-classes = six-total kind (counted ls);
      all-pairs =
          word_total kind (counted ls) pairs (omega arith)
          ∙ sum_same _ (λ l. if_accepted (answer l) (pairs_of l)) (λ l. its-pairs kind l) (counted ls);
      all-layouts = g.counts ∙ sym (two-sums answer (counted ls));
      its-layouts = g.counts;
      all-refusals =
          ap (λ (x : List ℕ). sum_words (drop refusals x))
          (take_all words (total answer rows (counted ls)) (omega (arith, length-total kind (counted ls))))
          ∙ refused-total kind (counted ls);
      each-refusal =
          λ n h. word_total kind (counted ls) (refusals + n) (omega (arith, h))
          ∙ sum_same _ (λ l. refused_with n (answer l)) (λ l. its-refusal kind l n h) (counted ls);
      no_other = λ n h. over-total kind (counted ls) n h;
      never-large = never-large g few;
      full-when = full-grown g few;
    })

-- ---- of the old mode's layouts
abbrev pub AfterRun : List Layout → List ℕ → Type 0
AfterRun ls w = AfterRunOf answer pairs_of ls w

pub after_run : (ls : List Layout) → AfterRun ls (run fresh ls)
after_run ls = after-run-of old-kind ls
