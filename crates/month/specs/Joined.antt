-- The join of two runs from zeros, if it is not refused, is what one run over both would have given.
use Rattle.std.specs.Prelude.{◌≡◌, cond, List, ◌++◌, ℕ, ◌+◌, ◌≤◌, length, take, Ok}
use Rattle.std.proofs.Common.{sym, ap, ◌∙◌, arith, take_all}
use Rattle.listing_pairs.specs.declared.row.Row.{Row}
use Rattle.month.specs.Report.{words, layouts, most_layouts, fresh, word, plus}
use Rattle.month.specs.Join.{join}
use Rattle.month.specs.Run.{Layout, run_of, run, counted}
use Rattle.month.specs.Laws.Joins.{joined-told, take-both}
use Rattle.month.specs.Laws.Runs.{Kind, total, length-total, total-append, run_is, grown-total}
use Rattle.month.specs.Laws.RunWords.{old-kind}
use Rattle.listing_outcomes.specs.Answer.{ListingAnswer}

-- for layouts of any kind
pub join-of-runs-of : {L : Type 0} {after : List ℕ → L → List ℕ} {answer : L → ListingAnswer} {rows : L → List Row}
    {pairs_of : L → ℕ} (kind : Kind after answer rows pairs_of) (ks ls : List L)
    → (join (run_of after fresh ks) (run_of after fresh ls)).answer ≡ Ok tt
    → (join (run_of after fresh ks) (run_of after fresh ls)).into ≡ run_of after fresh (ks ++ ls)
join-of-runs-of {after = after} {answer = answer} {rows = rows} kind ks ls e =
    let told = joined-told (run_of after fresh ks) (run_of after fresh ls) e in
    let a = run_is kind ks in
    let b = run_is kind ls in
    let few : length (counted ks) + length (counted ls) ≤ most_layouts =
    omega (
      arith,
      told.few,
      ap (λ (w : List ℕ). word w layouts) a,
      ap (λ (w : List ℕ). word w layouts) b,
      (grown-total kind (counted ks)).counts,
      (grown-total kind (counted ls)).counts,
    ) in
    let first = total answer rows (counted ks) in
    let second = total answer rows (counted ls) in
    told.sum
    ∙ ap (λ (w : List ℕ). plus w (take words (run_of after fresh ls))) a
    ∙ ap (λ (w : List ℕ). plus first (take words w)) b
    ∙ ap (plus first) (take_all words second (omega (arith, length-total kind (counted ls))))
    ∙ sym (total-append kind (counted ks) (counted ls))
    ∙ ap (total answer rows) (sym (take-both most_layouts ks ls few))
    ∙ sym (run_is kind (ks ++ ls))

-- for the old mode's
pub join-of-runs : (ks ls : List Layout)
    → (join (run fresh ks) (run fresh ls)).answer ≡ Ok tt
    → (join (run fresh ks) (run fresh ls)).into ≡ run fresh (ks ++ ls)
join-of-runs ks ls = join-of-runs-of old-kind ks ls
