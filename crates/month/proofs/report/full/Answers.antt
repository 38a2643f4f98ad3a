-- The layouts decide, or else a look at the other words.
use Rattle.std.proofs.Common.{◌≡◌, List, [], ◌∷◌, ℕ, ltb, ◌||◌, Bool, refl, ap, sym, ◌∙◌, le-leb, rules, tests}
use Rattle.std.specs.List.{list_any}
use Rattle.std.proofs.Math.Seq.{slice}
use Rattle.std.proofs.lemmas.Slice.{between_is}
use Rattle.std.proofs.lemmas.Iterator.{YieldsList-from_slice}
use Rattle.std.proofs.lemmas.Iterator.Search.{any_from_yields_List}
use Rattle.month.specs.Report.{words, pairs, most_held, some_above}
use Rattle.month.specs.Laws.Words.{full-by-layouts, full-starts}
use Rattle.month.proofs.report.full.Goals as goal

some_is : (limit : ℕ) (l : List ℕ) → list_any (ltb limit) l ≡ some_above limit l
some_is limit [] = refl
some_is limit (w ∷ ws) = ap (λ (b : Bool). ltb limit w || b) (some_is limit ws)

pub returns-then-report-ge-MOST_LAYOUTS : goal.returns-then-report-ge-MOST_LAYOUTS
returns-then-report-ge-MOST_LAYOUTS c =
    let enough = c.if-report-ge-MOST_LAYOUTS.true in
    le-leb _ _ enough ∙ full-by-layouts c.args.report.now enough

pub returns-else-report-ge-MOST_LAYOUTS : goal.returns-else-report-ge-MOST_LAYOUTS
returns-else-report-ge-MOST_LAYOUTS c =
    let others = slice pairs words c.args.report.now in
    let by_call = any_from_yields_List (ltb most_held) _ _ _ c.any.ensures.ran (YieldsList-from_slice others (c.iter.ensures.rest ∙ between_is c.args.report.now pairs words))
    (λ x b q k. search (rules, tests)) in
    by_call ∙ some_is most_held others ∙ sym (full-starts _ c.if-report-ge-MOST_LAYOUTS.false).left
