-- The layouts decide, or else a look at the sums.
use Rattle.std.proofs.Common.{◌≡◌, Iter, List, [], ◌∷◌, ℕ, ◌+◌, ◌-◌, ◌≤◌, ltb, ◌||◌, Bool, true, false, length, take, refl, ap, sym, ◌∙◌, arith, rules, tests, zip, lt-ltb, le-ltb, ltb-true, ltb-false, length-take-le}
use Rattle.std.specs.List.{list_any}
use Rattle.std.proofs.lemmas.Iterator.{YieldsList-from_slice, YieldsList-from_zip}
use Rattle.std.proofs.lemmas.Iterator.Search.{any_from_yields_List}
use Rattle.month.specs.Report.{words, largest, layouts, most_layouts, word, some_above, plus}
use Rattle.month.specs.Join.{too_much}
use Rattle.month.specs.Laws.Words.{much-by-layouts}
use Rattle.month.proofs.join.too_much.Goals as goal
use Rattle.month.proofs.join.too_much.Goals.{then-into-gt-MOST_LAYOUTS, else-into-gt-MOST_LAYOUTS}

-- the test of two words: their sum does not fit
abbrev does_not_fit : ℕ × ℕ → Bool
does_not_fit p = ltb largest (p.0 + p.1)

same_look : (xs ys : List ℕ) → length xs ≡ length ys → list_any does_not_fit (zip xs ys) ≡ some_above largest (plus xs ys)
same_look [] [] long = refl
same_look [] (y ∷ ys) long = absurd (omega (arith, long))
same_look (x ∷ xs) [] long = absurd (omega (arith, long))
same_look (x ∷ xs) (y ∷ ys) long = ap (λ (b : Bool). ltb largest (x + y) || b) (same_look xs ys (omega (arith, long)))

pub returns-then-other-into : goal.returns-then-other-into
returns-then-other-into c =
    let a = c.args.into.now in
    let b = c.args.other.now in
    elim c.if-into-gt-MOST_LAYOUTS.branch [
      | then-into-gt-MOST_LAYOUTS w ↦
          let h = w.if-into-gt-MOST_LAYOUTS.true in
          w.value-is ∙ lt-ltb _ _ h ∙ much-by-layouts a b c.requires.0 c.requires.1 (omega (arith, h))
      | else-into-gt-MOST_LAYOUTS w ↦
          let h = ltb-true (most_layouts - word a layouts) (word b layouts) (sym w.value-is ∙ c.if-other-into.true) in
          c.if-other-into.true ∙ much-by-layouts a b c.requires.0 c.requires.1 (omega (arith, h))
    ]

pub returns-else-other-into : goal.returns-else-other-into
unfolding too_much
returns-else-other-into c =
    let a = c.args.into.now in
    let b = c.args.other.now in
    let xs = take words a in
    let ys = take words b in
    let long-a : length xs ≡ words = length-take-le words a c.requires.0 in
    let long-b : length ys ≡ words = length-take-le words b c.requires.1 in
    elim c.if-into-gt-MOST_LAYOUTS.branch [
      | then-into-gt-MOST_LAYOUTS w ↦
          let e : true ≡ false = sym (w.value-is ∙ lt-ltb _ _ w.if-into-gt-MOST_LAYOUTS.true) ∙ c.if-other-into.false in cc
      | else-into-gt-MOST_LAYOUTS w ↦
          let h = ltb-false (most_layouts - word a layouts) (word b layouts) (sym w.value-is ∙ c.if-other-into.false) in
          let few : word a layouts + word b layouts ≤ most_layouts = omega (arith, h, w.if-into-gt-MOST_LAYOUTS.false) in
          let by_call = any_from_yields_List does_not_fit c.any.new.self _ c.any.result c.any.ensures.ran
          (YieldsList-from_zip (YieldsList-from_slice xs (ap (λ (i : Iter ℕ). i.rest.now) c.zip.ensures.first ∙ c.iter.ensures.rest)) (YieldsList-from_slice ys c.zip.ensures.second.0))
          (λ x q r k. search (rules, tests)) in
          by_call
          ∙ same_look xs ys (omega (arith, long-a, long-b))
          ∙ ap (λ (t : Bool). t || some_above largest (plus xs ys)) (sym (le-ltb most_layouts (word a layouts + word b layouts) few))
    ]
