-- `listing_outcomes::page::page_in` meets its contract: each refusal is the first of the three that holds; else the loop fills the
-- page from the pair at the position on.
use mathlib.Core.Path.{◌≡◌, refl, sym, ap, ◌∙◌}
use mathlib.Core.List.{List}
use Prim.Native.Nat.{ℕ, ◌+◌, ◌≤◌}
use native.Mathlib.Omega.{arith}
use borrow.Author.Rules.{rules}
use lib.ListN.{length}
use Rattle.listing_pairs.specs.declared.row.Look.{Look}
use Rattle.listing_pairs.specs.Order.{Pair}
use Rattle.listing_pairs.specs.Workings.Ready.{look_by}
use Rattle.listing_pairs.specs.Page.{page}
use Rattle.listing_pairs.specs.Workings.Job as JobDefs
use Rattle.listing_pairs.specs.Workings.Position.{count, every-length, located, located-within}
use Rattle.listing_outcomes.specs.Workings.PageOutcome.{beyond, no-budget, no_row, next-few, every-few, filled-page}
use Rattle.listing_outcomes.proofs.page.page_in.Statement.{statement}
use Rattle.listing_outcomes.proofs.page.page_in.Tie as tie

abbrev start : tie.After-count-all → tie.Start
start c = c.before.before.before.before.before.before

count-requires : tie.Need-count-all-requires
count-requires c κs = let ready = c.requires.0 in (ready.few, ready.few-second)

-- how many pairs there are
all-is : (c : tie.After-count-all) → c.count-all.result ≡ length (JobDefs.every (start c).args.job)
all-is c = c.count-all.ensures ∙ sym (every-length (start c).args.job)

within : (c : tie.Else-position-all) → (start c.before).args.position ≤ length (JobDefs.every (start c.before).args.job)
within c = omega (arith, all-is c.before, c.if-position-all.false)

abbrev looks : tie.After-count-all → ℕ → ℕ → Look
looks c = let a = (start c).args in look_by a.first.now a.second.now a.job

abbrev pairs : tie.After-count-all → List Pair
pairs c = JobDefs.every (start c).args.job

returns : tie.Need-returns-then-position-all
returns c =
    let n = c.before.before in
    let a = (start n).args in
    let is = beyond (looks n) (pairs n) a.position a.budget a.indices.now a.points.now
    (omega (arith, all-is n, c.if-position-all.true)) _ c.whole.ensures in
    (is, refl)

returns-2 : tie.Need-returns-then-budget-eq0
returns-2 c =
    let n = c.before.before.before in
    let a = (start n).args in
    let is = no-budget (looks n) (pairs n) a.position a.budget a.indices.now a.points.now (within c.before.before)
    c.if-budget-eq0.true _ c.whole-then-budget-eq0.ensures in
    (is, refl)

returns-3 : tie.Need-returns-then-room-eq0
returns-3 c =
    let n = c.before.before.before.before.before in
    let a = (start n).args in
    let is = no_row (looks n) (pairs n) a.position a.budget a.indices.now a.points.now (within c.before.before.before.before)
    c.if-budget-eq0.false (sym c.row_room-room.ensures ∙ c.if-room-eq0.true) _ c.whole-then-room-eq0.ensures in
    (is, refl)

locate-requires : tie.Need-locate-spot-requires
locate-requires c κs =
    let ready = (start c.before.before.before.before).requires.0 in (ready.few, ready.few-second)

fill-from-requires : tie.Need-fill_from-filled-requires
fill-from-requires c κs =
    let s = start c.before.before.before.before.before.before.before.before in (
      s.requires.0,
      (
        s.requires.1.0,
        (
          s.requires.1.1,
          (
            omega (arith, ap (λ p. p.i) c.locate-spot.ensures, located-within s.args.job s.args.position),
            (omega (arith, c.row_room-room.ensures), omega (arith, c.row_room-room.ensures)),
          ),
        ),
      ),
    )

-- from where the loop filled, and how far it came
abbrev counted : tie.After-fill_from-filled → tie.After-count-all
counted c = c.before.before.before.before.before.before.before.before.before

add-t19 : tie.Need-overflow_add-result
add-t19 c =
    let f = c.before.before.before.before.before.before.before in
    let s = start (counted f) in
    let a = s.args in
    let there = ap (λ p. JobDefs.left a.job p.i p.j) f.locate-spot.ensures ∙ located a.job a.position in
    let passed = f.fill_from-filled.ensures.passed
    ∙ ap (λ qs. (page (looks (counted f)) qs f.row_room-room.result a.budget).passed) there in
    let few = next-few (looks (counted f)) (pairs (counted f)) a.position f.row_room-room.result a.budget
    (within f.before.before.before.before.before.before.before.before) in
    omega (arith, passed, few, every-few a.job s.requires.0.few s.requires.0.few-second)

returns-4 : tie.Need-returns
returns-4 c =
    let f = c.before.before.before.before.before.before.before in
    let s = start (counted f) in
    let a = s.args in
    let there = ap (λ p. JobDefs.left a.job p.i p.j) f.locate-spot.ensures ∙ located a.job a.position in
    let room-is = f.row_room-room.ensures in (
      filled-page (looks (counted f)) (pairs (counted f)) a.position a.budget
          a.indices.now a.points.now (within f.before.before.before.before.before.before.before.before) f.if-budget-eq0.false
          (λ z. f.if-room-eq0.false (room-is ∙ z)) a.job _ _ _ _ _ _ _ room-is there (all-is (counted f)) f.fill_from-filled.ensures,
      f.fill_from-filled.auto.kept,
    )

pub page_in_spec : {M : Type 1} → statement M
page_in_spec =
    tie.close
    (tie.spec
    count-requires (λ c. search rules) returns (λ c. search rules) returns-2 (λ c. search rules) (λ c. search rules) returns-3
    locate-requires fill-from-requires add-t19
    (λ c. search rules) (λ c. search rules) (λ c. search rules) returns-4)
