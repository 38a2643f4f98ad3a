-- `listing_outcomes::buffer::list_held_back` meets its contract: the buffer is a page of all pairs. Where it ends the listing,
-- it is copied; where it is as long as the slices and pairs are left, there are too many rows; else the rest follows behind it.
use mathlib.Core.Path.{◌≡◌, refl, sym, ap, ◌∙◌}
use mathlib.Core.List.{List}
use Prim.Native.Nat.{ℕ, ◌*◌, ◌≤◌}
use native.Mathlib.Omega.{arith}
use borrow.Author.Rules.{rules}
use lib.Ieee.{Float, binary64, of_bits}
use lib.ListN.{length, replicate, length-replicate}
use lib.Seq.{length-sets}
use Rattle.listing_pairs.specs.declared.row.Look.{Look}
use Rattle.listing_pairs.specs.declared.order.Job.{Job}
use Rattle.listing_pairs.specs.Order.{Pair}
use Rattle.listing_pairs.specs.Row.{indices_a_row, points_a_row, indices_of, points_of, numbers_of_rows}
use Rattle.listing_pairs.specs.Workings.Ready.{look_by}
use Rattle.listing_pairs.specs.Workings.Job as JobDefs
use Rattle.listing_pairs.specs.Workings.Reached.{all-ready}
use Rattle.listing_pairs.specs.Page.{Page, page}
use Rattle.sieves.specs.Workings.Marks.{no-recall}
use Rattle.listing_loop.specs.Workings.Filling.{Filled}
use Rattle.listing_outcomes.specs.Workings.Outcome.{
  held_rows,
  budget,
  front,
  filled-first,
  joins-every,
  too-many-every,
  is-refused,
  held_back,
  hold,
}
use Rattle.listing_outcomes.proofs.buffer.list_held_back.Statement.{statement}
use Rattle.listing_outcomes.proofs.buffer.list_held_back.Tie as tie

abbrev allowed : tie.After-fill-held → tie.After-every_pair-budget
allowed c = c.before.before.before.before

abbrev start : tie.After-fill-held → tie.Start
start c = (allowed c).before.before.before.before.before.before.before.before.before

-- the buffer, at first
abbrev no-indices : List ℕ
no-indices = replicate (held_rows * indices_a_row) 0

abbrev no-points : List Float
no-points = replicate (held_rows * points_a_row) (of_bits binary64 0)

long-no-indices : length no-indices ≡ held_rows * indices_a_row
long-no-indices = let z : ℕ = 0 in length-replicate (held_rows * indices_a_row) z

long-no-points : length no-points ≡ held_rows * points_a_row
long-no-points = let z : Float = of_bits binary64 0 in length-replicate (held_rows * points_a_row) z

-- the pairs, and the page of them that the buffer is
abbrev looks : tie.After-fill-held → ℕ → ℕ → Look
looks c = let a = (start c).args in look_by a.first.now a.second.now a.job

abbrev pairs : tie.After-fill-held → List Pair
pairs c = JobDefs.every (start c).args.job

abbrev most : tie.After-fill-held → ℕ
most c = (allowed c).lesser-most.result

abbrev job : tie.After-fill-held → Job
job c = (start c).args.job

abbrev on-page : tie.After-fill-held → Page
on-page c = page (looks c) (pairs c) (most c) (budget (looks c) (job c))

abbrev first-j : tie.After-fill-held → ℕ
first-j c = (allowed c).from-start.result

done : (c : tie.After-fill-held)
    → Filled (job c) (front (looks c) (job c) (first-j c) (most c) (budget (looks c) (job c))) (on-page c) c.fill-held.result
    no-indices c.fill-held.new.indices
    no-points c.fill-held.new.points
done c =
    let b = allowed c in
    filled-first (looks c) (job c) (first-j c) (most c) b.every_pair-budget.result c.fill-held.result _ _ _ _
    b.from-start.ensures b.every_pair-budget.ensures c.fill-held.ensures.0

few : (c : tie.After-fill-held) → c.fill-held.result.rows ≤ most c
few c = omega (arith, (done c).rows, (joins-every (looks c) (job c) (most c)).few)

long-indices : (c : tie.After-fill-held) → length c.fill-held.new.indices ≡ held_rows * indices_a_row
long-indices c =
    ap length (done c).indices ∙ length-sets no-indices 0 (numbers_of_rows indices_of (on-page c).rows) ∙ long-no-indices

long-points : (c : tie.After-fill-held) → length c.fill-held.new.points ≡ held_rows * points_a_row
long-points c = ap length (done c).points ∙ length-sets no-points 0 (numbers_of_rows points_of (on-page c).rows) ∙ long-no-points

every-pair-requires : tie.Need-every_pair-budget-requires
every-pair-requires c κs =
    let ready = c.requires.0.pairs in (ready.few, ready.few-second)

fill-requires : tie.Need-fill-held-requires
fill-requires c κs =
    let e = c.lesser-most.ensures in
    let h = c.requires in (
      all-ready h.0 _ _ _,
      (
        (omega arith, omega arith),
        ((omega (arith, e), omega (arith, e)), (h.1.1, no-recall _ _ _ _ _ (omega arith))),
      ),
    )

copy-rows-requires : tie.Need-copy_rows-requires
copy-rows-requires c κs =
    let f = c.before.before.before.before.before.before.before.before in
    let e = (allowed f).lesser-most.ensures in
    let h = (start f).requires.1.0 in (
      (omega (arith, long-indices f, few f, e), omega (arith, long-points f, few f, e)),
      (omega (arith, few f, e, h), omega (arith, few f, e, h)),
    )

returns : tie.Need-returns-then-held
returns c =
    let f = c.before.before.before.before.before.before.before.before.before.before.before.before.before in
    let a = (start f).args in
    let e = (allowed f).lesser-most.ensures in
    let d = done f in
    held_back (looks f) (pairs f) a.indices.now a.points.now (joins-every (looks f) (job f) (most f))
    (omega (arith, e, (start f).requires.1.0)) (sym d.ended ∙ c.if-held.true) _ _ no-indices _ _ no-points _ _
    d.rows d.looked (omega (arith, e, long-no-indices)) (omega (arith, e, long-no-points))
    d.indices d.points c.copy_rows.ensures.0 c.copy_rows.ensures.1

returns-2 : tie.Need-returns-then-room-le-ROWS
returns-2 c =
    let f = c.before.before.before.before.before.before in
    let a = (start f).args in
    let more = too-many-every (looks f) (job f) (most f) (sym (done f).ended ∙ c.if-held.false) in
    let e = (allowed f).lesser-most.ensures in
    is-refused (looks f) (pairs f) a.indices.now a.points.now (omega (arith, more, e, (start f).requires.1.0, c.if-room-le-ROWS.true))
    _ _ refl refl _ c.whole.ensures

list-behind-requires : tie.Need-list_behind-requires
list-behind-requires c κs =
    let f = c.before.before.before.before.before.before.before.before.before in
    let all : most f ≡ held_rows = omega (arith, (allowed f).lesser-most.ensures, c.if-room-le-ROWS.false) in
    let behind = hold (looks f) (job f) (first-j f) held_rows (most f) f.fill-held.result no-indices _ no-points _ all (done f)
    c.if-held.false long-no-indices long-no-points in
    ((start f).requires.0, ((start f).requires.1.0, (omega (arith, c.if-room-le-ROWS.false), (behind, (start f).requires.1.1))))

pub list_held_back_spec : {M : Type 1} → statement M
list_held_back_spec =
    tie.close
    (tie.spec
    (λ c. search rules) (λ c. search rules) every-pair-requires (λ c. search rules) (λ c. search rules) (λ c. search rules)
    fill-requires
    (λ c. search rules) (λ c. search rules) copy-rows-requires (λ c. search rules) (λ c. search rules) returns
    (λ c. search rules) returns-2 (λ c. search rules) (λ c. search rules) list-behind-requires (λ c. search rules)
    (λ c. search rules)
    (λ c. search rules))
