-- `listing_outcomes::buffer::list_behind` meets its contract: counting leaves the slices as they were; where the rest ends on its
-- page, the rows that were held back and those of that page are all rows.
use mathlib.Core.Path.{◌≡◌, sym, ap, ◌∙◌}
use mathlib.Core.List.{List}
use Prim.Native.Nat.{ℕ, ◌+◌, ◌*◌, ◌-◌, ◌≤◌}
use native.Mathlib.Omega.{arith}
use borrow.Author.Rules.{rules}
use lib.ListN.{length, replicate, length-replicate}
use lib.Seq.{paste}
use Rattle.listing_pairs.specs.Row.{indices_a_row, points_a_row}
use Rattle.listing_pairs.specs.Workings.Ready.{look_by}
use Rattle.listing_pairs.specs.Workings.Reached.{all-ready}
use Rattle.sieves.specs.Workings.Marks.{most_words, no-recall, recall-noted}
use Rattle.listing_loop.specs.Laws.Loop.{few-on-page}
use Rattle.listing_outcomes.specs.Outcome.{room}
use Rattle.listing_outcomes.specs.Workings.Outcome.{
  held_rows,
  few-on-every,
  held-indices,
  held-points,
  filled-behind,
  behind-listed,
  behind-refused,
}
use Rattle.listing_outcomes.proofs.buffer.list_behind.Statement.{statement}
use Rattle.listing_outcomes.proofs.buffer.list_behind.Tie as tie

abbrev budget : tie.After-fill-counted → tie.After-every_pair-budget
budget c = c.before.before.before.before

abbrev start : tie.After-fill-counted → tie.Start
start c = (budget c).before.before.before.before.before.before.before.before.before

abbrev counted : tie.After-copy_rows → tie.After-fill-counted
counted c = c.before.before.before.before.before.before.before.before.before

-- counting writes nothing
same-indices : (c : tie.After-fill-counted) → c.fill-counted.new.indices ≡ (start c).args.indices.now
same-indices c = c.fill-counted.ensures.0.indices

same_points : (c : tie.After-fill-counted) → c.fill-counted.new.points ≡ (start c).args.points.now
same_points c = c.fill-counted.ensures.0.points

-- the rows that were held back are copied
copied-indices : (c : tie.After-copy_rows)
    → (let a = (start (counted c)).args in
    c.copy_rows.new.indices ≡ paste a.indices.now 0 a.held_indices.now (held_rows * indices_a_row))
copied-indices c =
    c.copy_rows.ensures.0
    ∙ ap (λ l. paste l 0 (start (counted c)).args.held_indices.now (held_rows * indices_a_row)) (same-indices (counted c))

copied-points : (c : tie.After-copy_rows)
    → (let a = (start (counted c)).args in
    c.copy_rows.new.points ≡ paste a.points.now 0 a.held_points.now (held_rows * points_a_row))
copied-points c =
    c.copy_rows.ensures.1
    ∙ ap (λ l. paste l 0 (start (counted c)).args.held_points.now (held_rows * points_a_row)) (same_points (counted c))

every-pair-requires : tie.Need-every_pair-budget-requires
every-pair-requires c κs =
    let ready = c.requires.0.pairs in (ready.few, ready.few-second)

-- the marks, at first
abbrev no-marks : List ℕ
no-marks = replicate most_words 0

few-marks : length no-marks ≤ most_words
few-marks = let z : ℕ = 0 in omega (arith, length-replicate most_words z)

fill-requires : tie.Need-fill-counted-requires
fill-requires c κs =
    let h = c.requires in (
      all-ready h.0 _ _ _,
      (
        (h.1.1.1.0.within, h.1.1.0),
        ((omega (arith, h.1.0), omega (arith, h.1.0)), (h.1.1.1.1, no-recall _ _ _ _ no-marks few-marks)),
      ),
    )

copy-rows-requires : tie.Need-copy_rows-requires
copy-rows-requires c κs =
    let f = c.before.before.before.before.before.before.before.before in
    let h = (start f).requires.1 in (
      (omega (arith, held-indices h.1.1.0), omega (arith, held-points h.1.1.0)),
      (omega (arith, ap length (same-indices f), h.0, h.1.0), omega (arith, ap length (same_points f), h.0, h.1.0)),
    )

fill-requires-2 : tie.Need-fill-more-requires
fill-requires-2 c κs =
    let k = c.before.before.before.before.before.before.before in
    let f = counted k in
    let h = (start f).requires in
    let on-indices = ap length (copied-indices k) in
    let on-points = ap length (copied-points k) in (
      all-ready h.0 _ _ _,
      (
        (h.1.1.1.0.within, h.1.1.0),
        (
          (omega (arith, h.1.0, on-indices), omega (arith, h.1.0, on-points)),
          (
            h.1.1.1.1,
            recall-noted _ _ _ _ no-marks _ _ few-marks f.fill-counted.ensures.1 k.if-counted.true,
          ),
        ),
      ),
    )

abbrev written : tie.After-struct_known-then-counted-1 → tie.After-fill-more
written c = c.before.before.before.before.before.before.before

abbrev copied : tie.After-fill-more → tie.After-copy_rows
copied c = c.before.before.before.before.before.before.before.before

add-t39 : tie.Need-overflow_add-result
add-t39 c =
    let g = written c in
    let f = counted (copied g) in
    let s = start f in
    let a = s.args in
    let F = look_by a.first.now a.second.now a.job in
    let ready = s.requires.0.pairs in
    let held = s.requires.1.1.1.0 in
    let few = few-on-every F a.job held_rows ready.few ready.few-second in
    let more = few-on-page F a.job a.held.i a.held.j (a.room - held_rows) (budget f).every_pair-budget.result
    ready.few ready.few-second in
    omega (arith, held.looked, few, g.fill-more.ensures.0.looked, more)

-- what the calls left of the slices' lengths
same_length : tie.Need-shape_of-indices-then-counted
same_length c =
    let g = written c in
    let k = copied g in
    g.fill-more.auto.indices ∙ k.copy_rows.auto.indices ∙ ap length (same-indices (counted k))

same-length-2 : tie.Need-shape_of-points-then-counted
same-length-2 c =
    let g = written c in
    let k = copied g in
    g.fill-more.auto.points ∙ k.copy_rows.auto.points ∙ ap length (same_points (counted k))

returns : tie.Need-returns-then-counted
returns c =
    let g = written c in
    let k = copied g in
    let f = k.before.before.before.before.before.before.before.before.before in
    let a = (start f).args in
    let h = (start f).requires.1 in
    let fit : held_rows ≤ room a.indices.now a.points.now = omega (arith, h.0, h.1.0) in
    let is = (budget f).every_pair-budget in
    let counts = filled-behind h.1.1.0 a.indices.now a.points.now fit _ _ _ _ _ _ _ _ h.0 is.ensures
    f.fill-counted.ensures.0 in
    let done = filled-behind h.1.1.0 a.indices.now a.points.now fit _ _ _ _ _ _ _ _ h.0 is.ensures
    g.fill-more.ensures.0 in
    behind-listed h.1.1.0 a.indices.now a.points.now (omega (arith, h.0, h.1.0))
    (sym counts.ended ∙ k.if-counted.true)
    _ _ _ _ _ _
    done.rows (ap (λ (n : ℕ). a.held.looked + n) done.looked) (copied-indices k) (copied-points k)
    done.indices done.points

returns-2 : tie.Need-returns
returns-2 c =
    let f = c.before.before.before.before.before.before.before in
    let a = (start f).args in
    let h = (start f).requires.1 in
    let counts = filled-behind h.1.1.0 a.indices.now a.points.now (omega (arith, h.0, h.1.0)) _ _ _ _ _ _ _ _
    h.0 (budget f).every_pair-budget.ensures f.fill-counted.ensures.0 in
    behind-refused h.1.1.0 a.indices.now a.points.now (omega (arith, h.0, h.1.0))
    (sym counts.ended ∙ c.if-counted.false) _ _ (same-indices f) (same_points f) _ c.whole.ensures

pub list_behind_spec : {M : Type 1} → statement M
list_behind_spec =
    tie.close
    (tie.spec
    every-pair-requires (λ c. search rules) fill-requires copy-rows-requires (λ c. search rules) fill-requires-2 add-t39
    same_length same-length-2 returns
    (λ c. search rules) (λ c. ap length (same-indices c.before.before.before.before.before.before.before))
    (λ c. ap length (same_points c.before.before.before.before.before.before.before)) returns-2)
