-- `listing_loop::walk::walk_each` meets its contract: `Walking` is an invariant of its loop, and each arm of the match is one step.
use mathlib.Core.Path.{◌≡◌, sym, ◌∙◌}
use mathlib.Core.Bool.{true≢false}
use mathlib.Core.List.{List}
use Prim.Native.Nat.{◌+◌, ◌-◌, ◌≤◌}
use native.Mathlib.Omega.{arith}
use borrow.Author.Rules.{rules}
use Rattle.paths.specs.Path.{most_segments}
use Rattle.listing_loop.specs.Laws.Loop.{most_pairs}
use Rattle.listing_loop.specs.Workings.Walk.{Walking, walking-starts, walking-skipped, walking-nothing, walking-made}
use Rattle.listing_loop.proofs.walk.walk_each.Statement.{statement}
use Rattle.listing_loop.proofs.walk.walk_each.Tie as tie

abbrev invariant-loop : tie.invariant-loop-j
invariant-loop v v-kept lines second kept sides job grain how part i from to rows_before looked-before marks₀ indices₀ points₀
    j₀ rows₀ looked₀ marks indices points j rows looked =
    Walking v second kept job grain how part i from rows_before looked-before indices₀ points₀ marks₀
    j rows looked indices points marks
    × (j ≤ to)

abbrev decreases-loop : tie.decreases-loop-j
decreases-loop v v-kept lines second kept sides job grain how part i from to rows_before looked-before marks₀ indices₀ points₀
    j₀ rows₀ looked₀ marks indices points j rows looked =
    to - j

-- ---- the places
abbrev Top : Type 0
Top = tie.At-loop-j invariant-loop decreases-loop

abbrev start : Top → tie.Start invariant-loop decreases-loop
start c = c.before.before.before.before.before.before.before

abbrev saw : tie.After-struct_known-1 invariant-loop decreases-loop → tie.After-look-seen invariant-loop decreases-loop
saw c = c.before.before

abbrev roomy : tie.After-slice_known-in-Made-3-1 invariant-loop decreases-loop → tie.Else-rows-part invariant-loop decreases-loop
roomy c = c.before.before.before.before.before.before.before.before.before.before.before.before

-- the pairs looked at are few, and so is the index
few : (c : Top) → c.loop-j.looked ≤ most_pairs + most_segments
few c =
    let b = start c in
    omega (
      arith,
      c.loop-j.invariant.0.few,
      c.loop-j.invariant.0.low,
      c.loop-j.invariant.1,
      b.requires.few-looked,
      b.requires.within,
      b.requires.few,
    )

short : (c : Top) → c.loop-j.j ≤ most_segments
short c = let b = start c in omega (arith, c.loop-j.invariant.1, b.requires.within, b.requires.few)

loop-holds : tie.Need-loop-j-init invariant-loop decreases-loop
loop-holds c =
    let p = c.requires in
    (walking-starts _ _ _ _ _ _ _ _ _ _ _ _ _ _ p.fits, p.ordered)

look-requires : tie.Need-look-seen-requires invariant-loop decreases-loop
look-requires c κs =
    let t = c.before in
    let b = start t in
    let below = c.loop-j-test.true in (
      b.requires.segment,
      (
        b.requires.others t.loop-j.j t.loop-j.invariant.0.low below,
        (b.requires.own, (omega (arith, below, b.requires.within), b.requires.few-first)),
      ),
    )

enum_told : tie.Need-enum_told-1 invariant-loop decreases-loop
enum_told c = search rules

add-j : tie.Need-overflow_add-j invariant-loop decreases-loop
add-j c = search rules

loop-less : tie.Need-loop-j-smaller-in-Skipped invariant-loop decreases-loop
loop-less c = search rules

loop-again : tie.Need-loop-j-preserved-in-Skipped invariant-loop decreases-loop
loop-again c =
    (walking-skipped c.loop-j.invariant.0 (sym c.look-seen.ensures ∙ c.in-Skipped.is), omega (arith, c.loop-j-test.true))

enum-told-2 : tie.Need-enum_told-in-Nothing invariant-loop decreases-loop
enum-told-2 c = search rules

add-looked : tie.Need-overflow_add-looked invariant-loop decreases-loop
add-looked c = omega (arith, few c.before.before.before)

add-j-2 : tie.Need-overflow_add-j-in-Nothing invariant-loop decreases-loop
add-j-2 c = search rules

loop-less-2 : tie.Need-loop-j-smaller-in-Nothing invariant-loop decreases-loop
loop-less-2 c = search rules

loop-again-2 : tie.Need-loop-j-preserved-in-Nothing invariant-loop decreases-loop
loop-again-2 c =
    (walking-nothing c.loop-j.invariant.0 (sym c.look-seen.ensures ∙ c.in-Nothing.is), omega (arith, c.loop-j-test.true))

enum-known-seen : tie.Need-enum_known-seen invariant-loop decreases-loop
enum-known-seen c = search rules

same_length : tie.Need-shape_of-marks-then-rows-part invariant-loop decreases-loop
same_length c = (saw c.before).loop-j.invariant.0.marks

same-length-2 : tie.Need-shape_of-indices-then-rows-part invariant-loop decreases-loop
same-length-2 c = (saw c.before).loop-j.invariant.0.indices

same-length-3 : tie.Need-shape_of-points-then-rows-part invariant-loop decreases-loop
same-length-3 c = (saw c.before).loop-j.invariant.0.points

returns : tie.Need-returns-then-rows-part invariant-loop decreases-loop
returns c =
    let n = c.before in
    let k = saw n in
    record {
      walking = k.loop-j.invariant.0;
      high = omega (arith, k.loop-j-test.true);
      done = λ e. absurd (true≢false e);
      stops = λ e.
          (k.loop-j-test.true, c.if-rows-part.true, (_, sym k.look-seen.ensures ∙ n.in-Made.is));
    }

put-row-requires : tie.Need-put_row-requires invariant-loop decreases-loop
put-row-requires c κs =
    let t = (saw c.before.before.before).before.before in
    let b = start t in (
      omega (arith, t.loop-j.invariant.0.indices, b.requires.room, c.if-rows-part.false),
      omega (arith, t.loop-j.invariant.0.points, b.requires.points-room, c.if-rows-part.false),
    )

mark-of-requires : tie.Need-mark_of-requires invariant-loop decreases-loop
mark-of-requires c κs =
    let t = (saw c.before.before.before.before.before.before.before.before.before).before.before in
    ((start t).requires.few-first, short t, (start t).requires.sieves.fair)

note-requires : tie.Need-note-requires invariant-loop decreases-loop
note-requires c κs = search rules

add-rows : tie.Need-overflow_add-rows invariant-loop decreases-loop
add-rows c = search rules

add-looked-2 : tie.Need-overflow_add-looked-in-Made invariant-loop decreases-loop
add-looked-2 c = omega (arith, few (saw (roomy c).before).before.before)

add-j-3 : tie.Need-overflow_add-j-in-Made invariant-loop decreases-loop
add-j-3 c = let q = (saw (roomy c).before).before in omega (arith, short q.before)

loop-less-3 : tie.Need-loop-j-smaller invariant-loop decreases-loop
loop-less-3 c = let q = (saw (roomy c).before).before in omega (arith, q.loop-j-test.true)

loop-again-3 : tie.Need-loop-j-preserved invariant-loop decreases-loop
loop-again-3 c =
    let e = roomy c in
    let n = e.before in
    let k = saw n in
    let w = c.put_row.ensures in (
      walking-made k.loop-j.invariant.0 _ (sym k.look-seen.ensures ∙ n.in-Made.is) e.if-rows-part.false
          _ _ _ _ w.0 w.1 c.mark_of.ensures c.note.ensures,
      omega (arith, k.loop-j-test.true),
    )

same-length-4 : tie.Need-shape_of-marks invariant-loop decreases-loop
same-length-4 c = search rules

same-length-5 : tie.Need-shape_of-indices invariant-loop decreases-loop
same-length-5 c = search rules

same-length-6 : tie.Need-shape_of-points invariant-loop decreases-loop
same-length-6 c = search rules

returns-2 : tie.Need-returns invariant-loop decreases-loop
returns-2 c =
    record {
      walking = c.loop-j.invariant.0;
      high = c.loop-j.invariant.1;
      done = λ e. omega (arith, c.loop-j.invariant.1, c.loop-j-test.false);
      stops = λ e. absurd (true≢false (sym e));
    }

pub walk_each_spec : {M : Type 1} → statement M
walk_each_spec =
    tie.close
    (tie.spec
    invariant-loop decreases-loop
    loop-holds look-requires enum_told add-j loop-less loop-again enum-told-2 add-looked add-j-2 loop-less-2 loop-again-2 enum-known-seen same_length same-length-2 same-length-3 returns put-row-requires mark-of-requires note-requires add-rows add-looked-2 add-j-3 loop-less-3 loop-again-3 same-length-4 same-length-5 same-length-6 returns-2)
