-- `listing_loop::walk::walk_left` meets its contract: `Walking` is an invariant of its two loops. Between an index and the next one
-- that is left the pairs make no row, and each arm of the match is one step.
use mathlib.Core.Path.{◌≡◌, refl, sym, ap, ◌∙◌}
use mathlib.Core.Bool.{Bool, true, false, true≢false}
use mathlib.Core.List.{List}
use Prim.Native.Nat.{ℕ, ◌+◌, ◌-◌, ◌<◌, ◌≤◌, min}
use native.Mathlib.Nat.{min-le_left, min-le_right}
use native.Mathlib.Omega.{arith}
use borrow.Author.Rules.{rules}
use lib.Ieee.{Float}
use lib.ListN.{length}
use Rattle.boxes.specs.Workings.Next.{First, first-is}
use Rattle.listing_pairs.specs.declared.row.Look.TheVariants.{Nothing}
use Rattle.listing_pairs.specs.Workings.Ready.{look_on}
use Rattle.paths.specs.Path.{most_segments}
use Rattle.sieves.specs.Workings.Flags.{block, flags_long}
use Rattle.listing_loop.specs.Laws.Loop.{most_pairs}
use Rattle.listing_loop.specs.Workings.Sift.{sifted}
use Rattle.listing_loop.specs.Workings.Walk.{Walking, passed_over, walking-starts, walking-over, walking-skipped}
use Rattle.listing_loop.specs.Workings.Walk.{walking-nothing, walking-made}
use Rattle.listing_loop.proofs.walk.walk_left.Statement.{statement}
use Rattle.listing_loop.proofs.walk.walk_left.Tie as tie

-- The inner loop does not know what the slices held at the call: whatever that was, the walk goes on.
abbrev invariant-loop2 : tie.invariant-loop-j-2
invariant-loop2 v v-kept lines second kept sides job grain how part i from to rows_before looked-before marks₀ indices₀ points₀ side flags
    j₀ rows₀ looked₀ start end marks indices points j rows looked =
    (start ≤ j)
    × (j ≤ end)
    × ((x : List ℕ) (y : List Float) (z : List ℕ)
    → Walking v second kept job grain how part i from rows_before looked-before x y z j₀ rows₀ looked₀ indices₀ points₀ marks₀
    → Walking v second kept job grain how part i from rows_before looked-before x y z j rows looked indices points marks)

abbrev decreases-loop2 : tie.decreases-loop-j-2
decreases-loop2 v v-kept lines second kept sides job grain how part i from to rows_before looked-before marks₀ indices₀ points₀ side flags
    j₀ rows₀ looked₀ start end marks indices points j rows looked =
    end - j

abbrev invariant-loop : tie.invariant-loop-j
invariant-loop v v-kept lines second kept sides job grain how part i from to rows_before looked-before marks₀ indices₀ points₀ side flags₀
    j₀ rows₀ looked₀ marks indices points flags j rows looked =
    Walking v second kept job grain how part i from rows_before looked-before indices₀ points₀ marks₀
    j rows looked indices points marks
    × (j ≤ to)
    × (length flags ≡ block)

abbrev decreases-loop : tie.decreases-loop-j
decreases-loop v v-kept lines second kept sides job grain how part i from to rows_before looked-before marks₀ indices₀ points₀ side flags₀
    j₀ rows₀ looked₀ marks indices points flags j rows looked =
    to - j

-- ---- the places
abbrev Top : Type 0
Top = tie.At-loop-j invariant-loop2 decreases-loop2 invariant-loop decreases-loop

abbrev Sifted : Type 0
Sifted = tie.After-sift invariant-loop2 decreases-loop2 invariant-loop decreases-loop

abbrev Inner : Type 0
Inner = tie.At-loop-j-2 invariant-loop2 decreases-loop2 invariant-loop decreases-loop

abbrev Found : Type 0
Found = tie.After-next_left-next invariant-loop2 decreases-loop2 invariant-loop decreases-loop

abbrev start : Top → tie.Start invariant-loop2 decreases-loop2 invariant-loop decreases-loop
start c = c.before.before.before.before.before.before.before.before.before.before

abbrev top : Sifted → Top
top c = c.before.before.before.before

abbrev of-block : Inner → Sifted
of-block c = c.before.before

abbrev inner : Found → Inner
inner c = c.before.before.before

-- ---- the block: from j on, at most `block` indices, and not beyond the run
abbrev end : Sifted → ℕ
end c = c.lesser-end.result

end-inside : (c : Sifted) → end c ≤ (start (top c)).args.to
end-inside c = omega (arith, c.lesser-end.ensures)

end-near : (c : Sifted) → end c - (top c).loop-j.j ≤ block
end-near c = omega (arith, c.lesser-end.ensures)

-- the state of the walk in the inner loop
at : (c : Inner)
    → let t = top (of-block c) in
    let a = (start t).args in
    Walking a.v a.second.now a.kept.now a.job a.grain a.how a.part a.i a.from a.rows_before
    a.looked_before a.indices.now a.points.now a.marks.now
    c.loop-j-2.j c.loop-j-2.rows c.loop-j-2.looked c.loop-j-2.indices c.loop-j-2.points c.loop-j-2.marks
at c = c.loop-j-2.invariant.2 _ _ _ (top (of-block c)).loop-j.invariant.0

-- what lies before the next index that is left makes no row
down : (c : Found) (h : ℕ) → (inner c).loop-j-2.j ≤ h → h < c.next_left-next.result
    → let a = (start (top (of-block (inner c)))).args in look_on a.v a.second.now a.job a.i h ≡ Nothing
down c =
    let m = inner c in
    let s = of-block m in
    let t = top s in
    let b = start t in
    passed_over _ _ _ _ _ _ _ _ _ _ _ _ b.requires.sieves t.loop-j.invariant.0.grows s.sift.ensures.1 b.requires.within
    _ _ _ _ _ _ _ t.side_of-side.ensures s.sift.ensures.0 (omega (arith, end-near s, t.loop-j.invariant.2))
    c.next_left-next.ensures m.loop-j-2.invariant.0 m.loop-j-2.invariant.1 t.loop-j.invariant.0.low (end-inside s)

-- the next index that is left, and the state there
next : (c : Found)
    → let s = of-block (inner c) in
    ((inner c).loop-j-2.j ≤ c.next_left-next.result) × (c.next_left-next.result ≤ end s)
next c = let f = first-is _ _ _ _ (inner c).loop-j-2.invariant.1 c.next_left-next.ensures in (f.low, f.high)

on : (c : Found)
    → let t = top (of-block (inner c)) in
    let a = (start t).args in
    (x : List ℕ) (y : List Float) (z : List ℕ)
    → Walking a.v a.second.now a.kept.now a.job a.grain a.how a.part a.i a.from a.rows_before
    a.looked_before x y z t.loop-j.j t.loop-j.rows t.loop-j.looked t.loop-j.indices t.loop-j.points t.loop-j.marks
    → Walking a.v a.second.now a.kept.now a.job a.grain a.how a.part a.i a.from a.rows_before
    a.looked_before x y z c.next_left-next.result (inner c).loop-j-2.rows
    ((inner c).loop-j-2.looked + (c.next_left-next.result - (inner c).loop-j-2.j)) (inner c).loop-j-2.indices (inner c).loop-j-2.points
    (inner c).loop-j-2.marks
on c x y z s = walking-over ((inner c).loop-j-2.invariant.2 x y z s) c.next_left-next.result (next c).0 (down c)

-- ---- from where a pair was looked at back to where it was found, and from where its row has room or not to the look
abbrev found : tie.After-look_left-seen invariant-loop2 decreases-loop2 invariant-loop decreases-loop → Found
found c = c.before.before

abbrev saw : tie.After-struct_known-1 invariant-loop2 decreases-loop2 invariant-loop decreases-loop → tie.After-look_left-seen invariant-loop2 decreases-loop2 invariant-loop decreases-loop
saw c = c.before.before

abbrev roomy : tie.After-slice_known-in-Made-3-1 invariant-loop2 decreases-loop2 invariant-loop decreases-loop → tie.Else-rows-part invariant-loop2 decreases-loop2 invariant-loop decreases-loop
roomy c = c.before.before.before.before.before.before.before.before.before.before.before.before

-- the pairs looked at are few, and so is the index
few : (c : Found) → (inner c).loop-j-2.looked + (c.next_left-next.result - (inner c).loop-j-2.j) ≤ most_pairs + most_segments
few c =
    let m = inner c in
    let b = start (top (of-block m)) in
    omega (
      arith,
      (at m).few,
      (at m).low,
      b.requires.few-looked,
      next c,
      end-inside (of-block m),
      b.requires.within,
      b.requires.few,
    )

short : (c : Found) → c.next_left-next.result ≤ most_segments
short c =
    let m = inner c in
    let b = start (top (of-block m)) in
    omega (arith, (next c).1, end-inside (of-block m), b.requires.within, b.requires.few)

side-of-requires : tie.Need-side_of-side-requires invariant-loop2 decreases-loop2 invariant-loop decreases-loop
side-of-requires c κs = search rules

loop-holds : tie.Need-loop-j-init invariant-loop2 decreases-loop2 invariant-loop decreases-loop
loop-holds c = (walking-starts _ _ _ _ _ _ _ _ _ _ _ _ _ _ c.requires.fits, c.requires.ordered, refl)

add-lesser : tie.Need-overflow_add-start invariant-loop2 decreases-loop2 invariant-loop decreases-loop
add-lesser c = search rules

lesser-requires : tie.Need-lesser-end-requires invariant-loop2 decreases-loop2 invariant-loop decreases-loop
lesser-requires c κs = search rules

slice-aggregate-sift : tie.Need-slice_bounds-sift-end invariant-loop2 decreases-loop2 invariant-loop decreases-loop
slice-aggregate-sift c = search rules

sift-requires : tie.Need-sift-requires invariant-loop2 decreases-loop2 invariant-loop decreases-loop
sift-requires c κs =
    let t = c.before.before.before in
    let b = start t in
    let e = c.lesser-end.ensures in (
      (b.requires.few-first, b.requires.few, b.requires.sieves.fair),
      (
        (λ l. (b.requires.sieves.kept l).room),
        (
          omega (arith, e, c.loop-j-test.true),
          omega (arith, e, b.requires.within),
          omega (arith, e, t.loop-j.invariant.2),
        ),
      ),
    )

loop2-holds : tie.Need-loop-j-2-init invariant-loop2 decreases-loop2 invariant-loop decreases-loop
loop2-holds c =
    let e = c.lesser-end.ensures in
    (omega arith, omega (arith, e, c.loop-j-test.true), λ x y z s. s)

loop-less : tie.Need-loop-j-smaller invariant-loop2 decreases-loop2 invariant-loop decreases-loop
loop-less c = search rules

loop-again : tie.Need-loop-j-preserved invariant-loop2 decreases-loop2 invariant-loop decreases-loop
loop-again c =
    let m = c.before in
    let s = of-block m in (
      at m,
      omega (arith, m.loop-j-2.invariant.1, end-inside s),
      ap length s.sift.ensures.0 ∙ flags_long _ _ _ _ ∙ (top s).loop-j.invariant.2,
    )

slice-aggregate-next-left : tie.Need-slice_bounds-next_left-end invariant-loop2 decreases-loop2 invariant-loop decreases-loop
slice-aggregate-next-left c = search rules

next-left-requires : tie.Need-next_left-next-requires invariant-loop2 decreases-loop2 invariant-loop decreases-loop
next-left-requires c κs = search rules

sub-looked : tie.Need-overflow_sub-looked invariant-loop2 decreases-loop2 invariant-loop decreases-loop
sub-looked c = omega (arith, (next c).0)

add-looked : tie.Need-overflow_add-looked invariant-loop2 decreases-loop2 invariant-loop decreases-loop
add-looked c = omega (arith, few c)

look-left-requires : tie.Need-look_left-seen-requires invariant-loop2 decreases-loop2 invariant-loop decreases-loop
look-left-requires c κs =
    let f = c.before in
    let m = inner f in
    let b = start (top (of-block m)) in
    let low : b.args.from ≤ f.next_left-next.result = omega (arith, (at m).low, (next f).0) in
    let high : f.next_left-next.result < b.args.to = omega (arith, c.if-j-end.true, end-inside (of-block m)) in (
      b.requires.segment,
      (
        b.requires.others f.next_left-next.result low high,
        (b.requires.own, (omega (arith, high, b.requires.within), b.requires.few-first)),
      ),
    )

enum_told : tie.Need-enum_told-1 invariant-loop2 decreases-loop2 invariant-loop decreases-loop
enum_told c = search rules

add-j : tie.Need-overflow_add-j invariant-loop2 decreases-loop2 invariant-loop decreases-loop
add-j c = search rules

loop2-less : tie.Need-loop-j-2-smaller-in-Skipped invariant-loop2 decreases-loop2 invariant-loop decreases-loop
loop2-less c = omega (arith, (next c.before.before.before).0, c.if-j-end.true)

loop2-again : tie.Need-loop-j-2-preserved-in-Skipped invariant-loop2 decreases-loop2 invariant-loop decreases-loop
loop2-again c =
    let f = c.before.before.before in (
      omega (arith, (inner f).loop-j-2.invariant.0, (next f).0),
      omega (arith, c.if-j-end.true),
      λ x y z s. walking-skipped (on f x y z s) (sym c.look_left-seen.ensures ∙ c.in-Skipped.is),
    )

enum-told-2 : tie.Need-enum_told-in-Nothing invariant-loop2 decreases-loop2 invariant-loop decreases-loop
enum-told-2 c = search rules

add-looked-2 : tie.Need-overflow_add-looked-in-Nothing invariant-loop2 decreases-loop2 invariant-loop decreases-loop
add-looked-2 c = omega (arith, few (found c.before))

add-j-2 : tie.Need-overflow_add-j-in-Nothing invariant-loop2 decreases-loop2 invariant-loop decreases-loop
add-j-2 c = search rules

loop2-less-2 : tie.Need-loop-j-2-smaller-in-Nothing invariant-loop2 decreases-loop2 invariant-loop decreases-loop
loop2-less-2 c = omega (arith, (next c.before.before.before).0, c.if-j-end.true)

loop2-again-2 : tie.Need-loop-j-2-preserved-in-Nothing invariant-loop2 decreases-loop2 invariant-loop decreases-loop
loop2-again-2 c =
    let f = c.before.before.before in (
      omega (arith, (inner f).loop-j-2.invariant.0, (next f).0),
      omega (arith, c.if-j-end.true),
      λ x y z s. walking-nothing (on f x y z s) (sym c.look_left-seen.ensures ∙ c.in-Nothing.is),
    )

enum-known-seen : tie.Need-enum_known-seen invariant-loop2 decreases-loop2 invariant-loop decreases-loop
enum-known-seen c = search rules

same_length : tie.Need-shape_of-marks-then-rows-part invariant-loop2 decreases-loop2 invariant-loop decreases-loop
same_length c = (at (inner (found (saw c.before)))).marks

same-length-2 : tie.Need-shape_of-indices-then-rows-part invariant-loop2 decreases-loop2 invariant-loop decreases-loop
same-length-2 c = (at (inner (found (saw c.before)))).indices

same-length-3 : tie.Need-shape_of-points-then-rows-part invariant-loop2 decreases-loop2 invariant-loop decreases-loop
same-length-3 c = (at (inner (found (saw c.before)))).points

returns : tie.Need-returns-then-rows-part invariant-loop2 decreases-loop2 invariant-loop decreases-loop
returns c =
    let n = c.before in
    let k = saw n in
    let f = found k in
    let t = top (of-block (inner f)) in
    let within : f.next_left-next.result < (start t).args.to = omega (arith, k.if-j-end.true, end-inside (of-block (inner f))) in
    record {
      walking = on f _ _ _ t.loop-j.invariant.0;
      high = omega (arith, within);
      done = λ e. absurd (true≢false e);
      stops = λ e. (within, c.if-rows-part.true, (_, sym k.look_left-seen.ensures ∙ n.in-Made.is));
    }

put-row-requires : tie.Need-put_row-requires invariant-loop2 decreases-loop2 invariant-loop decreases-loop
put-row-requires c κs =
    let m = inner (found (saw c.before.before.before)) in
    let b = start (top (of-block m)) in
    (omega (arith, (at m).indices, b.requires.room, c.if-rows-part.false), omega (arith, (at m).points, b.requires.points-room, c.if-rows-part.false))

mark-of-requires : tie.Need-mark_of-requires invariant-loop2 decreases-loop2 invariant-loop decreases-loop
mark-of-requires c κs =
    let f = found (saw c.before.before.before.before.before.before.before.before.before) in
    let b = start (top (of-block (inner f))) in
    (b.requires.few-first, short f, b.requires.sieves.fair)

note-requires : tie.Need-note-requires invariant-loop2 decreases-loop2 invariant-loop decreases-loop
note-requires c κs = search rules

add-rows : tie.Need-overflow_add-rows invariant-loop2 decreases-loop2 invariant-loop decreases-loop
add-rows c = search rules

add-looked-3 : tie.Need-overflow_add-looked-in-Made invariant-loop2 decreases-loop2 invariant-loop decreases-loop
add-looked-3 c = omega (arith, few (found (saw (roomy c).before)))

add-j-3 : tie.Need-overflow_add-j-in-Made invariant-loop2 decreases-loop2 invariant-loop decreases-loop
add-j-3 c = omega (arith, short (found (saw (roomy c).before)))

loop2-less-3 : tie.Need-loop-j-2-smaller-in-Made invariant-loop2 decreases-loop2 invariant-loop decreases-loop
loop2-less-3 c = let q = (saw (roomy c).before).before in omega (arith, (next q.before).0, q.if-j-end.true)

loop2-again-3 : tie.Need-loop-j-2-preserved-in-Made invariant-loop2 decreases-loop2 invariant-loop decreases-loop
loop2-again-3 c =
    let e = roomy c in
    let n = e.before in
    let k = saw n in
    let f = k.before.before in
    let w = c.put_row.ensures in (
      omega (arith, (inner f).loop-j-2.invariant.0, (next f).0),
      omega (arith, k.if-j-end.true),
      λ x y z s.
          walking-made (on f x y z s) _ (sym k.look_left-seen.ensures ∙ n.in-Made.is) e.if-rows-part.false _ _ _ _
          w.0 w.1 c.mark_of.ensures c.note.ensures,
    )

loop2-less-4 : tie.Need-loop-j-2-smaller invariant-loop2 decreases-loop2 invariant-loop decreases-loop
loop2-less-4 c = search rules

loop2-again-4 : tie.Need-loop-j-2-preserved invariant-loop2 decreases-loop2 invariant-loop decreases-loop
loop2-again-4 c =
    let f = c.before in (omega (arith, (inner f).loop-j-2.invariant.0, (next f).0), (next f).1, λ x y z s. on f x y z s)

same-length-4 : tie.Need-shape_of-marks invariant-loop2 decreases-loop2 invariant-loop decreases-loop
same-length-4 c = search rules

same-length-5 : tie.Need-shape_of-indices invariant-loop2 decreases-loop2 invariant-loop decreases-loop
same-length-5 c = search rules

same-length-6 : tie.Need-shape_of-points invariant-loop2 decreases-loop2 invariant-loop decreases-loop
same-length-6 c = search rules

returns-2 : tie.Need-returns invariant-loop2 decreases-loop2 invariant-loop decreases-loop
returns-2 c =
    record {
      walking = c.loop-j.invariant.0;
      high = c.loop-j.invariant.1;
      done = λ e. omega (arith, c.loop-j.invariant.1, c.loop-j-test.false);
      stops = λ e. absurd (true≢false (sym e));
    }

pub walk_left_spec : {M : Type 1} → statement M
walk_left_spec =
    tie.close
    (tie.spec
    invariant-loop2 decreases-loop2 invariant-loop decreases-loop
    side-of-requires loop-holds add-lesser lesser-requires slice-aggregate-sift sift-requires loop2-holds loop-less loop-again slice-aggregate-next-left next-left-requires sub-looked add-looked look-left-requires enum_told add-j loop2-less loop2-again enum-told-2 add-looked-2 add-j-2 loop2-less-2 loop2-again-2 enum-known-seen same_length same-length-2 same-length-3 returns put-row-requires mark-of-requires note-requires add-rows add-looked-3 add-j-3 loop2-less-3 loop2-again-3 loop2-less-4 loop2-again-4 same-length-4 same-length-5 same-length-6 returns-2)
