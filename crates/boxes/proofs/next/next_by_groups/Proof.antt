-- `boxes::next::next_by_groups` meets its contract: groups before the next that meets have no member that does, and in that one
-- each member is looked at.
use Prim.Native.Nat.{ℕ, ◌+◌, ◌-◌, ◌/◌, ◌≤◌, ◌<◌}
use native.Mathlib.Nat.{le_refl}
use native.Mathlib.Omega.{arith}
use borrow.Author.Rules.{rules}
use Rattle.boxes.specs.Groups.{group_size}
use Rattle.boxes.specs.Workings.Next.{meets, First, first-is, in-group-lem, groups-over, in-time}
use Rattle.boxes.specs.Workings.Next.{Finding, finding-starts, finding-found, finding-past, finding-ends}
use Rattle.boxes.proofs.next.next_by_groups.Statement.{statement}
use Rattle.boxes.proofs.next.next_by_groups.Tie as tie

abbrev invariant-loop : tie.invariant-loop-k
invariant-loop boxes from n b j end groups k₀ k = Finding (meets boxes from b) j end k

abbrev decreases-loop : tie.decreases-loop-k
decreases-loop boxes from n b j end groups k₀ k = end - k

abbrev Loop : Type 0
Loop = tie.At-loop-k invariant-loop decreases-loop

abbrev start : Loop → tie.Start invariant-loop decreases-loop
start l = l.before.before.before

next-meeting-requires : tie.Need-next_meeting-g-requires invariant-loop decreases-loop
next-meeting-requires c κs =
    let l = c.before in
    let p = (start l).requires in
    let is = l.group_count-groups.ensures in (
      rw is p.0.twice,
      (omega (arith, c.loop-k-test.true, p.1, is), omega arith, omega (arith, p.1, is)),
    )

-- the next group that meets
next : (c : tie.After-next_meeting-g invariant-loop decreases-loop)
    → let l = c.before.before in
    let a = (start l).args in
    First (meets a.boxes.now (a.from + a.n) a.b) (l.loop-k.k / group_size) l.group_count-groups.result c.next_meeting-g.result
next c =
    let l = c.before.before in
    let p = (start l).requires in
    first-is _ _ _ _ (omega (arith, c.loop-k-test.true, p.1, l.group_count-groups.ensures)) c.next_meeting-g.ensures

-- a place up to which no member meets
over : (c : tie.After-in_group-at invariant-loop decreases-loop)
    → let l = c.before.before.before in
    let a = (start l).args in
    (m : ℕ) → l.loop-k.k ≤ m → m ≤ c.in_group-at.result → m ≤ a.end → Finding (meets a.boxes.now a.from a.b) a.j a.end m
over c m low high within =
    let l = c.before.before.before in
    let p = (start l).requires in
    groups-over (start l).args.b l.loop-k.invariant p.0.once (next c.before) (in-group-lem _ _ _ c.in_group-at.ensures) m low high within p.1.1

returns : tie.Need-returns-then-end-at invariant-loop decreases-loop
returns c =
    let g = c.before in
    finding-ends (over g _ (omega (arith, g.loop-k-test.true)) c.if-end-at.true (le_refl _)) (le_refl _)

-- the search goes on at a place in that group
found : (c : tie.After-group_end-stop invariant-loop decreases-loop)
    → let g = c.before.before in
    let l = g.before.before.before in
    let a = (start l).args in
    Finding (meets a.boxes.now a.from a.b) a.j a.end g.in_group-at.result
found c =
    let g = c.before.before in
    over g _ (in-group-lem _ _ _ g.in_group-at.ensures).low (le_refl _) (omega (arith, c.if-end-at.false))

before-stop : (c : tie.After-group_end-stop invariant-loop decreases-loop) → c.in_group-at.result < c.group_end-stop.result
before-stop c =
    let l = c.before.before.before.before.before in
    let soon = in-time (start l).args.b l.loop-k.invariant (start l).requires.0.once (next c.before.before.before)
    (in-group-lem _ _ _ c.in_group-at.ensures) in
    omega (arith, c.group_end-stop.ensures, c.if-end-at.false, soon)

next-of-each-requires : tie.Need-next_of_each-found-requires invariant-loop decreases-loop
next-of-each-requires c κs =
    let p = (start c.before.before.before.before.before).requires in
    (omega (arith, before-stop c), omega (arith, c.group_end-stop.ensures, p.1, p.0.once.room))

returns-2 : tie.Need-returns-then-found-stop invariant-loop decreases-loop
returns-2 c =
    let e = c.before.before in
    finding-found (found e) _ _ (omega (arith, before-stop e)) (omega (arith, e.group_end-stop.ensures))
    c.next_of_each-found.ensures c.if-found-stop.true

loop-less : tie.Need-loop-k-smaller invariant-loop decreases-loop
loop-less c =
    let e = c.before.before in
    let low = (in-group-lem _ _ _ e.in_group-at.ensures).low in
    omega (arith, before-stop e, low, e.loop-k-test.true, e.group_end-stop.ensures)

loop-again : tie.Need-loop-k-preserved invariant-loop decreases-loop
loop-again c =
    let e = c.before.before in
    finding-past (found e) _ _ (omega (arith, before-stop e)) (omega (arith, e.group_end-stop.ensures))
    c.next_of_each-found.ensures c.if-found-stop.false

pub next_by_groups_spec : {M : Type 1} → statement M
next_by_groups_spec =
    tie.close
    (tie.spec
    invariant-loop decreases-loop
    (λ c κs. search rules)
    (λ c. finding-starts _ _ _ c.requires.1.0)
    (λ c. omega (arith, (start c.before).requires.0.once.room))
    next-meeting-requires
    (λ c κs. let l = c.before.before in
    omega (arith, (next c).high, (start l).requires.1, l.group_count-groups.ensures))
    returns
    (λ c κs. let m = c.before.before in
    let l = m.before.before in
    omega (arith, (next m).high, (start l).requires.1, l.group_count-groups.ensures))
    next-of-each-requires returns-2 loop-less loop-again
    (λ c. finding-ends c.loop-k.invariant c.loop-k-test.false))
