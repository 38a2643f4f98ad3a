-- `listing_loop::run::next_same_by_groups` meets its contract: what was passed has another trace, one by one or as a group, and
-- what it stops at has this one.
use mathlib.Core.Path.{ap}
use Prim.Native.Nat.{◌-◌}
use native.Mathlib.Omega.{arith}
use borrow.Author.Rules.{rules}
use lib.Ieee.{Float}
use Rattle.floats.specs.Ops.{◌≈◌}
use Rattle.boxes.specs.Workings.Next.{Finding, finding-starts, finding-here, finding-on, finding-over, finding-ends}
use Rattle.listing_pairs.specs.Workings.Tracks.{same, others-clear}
use Rattle.listing_loop.proofs.run.next_same_by_groups.Statement.{statement}
use Rattle.listing_loop.proofs.run.next_same_by_groups.Tie as tie

abbrev invariant-loop : tie.invariant-loop-k
invariant-loop path kept n trace j end k₀ k = Finding (same path trace) j end k

abbrev decreases-loop : tie.decreases-loop-k
decreases-loop path kept n trace j end k₀ k = end - k

abbrev start : tie.In-loop-k invariant-loop decreases-loop → tie.Start invariant-loop decreases-loop
start l = l.before.before.before.before

-- over a whole group, up to the end at most
passed : tie.Need-loop-k-preserved-then-k-past invariant-loop decreases-loop
passed c =
    let l = c.before.before.before in
    let p = (start l).requires in
    finding-over l.loop-k.invariant _
    (omega (arith, c.lesser-k.ensures, c.if-k-past.true, l.loop-k-test.true)) (omega (arith, c.lesser-k.ensures))
    (λ h low high. others-clear _ _ _ _ _ p.1 (omega (arith, l.loop-k-test.true, p.0.1)) h low
    (rw (← c.past_others-past.ensures) (omega (arith, c.lesser-k.ensures, high))))

pub next_same_by_groups_spec : {M : Type 1} → statement M
next_same_by_groups_spec =
    tie.close
    (tie.spec
    invariant-loop decreases-loop
    (λ c. finding-starts _ _ _ c.requires.0.0)
    (λ c κs. let p = (start c).requires in
    let t = p.1 in
    ((t.few, omega (arith, c.loop-k-test.true, p.0.1)), t.room))
    (λ c. search rules)
    (λ c. omega (arith, c.lesser-k.ensures, c.if-k-past.true, c.loop-k-test.true))
    passed
    (λ c κs. let l = c.before.before in omega (arith, l.loop-k-test.true, (start l).requires.0))
    (λ c. let l = c.before.before.before.before in
    finding-here l.loop-k.invariant _ l.loop-k-test.true
    (ap (◌≈◌ (start l).args.trace) c.trace.ensures) c.if-trace.true)
    (λ c. omega (arith, c.loop-k-test.true))
    (λ c. omega (arith, c.loop-k-test.true))
    (λ c. let l = c.before.before.before.before in
    finding-on l.loop-k.invariant _ l.loop-k-test.true
    (ap (◌≈◌ (start l).args.trace) c.trace.ensures) c.if-trace.false)
    (λ c. finding-ends c.loop-k.invariant c.loop-k-test.false))
