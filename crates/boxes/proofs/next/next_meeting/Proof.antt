-- `boxes::next::next_meeting` meets its contract: a group that does not meet has no member that does, and in the others
-- each member is looked at.
use mathlib.Core.Path.{ap, sym, ◌∙◌}
use Prim.Native.Nat.{◌-◌}
use native.Mathlib.Omega.{arith}
use borrow.Author.Rules.{rules}
use Rattle.boxes.specs.Box.{meet}
use Rattle.boxes.specs.Workings.Next.{meets, none-in-group}
use Rattle.boxes.specs.Workings.Next.{Finding, finding-starts, finding-over, finding-found, finding-past, finding-ends}
use Rattle.boxes.proofs.next.next_meeting.Statement.{statement}
use Rattle.boxes.proofs.next.next_meeting.Tie as tie

pub next_meeting_spec : {M : Type 1} → statement M
next_meeting_spec =
    tie.close
    (tie.spec
    (λ boxes from n b j end groups k₀ k. Finding (meets boxes from b) j end k)
    (λ boxes from n b j end groups k₀ k. end - k)
    (λ c. omega (arith, c.requires.0.room))
    (λ c. finding-starts _ _ _ c.requires.1.0)
    (λ c κs. omega (arith, c.loop-k-test.true, c.requires.1))
    (λ c. omega (arith, c.loop-k-test.true, c.requires.1))
    (λ c κs. let p = c.requires in
    omega (arith, c.loop-k-test.true, p.1, p.0.room))
    (λ c κs. search rules)
    (λ c κs. let p = c.requires in
    (omega (arith, c.loop-k-test.true, c.group_end-stop.ensures), omega (arith, c.group_end-stop.ensures, p.1, p.0.room)))
    (λ c. finding-found c.loop-k.invariant _ _ (omega (arith, c.loop-k-test.true, c.group_end-stop.ensures))
    (omega (arith, c.group_end-stop.ensures)) c.next_of_each-found.ensures c.if-found-stop.true)
    (λ c. omega (arith, c.loop-k-test.true, c.group_end-stop.ensures))
    (λ c. finding-past c.loop-k.invariant _ _ (omega (arith, c.loop-k-test.true, c.group_end-stop.ensures))
    (omega (arith, c.group_end-stop.ensures)) c.next_of_each-found.ensures c.if-found-stop.false)
    (λ c. omega (arith, c.loop-k-test.true, c.group_end-stop.ensures))
    (λ c. let p = c.requires in
    let apart = sym (c.meet.ensures ∙ ap (meet _) c.box_at.ensures) ∙ c.if-meet.false in
    finding-over c.loop-k.invariant _ (omega (arith, c.loop-k-test.true, c.group_end-stop.ensures))
    (omega (arith, c.group_end-stop.ensures))
    (none-in-group _ _ _ _ _ _ p.0 apart (omega (arith, c.loop-k-test.true, p.1))
    (omega (arith, c.group_end-stop.ensures, p.1)) (omega (arith, c.group_end-stop.ensures))))
    (λ c. finding-ends c.loop-k.invariant c.loop-k-test.false))
