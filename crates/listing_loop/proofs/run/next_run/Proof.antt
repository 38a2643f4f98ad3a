-- `listing_loop::run::next_run` meets its contract: each return is a branch of the definition, and the indices that the traces
-- are compared at lie in the second path.
use mathlib.Core.Path.{◌≡◌}
use Prim.Native.Nat.{◌≤◌}
use native.Mathlib.Omega.{arith}
use borrow.Author.Rules.{rules}
use Rattle.float_laws.specs.Branches.{holds, fails}
use Rattle.boxes.specs.Workings.Next.{First, first-is}
use Rattle.listing_loop.specs.Workings.Runs.{next_run, boxes-within, other-of}
use Rattle.listing_loop.proofs.run.next_run.Statement.{statement}
use Rattle.listing_loop.proofs.run.next_run.Tie as tie

-- the run by boxes lies within the bounds
within : (c : tie.After-run_of_boxes-all)
    → (c.run_of_boxes-all.result.from ≤ c.run_of_boxes-all.result.to) × (c.run_of_boxes-all.result.to ≤ c.args.end)
within c = boxes-within _ _ _ _ _ _ c.requires.1.0.0 c.run_of_boxes-all.ensures

pub next_run_spec : {M : Type 1} → statement M
unfolding next_run
next_run_spec =
    tie.close
    (tie.spec
    (λ c κs. let p = c.requires in (p.0, p.1.0))
    (λ c κs. let w = within c.before in
    let p = c.requires in (
      (w.0, omega (arith, w.1, p.1.0), p.1.1.0),
      (p.1.1.1, c.if-trace.true),
    ))
    (λ c κs. let b = c.before.before in
    let w = within b in
    let f = first-is _ _ _ _ w.0 c.next_other_by_groups-from.ensures in
    let p = b.requires in (
      (f.high, omega (arith, w.1, p.1.0), p.1.1.0),
      p.1.1.1,
    ))
    (λ c. holds _ _ _ _ c.if-trace.true
    (other-of _ _ _ _ _ _ c.run_of_boxes-all.ensures c.next_other_by_groups-from.ensures c.next_same_by_groups-to.ensures))
    (λ c. fails _ _ _ _ c.if-trace.false c.run_of_boxes-all.ensures))
