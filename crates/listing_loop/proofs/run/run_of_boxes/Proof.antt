-- `listing_loop::run::run_of_boxes` meets its contract: each return is a branch of the definition.
use mathlib.Core.Path.{◌≡◌, refl, ap, ◌∙◌}
use native.Mathlib.Omega.{arith}
use borrow.Author.Rules.{rules}
use Rattle.float_laws.specs.Branches.{holds, fails}
use Rattle.boxes.specs.Workings.Next.{First, first-is}
use Rattle.listing_loop.specs.Workings.Runs.{run_of_boxes, run_of}
use Rattle.listing_loop.proofs.run.run_of_boxes.Statement.{statement}
use Rattle.listing_loop.proofs.run.run_of_boxes.Tie as tie

pub run_of_boxes_spec : {M : Type 1} → statement M
unfolding run_of_boxes
run_of_boxes_spec =
    tie.close
    (tie.spec
    (λ c. omega (arith, c.requires.1))
    (λ c κs. let p = c.requires in
    (p.0 c.if-job.true, p.1))
    (λ c κs. let p = c.requires in
    let g = p.0 c.if-job.true in
    let f = first-is _ _ _ _ p.1.0 c.next_by_groups-from.ensures in
    (f.high, omega (arith, g.once.room, p.1)))
    (λ c. holds _ _ _ _ c.if-job.true (run_of _ _ _ _ _ _ c.next_by_groups-from.ensures c.next_apart-to.ensures))
    (λ c. fails _ _ _ _ c.if-job.false refl))
