-- The count, the path's own checks, and the rest if the count is fine.
use mathlib.Core.Path.{sym}
use native.Mathlib.Omega.{arith}
use lib.Seq.{length-take-le}
use Rattle.checks.specs.Laws.Steps.{raised, passes}
use Rattle.paths.specs.Check.{path_checks}
use Rattle.dxf_read.specs.Workings.Finishing.{finished}
use Rattle.dxf_read.specs.Laws.Ends.{count-refused, few-vertices, handed-over}
use Rattle.dxf_read.proofs.finish.Goals as goal

pub returns-in_err-check_count : goal.returns-in_err-check_count
unfolding finished
returns-in_err-check_count c =
    rw (raised c.from_residual.ensures)
    (count-refused path_checks _ _ _ _ _ _ _ c.check_count.ensures _ c.in_err-check_count.was)

pub overflow_mul-n : goal.overflow_mul-n
overflow_mul-n c =
    let few = few-vertices _ _ _ _ c.check_count.ensures c.in_ok-check_count.was in
    omega (arith, few)

pub slice_bounds-check_path-end : goal.slice_bounds-check_path-end
slice_bounds-check_path-end c =
    let few = few-vertices _ _ _ _ c.check_count.ensures c.in_ok-check_count.was in
    sym (length-take-le _ _ (omega (arith, few)))

pub hand_over-requires : goal.hand_over-requires
hand_over-requires c =
    record {
      n_le_most_vertices = few-vertices _ _ _ _ c.check_count.ensures c.in_ok-check_count.was;
      room_in_bounds = c.requires;
    }

pub returns : goal.returns
unfolding finished
returns c =
    handed-over path_checks _ _ _ _ _ _ _ c.check_count.ensures c.in_ok-check_count.was _
    (passes (sym c.in_ok-check_count.was) c.check_path-checked.ensures) _ _ c.hand_over.ensures
