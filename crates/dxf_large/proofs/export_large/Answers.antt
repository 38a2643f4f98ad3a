-- The shape, the path's own checks, and the rest if they are fine.
use Rattle.std.proofs.Common.{sym}
use Rattle.checks.specs.Laws.Steps.{raised, passes}
use Rattle.cuts.specs.LargeChecks.{large_path_checks}
use Rattle.dxf_large.specs.Large.{export_large}
use Rattle.dxf_write.specs.Laws.Ends.{shape-refused, path-refused, path-fine, short-enough}
use Rattle.dxf_large.proofs.export_large.Goals as goal

pub returns-in_err-shape : goal.returns-in_err-shape
unfolding export_large
returns-in_err-shape c =
    rw (raised c.from_residual.ensures) (shape-refused large_path_checks _ c.args.closed _ c.shape.ensures c.in_err-shape.was)

pub returns-in_err-check_large_path : goal.returns-in_err-check_large_path
unfolding export_large
returns-in_err-check_large_path c =
    rw (raised c.from_residual-in_err-check_large_path.ensures)
    (path-refused large_path_checks _ _ _ c.shape.ensures (passes (sym c.in_ok-shape.was) c.check_large_path.ensures) c.in_err-check_large_path.was)

pub export_checked-requires : goal.export_checked-requires
export_checked-requires c = short-enough _ c.shape.ensures c.in_ok-shape.was

pub returns : goal.returns
unfolding export_large
returns c =
    path-fine large_path_checks _ _ _ c.shape.ensures (passes (sym c.in_ok-shape.was) c.check_large_path.ensures) c.in_ok-check_large_path.was
    c.export_checked.ensures
