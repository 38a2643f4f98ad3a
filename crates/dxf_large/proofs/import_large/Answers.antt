-- A fault of the text is told, and what its groups give is checked and copied.
use mathlib.Core.Path.{◌≡◌, refl}
use native.Mathlib.Omega.{arith}
use lib.ListN.{length, replicate, length-replicate}
use lib.Ieee.{Float, binary64, of_bits}
use Rattle.checks.specs.Laws.Steps.{raised}
use Rattle.cuts.specs.LargeChecks.{large_path_checks}
use Rattle.dxf_large.specs.Large.{import_large}
use Rattle.dxf_read.specs.Workings.Scanning.{room}
use Rattle.dxf_read.specs.Laws.Ends.{text-fault, body-found}
use Rattle.dxf_large.proofs.import_large.Goals as goal

long : length (let z : Float = of_bits binary64 0 in replicate room z) ≡ room
long = let z : Float = of_bits binary64 0 in length-replicate room z

pub returns-in_err-read : goal.returns-in_err-read
unfolding import_large
returns-in_err-read c =
    rw (raised c.from_residual.ensures) (text-fault large_path_checks _ _ _ _ _ c.scan.ensures _ c.in_err-read.was _ refl)

pub returns : goal.returns
unfolding import_large
returns c =
    body-found large_path_checks _ _ _ _ _ c.scan.ensures _ c.in_ok-read.was (omega arith) (omega (arith, long)) _ _
    c.finish_large.ensures
