-- A fault of the text is told, and what its groups give is checked and copied.
use native.Mathlib.Omega.{arith}
use Rattle.checks.specs.Laws.Steps.{raised}
use lib.ListN.{length, replicate, length-replicate}
use lib.Ieee.{Float, binary64, of_bits}
use mathlib.Core.Path.{◌≡◌, refl}
use Rattle.paths.specs.Check.{path_checks}
use Rattle.dxf_read.specs.Import.{import_dxf}
use Rattle.dxf_read.specs.Workings.Scanning.{room}
use Rattle.dxf_read.specs.Workings.Finishing.{finished}
use Rattle.dxf_read.specs.Laws.Ends.{text-fault, body-found}
use Rattle.dxf_read.proofs.import_dxf.Goals as goal

long : length (let z : Float = of_bits binary64 0 in replicate room z) ≡ room
long = let z : Float = of_bits binary64 0 in length-replicate room z

pub returns-in_err-read : goal.returns-in_err-read
unfolding import_dxf
returns-in_err-read c =
    rw (raised c.from_residual.ensures) (text-fault path_checks _ _ _ _ _ c.scan.ensures _ c.in_err-read.was _ refl)

pub returns : goal.returns
unfolding import_dxf finished
returns c =
    body-found path_checks _ _ _ _ _ c.scan.ensures _ c.in_ok-read.was (omega arith) (omega (arith, long)) _ _ c.finish.ensures
