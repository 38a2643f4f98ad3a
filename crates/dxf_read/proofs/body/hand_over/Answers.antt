-- A path that the checks accept is copied, and there is room for it.
use native.Mathlib.Omega.{arith}
use Rattle.checks.specs.Laws.Steps.{raised}
use Rattle.dxf_read.proofs.Ends.{enough, refused, accepted}
use Rattle.dxf_read.proofs.body.hand_over.Goals as goal

pub returns-in_err-later : goal.returns-in_err-later
returns-in_err-later c =
    rw (raised c.from_residual.ensures)
    (refused _ _ _ _ c.at.ensures _ c.refuse-fits.ensures _ c.later.ensures _ _ _ c.in_err-later.was)

pub copy-requires : goal.copy-requires
copy-requires c =
    let room = enough c.args.n c.args.path.now _ _ c.at.ensures _ c.refuse-fits.ensures _ c.later.ensures c.in_ok-later.was in
    record { many_in_from = omega (arith, c.requires.room_in_bounds); many_in_to = omega (arith, room) }

pub returns : goal.returns
returns c =
    accepted _ _ _ _ c.at.ensures _ c.refuse-fits.ensures _ c.later.ensures _ _ c.in_ok-later.was _ c.copy.ensures
