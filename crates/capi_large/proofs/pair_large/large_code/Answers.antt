-- `large_code` meets its contract, case by case.
use Rattle.capi_large.proofs.pair_large.large_code.Goals as goal

pub returns-in-NoRoom : goal.returns-in-NoRoom
returns-in-NoRoom c = simp (c.in-Err.is, c.in-NoRoom.is)

pub returns-in-Refused : goal.returns-in-Refused
returns-in-Refused c = simp (c.in-Err.is, c.in-Refused.is, c.word.ensures)

pub returns-in-Ok : goal.returns-in-Ok
returns-in-Ok c = simp c.in-Ok.is
