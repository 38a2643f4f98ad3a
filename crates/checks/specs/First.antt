-- The first fault of a list of checks. A call that checks its numbers one after the other answers `first` of its list of checks,
-- in the scope's order.
use Rattle.checks.specs.Checked.{Checked}
use Rattle.std.specs.Prelude.{List, [], ◌∷◌, Ok}
use Rattle.checks.specs.Fault.{later}

abbrev pub first : List Checked → Checked
first [] = Ok tt
first (c ∷ cs) = later c (first cs)
