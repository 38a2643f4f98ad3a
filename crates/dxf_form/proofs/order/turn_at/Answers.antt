-- A code that is none of the five has the turn of any other: none of the tests holds.
use Rattle.dxf_form.specs.Laws.Turns.{codes}
use Rattle.dxf_form.proofs.order.turn_at.Goals as goal

pub returns : goal.returns
returns c = search codes depth 10
