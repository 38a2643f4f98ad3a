-- `item_number` meets its contract: each item's number is the definition's.
use Rattle.std.specs.Prelude.{◌≡◌, refl}
use denote.Enum.Declared.{tag_of}
use Rattle.checks.specs.contracts.fault.Item.{the_type}
use Rattle.checks.specs.declared.fault.Item.{Item}
use Rattle.checks.specs.declared.fault.Item.TheVariants.{Epsilon, X, Y, Bulge, Radius, CenterX, CenterY, Chord, Length, Rows}
use Rattle.checks.specs.declared.fault.Item.TheVariants.{Position, Budget, Boxes, Trace, Report, Line, Room, CutX, CutY}
use Rattle.checks.specs.FaultNumbers as numbers
use Rattle.checks.proofs.word.item_number.Goals as goal

each : (i : Item) → tag_of the_type i ≡ numbers.item i
each Epsilon = refl
each X = refl
each Y = refl
each Bulge = refl
each Radius = refl
each CenterX = refl
each CenterY = refl
each Chord = refl
each Length = refl
each Rows = refl
each Position = refl
each Budget = refl
each Boxes = refl
each Trace = refl
each Report = refl
each Line = refl
each Room = refl
each CutX = refl
each CutY = refl

pub returns : goal.returns
returns c = each c.args.item
