-- `flag` meets its contract: 1 or 0 of a bool.
use Rattle.std.specs.Prelude.{◌≡◌, refl, Bool, true, false}
use Rattle.std.proofs.Common.{◌∙◌}
use mir.Val.{bool_byte}
use Rattle.sieves.specs.Workings.Flags.{flag}
use Rattle.sieves.proofs.flags.flag.Goals as goal

each : (left : Bool) → bool_byte left ≡ flag left
unfolding flag
each true = refl
each false = refl

pub returns : goal.returns
returns c = c.from.ensures ∙ each c.args.left
