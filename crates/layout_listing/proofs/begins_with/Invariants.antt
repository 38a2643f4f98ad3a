-- The loop of `layout_listing::begins_with`: what is said of the bytes and of the line that are left is what is said of all of
-- them.
use Rattle.std.proofs.Common.{◌≡◌, drop}
use Rattle.layout_listing.specs.Answer.{begins}
use Rattle.layout_listing.proofs.begins_with.Given as goal

abbrev pub invariant-loop-i : goal.invariant-loop-i
invariant-loop-i l = begins (drop l.i l.line) (drop l.i l.bytes) ≡ begins l.line l.bytes
