-- The pairs of the first i segments are taken off the position.
use Rattle.listing_pairs.specs.Workings.Position.{Locating}
use Rattle.listing_pairs.proofs.order.locate.Given as goal

abbrev pub invariant-loop-i : goal.invariant-loop-i
invariant-loop-i l = Locating l.job l.position l.rest l.i
