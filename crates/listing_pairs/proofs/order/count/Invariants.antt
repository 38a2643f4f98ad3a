-- The pairs of the first i segments are counted.
use Rattle.listing_pairs.specs.Workings.Position.{Counting}
use Rattle.listing_pairs.proofs.order.count.Given as goal

abbrev pub invariant-loop-i : goal.invariant-loop-i
invariant-loop-i l = Counting l.job l.sum l.i
