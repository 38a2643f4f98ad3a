-- `ranges::range::on_segment_by_length` meets its contract: its calls are the definition's.
use borrow.Author.Rules.{rules}
use Rattle.ranges.specs.Range.{on_segment}
use Rattle.ranges.proofs.range.on_segment_by_length.Statement.{statement}
use Rattle.ranges.proofs.range.on_segment_by_length.Tie as tie

returns : tie.Need-returns
unfolding on_segment
returns c = simp (← c.length-length.ensures, ← c.fuzzy_in_range_eps.ensures)

pub on_segment_by_length_spec : {M : Type 1} → statement M
on_segment_by_length_spec = tie.close (tie.spec (search rules) (search rules) returns)
