-- `layout_listing::begins_with` meets its contract: one turn compares one byte. Assumes nothing.
use Rattle.std.proofs.Common.{sym}
use Rattle.layout_listing.specs.Laws.Begins.{too_short, at-end, at_other, at_same}
use Rattle.layout_listing.proofs.begins_with.Goals as goal

pub returns-then-bytes-line : goal.returns-then-bytes-line
returns-then-bytes-line c = sym (too_short _ _ c.if-bytes-line.true)

pub returns-then-bytes-i : goal.returns-then-bytes-i
returns-then-bytes-i c = at_other _ _ _ _ c.loop-i.invariant c.loop-i-test.true c.if-bytes-line.false c.if-bytes-i.true

pub loop-i-preserved : goal.loop-i-preserved
loop-i-preserved c = at_same _ _ _ _ c.loop-i.invariant c.loop-i-test.true c.if-bytes-line.false c.if-bytes-i.false

pub returns : goal.returns
returns c = at-end _ c.args.bytes.now c.loop-i.i _ c.loop-i.invariant c.loop-i-test.false
