-- The newline ends the line, and any other byte is skipped.
use Rattle.dxf_read.specs.Workings.Shown.{shown_place}
use Rattle.dxf_read.proofs.Bytes.{skip-end, skip-over, skip-more}
use Rattle.dxf_read.proofs.line.skip_line.Goals as goal

pub returns-then-byte_at-eq-NEWLINE : goal.returns-then-byte_at-eq-NEWLINE
unfolding shown_place
returns-then-byte_at-eq-NEWLINE c =
    skip-over _ _ _ c.loop-i.invariant c.loop-i-test.true _ c.byte_at.ensures.value c.if-byte_at-eq-NEWLINE.true

pub loop-i-preserved : goal.loop-i-preserved
loop-i-preserved c =
    skip-more _ _ _ c.loop-i.invariant c.loop-i-test.true _ c.byte_at.ensures.value c.if-byte_at-eq-NEWLINE.false

pub returns : goal.returns
unfolding shown_place
returns c = skip-end _ _ _ c.loop-i.invariant c.loop-i-test.false
