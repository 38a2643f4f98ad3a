-- Each turn stores the box of one segment. The numbers stand before the boxes and stay.
use Rattle.boxes.specs.Workings.Stored.{storing-starts, storing-turn, storing-ends, box-of-segment}
use Rattle.boxes.specs.Groups.{segment_box}
use Rattle.listing_pairs.specs.Workings.Keeping.{chord-known, kept-while}
use Rattle.listing_pairs.proofs.keeping.keep_segment_boxes.Goals as goal

pub loop-j-init : goal.loop-j-init
loop-j-init c = storing-starts _

-- what is kept of segment j stands where it did
pub box_with-b-requires : goal.box_with-b-requires
box_with-b-requires c =
    let still = kept-while (segment_box c.args.path.now c.args.epsilon) c.requires.all_kept c.loop-j.invariant c.loop-j.j
    c.loop-j-test.true in
    chord-known _ _ _ _ _ _ still c.segment_from-s.ensures c.kept_at-k.ensures

pub loop-j-preserved : goal.loop-j-preserved
loop-j-preserved c =
    rw c.put_box.ensures
    (storing-turn c.loop-j.invariant _ c.loop-j-test.true
    (box-of-segment _ _ _ _ _ c.segment_from-s.ensures c.box_with-b.ensures))

pub returns : goal.returns
returns c = storing-ends c.loop-j.invariant c.loop-j-test.false
