-- `layout_packed::number::number_at` meets its contract: its tests on the first byte are the definition's. Assumes nothing.
use Rattle.layout_packed.specs.Workings.Shown.{shown_number}
use Rattle.layout_packed.proofs.Groups.{no_byte, one-beyond, one-group, more-groups}
use Rattle.layout_packed.proofs.number.number_at.Goals as goal

pub returns-then-bytes-start : goal.returns-then-bytes-start
unfolding shown_number
returns-then-bytes-start c = search no_byte

pub returns-then-b-most : goal.returns-then-b-most
unfolding shown_number
returns-then-b-most c = search one-beyond

pub returns-then-b-lt128 : goal.returns-then-b-lt128
unfolding shown_number
returns-then-b-lt128 c = search one-group

pub returns : goal.returns
returns c = search more-groups
