-- `layout_text::number::positive` meets its contract: its tests are the definition's. Assumes nothing.
use Rattle.layout_text.specs.Workings.Reader.{positive_of}
use Rattle.layout_text.specs.Workings.Shown.{shown_number}
use Rattle.layout_text.proofs.Digits.{first_byte}
use Rattle.layout_text.proofs.number.positive.Goals as goal

pub returns-then-k-eq0 : goal.returns-then-k-eq0
unfolding positive_of shown_number
returns-then-k-eq0 c = search first_byte

pub returns-then-k-gt9 : goal.returns-then-k-gt9
unfolding positive_of shown_number
returns-then-k-gt9 c = search first_byte

pub returns : goal.returns
unfolding positive_of shown_number
returns c = search first_byte
