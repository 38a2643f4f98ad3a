-- `layout_text::number::whole` meets its contract: its test is the definition's. Assumes nothing.
use Rattle.std.proofs.Common.{drop-drop}
use Rattle.layout_text.specs.Workings.Reader.{whole_of}
use Rattle.layout_text.proofs.Digits.{first_byte}
use Rattle.layout_text.proofs.number.whole.Goals as goal

pub returns-then-kind_at-eq-MINUS : goal.returns-then-kind_at-eq-MINUS
unfolding whole_of
returns-then-kind_at-eq-MINUS c = simp drop-drop (search first_byte)

pub returns : goal.returns
unfolding whole_of
returns c = search first_byte
