-- `layout_text::number::count` meets its contract: its test is the definition's. Assumes nothing.
use Rattle.std.proofs.Common.{drop-drop}
use Rattle.layout_text.specs.Workings.Reader.{count_of}
use Rattle.layout_text.proofs.Digits.{first_byte}
use Rattle.layout_text.proofs.number.count.Goals as goal

pub returns-then-kind_at-eq0 : goal.returns-then-kind_at-eq0
unfolding count_of
returns-then-kind_at-eq0 c = simp drop-drop (search first_byte)

pub returns : goal.returns
unfolding count_of
returns c = search first_byte
