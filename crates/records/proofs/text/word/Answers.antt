-- `records::text::word` meets its contract: one turn reads one digit. Assumes nothing.
use Rattle.records.proofs.Spelling.{at-end, at-digit, at_other}
use Rattle.records.proofs.text.word.Goals as goal

pub returns-then-d-gt15 : goal.returns-then-d-gt15
returns-then-d-gt15 c = search at_other

pub loop-b-preserved : goal.loop-b-preserved
loop-b-preserved c = search at-digit

pub returns : goal.returns
returns c = search at-end
