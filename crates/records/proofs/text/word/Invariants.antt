-- The loop of `records::text::word`: what is left of the field, after the value so far, spells what the whole field does.
use Rattle.std.proofs.Common.{◌≡◌, drop}
use Rattle.records.specs.Text.{spelt, word_of}
use Rattle.records.proofs.text.word.Given as goal

abbrev pub invariant-loop-b : goal.invariant-loop-b
invariant-loop-b l = spelt l.value (drop l.b-index l.text) ≡ word_of l.text
