-- The loop of `put_text::put_word`: the rest of the word, put after what stands now, gives what the whole word gives.
use Rattle.std.proofs.Common.{◌≡◌, ◌+◌, drop}
use Rattle.std.proofs.lemmas.List.Edits.{sets}
use Rattle.put_text.proofs.put_word.Given as goal

abbrev pub invariant-loop-i : goal.invariant-loop-i
invariant-loop-i l = sets l.out (l.at + l.i) (drop l.i l.word) ≡ sets l.initial.out l.at l.word
