-- The loop of `layout_text::number::digits`: what is left of the text, after the digits so far, reads as the whole does.
use Rattle.std.proofs.Common.{◌≡◌, ◌≤◌, drop}
use Rattle.layout_text.specs.Workings.Reader.{digits_of}
use Rattle.layout_text.proofs.number.digits.Given as goal

abbrev pub invariant-loop-i : goal.invariant-loop-i
invariant-loop-i l =
    (l.n ≤ l.most)
    × (digits_of l.negative l.most l.end l.n (drop l.i l.text) ≡ digits_of l.negative l.most l.end 0 (drop l.start l.text))
