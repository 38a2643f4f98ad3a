-- What the code's answers stand for: the code answers a place in the text, and the definitions what remains of the text from
-- there.
use Rattle.std.specs.Prelude.{ℕ, eqb, List, drop, ℤ, Option, None, Some}
use Rattle.layouts.specs.Layout.{whole}
use Rattle.dxf_form.specs.Workings.Reader.{Got, nothing, got, Passed, cut, over}
use Rattle.dxf_form.specs.Workings.Reader as reader
use Rattle.dxf_read.specs.declared.digits.Run.{Run}
use Rattle.dxf_read.specs.declared.line.Whole.{Whole}
use Rattle.dxf_read.specs.declared.line.Number.{Number}

abbrev pub shown_run : List ℕ → Run → reader.Run
shown_run text r = record { number = r.number; many = r.many; rest = drop r.next text }

unfoldable pub shown_whole : List ℕ → Option Whole → Got ℕ
shown_whole text None = nothing
shown_whole text (Some w) = got w.number (drop w.next text)

unfoldable pub shown_number : List ℕ → Option Number → Got ℤ
shown_number text None = nothing
shown_number text (Some n) = got (whole (eqb n.minuses 1) n.millionths) (drop n.next text)

unfoldable pub shown_place : List ℕ → Option ℕ → Passed
shown_place text None = cut
shown_place text (Some next) = over (drop next text)
