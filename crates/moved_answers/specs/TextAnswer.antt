-- What the program `crossings` answered to a text, up to request 12: "refused 10" if the text breaks its form, else the text lines
-- of its layout. No function computes it any more; SameLines.antt compares the answers of now with it.
use Rattle.std.specs.Prelude.{ℕ, List}
use Rattle.layouts.specs.Numbers.{path_of}
use Rattle.layout_text.specs.Form.{refusal}
use Rattle.layout_text.specs.Workings.Reader.{Taken, broken, layout, reads}
use Rattle.answer_lines.specs.Lines.{refused_text}
use Rattle.layout_listing.specs.Answer.{lines_for}

abbrev pub text_answer_of : Taken → List ℕ
text_answer_of broken = refused_text refusal
text_answer_of (layout l) = lines_for (path_of l.first) (path_of l.second)

unfoldable pub text_answer : List ℕ → List ℕ
text_answer text = text_answer_of (reads text)
