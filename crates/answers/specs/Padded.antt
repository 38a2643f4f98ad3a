-- A call's answer as plain numbers: whether it is a refusal, its number (the refusal's word or the case's number), and four
-- values. Values that the case lacks are +0.
use Rattle.crossing.specs.declared.line_line_intr.LineLineIntr.{LineLineIntr}
use Rattle.crossing.specs.declared.line_circle_intr.LineCircleIntr.{LineCircleIntr}
use Rattle.crossing.specs.declared.circle_circle_intr.CircleCircleIntr.{CircleCircleIntr}
use Rattle.arcs.specs.declared.pline_seg_intr.PlineSegIntr.{PlineSegIntr}
use Rattle.std.specs.Prelude.{ℕ, true, false, cond, List, [], ◌∷◌, Float, Result}
use Rattle.floats.specs.Ops.{f0}
use Rattle.checks.specs.declared.fault.Fault.{Fault}
use Rattle.checks.specs.Word.{word_of, word}
use Rattle.crossing.specs.AnswerNumbers.{AnswerNumbers}
use Rattle.crossing.specs.LineLineIntersect
use Rattle.crossing.specs.LineCircleIntersect
use Rattle.crossing.specs.CircleCircleIntersect
use Rattle.crossing.specs.PlineSegIntersect
use Rattle.answers.specs.declared.padded.PaddedAnswer.{PaddedAnswer}

-- ---- a refusal, and a case with its values

unfoldable pub refusal : Fault → PaddedAnswer
refusal f = record { refused = true; number = word f; a = f0; b = f0; c = f0; d = f0 }

unfoldable pub case : ℕ → Float → Float → Float → Float → PaddedAnswer
case n a b c d = record { refused = false; number = n; a = a; b = b; c = c; d = d }

-- ---- the numbers of an answer, filled up with +0 to four values

abbrev pub first_value : List Float → Float
first_value [] = f0
first_value (x ∷ xs) = x

abbrev pub later_values : List Float → List Float
later_values [] = []
later_values (x ∷ xs) = xs

abbrev pub padded : AnswerNumbers → PaddedAnswer
padded t =
    record {
      refused = t.refused;
      number = cond t.refused (word_of t.number t.owner t.index t.item) t.number;
      a = first_value t.values;
      b = first_value (later_values t.values);
      c = first_value (later_values (later_values t.values));
      d = first_value (later_values (later_values (later_values t.values)));
    }

unfoldable pub of_line_line : Result LineLineIntr Fault → PaddedAnswer
of_line_line answer = padded (LineLineIntersect.numbers_of answer)

unfoldable pub of_line_circle : Result LineCircleIntr Fault → PaddedAnswer
of_line_circle answer = padded (LineCircleIntersect.numbers_of answer)

unfoldable pub of_circle_circle : Result CircleCircleIntr Fault → PaddedAnswer
of_circle_circle answer = padded (CircleCircleIntersect.numbers_of answer)

unfoldable pub of_pline_seg : Result PlineSegIntr Fault → PaddedAnswer
of_pline_seg answer = padded (PlineSegIntersect.numbers_of answer)
