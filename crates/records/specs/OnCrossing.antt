-- Whether a text line's answers are what the definitions of `crossing` say for its operands: the number that a C call returns
-- (the word of the first fault for a refusal), and the four values of an answer.
use Rattle.std.specs.Prelude.{ℕ, ◌+◌, Bool, cond, ◌&&◌, List, eqb}
use Rattle.crossing.specs.LineLineIntersect.{line_line_intr}
use Rattle.crossing.specs.LineCircleIntersect.{line_circle_intr}
use Rattle.crossing.specs.CircleCircleIntersect.{circle_circle_intr}
use Rattle.crossing.specs.PlineSegIntersect.{pline_seg_intr}
use Rattle.answers.specs.declared.padded.PaddedAnswer.{PaddedAnswer}
use Rattle.answers.specs.Padded.{of_line_line, of_line_circle, of_circle_circle, of_pline_seg}
use Rattle.records.specs.Text.{value_at, number_at}
use Rattle.records.specs.OnPlane.{same, point_at, vertex_at}

unfoldable pub is_answer : PaddedAnswer → List ℕ → ℕ → Bool
is_answer f body i =
    let recorded = value_at body i in
    cond f.refused (eqb recorded f.number)
    ((((eqb recorded f.number && same f.a (number_at body (i + 1)))
    && same f.b (number_at body (i + 2)))
    && same f.c (number_at body (i + 3)))
    && same f.d (number_at body (i + 4)))

unfoldable pub line_line : List ℕ → Bool
line_line body =
    let met = line_line_intr (point_at body 0) (point_at body 2) (point_at body 4) (point_at body 6) (number_at body 8) in
    is_answer (of_line_line met) body 9

unfoldable pub line_circle : List ℕ → Bool
line_circle body =
    let met = line_circle_intr (point_at body 0) (point_at body 2) (number_at body 4) (point_at body 5) (number_at body 7) in
    is_answer (of_line_circle met) body 8

unfoldable pub circle_circle : List ℕ → Bool
circle_circle body =
    let met = circle_circle_intr (number_at body 0) (point_at body 1) (number_at body 3) (point_at body 4) (number_at body 6) in
    is_answer (of_circle_circle met) body 7

unfoldable pub pline_seg : List ℕ → Bool
pline_seg body =
    let met = pline_seg_intr (vertex_at body 0) (vertex_at body 3) (vertex_at body 6) (vertex_at body 9) (number_at body 12) in
    is_answer (of_pline_seg met) body 13
