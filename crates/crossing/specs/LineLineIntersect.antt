-- The call of src/line_line_intersect.rt. It checks its numbers first (`checks`, Calls.antt), and the first fault is its answer.
use Rattle.crossing.specs.declared.line_line_intr.LineLineIntr.{LineLineIntr}
use Rattle.checks.specs.declared.fault.Fault.{Fault}
use Rattle.std.specs.Prelude.{[], ◌∷◌, Float, Err, Ok, Result}
use Rattle.plane.specs.declared.vector2.Vector2.{Vector2}
use Rattle.checks.specs.Calls.{check_line_line}
use Rattle.checks.specs.Answered.{answered}
use Rattle.crossing.specs.AnswerNumbers.{AnswerNumbers, of_fault, of_case}
use Rattle.crossing.specs.LineLine.{line_line}
use Rattle.crossing.specs.declared.line_line_intr.LineLineIntr.TheVariants.{
  NoIntersect,
  TrueIntersect,
  Overlapping,
  FalseIntersect,
}

-- the first fault; if there is none, how the two meet
unfoldable pub line_line_intr : Vector2 → Vector2 → Vector2 → Vector2 → Float → Result LineLineIntr Fault
line_line_intr v1 v2 u1 u2 epsilon =
    answered Err Ok (check_line_line v1 v2 u1 u2 epsilon) (line_line v1 v2 u1 u2 epsilon)

-- ---- the answer in numbers
abbrev pub numbers_of : Result LineLineIntr Fault → AnswerNumbers
numbers_of (Err f) = of_fault f
numbers_of (Ok NoIntersect) = of_case 0 []
numbers_of (Ok (TrueIntersect t1 t2)) = of_case 1 (t1 ∷ t2 ∷ [])
numbers_of (Ok (Overlapping t0 t1)) = of_case 2 (t0 ∷ t1 ∷ [])
numbers_of (Ok (FalseIntersect t1 t2)) = of_case 3 (t1 ∷ t2 ∷ [])
