-- The call of src/line_circle_intersect.rt. It checks its numbers first (`checks`, Calls.antt), and the first fault is its
-- answer.
use Rattle.crossing.specs.declared.line_circle_intr.LineCircleIntr.{LineCircleIntr}
use Rattle.checks.specs.declared.fault.Fault.{Fault}
use Rattle.std.specs.Prelude.{[], ◌∷◌, Float, Err, Ok, Result}
use Rattle.plane.specs.declared.vector2.Vector2.{Vector2}
use Rattle.checks.specs.Calls.{check_line_circle}
use Rattle.checks.specs.Answered.{answered}
use Rattle.crossing.specs.AnswerNumbers.{AnswerNumbers, of_fault, of_case}
use Rattle.crossing.specs.LineCircle.{line_circle}
use Rattle.crossing.specs.declared.line_circle_intr.LineCircleIntr.TheVariants.{
  NoIntersect,
  TangentIntersect,
  TwoIntersects,
}

-- the first fault; if there is none, how the two meet
unfoldable pub line_circle_intr : Vector2 → Vector2 → Float → Vector2 → Float → Result LineCircleIntr Fault
line_circle_intr p0 p1 radius circle_center epsilon =
    answered Err Ok (check_line_circle p0 p1 radius circle_center epsilon) (line_circle p0 p1 radius circle_center epsilon)

-- ---- the answer in numbers
abbrev pub numbers_of : Result LineCircleIntr Fault → AnswerNumbers
numbers_of (Err f) = of_fault f
numbers_of (Ok NoIntersect) = of_case 0 []
numbers_of (Ok (TangentIntersect t0)) = of_case 1 (t0 ∷ [])
numbers_of (Ok (TwoIntersects t0 t1)) = of_case 2 (t0 ∷ t1 ∷ [])
