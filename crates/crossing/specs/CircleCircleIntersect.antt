-- The call of src/circle_circle_intersect.rt. It checks its numbers first (`checks`, Calls.antt), and the first fault is its
-- answer.
use Rattle.crossing.specs.declared.circle_circle_intr.CircleCircleIntr.{CircleCircleIntr}
use Rattle.checks.specs.declared.fault.Fault.{Fault}
use Rattle.std.specs.Prelude.{[], ◌∷◌, Float, Err, Ok, Result}
use Rattle.plane.specs.declared.vector2.Vector2.{Vector2}
use Rattle.checks.specs.Calls.{check_circle_circle}
use Rattle.checks.specs.Answered.{answered}
use Rattle.crossing.specs.AnswerNumbers.{AnswerNumbers, of_fault, of_case}
use Rattle.crossing.specs.CircleCircle.{circle_circle}
use Rattle.crossing.specs.declared.circle_circle_intr.CircleCircleIntr.TheVariants.{
  NoIntersect,
  TangentIntersect,
  TwoIntersects,
  Overlapping,
}

-- the first fault; if there is none, how the two meet
unfoldable pub circle_circle_intr : Float → Vector2 → Float → Vector2 → Float → Result CircleCircleIntr Fault
circle_circle_intr radius1 center1 radius2 center2 epsilon =
    answered Err Ok (check_circle_circle radius1 center1 radius2 center2 epsilon)
    (circle_circle radius1 center1 radius2 center2 epsilon)

-- ---- the answer in numbers
abbrev pub numbers_of : Result CircleCircleIntr Fault → AnswerNumbers
numbers_of (Err f) = of_fault f
numbers_of (Ok NoIntersect) = of_case 0 []
numbers_of (Ok (TangentIntersect p)) = of_case 1 (p.x ∷ p.y ∷ [])
numbers_of (Ok (TwoIntersects p q)) = of_case 2 (p.x ∷ p.y ∷ q.x ∷ q.y ∷ [])
numbers_of (Ok Overlapping) = of_case 3 []
