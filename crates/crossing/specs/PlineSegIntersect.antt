-- The pair call, which is `fast_pair::pair::pline_seg_intr`. It checks its numbers first (`checks`, Calls.antt), and the first
-- fault is its answer.
use Rattle.checks.specs.declared.fault.Fault.{Fault}
use Rattle.arcs.specs.declared.pline_seg_intr.PlineSegIntr.{PlineSegIntr}
use Rattle.std.specs.Prelude.{[], ◌∷◌, Float, Err, Ok, Result}
use Rattle.plane.specs.declared.pline_vertex.PlineVertex.{PlineVertex}
use Rattle.checks.specs.Calls.{check_pline_seg}
use Rattle.checks.specs.Answered.{answered}
use Rattle.crossing.specs.AnswerNumbers.{AnswerNumbers, of_fault, of_case}
use Rattle.crossing.specs.PlineSeg.{pline_seg}
use Rattle.crossing.specs.PlineSegIntr.{class_of, point1_of, point2_of}

-- the first fault; if there is none, how the two meet
unfoldable pub pline_seg_intr : PlineVertex → PlineVertex → PlineVertex → PlineVertex → Float → Result PlineSegIntr Fault
pline_seg_intr v1 v2 u1 u2 pos_equal_eps =
    answered Err Ok (check_pline_seg v1 v2 u1 u2 pos_equal_eps) (pline_seg v1 v2 u1 u2 pos_equal_eps)

-- ---- the answer in numbers: its class and its points; a point that the class lacks is +0
abbrev pub numbers_of : Result PlineSegIntr Fault → AnswerNumbers
numbers_of (Err f) = of_fault f
numbers_of (Ok r) =
    of_case (class_of r) ((point1_of r).x ∷ (point1_of r).y ∷ (point2_of r).x ∷ (point2_of r).y ∷ [])
