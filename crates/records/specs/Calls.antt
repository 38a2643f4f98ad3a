-- The records of each call: how many numbers a text line has, and when its answers are ours.
use Rattle.std.specs.Prelude.{ℕ, Bool, false, cond, List, eqb}
use Rattle.records.specs.Names.{ABS, MIN, MAX, SQRT}
use Rattle.records.specs.Names.{MIN-MAX, DIST-SQUARED, POINT-FROM-PARAMETRIC, PARAMETRIC-FROM-POINT, SEG-ARC}
use Rattle.records.specs.Names.{LINE-LINE, LINE-CIRCLE, CIRCLE-CIRCLE, PLINE-SEG}
use Rattle.records.specs.Text.{name_of, is_line, value_at}
use Rattle.records.specs.OnFloats.{agrees_of}
use Rattle.records.specs.OnPlane
use Rattle.records.specs.OnCrossing

-- operands and answers
unfoldable pub numbers_of : ℕ → ℕ
numbers_of call =
    cond (eqb call ABS) 3
    (cond (eqb call MIN) 3
    (cond (eqb call MAX) 3
    (cond (eqb call SQRT) 3
    (cond (eqb call MIN-MAX) 4
    (cond (eqb call DIST-SQUARED) 5
    (cond (eqb call POINT-FROM-PARAMETRIC) 7
    (cond (eqb call PARAMETRIC-FROM-POINT) 8
    (cond (eqb call SEG-ARC) 9
    (cond (eqb call LINE-LINE) 14
    (cond (eqb call LINE-CIRCLE) 13
    (cond (eqb call CIRCLE-CIRCLE) 12
    (cond (eqb call PLINE-SEG) 18
    0))))))))))))

unfoldable pub is_ours : ℕ → List ℕ → Bool
is_ours call body =
    cond (eqb call MIN-MAX) (OnPlane.min_max body)
    (cond (eqb call DIST-SQUARED) (OnPlane.dist_squared body)
    (cond (eqb call POINT-FROM-PARAMETRIC) (OnPlane.point_from_parametric body)
    (cond (eqb call PARAMETRIC-FROM-POINT) (OnPlane.parametric_from_point body)
    (cond (eqb call SEG-ARC) (OnPlane.seg_arc_radius_and_center body)
    (cond (eqb call LINE-LINE) (OnCrossing.line_line body)
    (cond (eqb call LINE-CIRCLE) (OnCrossing.line_circle body)
    (cond (eqb call CIRCLE-CIRCLE) (OnCrossing.circle_circle body)
    (cond (eqb call PLINE-SEG) (OnCrossing.pline_seg body)
    (agrees_of call (value_at body 0) (value_at body 1) (value_at body 2))))))))))

-- a text line: the five bytes of its name, and what follows them
unfoldable pub is_right : List ℕ → List ℕ → Bool
is_right head body = cond (is_line (numbers_of (name_of head)) body) (is_ours (name_of head) body) false
