-- The checks of a whole call, for src/calls.rt: its numbers are checked in the scope's order, and the first fault is the answer.
-- Each of the three kernels and the pair call has its list of checks, and the first fault of that list.
use Rattle.checks.specs.Checked.{Checked}
use Rattle.std.specs.Prelude.{List, [], ◌∷◌, ◌++◌, Float}
use Rattle.plane.specs.declared.vector2.Vector2.{Vector2}
use Rattle.plane.specs.declared.pline_vertex.PlineVertex.{PlineVertex}
use Rattle.checks.specs.Each
use Rattle.checks.specs.Arc.{arc_chord}
use Rattle.checks.specs.First.{first}
use Rattle.checks.specs.Lists.{point_checks, vertex_checks, circle_checks}

-- ---- two lines
-- the checks of the call, in their order
abbrev pub line_line_checks : Vector2 → Vector2 → Vector2 → Vector2 → Float → List Checked
line_line_checks v1 v2 u1 u2 epsilon =
    (Each.epsilon epsilon ∷ [])
    ++ point_checks v1.x v1.y 0 0
    ++ point_checks v2.x v2.y 1 0
    ++ point_checks u1.x u1.y 2 0
    ++ point_checks u2.x u2.y 3 0

unfoldable pub check_line_line : Vector2 → Vector2 → Vector2 → Vector2 → Float → Checked
check_line_line v1 v2 u1 u2 epsilon = first (line_line_checks v1 v2 u1 u2 epsilon)

-- ---- a line and a circle
-- the checks of the call, in their order
abbrev pub line_circle_checks : Vector2 → Vector2 → Float → Vector2 → Float → List Checked
line_circle_checks p0 p1 radius circle_center epsilon =
    (Each.epsilon epsilon ∷ [])
    ++ point_checks p0.x p0.y 0 0
    ++ point_checks p1.x p1.y 1 0
    ++ circle_checks radius circle_center.x circle_center.y 2

unfoldable pub check_line_circle : Vector2 → Vector2 → Float → Vector2 → Float → Checked
check_line_circle p0 p1 radius circle_center epsilon = first (line_circle_checks p0 p1 radius circle_center epsilon)

-- ---- two circles
-- the checks of the call, in their order
abbrev pub circle_circle_checks : Float → Vector2 → Float → Vector2 → Float → List Checked
circle_circle_checks radius1 center1 radius2 center2 epsilon =
    (Each.epsilon epsilon ∷ [])
    ++ circle_checks radius1 center1.x center1.y 0
    ++ circle_checks radius2 center2.x center2.y 1

unfoldable pub check_circle_circle : Float → Vector2 → Float → Vector2 → Float → Checked
check_circle_circle radius1 center1 radius2 center2 epsilon = first (circle_circle_checks radius1 center1 radius2 center2 epsilon)

-- ---- two segments of polylines
-- the checks of the call's numbers, in their order: the owner of segment v is 0 and of u 1; the index says which end
abbrev pub pline_seg_numbers : PlineVertex → PlineVertex → PlineVertex → PlineVertex → Float → List Checked
pline_seg_numbers v1 v2 u1 u2 pos_equal_eps =
    (Each.epsilon pos_equal_eps ∷ [])
    ++ vertex_checks v1.x v1.y v1.bulge 0 0
    ++ point_checks v2.x v2.y 0 1
    ++ vertex_checks u1.x u1.y u1.bulge 1 0
    ++ point_checks u2.x u2.y 1 1

-- these checks, then those of the arcs' chords
abbrev pub pline_seg_checks : PlineVertex → PlineVertex → PlineVertex → PlineVertex → Float → List Checked
pline_seg_checks v1 v2 u1 u2 pos_equal_eps =
    pline_seg_numbers v1 v2 u1 u2 pos_equal_eps ++ (arc_chord v1 v2 0 0 ∷ arc_chord u1 u2 1 0 ∷ [])

unfoldable pub check_pline_seg : PlineVertex → PlineVertex → PlineVertex → PlineVertex → Float → Checked
check_pline_seg v1 v2 u1 u2 pos_equal_eps = first (pline_seg_checks v1 v2 u1 u2 pos_equal_eps)
