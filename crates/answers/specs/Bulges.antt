-- The bulges of v2 and u2 belong to the segments that start there. They have no effect: whatever they are, a NaN too, the pair
-- call answers the same, refusals included.
use Rattle.std.specs.Prelude.{◌≡◌, Float, Err, Ok}
use Rattle.std.proofs.Common.{ap}
use Rattle.plane.specs.PlineVertex.{pos}
use Rattle.plane.specs.declared.pline_vertex.PlineVertex.{PlineVertex}
use Rattle.checks.specs.Arc.{arc_chord}
use Rattle.checks.specs.Calls.{check_pline_seg}
use Rattle.checks.specs.Answered.{answered}
use Rattle.crossing.specs.PlineSegIntersect.{pline_seg_intr}
use Rattle.arcs.specs.declared.pline_seg_intr.PlineSegIntr.{PlineSegIntr}
use Rattle.answers.specs.Laws.Bulges.{with_bulge, second-bulges}

pub second-bulges-unused : (v1 v2 u1 u2 : PlineVertex) (pos_equal_eps v_bulge u_bulge : Float)
    → pline_seg_intr v1 v2 u1 u2 pos_equal_eps ≡ pline_seg_intr v1 (with_bulge v2 v_bulge) u1 (with_bulge u2 u_bulge) pos_equal_eps
unfolding pline_seg_intr check_pline_seg arc_chord pos
second-bulges-unused v1 v2 u1 u2 pos_equal_eps v_bulge u_bulge =
    ap (λ (r : PlineSegIntr). answered Err Ok (check_pline_seg v1 v2 u1 u2 pos_equal_eps) r)
    (second-bulges v1 v2 u1 u2 pos_equal_eps v_bulge u_bulge)
