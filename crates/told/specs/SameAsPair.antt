-- Class and points of the report are the pair call's, and so are its refusals, for every input.
use Rattle.checks.specs.Checked.{Checked}
use Rattle.std.specs.Prelude.{◌≡◌, refl, Float, Err, Ok}
use Rattle.plane.specs.declared.pline_vertex.PlineVertex.{PlineVertex}
use Rattle.checks.specs.Answered.{answered}
use Rattle.checks.specs.Calls.{check_pline_seg}
use Rattle.crossing.specs.PlineSeg.{pline_seg}
use Rattle.crossing.specs.PlineSegIntersect.{pline_seg_intr}
use Rattle.findings.specs.Report.{reported, pline_seg_findings, pair_answer}

pub same-as-pair : (v1 v2 u1 u2 : PlineVertex) (eps : Float)
    → pair_answer (pline_seg_findings v1 v2 u1 u2 eps) ≡ pline_seg_intr v1 v2 u1 u2 eps
unfolding pline_seg_findings pline_seg_intr reported
same-as-pair v1 v2 u1 u2 eps = go (check_pline_seg v1 v2 u1 u2 eps)
  where
    go : (checked : Checked) → pair_answer (answered Err Ok checked (reported v1 v2 u1 u2 eps))
        ≡ answered Err Ok checked (pline_seg v1 v2 u1 u2 eps)
    go (Ok _) = refl
    go (Err fault) = refl
