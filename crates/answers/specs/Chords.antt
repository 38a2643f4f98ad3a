-- The pair call works on no arc whose chord is a NaN, an infinity or below 2^-40: if it answers how the two meet, each arc of the
-- two has a chord that is a number and at least 2^-40. Chord.antt of the crate `checks` says what `LongIfArc` means.
use Rattle.std.specs.Prelude.{◌≡◌, Float, Ok}
use Rattle.plane.specs.declared.pline_vertex.PlineVertex.{PlineVertex}
use Rattle.checks.specs.Chord.{LongIfArc, pair-long}
use Rattle.crossing.specs.PlineSeg.{pline_seg}
use Rattle.crossing.specs.PlineSegIntersect.{pline_seg_intr}
use Rattle.answers.specs.Refusals.{pline-seg}

pub met-long : (v1 v2 u1 u2 : PlineVertex) (pos_equal_eps : Float)
    → pline_seg_intr v1 v2 u1 u2 pos_equal_eps ≡ Ok (pline_seg v1 v2 u1 u2 pos_equal_eps)
    → LongIfArc v1 v2 × LongIfArc u1 u2
met-long v1 v2 u1 u2 pos_equal_eps h =
    pair-long v1 v2 u1 u2 pos_equal_eps ((pline-seg v1 v2 u1 u2 pos_equal_eps).met-when.0 h)
