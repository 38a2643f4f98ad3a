-- When the quick test finds the numbers of a segment fine: src/check.rt. Laws/Fine proves that after a yes the check itself finds
-- no fault.
use Rattle.std.specs.Prelude.{Bool, cond, ◌&&◌}
use Rattle.plane.specs.declared.pline_vertex.PlineVertex.{PlineVertex}
use Rattle.checks.specs.Limit
use Rattle.checks.specs.Workings.Inside.{inside}
use Rattle.fast_pair.specs.Workings.AllFine.{segment_fine}
use Rattle.cuts.specs.declared.cut.Halves.{Halves}
use Rattle.cuts.specs.Cut.{is_large}

unfoldable pub parts_fine : PlineVertex → PlineVertex → Halves → Bool
parts_fine v1 v2 h =
    cond (is_large v1.bulge)
    (inside Limit.large_bulge v1.bulge && (segment_fine h.first h.second && segment_fine h.second v2))
    (segment_fine v1 v2)
