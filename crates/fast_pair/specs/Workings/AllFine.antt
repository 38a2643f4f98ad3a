-- When the quick test finds a pair's numbers fine: src/all_fine.rt, function by function. A reader need not believe it:
-- Laws/AllFine proves that after a yes the call's own check finds no fault.
use Rattle.std.specs.Prelude.{Bool, ◌&&◌, ◌||◌, Float}
use Rattle.floats.specs.Ops.{◌≼◌, ◌≽◌}
use Rattle.plane.specs.PlineVertex.{pos, bulge_is_zero}
use Rattle.plane.specs.Vector2 as vector2
use Rattle.plane.specs.declared.pline_vertex.PlineVertex.{PlineVertex}
use Rattle.checks.specs.Limit
use Rattle.checks.specs.Laws.Chord.{square_least}
use Rattle.checks.specs.Workings.Inside.{inside}

abbrev pub point_fine : PlineVertex → Bool
point_fine v = inside Limit.coordinate v.x && inside Limit.coordinate v.y

unfoldable pub segment_fine : PlineVertex → PlineVertex → Bool
segment_fine v1 v2 =
    let chord = vector2.sub (pos v2) (pos v1) in
    ((point_fine v1 && inside Limit.bulge v1.bulge) && point_fine v2)
    && (bulge_is_zero v1 || (vector2.dot chord chord ≽ square_least))

abbrev pub epsilon_fine : Float → Bool
epsilon_fine eps = (eps ≽ Limit.epsilon_least) && (eps ≼ Limit.epsilon_most)

unfoldable pub pair_fine : PlineVertex → PlineVertex → PlineVertex → PlineVertex → Float → Bool
pair_fine v1 v2 u1 u2 eps = epsilon_fine eps && (segment_fine v1 v2 && segment_fine u1 u2)
