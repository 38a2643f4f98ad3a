-- `layout_packed::vertex::fill` meets its contract: one turn writes one vertex. Assumes nothing.
use Rattle.std.proofs.Common.{◌≡◌, ◌+◌, ◌*◌, refl, arith}
use Rattle.layouts.specs.Limits.{numbers_a_vertex}
use Rattle.layout_packed.proofs.Vertices.{store-fault, store-vertex, store-end, filled-fault, filled-end}
use Rattle.layout_packed.proofs.vertex.fill.Goals as goal

pub returns-in_default : goal.returns-in_default
returns-in_default c =
    filled-fault _ _ _
    (store-fault _ _ _ _ _ _ _ c.loop-i.invariant c.loop-i-test.true _ c.vertex.ensures _ c.in_default.is)

pub loop-i-preserved : goal.loop-i-preserved
loop-i-preserved c =
    let next : (c.loop-i.i + 1) * numbers_a_vertex ≡ c.loop-i.i * numbers_a_vertex + numbers_a_vertex = omega arith in
    rw next
    (store-vertex _ _ _ _ _ _ _ c.loop-i.invariant c.loop-i-test.true _ c.vertex.ensures _ c.in-Ok.is
    _ _ _ _ c.coordinate.ensures c.coordinate-in-loop-i.ensures c.bulge.ensures refl)

pub returns : goal.returns
returns c =
    filled-end _ _ _ (store-end c.args.bytes.now _ _ c.loop-i.at _ _ _ c.loop-i.invariant c.loop-i-test.false)
