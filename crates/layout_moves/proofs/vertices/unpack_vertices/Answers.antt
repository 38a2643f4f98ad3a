-- `layout_moves::vertices::unpack_vertices` meets its contract: one turn moves one vertex. Assumes nothing.
use Rattle.std.proofs.Common.{arith}
use Rattle.layout_moves.specs.Laws.Carried.{carried-gone, carried-all}
use Rattle.layout_moves.specs.Laws.FromPacked.{vertex-within, unpack-end, unpack-fault, unpack-vertex}
use Rattle.layout_moves.proofs.vertices.unpack_vertices.Goals as goal

pub returns-in_default : goal.returns-in_default
returns-in_default c =
    carried-gone _ _ _ _ _ _ _
    (unpack-fault _ _ _ _ _ _ _ c.loop.invariant.1 c.loop-test.true _ c.vertex.ensures _ c.in_default.is)

pub put_vertex-next-requires-clause-vertex_within : goal.put_vertex-next-requires-clause-vertex_within
put_vertex-next-requires-clause-vertex_within c = vertex-within _ _ _ c.vertex.ensures c.in-Ok.is

pub loop-preserved : goal.loop-preserved
loop-preserved c = (
  omega (arith, c.put_vertex-next.ensures.short),
  unpack-vertex _ _ _ _ _ _ _ c.loop.invariant.1 c.loop-test.true _ c.vertex.ensures _ _ c.in-Ok.is _ _ c.put_vertex-next.ensures,
)

pub returns : goal.returns
returns c =
    carried-all _ _ _ _ _ _ _ (unpack-end c.args.bytes.now _ _ c.loop.at _ _ _ c.loop.invariant.1 c.loop-test.false) (omega arith)
