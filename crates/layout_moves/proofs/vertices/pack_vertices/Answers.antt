-- `layout_moves::vertices::pack_vertices` meets its contract: one turn moves one text line. Assumes nothing.
use Rattle.std.proofs.Common.{arith}
use Rattle.layout_moves.specs.Laws.Carried.{carried-gone, carried-all}
use Rattle.layout_moves.specs.Laws.FromText.{line-within, pack-end, pack-broken, pack-line}
use Rattle.layout_moves.proofs.vertices.pack_vertices.Goals as goal

pub returns-in_default : goal.returns-in_default
returns-in_default c =
    carried-gone _ _ _ _ _ _ _
    (pack-broken _ _ _ _ _ _ _ c.loop.invariant.1 c.loop-test.true _ c.vertex.ensures c.in_default.is)

pub put_vertex-next-requires-clause-vertex_within : goal.put_vertex-next-requires-clause-vertex_within
put_vertex-next-requires-clause-vertex_within c = line-within _ _ _ c.vertex.ensures c.in-Some.is

pub loop-preserved : goal.loop-preserved
loop-preserved c = (
  omega (arith, c.put_vertex-next.ensures.short),
  pack-line _ _ _ _ _ _ _ c.loop.invariant.1 c.loop-test.true _ c.vertex.ensures _ _ c.in-Some.is _ _ c.put_vertex-next.ensures,
)

pub returns : goal.returns
returns c =
    carried-all _ _ _ _ _ _ _ (pack-end c.args.text.now _ _ c.loop.at _ _ _ c.loop.invariant.1 c.loop-test.false) (omega arith)
