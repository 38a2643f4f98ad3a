-- A vertex more, and the end: where no number has a fault all of them are put.
use Rattle.std.proofs.Common.{arith}
use Rattle.dxf_write.specs.Laws.Passes.{putting-none, putting-room, putting-on, putting-bad, putting-all}
use Rattle.dxf_write.proofs.vertices.put_vertices.Goals as goal

pub loop-i-init : goal.loop-i-init
loop-i-init c = putting-none _ _ _ _

pub returns-in_default : goal.returns-in_default
returns-in_default c = putting-bad c.loop-i.invariant (omega arith) c.vertex_numbers.ensures c.in_default.is

pub put_vertex-next-requires : goal.put_vertex-next-requires
put_vertex-next-requires c =
    putting-room c.loop-i.invariant (omega arith) c.vertex_numbers.ensures c.in-Ok.is (omega arith)

pub loop-i-preserved : goal.loop-i-preserved
loop-i-preserved c =
    putting-on c.loop-i.invariant (omega arith) c.vertex_numbers.ensures c.in-Ok.is c.put_vertex-next.ensures

pub returns : goal.returns
returns c = λ fine. putting-all c.loop-i.invariant (omega arith)
