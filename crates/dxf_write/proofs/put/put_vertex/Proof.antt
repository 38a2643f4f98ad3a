-- `dxf_write::put::put_vertex` meets its contract: the three groups follow one another. Assumes nothing.
use Rattle.std.proofs.Common.{arith, rules}
use Rattle.dxf_write.specs.Laws.Put.{vertex-long, vertex-put}
use Rattle.dxf_write.proofs.put.put_vertex.Statement.{statement}
use Rattle.dxf_write.proofs.put.put_vertex.Tie as tie

put-number-group-requires : tie.Need-put_number_group-y_at-requires
put-number-group-requires c κs =
    let a = c.args in
    omega (arith, vertex-long a.v)

put-number-group-requires-2 : tie.Need-put_number_group-b_at-requires
put-number-group-requires-2 c κs =
    let a = c.args in
    omega (arith, vertex-long a.v)

put-number-group-requires-3 : tie.Need-put_number_group-requires
put-number-group-requires-3 c κs =
    let a = c.args in
    omega (arith, vertex-long a.v)

returns : tie.Need-returns
returns c =
    let a = c.args in
    vertex-put a.v
    c.put_number_group-y_at.ensures c.put_number_group-b_at.ensures c.put_number_group.ensures

pub put_vertex_spec : {M : Type 1} → statement M
put_vertex_spec =
    tie.close
    (tie.spec put-number-group-requires put-number-group-requires-2 put-number-group-requires-3 (λ c. search rules) returns)
