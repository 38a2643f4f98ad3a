-- `dxf_write::put::put_whole_group` meets its contract: the code's line, then the value's. Assumes nothing.
use Rattle.std.proofs.Common.{arith, rules}
use Rattle.put_text.specs.Decimal.{decimal}
use Rattle.dxf_write.specs.Laws.Put.{line-long, group-long, whole-group-put}
use Rattle.dxf_write.proofs.put.put_whole_group.Statement.{statement}
use Rattle.dxf_write.proofs.put.put_whole_group.Tie as tie

put-line-requires : tie.Need-put_line-next-requires
put-line-requires c κs =
    let a = c.args in
    omega (arith, group-long a.code (decimal a.n))

put-line-requires-2 : tie.Need-put_line-requires
put-line-requires-2 c κs =
    let a = c.args in
    omega (arith, group-long a.code (decimal a.n), line-long (decimal a.code))

pub put_whole_group_spec : {M : Type 1} → statement M
put_whole_group_spec =
    tie.close (tie.spec put-line-requires put-line-requires-2 (λ c. search rules) (λ c. search whole-group-put))
