-- `dxf_write::put::put_number_group` meets its contract: the code's line, the number, the newline. Assumes nothing.
use Rattle.std.proofs.Common.{arith, rules}
use Rattle.layouts.specs.Layout.{whole}
use Rattle.put_text.specs.Decimal.{decimal}
use Rattle.dxf_write.specs.Written.{number_bytes}
use Rattle.dxf_write.specs.Laws.Put.{line-long, group-long, group-put}
use Rattle.dxf_write.proofs.put.put_number_group.Statement.{statement}
use Rattle.dxf_write.proofs.put.put_number_group.Tie as tie

put-line-requires : tie.Need-put_line-next-requires
put-line-requires c κs =
    let a = c.args in
    omega (arith, group-long a.code (number_bytes (whole a.n.negative a.n.millionths)))

put-number-requires : tie.Need-put_number-end-requires
put-number-requires c κs =
    let a = c.args in
    omega (arith, group-long a.code (number_bytes (whole a.n.negative a.n.millionths)), line-long (decimal a.code))

put-byte-requires : tie.Need-put_byte-requires
put-byte-requires c κs =
    let a = c.args in
    omega (arith, group-long a.code (number_bytes (whole a.n.negative a.n.millionths)), line-long (decimal a.code))

pub put_number_group_spec : {M : Type 1} → statement M
put_number_group_spec =
    tie.close
    (tie.spec put-line-requires put-number-requires put-byte-requires (λ c. search rules) (λ c. search group-put))
