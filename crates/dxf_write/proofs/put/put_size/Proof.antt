-- `dxf_write::put::put_size` meets its contract: the whole part, the point, six digits. Assumes nothing.
use Rattle.std.proofs.Common.{arith, rules}
use Rattle.dxf_write.specs.Laws.Put.{size-long, size-put}
use Rattle.dxf_write.proofs.put.put_size.Statement.{statement}
use Rattle.dxf_write.proofs.put.put_size.Tie as tie

put-decimal-requires : tie.Need-put_decimal-point-requires
put-decimal-requires c κs = omega (arith, size-long c.args.n)

put-byte-requires : tie.Need-put_byte-digits-requires
put-byte-requires c κs =
    omega (arith, size-long c.args.n)

put-six-requires : tie.Need-put_six-requires
put-six-requires c κs =
    omega (arith, size-long c.args.n)

pub put_size_spec : {M : Type 1} → statement M
put_size_spec =
    tie.close
    (tie.spec put-decimal-requires put-byte-requires put-six-requires (λ c. search rules) (λ c. search size-put))
