-- `dxf_write::put::put_number` meets its contract: 0 and a number without a sign are their digits, and a minus stands before
-- those of another. Assumes nothing.
use Rattle.std.proofs.Common.{arith, rules}
use Rattle.dxf_write.specs.Laws.Put.{zero-put, plain-put, minus-put, zero-length, plain-length, minus-length}
use Rattle.dxf_write.proofs.put.put_number.Statement.{statement}
use Rattle.dxf_write.proofs.put.put_number.Tie as tie

put-size-requires : tie.Need-put_size-requires
put-size-requires c κs =
    omega (arith, zero-length c.args.n.negative _ c.if-n-eq0.true)

put-byte-requires : tie.Need-put_byte-next-requires
put-byte-requires c κs =
    omega (arith, minus-length _ _ c.if-n.true c.if-n-eq0.false)

put-size-requires-2 : tie.Need-put_size-requires-then-n
put-size-requires-2 c κs =
    omega (arith, minus-length _ _ c.if-n.true c.if-n-eq0.false)

put-size-requires-3 : tie.Need-put_size-requires-2
put-size-requires-3 c κs =
    omega (arith, plain-length _ c.args.n.millionths c.if-n.false)

pub put_number_spec : {M : Type 1} → statement M
put_number_spec =
    tie.close
    (tie.spec
    put-size-requires (λ c. search rules) (λ c. search zero-put)
    put-byte-requires put-size-requires-2 (λ c. search rules) (λ c. search minus-put)
    put-size-requires-3 (λ c. search rules) (λ c. search plain-put))
