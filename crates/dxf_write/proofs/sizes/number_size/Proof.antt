-- `dxf_write::sizes::number_size` meets its contract: a point and six digits follow the whole part, and a minus stands before
-- what is negative and not zero. Assumes nothing.
use Rattle.std.proofs.Common.{◌/◌, arith, rules}
use Rattle.dxf_form.specs.Numbers.{million}
use Rattle.put_text.specs.Laws.Decimal.{decimal-long}
use Rattle.dxf_write.specs.Laws.Put.{size-long, zero-length, plain-length, minus-length}
use Rattle.dxf_write.proofs.sizes.number_size.Statement.{statement}
use Rattle.dxf_write.proofs.sizes.number_size.Tie as tie

add-size : tie.Need-overflow_add-size
add-size c = omega (arith, decimal-long 19 (c.args.n.millionths / million) (omega arith))

add-result : tie.Need-overflow_add-result
add-result c = omega (arith, decimal-long 19 (c.args.n.millionths / million) (omega arith))

returns : tie.Need-returns-then-n-eq0
returns c =
    let a = c.args in
    omega (arith, size-long a.n.millionths, zero-length a.n.negative a.n.millionths c.if-n-eq0.true)

returns-2 : tie.Need-returns-then-n
returns-2 c =
    let a = c.args in
    omega (arith, size-long a.n.millionths, minus-length a.n.negative a.n.millionths c.if-n.true c.if-n-eq0.false)

returns-3 : tie.Need-returns
returns-3 c =
    let a = c.args in
    omega (arith, size-long a.n.millionths, plain-length a.n.negative a.n.millionths c.if-n.false)

pub number_size_spec : {M : Type 1} → statement M
number_size_spec = tie.close (tie.spec (λ c. search rules) add-size returns add-result returns-2 returns-3)
