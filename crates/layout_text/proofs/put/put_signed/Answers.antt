-- `layout_text::put::put_signed` meets its contract: 0 and a number without a sign are their digits, and a minus stands before
-- those of another. Assumes nothing.
use Rattle.std.specs.Prelude.{eqb}
use Rattle.std.proofs.Common.{arith, eq-eqb, ne_eqb}
use Rattle.layout_text.specs.Laws.Put.{zero-put, plain-put, minus-put, zero-length, plain-length, minus-length}
use Rattle.layout_text.proofs.put.put_signed.Goals as goal

pub put_decimal-requires : goal.put_decimal-requires
put_decimal-requires c = omega (arith, zero-length (eqb c.args.n.minuses 1) _ c.if-n-eq0.true)

pub returns-then-n-eq0 : goal.returns-then-n-eq0
returns-then-n-eq0 c = search zero-put

pub put_byte-next-requires : goal.put_byte-next-requires
put_byte-next-requires c = omega (arith, minus-length _ _ (eq-eqb _ _ c.if-n-eq1.true) c.if-n-eq0.false)

pub put_decimal-requires-then-n-eq1 : goal.put_decimal-requires-then-n-eq1
put_decimal-requires-then-n-eq1 c = omega (arith, minus-length _ _ (eq-eqb _ _ c.if-n-eq1.true) c.if-n-eq0.false)

pub returns-then-n-eq1 : goal.returns-then-n-eq1
returns-then-n-eq1 c =
    minus-put _ _ (eq-eqb _ _ c.if-n-eq1.true) c.if-n-eq0.false c.put_byte-next.ensures c.put_decimal-then-n-eq1.ensures

pub put_decimal-requires-2 : goal.put_decimal-requires-2
put_decimal-requires-2 c = omega (arith, plain-length _ c.args.n.magnitude (ne_eqb _ _ c.if-n-eq1.false))

pub returns : goal.returns
returns c = plain-put _ _ c.put_decimal-2.ensures (ne_eqb _ _ c.if-n-eq1.false)
