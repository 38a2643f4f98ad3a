-- `layout_packed::put::zigzagged` meets its contract: each sign's number is the definition's. Assumes nothing.
use Rattle.std.specs.Prelude.{eqb}
use Rattle.std.proofs.Common.{eq-eqb, ne_eqb}
use Rattle.layout_packed.specs.Laws.Zigzag.{zigzag-zero, zigzag-minus}
use Rattle.layout_packed.proofs.put.zigzagged.Goals as goal

pub returns-then-n-eq0 : goal.returns-then-n-eq0
returns-then-n-eq0 c = zigzag-zero (eqb c.args.n.minuses 1) _ c.if-n-eq0.true

pub returns-then-n-eq1 : goal.returns-then-n-eq1
returns-then-n-eq1 c = rw (eq-eqb _ _ c.if-n-eq1.true) (zigzag-minus _ c.if-n-eq0.false)

pub returns : goal.returns
returns c = rw (ne_eqb _ _ c.if-n-eq1.false)
