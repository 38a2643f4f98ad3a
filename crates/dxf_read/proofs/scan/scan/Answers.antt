-- A group more, a fault, and the end of the text.
use mathlib.Core.Path.{sym, ◌∙◌}
use native.Mathlib.Omega.{arith}
use Rattle.dxf_read.specs.Laws.Scanning.{scan-start, scan-fault, scan-line, scan-shorter, scan-next, scan-cut, scan-ended}
use Rattle.dxf_read.proofs.scan.scan.Goals as goal

pub loop-at-init : goal.loop-at-init
loop-at-init c = scan-start _ _

pub overflow_add-result : goal.overflow_add-result
overflow_add-result c =
    let inv = c.loop-at.invariant in
    omega (arith, inv.few-lines, scan-line inv c.loop-at-test.true c.pair_at.ensures.result_value c.in-Err.is)

pub returns-in-Err : goal.returns-in-Err
returns-in-Err c = scan-fault c.loop-at.invariant c.loop-at-test.true c.pair_at.ensures.result_value c.in-Err.is

pub store-requires : goal.store-requires
store-requires c = let inv = c.loop-at.invariant in omega (arith, inv.long)

pub step-s-requires : goal.step-s-requires
step-s-requires c =
    let inv = c.loop-at.invariant in
    record { vertices_bound = omega (arith, inv.few-lines, inv.few-vertices); lines_bound = omega (arith, inv.few-lines) }

pub overflow_add-lines : goal.overflow_add-lines
overflow_add-lines c = omega (arith, c.loop-at.invariant.few-lines)

pub loop-at-smaller : goal.loop-at-smaller
loop-at-smaller c =
    let h = c.pair_at.ensures in
    omega (arith, scan-shorter c.loop-at.invariant c.loop-at-test.true h.result_value h.in_turn c.in-Ok.is)

pub loop-at-preserved : goal.loop-at-preserved
loop-at-preserved c =
    let h = c.pair_at.ensures in
    scan-next c.loop-at.invariant c.loop-at-test.true h.result_value h.in_turn c.in-Ok.is c.store.ensures c.step-s.ensures
    c.after-due.ensures

pub returns-then-may_end : goal.returns-then-may_end
returns-then-may_end c =
    scan-ended c.loop-at.invariant c.loop-at-test.false (sym c.may_end.ensures ∙ c.if-may_end.true)

pub overflow_add-result-2 : goal.overflow_add-result-2
overflow_add-result-2 c = let inv = c.loop-at.invariant in omega (arith, inv.few-lines)

pub returns : goal.returns
returns c = scan-cut c.loop-at.invariant c.loop-at-test.false (sym c.may_end.ensures ∙ c.if-may_end.false)
