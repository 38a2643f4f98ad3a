-- A vertex more, and the end: each vertex has a few bytes only, so that no sum overflows.
use Rattle.std.proofs.Common.{arith}
use Rattle.checks.specs.Laws.Steps.{raised}
use Rattle.dxf_write.specs.Laws.Passes.{counted_none, counted-on, counted-all, left-bad}
use Rattle.dxf_write.proofs.vertices.measure.Goals as goal

pub loop-i-init : goal.loop-i-init
loop-i-init c = record { counted = counted_none _ _; few = omega arith }

pub returns-in_err-v : goal.returns-in_err-v
returns-in_err-v c =
    rw (raised c.from_residual.ensures)
    (left-bad _ c.loop-i.invariant.counted.left (omega arith) c.vertex_numbers.ensures c.in_err-v.was)

pub loop-i-preserved : goal.loop-i-preserved
loop-i-preserved c =
    let inv = c.loop-i.invariant in
    record {
      counted = counted-on inv.counted (omega arith) c.vertex_numbers.ensures c.in_ok-v.was c.vertex_size-size.ensures.0;
      few = omega (arith, c.vertex_size-size.ensures.1, inv.few);
    }

pub returns : goal.returns
returns c =
    let inv = c.loop-i.invariant in
    let all = counted-all inv.counted (omega arith) in
    (all.0, all.1, omega (arith, inv.few))
