-- The first pass refuses or counts the bytes, and if they fit, the count, the flags and the vertices are put one after the other.
use Rattle.std.proofs.Common.{arith, rules}
use Rattle.checks.specs.Laws.Steps.{raised}
use Rattle.put_text.specs.Laws.Decimal.{decimal-long}
use Rattle.dxf_write.specs.Laws.Ends.{text-refused, size_few, no_room, count_fits, flags-fit, vertices-fit, all-written}
use Rattle.dxf_write.proofs.export_checked.Goals as goal

pub returns-in_err-size : goal.returns-in_err-size
returns-in_err-size c =
    rw (raised c.from_residual.ensures) (text-refused _ c.args.closed _ _ c.measure.ensures c.in_err-size.was)

pub overflow_add-size : goal.overflow_add-size
overflow_add-size c =
    let few = size_few c.args.path.now _ c.measure.ensures c.in_ok-size.was in
    omega (arith, few, decimal-long 19 c.vertex_count-n.result (omega arith))

pub overflow_add-size-2 : goal.overflow_add-size-2
overflow_add-size-2 c =
    let few = size_few c.args.path.now _ c.measure.ensures c.in_ok-size.was in
    omega (arith, few, decimal-long 19 c.vertex_count-n.result (omega arith))

pub returns-then-text-size : goal.returns-then-text-size
returns-then-text-size c =
    no_room _ c.args.closed _ _ c.measure.ensures c.in_ok-size.was _ _
    c.vertex_count-n.ensures c.decimal_size.ensures c.if-text-size.true c.whole.ensures

pub put_whole_group-after_count-requires : goal.put_whole_group-after_count-requires
put_whole_group-after_count-requires c =
    let a = c.args in
    count_fits _ a.closed a.text.now _ c.measure.ensures c.in_ok-size.was _ _
    c.vertex_count-n.ensures c.decimal_size.ensures c.if-text-size.false

pub put_whole_group-start-requires : goal.put_whole_group-start-requires
put_whole_group-start-requires c =
    let a = c.args in
    flags-fit _ a.closed a.text.now _ c.measure.ensures c.in_ok-size.was _ _ c.vertex_count-n.ensures
    c.decimal_size.ensures c.if-text-size.false c.put_whole_group-after_count.ensures (search rules) _ c.flags.ensures

pub put_vertices-end-requires : goal.put_vertices-end-requires
put_vertices-end-requires c =
    let a = c.args in
    vertices-fit _ a.closed a.text.now _ c.measure.ensures c.in_ok-size.was _ _
    c.vertex_count-n.ensures c.decimal_size.ensures c.if-text-size.false c.put_whole_group-after_count.ensures
    (search rules) _ c.flags.ensures c.put_whole_group-start.ensures (search rules)

pub returns : goal.returns
returns c =
    let a = c.args in
    all-written _ a.closed a.text.now _ c.measure.ensures c.in_ok-size.was _ _ c.vertex_count-n.ensures
    c.decimal_size.ensures c.if-text-size.false c.put_whole_group-after_count.ensures (search rules) _
    c.flags.ensures c.put_whole_group-start.ensures (search rules) c.put_vertices-end.ensures
