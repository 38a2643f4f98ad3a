-- Where there is a whole part, x is a number, and the candidate is tested.
use Rattle.std.proofs.Common.{sym, ap, ◌∙◌}
use Rattle.dxf_write.specs.Millionths.{has_part}
use Rattle.dxf_write.specs.Laws.Number.{part-above, part-below, part-real, raised_is, tried, untried}
use Rattle.dxf_write.proofs.millionths.millionths.Goals as goal

pub truncating_f64_to_u64-requires : goal.truncating_f64_to_u64-requires
truncating_f64_to_u64-requires c =
    let h = sym c.has_part.ensures ∙ c.if-has_part.true in
    record { lower_bound = part-above _ h; upper_bound = part-below _ h }

pub tested-requires : goal.tested-requires
tested-requires c =
    part-real _ (ap has_part (sym (raised_is _ _ c.abs.ensures)) ∙ sym c.has_part.ensures ∙ c.if-has_part.true)

pub returns-then-has_part : goal.returns-then-has_part
returns-then-has_part c =
    tried _ _ c.abs.ensures _ _ _ c.has_part.ensures c.if-has_part.true c.truncating_f64_to_u64.ensures c.tested.ensures

pub returns : goal.returns
returns c = untried _ _ c.abs.ensures _ c.has_part.ensures c.if-has_part.false
