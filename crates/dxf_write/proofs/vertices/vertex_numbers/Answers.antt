-- The first number that has no text is told, and if each has one, all three are.
use Rattle.dxf_write.specs.Laws.Passes.{no-x, no-y, no-bulge, all_three}
use Rattle.dxf_write.proofs.vertices.vertex_numbers.Goals as goal

pub returns-in_default : goal.returns-in_default
returns-in_default c = no-x _ _ _ c.vertex-v.ensures c.millionths.ensures c.in_default.is c.no_text.ensures

pub returns-in_default-millionths : goal.returns-in_default-millionths
returns-in_default-millionths c =
    no-y _ _ _ c.vertex-v.ensures c.millionths.ensures c.in-Some.is c.millionths-2.ensures
    c.in_default-millionths.is c.no_text-in_default-millionths.ensures

pub returns-in_default-millionths-2 : goal.returns-in_default-millionths-2
returns-in_default-millionths-2 c =
    no-bulge _ _ _ c.vertex-v.ensures c.millionths.ensures c.in-Some.is c.millionths-2.ensures
    c.in-Some-millionths.is c.millionths-3.ensures c.in_default-millionths-2.is c.no_text-in_default-millionths-2.ensures

pub returns : goal.returns
returns c =
    all_three _ _ _ c.vertex-v.ensures c.millionths.ensures c.in-Some.is c.millionths-2.ensures
    c.in-Some-millionths.is c.millionths-3.ensures c.in-Some-millionths-2.is
