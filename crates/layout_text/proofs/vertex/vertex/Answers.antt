-- `layout_text::vertex::vertex` meets its contract: each number that it reads is the definition's, at the same place. Assumes
-- nothing.
use Rattle.layout_text.specs.Workings.Shown.{shown_vertex}
use Rattle.layout_text.proofs.VertexLines.{no-x, no-y, no-b, all_three}
use Rattle.layout_text.proofs.vertex.vertex.Goals as goal

pub returns-in_default : goal.returns-in_default
unfolding shown_vertex
returns-in_default c = no-x _ _ _ c.whole.ensures c.in_default.is

pub returns-in_default-whole : goal.returns-in_default-whole
unfolding shown_vertex
returns-in_default-whole c = no-y _ _ _ c.whole.ensures _ c.in-Some.is _ c.whole-2.ensures c.in_default-whole.is

pub returns-in_default-whole-2 : goal.returns-in_default-whole-2
unfolding shown_vertex
returns-in_default-whole-2 c =
    no-b _ _ _ c.whole.ensures _ c.in-Some.is _ c.whole-2.ensures _ c.in-Some-whole.is _ c.whole-3.ensures c.in_default-whole-2.is

pub returns : goal.returns
unfolding shown_vertex
returns c =
    all_three _ _ _ c.whole.ensures _ c.in-Some.is _ c.whole-2.ensures _ c.in-Some-whole.is _ c.whole-3.ensures _ c.in-Some-whole-2.is
