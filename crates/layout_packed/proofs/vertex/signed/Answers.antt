-- `layout_packed::vertex::signed` meets its contract: both its parts are the definition's. Assumes nothing.
use Rattle.layouts.specs.Laws.Minuses.{kept}
use Rattle.layout_packed.specs.Workings.Reader.{meant}
use Rattle.layout_packed.proofs.vertex.signed.Goals as goal

pub returns : goal.returns
unfolding meant
returns c =
    rw (kept c.is_negative.result c.from.result c.from.ensures) (simp (c.is_negative.ensures, c.size.ensures))
