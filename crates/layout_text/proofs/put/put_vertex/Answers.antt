-- `layout_text::put::put_vertex` meets its contract: the parts of the line follow one another, and each fits into its share of
-- the room. Assumes nothing.
use Rattle.std.proofs.Common.{arith}
use Rattle.layout_text.specs.Laws.Put.{parts-of, vertex-put}
use Rattle.layout_text.proofs.put.put_vertex.Goals as goal

pub put_signed-after_x-requires : goal.put_signed-after_x-requires
put_signed-after_x-requires c = omega (arith, parts-of c.args.v c.requires.vertex_within)

pub put_byte-y_at-requires : goal.put_byte-y_at-requires
put_byte-y_at-requires c = omega (arith, parts-of c.args.v c.requires.vertex_within)

pub put_signed-after_y-requires : goal.put_signed-after_y-requires
put_signed-after_y-requires c = omega (arith, parts-of c.args.v c.requires.vertex_within)

pub put_byte-b_at-requires : goal.put_byte-b_at-requires
put_byte-b_at-requires c = omega (arith, parts-of c.args.v c.requires.vertex_within)

pub put_signed-after_b-requires : goal.put_signed-after_b-requires
put_signed-after_b-requires c = omega (arith, parts-of c.args.v c.requires.vertex_within)

pub put_byte-requires : goal.put_byte-requires
put_byte-requires c = omega (arith, parts-of c.args.v c.requires.vertex_within)

pub returns : goal.returns
returns c =
    vertex-put c.args.v c.requires.vertex_within
    c.put_signed-after_x.ensures
    c.put_byte-y_at.ensures
    c.put_signed-after_y.ensures
    c.put_byte-b_at.ensures
    c.put_signed-after_b.ensures
    c.put_byte.ensures
