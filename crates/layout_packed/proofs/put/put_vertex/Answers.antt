-- `layout_packed::put::put_vertex` meets its contract: its three numbers, each within its bytes. Assumes nothing.
use Rattle.std.proofs.Common.{arith}
use Rattle.layout_packed.specs.Laws.Long.{sizes-of}
use Rattle.layout_packed.specs.Laws.Put.{put_three}
use Rattle.layout_packed.proofs.put.put_vertex.Goals as goal

pub put_signed-after_x-requires : goal.put_signed-after_x-requires
put_signed-after_x-requires c =
    let sizes = sizes-of c.args.v c.requires.vertex_within in
    record { n_le_coordinate = omega arith; n_in_bounds = omega arith }

pub put_signed-after_y-requires : goal.put_signed-after_y-requires
put_signed-after_y-requires c =
    let sizes = sizes-of c.args.v c.requires.vertex_within in
    record { n_le_coordinate = omega arith; n_in_bounds = omega (arith, c.put_signed-after_x.ensures.after) }

pub put_signed-requires : goal.put_signed-requires
put_signed-requires c =
    let sizes = sizes-of c.args.v c.requires.vertex_within in
    record {
      n_le_coordinate = omega arith;
      n_in_bounds = omega (arith, c.put_signed-after_x.ensures.after, c.put_signed-after_y.ensures.after);
    }

pub returns : goal.returns
returns c =
    put_three _ _ _ _ (omega (arith, sizes-of c.args.v c.requires.vertex_within)) c.put_signed-after_x.ensures
    c.put_signed-after_y.ensures c.put_signed.ensures
