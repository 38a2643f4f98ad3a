-- `dxf_write::sizes::vertex_size` meets its contract: a number has at most 28 bytes, so that no sum overflows. Assumes nothing.
use Rattle.std.proofs.Common.{arith, rules}
use Rattle.dxf_write.specs.Laws.Put.{number_short, vertex-size}
use Rattle.dxf_write.proofs.sizes.vertex_size.Statement.{statement}
use Rattle.dxf_write.proofs.sizes.vertex_size.Tie as tie

add-result : tie.Need-overflow_add-result
add-result c =
    let a = c.args in
    omega (arith, number_short a.v.x.negative a.v.x.millionths (omega arith), number_short a.v.y.negative a.v.y.millionths (omega arith))

add-result-2 : tie.Need-overflow_add-result-2
add-result-2 c =
    let a = c.args in
    omega (
      arith,
      number_short a.v.x.negative a.v.x.millionths (omega arith),
      number_short a.v.y.negative a.v.y.millionths (omega arith),
      number_short a.v.bulge.negative a.v.bulge.millionths (omega arith),
    )

add-result-3 : tie.Need-overflow_add-result-3
add-result-3 c =
    let a = c.args in
    omega (
      arith,
      number_short a.v.x.negative a.v.x.millionths (omega arith),
      number_short a.v.y.negative a.v.y.millionths (omega arith),
      number_short a.v.bulge.negative a.v.bulge.millionths (omega arith),
    )

returns : tie.Need-returns
returns c =
    let a = c.args in (
      omega (arith, vertex-size a.v),
      omega (
        arith,
        number_short a.v.x.negative a.v.x.millionths (omega arith),
        number_short a.v.y.negative a.v.y.millionths (omega arith),
        number_short a.v.bulge.negative a.v.bulge.millionths (omega arith),
      ),
    )

pub vertex_size_spec : {M : Type 1} → statement M
vertex_size_spec =
    tie.close
    (tie.spec
    (λ c. search rules) (λ c. search rules) add-result (λ c. search rules) add-result-2 add-result-3 returns)
