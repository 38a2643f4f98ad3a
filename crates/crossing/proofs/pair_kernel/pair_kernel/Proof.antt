-- `crossing::pair_kernel::pair_kernel` meets its contract: each kind of pair asks the definition's kernel.
use borrow.Author.Rules.{rules}
use Rattle.crossing.specs.Workings.PairKernel.{pair_kernel}
use Rattle.crossing.proofs.pair_kernel.pair_kernel.Statement.{statement}
use Rattle.crossing.proofs.pair_kernel.pair_kernel.Tie as tie

returns : tie.Need-returns-then-bulge_is_zero-2
unfolding pair_kernel
returns c =
    simp (← c.bulge_is_zero.ensures, c.if-bulge_is_zero.true, ← c.bulge_is_zero-then-bulge_is_zero.ensures, c.if-bulge_is_zero-2.true)

returns-2 : tie.Need-returns-then-bulge_is_zero
unfolding pair_kernel
returns-2 c =
    simp (
      ← c.bulge_is_zero.ensures,
      c.if-bulge_is_zero.true,
      ← c.bulge_is_zero-then-bulge_is_zero.ensures,
      c.if-bulge_is_zero-2.false,
      ← c.pos.ensures,
      ← c.pos-then-bulge_is_zero.ensures,
      ← c.line_circle.ensures,
    )

returns-3 : tie.Need-returns-then-bulge_is_zero-3
unfolding pair_kernel
returns-3 c =
    simp (
      ← c.bulge_is_zero.ensures,
      c.if-bulge_is_zero.false,
      ← c.bulge_is_zero-2.ensures,
      c.if-bulge_is_zero-3.true,
      ← c.pos-then-bulge_is_zero-3.ensures,
      ← c.pos-then-bulge_is_zero-3-2.ensures,
      ← c.line_circle-then-bulge_is_zero-3.ensures,
    )

returns-4 : tie.Need-returns
unfolding pair_kernel
returns-4 c =
    simp (
      ← c.bulge_is_zero.ensures,
      c.if-bulge_is_zero.false,
      ← c.bulge_is_zero-2.ensures,
      c.if-bulge_is_zero-3.false,
      ← c.circle_circle.ensures,
    )

pub pair_kernel_spec : {M : Type 1} → statement M
pair_kernel_spec =
    tie.close
    (tie.spec
    (search rules) (search rules) returns (search rules) (search rules) (search rules) returns-2
    (search rules) (search rules) (search rules) (search rules) returns-3 (search rules) returns-4)
