-- `floats::root::sqrt` meets its contract: RootBits.antt says what `parts` and `rounded` make of the pattern, and that nothing
-- wraps.
use Rattle.std.proofs.Common.{arith, rules}
use Rattle.floats.proofs.RootBits.{known, r_small, pattern-is}
use Rattle.floats.proofs.root.sqrt.Statement.{statement}
use Rattle.floats.proofs.root.sqrt.Tie as tie

sub-result : tie.Need-overflow_sub-result
sub-result c =
    let start = c.before in
    omega (arith, (known start.args.b start.requires.0 start.requires.1 _ c.parts-p.ensures).e-low)

rounded-requires : tie.Need-rounded-requires
rounded-requires c κs =
    let start = c.before in
    let k = known start.args.b start.requires.0 start.requires.1 _ c.parts-p.ensures in
    (k.digits_low, (k.digits-high, omega arith))

add-result : tie.Need-overflow_add-result
add-result c =
    let start = c.before.before in
    let k = known start.args.b start.requires.0 start.requires.1 _ c.before.parts-p.ensures in
    omega (
      arith,
      k.e-high,
      r_small start.args.b start.requires.0 start.requires.1 _ _ c.before.parts-p.ensures c.rounded.ensures,
    )

returns : tie.Need-returns
returns c =
    let start = c.before.before in
    pattern-is start.args.b start.requires.0 start.requires.1 _ _ c.before.parts-p.ensures c.rounded.ensures

pub sqrt_spec : {M : Type 1} → statement M
sqrt_spec =
    tie.close
    (tie.spec
    (λ c. search rules) (λ c. search rules) (λ c. search rules) sub-result rounded-requires add-result returns)
