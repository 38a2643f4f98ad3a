-- `dxf_write::sizes::decimal_size` meets its contract. The loop's invariant: the digits of the rest, and those counted beyond the
-- first, are those of the number. Assumes nothing.
use Rattle.std.proofs.Common.{◌≡◌, ◌+◌, length, arith, rules}
use Rattle.put_text.specs.Decimal.{decimal}
use Rattle.put_text.specs.Laws.Put.{small-long, large-long}
use Rattle.put_text.specs.Laws.Decimal.{decimal-long}
use Rattle.dxf_write.proofs.sizes.decimal_size.Statement.{statement}
use Rattle.dxf_write.proofs.sizes.decimal_size.Tie as tie

abbrev invariant-loop : tie.invariant-loop-rest
invariant-loop n rest₀ size₀ rest size = length (decimal rest) + size ≡ length (decimal n) + 1

abbrev decreases-loop : tie.decreases-loop-rest
decreases-loop n rest₀ size₀ rest size = rest

add-size : tie.Need-overflow_add-size invariant-loop decreases-loop
add-size c = omega (arith, decimal-long 19 c.args.n (omega arith))

loop-again : tie.Need-loop-rest-preserved invariant-loop decreases-loop
loop-again c = omega (arith, large-long _ c.loop-rest-test.true)

returns : tie.Need-returns invariant-loop decreases-loop
returns c = omega (arith, small-long c.loop-rest.rest (omega arith))

pub decimal_size_spec : {M : Type 1} → statement M
decimal_size_spec =
    tie.close (tie.spec invariant-loop decreases-loop (λ c. search rules) add-size (λ c. search rules) loop-again returns)
