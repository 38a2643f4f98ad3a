-- `dxf_read::line::past_blanks` meets its contract. The loop's invariant: after the blanks that are left stands what stands after
-- all.
use Prim.Native.Nat.{◌-◌}
use mathlib.Core.Path.{◌≡◌, refl}
use native.Mathlib.Omega.{arith}
use borrow.Author.Rules.{rules}
use lib.ListN.{length, drop}
use Rattle.dxf_form.specs.Workings.Reader.{past_blanks}
use Rattle.dxf_read.proofs.Bytes.{blanks-more, blanks-end}
use Rattle.dxf_read.proofs.line.past_blanks.Statement.{statement}
use Rattle.dxf_read.proofs.line.past_blanks.Tie as tie

abbrev invariant-loop : tie.invariant-loop-i
invariant-loop text start i₀ i = past_blanks (drop i text) ≡ past_blanks (drop start text)

abbrev decreases-loop : tie.decreases-loop-i
decreases-loop text start i₀ i = length text - i

loop-holds : tie.Need-loop-i-init invariant-loop decreases-loop
loop-holds c = refl

add-i : tie.Need-overflow_add-i invariant-loop decreases-loop
add-i c = omega (arith, c.byte_at.ensures.1 (omega arith))

loop-less : tie.Need-loop-i-smaller invariant-loop decreases-loop
loop-less c = omega (arith, c.byte_at.ensures.1 (omega arith))

pub past_blanks_spec : {M : Type 1} → statement M
past_blanks_spec =
    tie.close
    (tie.spec
    invariant-loop decreases-loop loop-holds (λ c. search rules) add-i loop-less (λ c. search blanks-more) (λ c. search blanks-end))
