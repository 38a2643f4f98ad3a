-- `dxf_read::body::copy` meets its contract. The loop's invariant: to write what is left after what stands gives the whole.
use Prim.Native.Nat.{◌-◌}
use mathlib.Core.Path.{◌≡◌, refl}
use native.Mathlib.Omega.{arith}
use lib.ListN.{length, take, drop, length-set}
use lib.Seq.{sets}
use Rattle.dxf_read.proofs.Ends.{copy-end, copy_more}
use Rattle.dxf_read.proofs.body.copy.Statement.{statement}
use Rattle.dxf_read.proofs.body.copy.Tie as tie

abbrev invariant-loop : tie.invariant-loop-i
invariant-loop from many to₀ i₀ to i =
    (length to ≡ length to₀) × (sets to i (drop i (take many from)) ≡ sets to₀ 0 (take many from))

abbrev decreases-loop : tie.decreases-loop-i
decreases-loop from many to₀ i₀ to i = many - i

loop-holds : tie.Need-loop-i-init invariant-loop decreases-loop
loop-holds c = (refl, refl)

loop-again : tie.Need-loop-i-preserved invariant-loop decreases-loop
loop-again c = (
  simp length-set c.loop-i.invariant.0,
  copy_more _ _ _ _ _ c.requires.0 c.loop-i.invariant.1 c.loop-i-test.true _,
)

returns : tie.Need-returns invariant-loop decreases-loop
returns c =
    copy-end _ _ _ _ _ c.requires.0 c.loop-i.invariant.1 c.loop-i-test.false

pub copy_spec : {M : Type 1} → statement M
copy_spec =
    tie.close
    (tie.spec
    invariant-loop decreases-loop loop-holds (λ c. omega arith) (λ c. omega arith) (λ c. omega arith) (λ c. omega arith) (omega arith)
    (omega arith) loop-again (λ c. c.loop-i.invariant.0) returns)
