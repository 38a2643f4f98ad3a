-- `probe::out::part` meets its contract: after k turns, to write what is left gives what is to be given.
use Prim.Native.Nat.{◌-◌}
use native.Mathlib.Omega.{arith}
use borrow.Author.Rules.{rules}
use lib.ListN.{length}
use Rattle.probe.proofs.Written.{none, Writing, starts, turn, ends}
use Rattle.probe.proofs.out.part.Statement.{statement}
use Rattle.probe.proofs.out.part.Tie as tie

pub part_spec : {M : Type 1} → statement M
part_spec =
    tie.close
    (tie.spec
    (λ numbers out₀ k₀ out k. Writing numbers out₀ out k) (λ numbers out₀ k₀ out k. length numbers - k)
    (λ c. none _ _ (omega arith)) (λ c. starts _ _) (λ c. search rules) (λ c. search rules) (λ c. search rules)
    (λ c. search rules) (λ c. search rules) (λ c. search rules)
    (λ c. turn _ _ _ _ _ c.loop-k.invariant (search rules)) (λ c. search rules)
    (λ c. ends _ _ _ _ c.loop-k.invariant (search rules) (search rules)))
