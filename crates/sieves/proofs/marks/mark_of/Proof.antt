-- `sieves::marks::mark_of` meets its contract: the product and the sum fit their type.
use mathlib.Core.Path.{refl}
use native.Mathlib.Nat.{mul-le-mul}
use native.Mathlib.Omega.{arith}
use borrow.Author.Rules.{rules}
use lib.Pow.{shr_le}
use Rattle.sieves.specs.Workings.Marks.{mark_of}
use Rattle.sieves.proofs.marks.mark_of.Statement.{statement}
use Rattle.sieves.proofs.marks.mark_of.Tie as tie

pub mark_of_spec : {M : Type 1} → statement M
unfolding mark_of
mark_of_spec =
    tie.close
    (tie.spec
    (λ c. let h = c.requires in omega (arith, mul-le-mul h.0 h.2.stride))
    (λ c. let h = c.requires in omega (arith, h.2.shift))
    (λ c. let h = c.requires in
    omega (arith, mul-le-mul h.0 h.2.stride, h.1, shr_le c.args.j c.args.grain.shift))
    (λ c. refl))
