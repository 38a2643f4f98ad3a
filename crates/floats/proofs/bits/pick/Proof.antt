-- `floats::bits::pick` meets its contract: each return is a branch of the definition, by the test before it.
use Rattle.std.proofs.Common.{rules}
use Rattle.floats.specs.Bits
use Rattle.floats.proofs.bits.pick.Statement.{statement}
use Rattle.floats.proofs.bits.pick.Tie as tie

pub pick_spec : {M : Type 1} → statement M
unfolding Bits.pick
pick_spec =
    tie.close
    (tie.spec
    (λ c. search rules) (λ c. search rules)
    (λ c. let a = c.before.before in
    simp (← a.before.is_nan.ensures, a.if-is_nan.true, ← c.before.is_nan-then-is_nan.ensures, c.if-is_nan-2.true))
    (λ c. let a = c.before.before in
    simp (← a.before.is_nan.ensures, a.if-is_nan.true, ← c.before.is_nan-then-is_nan.ensures, c.if-is_nan-2.false))
    (λ c. search rules)
    (λ c. let a = c.before.before in
    simp (← a.before.is_nan.ensures, a.if-is_nan.false, ← c.before.is_nan-2.ensures, c.if-is_nan-3.true))
    (λ c. let b = c.before in let a = b.before.before in
    simp (← a.before.is_nan.ensures, a.if-is_nan.false, ← b.before.is_nan-2.ensures, b.if-is_nan-3.false, c.if-first.true))
    (λ c. let b = c.before in let a = b.before.before in
    simp (← a.before.is_nan.ensures, a.if-is_nan.false, ← b.before.is_nan-2.ensures, b.if-is_nan-3.false, c.if-first.false)))
