-- `dxf_read::digits::grown` meets its contract: its test is the definition's.
use mathlib.Core.Path.{refl}
use borrow.Author.Rules.{rules}
use Rattle.float_laws.specs.Branches.{below, above}
use Rattle.dxf_read.specs.Workings.Kept.{grown}
use Rattle.dxf_read.proofs.digits.grown.Statement.{statement}
use Rattle.dxf_read.proofs.digits.grown.Tie as tie

pub grown_spec : {M : Type 1} → statement M
unfolding grown
grown_spec =
    tie.close
    (tie.spec
    (λ c. search rules) (λ c. below _ _ _ _ _ c.if-n-gt-TOP.true refl) (λ c. search rules) (λ c. search rules)
    (λ c. above _ _ _ _ _ c.if-n-gt-TOP.false refl))
