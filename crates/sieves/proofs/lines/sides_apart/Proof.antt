-- `sieves::lines::sides_apart` meets its contract: straight on.
use borrow.Author.Rules.{rules}
use Rattle.sieves.specs.Workings.Lines.{sides_apart}
use Rattle.sieves.proofs.lines.sides_apart.Statement.{statement}
use Rattle.sieves.proofs.lines.sides_apart.Tie as tie

pub sides_apart_spec : {M : Type 1} → statement M
unfolding sides_apart
sides_apart_spec =
    tie.close
    (tie.spec
    (λ c κs. search rules) (λ c κs. search rules) (λ c κs. search rules) (λ c κs. search rules)
    (λ c. simp (
      ← c.quotient_outside-2.ensures,
      ← c.quotient_outside.ensures,
      ← c.fuzzy_eq_zero_eps.ensures,
      ← c.fuzzy_eq_zero_eps-parallel.ensures,
    )))
