-- `month::count::listed_adds` meets its contract: its stores are the definition's.
use borrow.Author.Rules.{rules}
use Rattle.month.specs.Workings.Written.{listed_adds}
use Rattle.month.proofs.count.listed_adds.Statement.{statement}
use Rattle.month.proofs.count.listed_adds.Tie as tie

returns : tie.Need-returns
unfolding listed_adds
returns c =
    simp (
      c.count_class-tangent.ensures,
      c.count_class-one.ensures,
      c.count_class-two.ensures,
      c.count_class-lines.ensures,
      c.count_class-arcs.ensures,
    )

pub listed_adds_spec : {M : Type 1} → statement M
listed_adds_spec =
    tie.close
    (tie.spec
    (λ c. search rules) (λ c. search rules) (λ c. search rules) (λ c. search rules) (λ c. search rules) (λ c. search rules)
    (λ c. search rules) (λ c. search rules) (λ c. search rules) (λ c. search rules) (λ c. search rules) (λ c. search rules)
    (λ c. search rules) (λ c. search rules) (λ c. search rules) (λ c. search rules) (λ c. search rules) (λ c. search rules)
    (λ c. search rules) (λ c. search rules) (λ c. search rules) (λ c. search rules) (λ c. search rules) (λ c. search rules)
    returns)
