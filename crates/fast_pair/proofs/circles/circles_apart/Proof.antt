-- `fast_pair::circles::circles_apart` meets its contract: its calls are the definition's, one by one.
use borrow.Author.Rules.{rules}
use Rattle.fast_pair.specs.Workings.ClearlyApart
use Rattle.fast_pair.proofs.circles.circles_apart.Statement.{statement}
use Rattle.fast_pair.proofs.circles.circles_apart.Tie as tie

pub circles_apart_spec : {M : Type 1} → statement M
unfolding ClearlyApart.circles_apart
circles_apart_spec =
    tie.close
    (tie.spec
    (λ c. search rules) (λ c. search rules) (λ c. search rules) (λ c. search rules) (λ c. search rules)
    (λ c. simp (← c.sub-cv.ensures, ← c.dot-d2.ensures, ← c.apart.ensures, ← c.abs.ensures, ← c.nested.ensures)))
