-- `crossing::circle_circle::by_distance` meets its contract: each return is a branch of the definition, by the calls and tests
-- before it.
use borrow.Author.Rules.{rules}
use Rattle.crossing.specs.CircleCircle.{circle_circle}
use Rattle.float_laws.specs.Branches.{pairs}
use Rattle.crossing.proofs.circle_circle.by_distance.Statement.{statement}
use Rattle.crossing.proofs.circle_circle.by_distance.Tie as tie

pub by_distance_spec : {M : Type 1} → statement M
unfolding circle_circle
by_distance_spec =
    tie.close
    (tie.spec
    (search rules) (search rules) (search rules) (search rules) (search rules)
    (λ c. simp (← c.sub-cv.ensures, ← c.dot-d2.ensures, ← c.sqrt-d.ensures) (search pairs))
    (search rules) (search rules) (search rules)
    (λ c. simp (← c.sub-cv.ensures, ← c.dot-d2.ensures, ← c.sqrt-d.ensures, ← c.abs.ensures)
    (search pairs))
    (search rules)
    (λ c. simp (← c.sub-cv.ensures, ← c.dot-d2.ensures, ← c.sqrt-d.ensures, ← c.abs.ensures)
    (search pairs)))
