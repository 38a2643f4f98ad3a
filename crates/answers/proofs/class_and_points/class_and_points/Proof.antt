-- `answers::class_and_points::class_and_points` meets its contract: each arm is a class of the definition.
use borrow.Author.Rules.{rules}
use Rattle.answers.specs.ClassAndPoints.{class_and_points}
use Rattle.answers.proofs.class_and_points.class_and_points.Statement.{statement}
use Rattle.answers.proofs.class_and_points.class_and_points.Tie as tie

pub class_and_points_spec : {M : Type 1} → statement M
unfolding class_and_points
class_and_points_spec =
    tie.close
    (tie.spec
    (λ c. search rules) (λ c. search rules) (λ c. search rules) (λ c. search rules) (λ c. search rules)
    (λ c. search rules)
    (λ c. simp c.in-NoIntersect.is)
    (λ c. simp c.in-TangentIntersect.is)
    (λ c. simp c.in-OneIntersect.is)
    (λ c. simp c.in-TwoIntersects.is)
    (λ c. simp c.in-OverlappingLines.is)
    (λ c. simp c.in-OverlappingArcs.is))
