-- `crossing::circle_circle::meeting` meets its contract: each return is a branch of the definition, by the calls and tests before
-- it.
use borrow.Author.Rules.{rules}
use Rattle.crossing.specs.CircleCircle.{meeting}
use Rattle.float_laws.specs.Branches.{branches}
use Rattle.crossing.proofs.circle_circle.meeting.Statement.{statement}
use Rattle.crossing.proofs.circle_circle.meeting.Tie as tie

pub meeting_spec : {M : Type 1} → statement M
unfolding meeting
meeting_spec =
    tie.close
    (tie.spec
    (search rules) (search rules)
    (λ c. simp (← c.scale.ensures, ← c.add-midpoint.ensures) (search branches))
    (search rules) (search rules)
    (λ c. simp (← c.scale.ensures, ← c.add-midpoint.ensures, ← c.sqrt-h.ensures) (search branches)))
