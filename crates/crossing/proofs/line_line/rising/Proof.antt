-- `crossing::line_line::rising` meets its contract: each return is a branch of the definition, by the calls and tests before it.
use Rattle.crossing.specs.LineLine.{rising}
use Rattle.float_laws.specs.Branches.{branches}
use Rattle.crossing.proofs.line_line.rising.Statement.{statement}
use Rattle.crossing.proofs.line_line.rising.Tie as tie

pub rising_spec : {M : Type 1} → statement M
unfolding rising
rising_spec = tie.close (tie.spec (λ c. search branches) (λ c. search branches))
