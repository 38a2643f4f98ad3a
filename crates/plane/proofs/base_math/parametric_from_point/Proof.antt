-- `plane::base_math::parametric_from_point` meets its contract: each return is a branch of the definition, by the test on the two
-- magnitudes, which are what `abs` answers.
use borrow.Author.Rules.{rules}
use Rattle.plane.specs.BaseMath
use Rattle.plane.proofs.base_math.parametric_from_point.Statement.{statement}
use Rattle.plane.proofs.base_math.parametric_from_point.Tie as tie

returns : tie.Need-returns-then-abs
unfolding BaseMath.parametric_from_point
returns c =
    let t = c.before.before in
    simp (← t.before.before.abs.ensures, ← t.before.abs-2.ensures, t.if-abs.true)

returns-2 : tie.Need-returns
unfolding BaseMath.parametric_from_point
returns-2 c =
    let t = c.before.before in
    simp (← t.before.before.abs.ensures, ← t.before.abs-2.ensures, t.if-abs.false)

pub parametric_from_point_spec : {M : Type 1} → statement M
parametric_from_point_spec =
    tie.close (tie.spec (λ c. search rules) (λ c. search rules) returns returns-2)
