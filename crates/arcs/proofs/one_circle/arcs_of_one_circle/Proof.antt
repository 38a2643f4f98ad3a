-- `arcs::one_circle::arcs_of_one_circle` meets its contract: each return is a branch of the definition, by the calls and tests
-- before it.
use borrow.Author.Rules.{rules}
use Rattle.arcs.specs.OneCircle.{arcs_of_one_circle}
use Rattle.float_laws.specs.Branches.{branches}
use Rattle.arcs.proofs.one_circle.arcs_of_one_circle.Statement.{statement}
use Rattle.arcs.proofs.one_circle.arcs_of_one_circle.Tie as tie

returns-5 : tie.Need-returns
unfolding arcs_of_one_circle
returns-5 c =
    let t = c.before.before.before.before in
    let d = t.before.before in
    simp (
      ← d.arc2_ends-arc2.ensures,
      ← d.dist_squared.ensures,
      ← t.dist_squared-2.ensures,
      t.if-touch_at_v1.false,
      c.if-touch_at_v2-2.false,
      ← c.new-arc1_sweep.ensures,
      ← c.new-arc2_sweep.ensures,
      ← c.by_sweeps.ensures,
    )

pub arcs_of_one_circle_spec : {M : Type 1} → statement M
unfolding arcs_of_one_circle
arcs_of_one_circle_spec =
    tie.close
    (tie.spec
    (search rules) (search rules) (search rules)
    (λ c. simp (← c.arc2_ends-arc2.ensures) (search branches depth 8))
    (λ c. simp (← c.arc2_ends-arc2.ensures) (search branches depth 8))
    (λ c. let t = c.before.before.before in
    simp (← t.arc2_ends-arc2.ensures) (simp c.if-same_direction_arcs.true (search branches depth 8)))
    (λ c. let t = c.before.before.before in
    simp (← t.arc2_ends-arc2.ensures) (simp c.if-same_direction_arcs.false (search branches depth 8)))
    (search rules) (search rules) (search rules) returns-5)
