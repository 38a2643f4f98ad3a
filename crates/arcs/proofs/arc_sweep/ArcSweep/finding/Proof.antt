-- `arcs::arc_sweep::ArcSweep::finding` meets its contract: what is worked out is the definition's, and so are the
-- tests on it.
use mathlib.Core.Path.{◌≡◌}
use mathlib.Core.Bool.{cond}
use borrow.Author.Rules.{rules}
use Rattle.arcs.specs.ArcSweep.{finding, exactly_within_sweep, beside}
use Rattle.float_laws.specs.Branches.{branches}
use Rattle.arcs.specs.declared.sweep_finding.SweepFinding.{SweepFinding}
use Rattle.arcs.specs.declared.sweep_finding.SweepFinding.TheVariants.{Outside, Inside, NearStart, NearEnd}
use Rattle.arcs.proofs.arc_sweep.ArcSweep.finding.Statement.{statement}
use Rattle.arcs.proofs.arc_sweep.ArcSweep.finding.Tie as tie

-- past the centre: the tests on what is worked out
past-center : (c : tie.After-perp_dot-end_cross) (r : SweepFinding) → let p = c.before.before.before.before.before in
    let s = p.before.args.self in
    r ≡ cond (exactly_within_sweep s.is_clockwise c.perp_dot-start_cross.result c.perp_dot-end_cross.result) Inside
    (cond (beside s.start_vector p.sub-point_vector.result c.perp_dot-start_cross.result s.start_fuzzy_limit) NearStart
    (cond (beside s.end_vector p.sub-point_vector.result c.perp_dot-end_cross.result s.end_fuzzy_limit) NearEnd Outside))
    → r ≡ finding s p.before.args.point
unfolding finding
past-center c r e =
    let t = c.before.before in
    simp (
      ← t.sub-point_vector.ensures,
      ← t.length_squared.ensures,
      t.if-length_squared-self.false,
      ← c.perp_dot-start_cross.ensures,
      ← c.perp_dot-end_cross.ensures,
    ) e

pub finding_spec : {M : Type 1} → statement M
unfolding finding
finding_spec =
    tie.close
    (tie.spec
    (search rules) (search rules)
    (λ c. let l = c.before.before in simp (← l.sub-point_vector.ensures, ← l.length_squared.ensures) (search branches))
    (search rules) (search rules) (search rules)
    (λ c. past-center c.before.before _ (search branches))
    (search rules)
    (λ c. past-center c.before.before.before.before.before _ (search branches))
    (search rules)
    (λ c. past-center c.before.before.before.before.before.before.before.before _ (search branches))
    (λ c. past-center c.before.before.before.before.before.before.before.before _ (search branches)))
