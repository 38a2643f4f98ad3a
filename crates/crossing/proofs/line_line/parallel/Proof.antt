-- `crossing::line_line::parallel` meets its contract: its nested tests are the definition's, which asks for both points
-- at once.
use mathlib.Core.Path.{◌≡◌}
use mathlib.Core.Bool.{cond, not, ◌||◌}
use borrow.Author.Rules.{rules}
use Rattle.plane.specs.Fuzzy.{fuzzy_eq_zero_eps}
use Rattle.plane.specs.Vector2.{perp_dot}
use Rattle.crossing.specs.LineLine.{parallel}
use Rattle.float_laws.specs.Branches.{pairs}
use Rattle.crossing.specs.declared.line_line_intr.LineLineIntr.{LineLineIntr}
use Rattle.crossing.specs.declared.line_line_intr.LineLineIntr.TheVariants.{NoIntersect}
use Rattle.crossing.proofs.line_line.parallel.Statement.{statement}
use Rattle.crossing.proofs.line_line.parallel.Tie as tie

-- past the first test: w leaves neither the line of v nor that of u
on_line : (c : tie.Else-fuzzy_eq_zero_eps) (r y : LineLineIntr) → r ≡ y → let a = c.args in
    r ≡ cond (not (fuzzy_eq_zero_eps (perp_dot a.v a.w) a.eps)
    || not (fuzzy_eq_zero_eps (perp_dot a.u a.w) a.eps)) NoIntersect y
on_line c r y e =
    simp (
      ← c.perp_dot.ensures,
      ← c.fuzzy_eq_zero_eps.ensures,
      ← c.perp_dot-2.ensures,
      ← c.fuzzy_eq_zero_eps-2.ensures,
      c.if-fuzzy_eq_zero_eps.false,
    ) e

pub parallel_spec : {M : Type 1} → statement M
unfolding parallel
parallel_spec =
    tie.close
    (tie.spec
    (search rules) (search rules) (search rules) (search rules)
    (λ c. simp (
      ← c.perp_dot.ensures,
      ← c.fuzzy_eq_zero_eps.ensures,
      ← c.perp_dot-2.ensures,
      ← c.fuzzy_eq_zero_eps-2.ensures,
      c.if-fuzzy_eq_zero_eps.true,
    ))
    (search rules) (search rules) (search rules)
    (λ c. on_line c.before.before.before.before.before _ _ (search pairs)) (search rules)
    (λ c. on_line c.before.before.before.before.before _ _ (search pairs)) (search rules)
    (λ c. on_line c.before.before.before.before.before _ _ (search pairs))
    (search rules) (search rules) (search rules)
    (λ c. simp (← c.sub-w2.ensures, ← c.span_of.ensures)
    (on_line c.before.before.before.before.before.before.before _ _ (search pairs))))
