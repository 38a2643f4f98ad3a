-- `crossing::line_line::line_line` meets its contract: each return is a branch of the definition, by the calls and tests before
-- it.
use mathlib.Core.Path.{◌≡◌}
use mathlib.Core.Bool.{cond, not}
use borrow.Author.Rules.{rules}
use Rattle.crossing.specs.LineLine.{line_line, crossing, parallel}
use Rattle.float_laws.specs.Branches.{branches}
use Rattle.crossing.proofs.line_line.line_line.Statement.{statement}
use Rattle.crossing.proofs.line_line.line_line.Tie as tie

-- the definition, by whether the directions are parallel
by-angle : (c : tie.After-fuzzy_eq_zero_eps) →
    let v = c.sub-v.result in
    let u = c.sub-u.result in
    let w = c.sub-w.result in
    let a = c.args in
    line_line a.v1 a.v2 a.u1 a.u2 a.epsilon
    ≡ cond (not c.fuzzy_eq_zero_eps.result)
    (crossing v u w c.perp_dot-v_pdot_u.result a.epsilon)
    (parallel a.v1 a.v2 a.u1 a.u2 v u w a.epsilon)
unfolding line_line
by-angle c =
    simp (
      ← c.sub-v.ensures,
      ← c.sub-u.ensures,
      ← c.perp_dot-v_pdot_u.ensures,
      ← c.sub-w.ensures,
      ← c.fuzzy_eq_zero_eps.ensures,
    )

pub line_line_spec : {M : Type 1} → statement M
line_line_spec =
    tie.close
    (tie.spec
    (search rules) (search rules) (search rules) (search rules) (search rules) (search rules)
    (λ c. rw (by-angle c.before.before) (search branches)) (search rules)
    (λ c. rw (by-angle c.before.before) (search branches)))
