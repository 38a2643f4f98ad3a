-- `fast_pair::lines::lines_apart` meets its contract: its calls and tests lead to the branches of the definition.
use mathlib.Core.Path.{◌≡◌}
use mathlib.Core.Bool.{cond, not, ◌||◌}
use borrow.Author.Rules.{rules}
use Rattle.plane.specs.Fuzzy.{fuzzy_eq_zero_eps}
use Rattle.plane.specs.Vector2.{perp_dot}
use Rattle.float_laws.specs.Branches.{branches}
use Rattle.fast_pair.specs.Workings.ClearlyApart.{lines_apart, crosses_outside}
use Rattle.fast_pair.proofs.lines.lines_apart.Statement.{statement}
use Rattle.fast_pair.proofs.lines.lines_apart.Tie as tie

-- the definition, by the directions and the products that were worked out
worked-out : (c : tie.After-perp_dot-n) →
    let a = c.args in
    let d = c.perp_dot-d.result in
    let n = c.perp_dot-n.result in
    let v = c.sub-v.result in
    lines_apart a.v1 a.v2 a.u1 a.u2 a.eps
    ≡ cond (fuzzy_eq_zero_eps d a.eps)
    (not (fuzzy_eq_zero_eps n a.eps))
    (crosses_outside n d v a.eps || crosses_outside (perp_dot v c.sub-w.result) d c.sub-u.result a.eps)
unfolding lines_apart
worked-out c =
    simp (
      ← c.sub-v.ensures,
      ← c.sub-u.ensures,
      ← c.perp_dot-d.ensures,
      ← c.sub-w.ensures,
      ← c.perp_dot-n.ensures,
    )

pub lines_apart_spec : {M : Type 1} → statement M
lines_apart_spec =
    tie.close
    (tie.spec
    (λ c. search rules) (λ c. search rules) (λ c. search rules) (λ c. search rules) (λ c. search rules) (λ c. search rules)
    (λ c. search rules)
    (λ c. rw (worked-out c.before.before.before, ← c.fuzzy_eq_zero_eps-then-fuzzy_eq_zero_eps.ensures) (search branches))
    (λ c. search rules)
    (λ c. rw (worked-out c.before.before.before.before, ← c.crosses_outside.ensures, c.if-crosses_outside.true) (search branches))
    (λ c. search rules) (λ c. search rules)
    (λ c. rw (worked-out c.before.before.before.before.before.before, ← c.crosses_outside.ensures, c.if-crosses_outside.false, ← c.perp_dot.ensures)
    (search branches)))
