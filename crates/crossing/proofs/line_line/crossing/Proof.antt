-- `crossing::line_line::crossing` meets its contract: each return is a branch of the definition, by what the range tests said of
-- the two parameters.
use mathlib.Core.Path.{◌≡◌}
use mathlib.Core.Bool.{not, cond, ◌||◌}
use borrow.Author.Rules.{rules}
use Rattle.floats.specs.Ops.{◌⊘◌}
use Rattle.ranges.specs.Range.{on_segment}
use Rattle.crossing.specs.LineLine.{crossing}
use Rattle.crossing.specs.declared.line_line_intr.LineLineIntr.TheVariants.{TrueIntersect, FalseIntersect}
use Rattle.crossing.proofs.line_line.crossing.Statement.{statement}
use Rattle.crossing.proofs.line_line.crossing.Tie as tie

-- the definition, by the two perp dots
parameters : (c : tie.After-perp_dot-2) →
    let a = c.args in
    let t1 = c.perp_dot.result ⊘ a.v_pdot_u in
    let t2 = c.perp_dot-2.result ⊘ a.v_pdot_u in
    crossing a.v a.u a.w a.v_pdot_u a.eps
    ≡ cond (not (on_segment t1 a.v a.eps) || not (on_segment t2 a.u a.eps)) (FalseIntersect t1 t2) (TrueIntersect t1 t2)
unfolding crossing
parameters c = simp (← c.perp_dot.ensures, ← c.perp_dot-2.ensures)

returns-3 : tie.Need-returns
returns-3 c =
    simp (
      parameters c.before.before.before.before,
      ← c.on_segment.ensures,
      c.if-not-on_segment.false,
      ← c.on_segment-2.ensures,
      c.if-not-on_segment-2.false,
    )

pub crossing_spec : {M : Type 1} → statement M
crossing_spec =
    tie.close
    (tie.spec
    (search rules) (search rules) (search rules)
    (λ c. simp (parameters c.before.before, ← c.on_segment.ensures, c.if-not-on_segment.true))
    (search rules)
    (λ c. simp (
      parameters c.before.before.before.before,
      ← c.on_segment.ensures,
      c.if-not-on_segment.false,
      ← c.on_segment-2.ensures,
      c.if-not-on_segment-2.true,
    ))
    returns-3)
