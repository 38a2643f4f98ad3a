-- `arcs::line_and_arc::point_in_sweep` meets its contract: each return is a branch of the definition, by the calls and tests
-- before it. The point counts, by the finding, exactly if the Rust's test says so.
use borrow.Author.Rules.{rules}
use Rattle.ranges.specs.Range.{on_segment}
use Rattle.arcs.specs.LineAndArc.{point_in_sweep}
use Rattle.arcs.specs.Laws.Sweep.{yes_of}
use Rattle.arcs.proofs.line_and_arc.point_in_sweep.Statement.{statement}
use Rattle.arcs.proofs.line_and_arc.point_in_sweep.Tie as tie

pub point_in_sweep_spec : {M : Type 1} → statement M
unfolding point_in_sweep on_segment
point_in_sweep_spec =
    tie.close
    (tie.spec
    (search rules) (search rules)
    (λ c. simp (← c.sub.ensures, ← c.on_segment.ensures, c.if-not-on_segment.true))
    (search rules) (search rules) (search rules)
    (λ c. let f = c.before.before in let p = f.before in let e = p.before in let w = e.before in
    simp (
      ← w.sub.ensures,
      ← w.on_segment.ensures,
      e.if-not-on_segment.false,
      ← p.point_from_parametric-p.ensures,
      ← yes_of _ _ _ _ f.finding.ensures c.is_yes.ensures,
      c.if-is_yes.true,
    ))
    (λ c. let f = c.before.before in let p = f.before in let e = p.before in let w = e.before in
    simp (
      ← w.sub.ensures,
      ← w.on_segment.ensures,
      e.if-not-on_segment.false,
      ← p.point_from_parametric-p.ensures,
      ← yes_of _ _ _ _ f.finding.ensures c.is_yes.ensures,
      c.if-is_yes.false,
    )))
