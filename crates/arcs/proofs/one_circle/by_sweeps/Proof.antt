-- `arcs::one_circle::by_sweeps` meets its contract: each return is a branch of the definition, by the calls and tests before
-- it. An end counts, by the finding, exactly if the Rust's test says so.
use mathlib.Core.Path.{◌≡◌}
use borrow.Author.Rules.{rules}
use Rattle.arcs.specs.ArcSweep as sweep
use Rattle.arcs.specs.OneCircle.{by_sweeps}
use Rattle.arcs.specs.Laws.Sweep.{yes-in}
use Rattle.arcs.proofs.one_circle.by_sweeps.Statement.{statement}
use Rattle.arcs.proofs.one_circle.by_sweeps.Tie as tie

-- the second arc's start, and its end, in the first arc's sweep
starts : (c : tie.After-is_yes-arc2_ends_in_arc1) → let a = c.before.before.before.before.args in
    c.is_yes-arc2_starts_in_arc1.result ≡ sweep.contains a.arc1_sweep a.arc2.start
starts c = let y = c.before.before in yes-in _ _ _ _ y.finding.ensures y.is_yes-arc2_starts_in_arc1.ensures

ends : (c : tie.After-is_yes-arc2_ends_in_arc1) → let a = c.before.before.before.before.args in
    c.is_yes-arc2_ends_in_arc1.result ≡ sweep.contains a.arc1_sweep a.arc2.end
ends c = yes-in _ _ _ _ c.finding-2.ensures c.is_yes-arc2_ends_in_arc1.ensures

pub by_sweeps_spec : {M : Type 1} → statement M
unfolding by_sweeps
by_sweeps_spec =
    tie.close
    (tie.spec
    (search rules) (search rules) (search rules) (search rules)
    (λ c. let t = c.before.before in simp (← starts t, ← ends t, c.if-arc2_starts_in_arc1.true, c.if-arc2_ends_in_arc1.true))
    (search rules)
    (λ c. let b = c.before in let t = b.before.before in
    simp (← starts t, ← ends t, b.if-arc2_starts_in_arc1.true, b.if-arc2_ends_in_arc1.false, ← c.overlap_by_direction.ensures))
    (search rules)
    (λ c. let b = c.before in let t = b.before.before in
    simp (← starts t, ← ends t, b.if-arc2_starts_in_arc1.false, b.if-arc2_ends_in_arc1-2.true, ← c.overlap_by_direction-then-arc2_ends_in_arc1-2.ensures))
    (search rules) (search rules) (search rules)
    (λ c. let b = c.before in let y = b.before in let l = y.before.before in let t = l.before.before in
    simp (
      ← starts t,
      ← ends t,
      l.if-arc2_starts_in_arc1.false,
      l.if-arc2_ends_in_arc1-2.false,
      ← yes-in _ _ _ _ y.finding-3.ensures y.is_yes.ensures,
      b.if-is_yes.true,
      ← c.overlap_by_direction-then-is_yes.ensures,
    ))
    (λ c. let y = c.before in let l = y.before.before in let t = l.before.before in
    simp (
      ← starts t,
      ← ends t,
      l.if-arc2_starts_in_arc1.false,
      l.if-arc2_ends_in_arc1-2.false,
      ← yes-in _ _ _ _ y.finding-3.ensures y.is_yes.ensures,
      c.if-is_yes.false,
    )))
