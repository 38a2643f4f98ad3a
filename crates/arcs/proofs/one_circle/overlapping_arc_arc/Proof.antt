-- `arcs::one_circle::overlapping_arc_arc` meets its contract: each return is a branch of the definition, by the calls and tests
-- before it.
use borrow.Author.Rules.{rules}
use Rattle.arcs.specs.OneCircle.{overlapping_arc_arc}
use Rattle.arcs.proofs.one_circle.overlapping_arc_arc.Statement.{statement}
use Rattle.arcs.proofs.one_circle.overlapping_arc_arc.Tie as tie

pub overlapping_arc_arc_spec : {M : Type 1} → statement M
unfolding overlapping_arc_arc
overlapping_arc_arc_spec =
    tie.close
    (tie.spec
    (search rules) (search rules) (search rules)
    (λ c. let t = c.before.before in
    simp (← t.same_arc.ensures, t.if-same_arc.true, ← c.pos.ensures, ← c.pos-then-same_arc.ensures))
    (search rules) (search rules) (search rules) (search rules) (search rules) (search rules) (search rules)
    (λ c. let b = c.before.before in let p = b.before.before.before.before in
    simp (
      ← p.same_arc.ensures,
      p.if-same_arc.false,
      ← p.pos-2.ensures,
      ← b.pos-3.ensures,
      ← b.pos-4.ensures,
      ← b.pos-5.ensures,
      ← b.bulge_is_neg.ensures,
      ← c.bulge_is_neg-2.ensures,
      ← c.arcs_of_one_circle.ensures,
    )))
