-- `fast_pair::kept::of_arc` meets its contract: its calls are the definition's, one by one.
use borrow.Author.Rules.{rules}
use Rattle.fast_pair.specs.Workings.Kept as workings
use Rattle.fast_pair.proofs.kept.of_arc.Statement.{statement}
use Rattle.fast_pair.proofs.kept.of_arc.Tie as tie

pub of_arc_spec : {M : Type 1} → statement M
unfolding workings.of_arc
of_arc_spec = tie.close
    (tie.spec
    (λ c. search rules) (λ c. search rules) (λ c. search rules) (λ c. search rules) (λ c. search rules)
    (λ c. simp (
      c.seg_arc_radius_and_center-arc.ensures,
      c.pos.ensures,
      c.pos-2.ensures,
      c.sub.ensures,
      c.length-chord.ensures,
    )))
