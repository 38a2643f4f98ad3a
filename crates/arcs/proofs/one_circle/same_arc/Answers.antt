-- `same_arc` meets its contract: its comparisons are the definition's.
use Rattle.arcs.specs.OneCircle.{same_arc}
use Rattle.arcs.proofs.one_circle.same_arc.Goals as goal

pub returns : goal.returns
unfolding same_arc
returns c =
    simp (
      c.eq.ensures,
      c.eq-2.ensures,
      c.eq-3.ensures,
      c.eq-4.ensures,
      c.pos-p1.ensures,
      c.pos-p2.ensures,
      c.pos-q1.ensures,
      c.pos-q2.ensures,
    )
