-- `spans::arc_arc::misses_by` meets its contract: its tests come in the definition's order.
use borrow.Author.Rules.{rules}
use Rattle.spans.specs.Workings.ArcArc as arc-arc
use Rattle.spans.proofs.arc_arc.misses_by.Statement.{statement}
use Rattle.spans.proofs.arc_arc.misses_by.Tie as tie

returns : tie.Need-returns-then-not-d-eps
unfolding arc-arc.misses_by
returns c =
    simp (
      ← c.sub-cv.ensures,
      ← c.dot-square.ensures,
      ← c.holds_root.ensures,
      ← c.holds_root-2.ensures,
      c.if-not-d-eps.true,
    )

returns-2 : tie.Need-returns-then-not-ends_clear
unfolding arc-arc.misses_by
returns-2 c =
    simp (
      ← c.sub-cv.ensures,
      ← c.dot-square.ensures,
      ← c.holds_root.ensures,
      ← c.holds_root-2.ensures,
      c.if-not-d-eps.false,
      ← c.of_segment-arc1.ensures,
      ← c.of_segment-arc2.ensures,
      ← c.ends_clear.ensures,
      c.if-not-ends_clear.true,
    )

returns-3 : tie.Need-returns
unfolding arc-arc.misses_by
returns-3 c =
    simp (
      ← c.sub-cv.ensures,
      ← c.dot-square.ensures,
      ← c.holds_root.ensures,
      ← c.holds_root-2.ensures,
      c.if-not-d-eps.false,
      ← c.of_segment-arc1.ensures,
      ← c.of_segment-arc2.ensures,
      ← c.ends_clear.ensures,
      c.if-not-ends_clear.false,
      ← c.ratio.ensures,
      ← c.sides_miss.ensures,
    )

pub misses_by_spec : {M : Type 1} → statement M
misses_by_spec = tie.close (tie.spec (λ c. search rules) (λ c. search rules) (λ c. search rules) (λ c. search rules) returns (λ c. search rules) (λ c. search rules) (λ c. search rules) returns-2 (λ c. search rules) (λ c. search rules) returns-3)
