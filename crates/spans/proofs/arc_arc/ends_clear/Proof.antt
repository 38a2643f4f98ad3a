-- `spans::arc_arc::ends_clear` meets its contract: its four calls are the four tests of the definition.
use borrow.Author.Rules.{rules}
use Rattle.arcs.specs.Workings.Ends as ends
use Rattle.spans.proofs.arc_arc.ends_clear.Statement.{statement}
use Rattle.spans.proofs.arc_arc.ends_clear.Tie as tie

returns : tie.Need-returns
unfolding ends.ends_clear
returns c =
    simp (
      ← c.pos.ensures,
      ← c.point_off_circle.ensures,
      ← c.pos-2.ensures,
      ← c.point_off_circle-2.ensures,
      ← c.pos-3.ensures,
      ← c.point_off_circle-3.ensures,
      ← c.pos-4.ensures,
      ← c.point_off_circle-4.ensures,
    )

pub ends_clear_spec : {M : Type 1} → statement M
ends_clear_spec = tie.close (tie.spec (λ c. search rules) (λ c. search rules) (λ c. search rules) (λ c. search rules) (λ c. search rules) (λ c. search rules) (λ c. search rules) (λ c. search rules) returns)
