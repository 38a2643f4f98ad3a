-- `arcs::two_arcs::ends_clear` meets its contract: its calls are the definition's.
use borrow.Author.Rules.{rules}
use Rattle.arcs.specs.Workings.Ends.{ends_clear}
use Rattle.arcs.proofs.two_arcs.ends_clear.Statement.{statement}
use Rattle.arcs.proofs.two_arcs.ends_clear.Tie as tie

pub ends_clear_spec : {M : Type 1} → statement M
unfolding ends_clear
ends_clear_spec =
    tie.close
    (tie.spec
    (λ c κs. search rules) (λ c κs. search rules) (λ c κs. search rules) (λ c κs. search rules)
    (λ c. let p = c.before.before in
    simp (
      ← p.point_off_circle.ensures,
      ← p.point_off_circle-2.ensures,
      ← c.point_off_circle-3.ensures,
      ← c.point_off_circle-4.ensures,
    )))
