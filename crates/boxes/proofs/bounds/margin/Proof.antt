-- `boxes::bounds::margin` meets its contract: each return is a branch of the definition, by the test before it.
use borrow.Author.Rules.{rules}
use Rattle.boxes.specs.Workings.Chord.{margin_by}
use Rattle.boxes.proofs.bounds.margin.Statement.{statement}
use Rattle.boxes.proofs.bounds.margin.Tie as tie

pub margin_spec : {M : Type 1} → statement M
unfolding margin_by
margin_spec =
    tie.close
    (tie.spec
    (λ c. search rules)
    (λ c. simp (← c.bulge_is_zero.ensures, c.if-bulge_is_zero.true))
    (λ c. simp (← c.bulge_is_zero.ensures, c.if-bulge_is_zero.false)))
