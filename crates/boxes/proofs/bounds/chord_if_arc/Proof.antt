-- `boxes::bounds::chord_if_arc` meets its contract: each return is a branch of the definition, by the test before it.
use borrow.Author.Rules.{rules}
use Rattle.boxes.specs.Workings.Chord.{chord_if_arc}
use Rattle.boxes.proofs.bounds.chord_if_arc.Statement.{statement}
use Rattle.boxes.proofs.bounds.chord_if_arc.Tie as tie

pub chord_if_arc_spec : {M : Type 1} → statement M
unfolding chord_if_arc
chord_if_arc_spec =
    tie.close
    (tie.spec
    (λ c. search rules)
    (λ c. simp (← c.bulge_is_zero.ensures, c.if-bulge_is_zero.true))
    (λ c. search rules) (λ c. search rules) (λ c. search rules) (λ c. search rules)
    (λ c. simp (
      ← c.bulge_is_zero.ensures,
      c.if-bulge_is_zero.false,
      c.pos.ensures,
      c.pos-2.ensures,
      c.sub.ensures,
      c.length.ensures,
    )))
