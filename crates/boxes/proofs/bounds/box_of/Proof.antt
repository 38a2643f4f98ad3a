-- `boxes::bounds::box_of` meets its contract: the chord that it hands on is the arc's.
use borrow.Author.Rules.{rules}
use Rattle.boxes.specs.Workings.Chord.{known}
use Rattle.boxes.proofs.bounds.box_of.Statement.{statement}
use Rattle.boxes.proofs.bounds.box_of.Tie as tie

pub box_of_spec : {M : Type 1} → statement M
box_of_spec =
    tie.close (tie.spec (λ c κs. search rules) (λ c κs. known _ _ _ c.chord_if_arc-chord.ensures) (λ c. search rules))
