-- `spans::arc_arc::arcs_miss` meets its contract: whatever the guesses are, a yes means that the two do not meet.
use borrow.Author.Rules.{rules}
use lib.Ieee.{binary64}
use lib.Ieee.Fits.{mul-fits}
use Rattle.spans.specs.Laws.ArcArc.{arcs-missed-at, same-middle}
use Rattle.spans.proofs.arc_arc.arcs_miss.Statement.{statement}
use Rattle.spans.proofs.arc_arc.arcs_miss.Tie as tie

returns : tie.Need-returns
returns c =
    arcs-missed-at _ _ _ _ _ _ _ _ _ _ _ _ _ _ _ _ _ _ (mul-fits binary64 _ _) (mul-fits binary64 _ _) c.new-center1.ensures
    c.new-center2.ensures c.requires.0 c.requires.1
    (same-middle _ _ _ _ _ _ c.sub-cv.ensures c.dot-d2.ensures c.middle_of-middle.ensures)
    c.misses_by.ensures

pub arcs_miss_spec : {M : Type 1} → statement M
arcs_miss_spec =
    tie.close
    (tie.spec (λ c. search rules) (λ c. search rules) (λ c. search rules) (λ c. search rules) (λ c. search rules) (λ c. search rules)
    (λ c. search rules) (λ c. search rules) (λ c. search rules) returns)
