-- `crossing::line_circle::through` meets its contract: its yes is the test of Workings/ThroughLine.
use mathlib.Core.Path.{◌≡◌, sym, ap, ◌∙◌}
use mathlib.Core.Bool.{Bool, true, ◌&&◌}
use lib.Dec.{T}
use lib.Ieee.{Float}
use denote.Floats.{passes}
use borrow.Author.Rules.{rules}
use Rattle.crossing.specs.Workings.FarLine.{moderate}
use Rattle.crossing.specs.Workings.ThroughLine.{sizes, orders, through-line}
use Rattle.crossing.proofs.line_circle.through.Statement.{statement}
use Rattle.crossing.proofs.line_circle.through.Tie as tie

tests-hold : (b1 b2 b3 : Bool) (k q w z radius s : Float) → b1 ≡ moderate q → b2 ≡ moderate w → b3 ≡ moderate z
    → ((b1 && (b2 && b3)) && orders k q w z radius s) ≡ true → T (sizes q w z && orders k q w z radius s)
tests-hold b1 b2 b3 k q w z radius s e1 e2 e3 h =
    let o = orders k q w z radius s in
    passes (sizes q w z && o)
    (ap (λ (b : Bool). (b && (moderate w && moderate z)) && o) (sym e1)
    ∙ ap (λ (b : Bool). (b1 && (b && moderate z)) && o) (sym e2)
    ∙ ap (λ (b : Bool). (b1 && (b2 && b)) && o) (sym e3)
    ∙ h)

returns : tie.Need-returns
returns c h =
    let g = c.well_formed in
    through-line _ _ _ _ _ _ _ (passes _ g.0.1) (passes _ g.1.0.1) (passes _ g.1.1.0.1)
    (passes _ g.1.1.1.0.1)
    c.abs-k.ensures
    (tests-hold _ _ _ _ _ _ _ _ _ c.moderate.ensures c.moderate-2.ensures c.moderate-3.ensures h)

pub through_spec : {M : Type 1} → statement M
through_spec =
    tie.close (tie.spec (search rules) (search rules) (search rules) (search rules) returns)
