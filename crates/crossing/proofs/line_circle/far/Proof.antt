-- `crossing::line_circle::far` meets its contract: its yes is the test of Workings/FarLine.
use mathlib.Core.Path.{◌≡◌, sym, ap, ◌∙◌}
use mathlib.Core.Bool.{Bool, true, ◌&&◌}
use lib.Dec.{T}
use lib.Ieee.{Float}
use denote.Floats.{passes}
use borrow.Author.Rules.{rules}
use Rattle.crossing.specs.Workings.FarLine.{moderate, sizes, orders, far-line}
use Rattle.crossing.proofs.line_circle.far.Statement.{statement}
use Rattle.crossing.proofs.line_circle.far.Tie as tie

tests-hold : (b1 b2 b3 b4 : Bool) (k q w z s : Float) → b1 ≡ moderate k → b2 ≡ moderate q → b3 ≡ moderate w → b4 ≡ moderate z
    → (((b1 && b2) && (b3 && b4)) && orders k q w z s) ≡ true → T (sizes k q w z && orders k q w z s)
tests-hold b1 b2 b3 b4 k q w z s e1 e2 e3 e4 h =
    let o = orders k q w z s in
    passes (sizes k q w z && o)
    (ap (λ (b : Bool). ((b && moderate q) && (moderate w && moderate z)) && o) (sym e1)
    ∙ ap (λ (b : Bool). ((b1 && b) && (moderate w && moderate z)) && o) (sym e2)
    ∙ ap (λ (b : Bool). ((b1 && b2) && (b && moderate z)) && o) (sym e3)
    ∙ ap (λ (b : Bool). ((b1 && b2) && (b3 && b)) && o) (sym e4)
    ∙ h)

returns : tie.Need-returns
returns c h =
    let g = c.well_formed in
    far-line _ _ _ _ _ _ (passes _ g.0.1) (passes _ g.1.0.1) (passes _ g.1.1.0.1) (passes _ g.1.1.1.0.1)
    c.abs-k.ensures
    (tests-hold _ _ _ _ _ _ _ _ _ c.moderate.ensures c.moderate-2.ensures c.moderate-3.ensures
    c.moderate-4.ensures h)

pub far_spec : {M : Type 1} → statement M
far_spec =
    tie.close (tie.spec (search rules) (search rules) (search rules) (search rules) (search rules) returns)
