-- `sieves::lines::usual_line` meets its contract: straight on.
use borrow.Author.Rules.{rules}
use Rattle.plane.specs.Vector2 as vector2
use Rattle.sieves.specs.Workings.Lines.{usual_line}
use Rattle.sieves.proofs.lines.usual_line.Statement.{statement}
use Rattle.sieves.proofs.lines.usual_line.Tie as tie

pub usual_line_spec : {M : Type 1} → statement M
unfolding usual_line
usual_line_spec =
    tie.close
    (tie.spec
    (λ c κs. search rules) (λ c κs. search rules) (λ c κs. search rules) (λ c κs. search rules) (λ c κs. search rules)
    (λ c κs. search rules)
    (λ c. simp (
      c.usual.ensures,
      c.length_squared.ensures,
      c.bulge_is_zero.ensures,
      c.sub-way.ensures,
      c.pos-2.ensures,
      c.pos.ensures,
    )))
