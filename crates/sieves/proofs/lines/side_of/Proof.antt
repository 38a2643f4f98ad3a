-- `sieves::lines::side_of` meets its contract: test by test.
use borrow.Author.Rules.{rules}
use Rattle.sieves.specs.Workings.Lines.{side_of}
use Rattle.sieves.proofs.lines.side_of.Statement.{statement}
use Rattle.sieves.proofs.lines.side_of.Tie as tie

pub side_of_spec : {M : Type 1} → statement M
unfolding side_of
side_of_spec =
    tie.close
    (tie.spec
    (λ c κs. search rules)
    (λ c. simp (← c.usual_line.ensures, c.if-usual_line.true))
    (λ c. simp (← c.usual_line.ensures, c.if-usual_line.false)))
