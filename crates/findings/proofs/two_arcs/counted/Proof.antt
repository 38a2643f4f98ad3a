-- `findings::two_arcs::counted` meets its contract: its calls are the definition's.
use borrow.Author.Rules.{rules}
use Rattle.findings.proofs.two_arcs.counted.Statement.{statement}
use Rattle.findings.proofs.two_arcs.counted.Tie as tie

returns : tie.Need-returns
returns c = simp (← c.counts.ensures, ← c.counts-2.ensures)

pub counted_spec : {M : Type 1} → statement M
counted_spec =
    tie.close
    (tie.spec
    (λ c. search rules) (λ c. search rules) returns)
