-- `listing_loop::sift::by_lines` meets its contract: test by test.
use borrow.Author.Rules.{rules}
use Rattle.listing_loop.specs.Workings.Sift.{by_lines}
use Rattle.listing_loop.proofs.sift.by_lines.Statement.{statement}
use Rattle.listing_loop.proofs.sift.by_lines.Tie as tie

pub by_lines_spec : {M : Type 1} → statement M
unfolding by_lines
by_lines_spec =
    tie.close
    (tie.spec
    (λ c κs. search rules)
    (λ c. simp (c.if-sieved.true, c.usual_line.ensures))
    (λ c. simp c.if-sieved.false))
