-- `cuts::cut::is_large` meets its contract: the magnitude that it compares is the definition's.
use borrow.Author.Rules.{rules}
use Rattle.cuts.specs.Cut.{is_large}
use Rattle.cuts.proofs.cut.is_large.Statement.{statement}
use Rattle.cuts.proofs.cut.is_large.Tie as tie

pub is_large_spec : {M : Type 1} → statement M
unfolding is_large
is_large_spec = tie.close (tie.spec (λ c. search rules) (λ c. simp (← c.abs.ensures)))
