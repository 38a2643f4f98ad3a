-- `cuts::cut::cut_point` meets its contract: its operations are the definition's, in the same order.
use borrow.Author.Rules.{rules}
use Rattle.cuts.specs.Cut.{cut_point}
use Rattle.cuts.proofs.cut.cut_point.Statement.{statement}
use Rattle.cuts.proofs.cut.cut_point.Tie as tie

pub cut_point_spec : {M : Type 1} → statement M
unfolding cut_point
cut_point_spec = tie.close (tie.spec (λ c. search rules) (λ c. simp c.new.ensures))
