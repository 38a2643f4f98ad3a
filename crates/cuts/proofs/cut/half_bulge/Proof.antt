-- `cuts::cut::half_bulge` meets its contract: its operations are the definition's, and so is the root.
use borrow.Author.Rules.{rules}
use Rattle.cuts.specs.Cut.{half_bulge}
use Rattle.cuts.proofs.cut.half_bulge.Statement.{statement}
use Rattle.cuts.proofs.cut.half_bulge.Tie as tie

pub half_bulge_spec : {M : Type 1} → statement M
unfolding half_bulge
half_bulge_spec = tie.close (tie.spec (λ c. search rules) (λ c. simp c.sqrt.ensures))
