-- `cuts::cut::halve` meets its contract: both halves have the half bulge, and the second starts at the cut point.
use borrow.Author.Rules.{rules}
use Rattle.cuts.specs.Cut.{halve, bent, cut_vertex}
use Rattle.cuts.proofs.cut.halve.Statement.{statement}
use Rattle.cuts.proofs.cut.halve.Tie as tie

pub halve_spec : {M : Type 1} → statement M
unfolding halve bent cut_vertex
halve_spec =
    tie.close
    (tie.spec
    (λ c. search rules) (λ c. search rules) (λ c. search rules) (λ c. search rules)
    (λ c. simp (c.new-2.ensures, c.new.ensures, c.cut_point-p.ensures, c.half_bulge-half.ensures)))
