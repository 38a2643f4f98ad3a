-- `plane::fuzzy::fuzzy_in_range_eps` meets its contract: it joins what the two one-sided comparisons answer.
use borrow.Author.Rules.{rules}
use Rattle.plane.specs.Fuzzy
use Rattle.plane.proofs.fuzzy.fuzzy_in_range_eps.Statement.{statement}
use Rattle.plane.proofs.fuzzy.fuzzy_in_range_eps.Tie as tie

pub fuzzy_in_range_eps_spec : {M : Type 1} → statement M
unfolding Fuzzy.fuzzy_in_range_eps
fuzzy_in_range_eps_spec =
    tie.close (tie.spec (λ c. search rules) (λ c. search rules)
    (λ c. simp (← c.before.fuzzy_gt_eps.ensures, ← c.fuzzy_lt_eps.ensures)))
