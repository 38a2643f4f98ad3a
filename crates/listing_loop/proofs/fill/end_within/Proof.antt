-- `listing_loop::fill::end_within` meets its contract: each return is a branch of the definition, by the tests that led to it.
use borrow.Author.Rules.{rules}
use borrow.Author.Tests.{lt-ltb, le-ltb}
use Rattle.listing_loop.specs.Workings.Filling.{end_within}
use Rattle.listing_loop.proofs.fill.end_within.Statement.{statement}
use Rattle.listing_loop.proofs.fill.end_within.Tie as tie

returns : tie.Need-returns-then-budget-to
unfolding end_within
returns c = simp (lt-ltb _ _ c.if-j-to.true, lt-ltb _ _ c.if-budget-to.true)

returns-2 : tie.Need-returns-else-budget-to
unfolding end_within
returns-2 c = simp (lt-ltb _ _ c.if-j-to.true, le-ltb _ _ c.if-budget-to.false)

returns-3 : tie.Need-returns-else-j-to
unfolding end_within
returns-3 c = simp (le-ltb _ _ c.if-j-to.false)

pub end_within_spec : {M : Type 1} → statement M
end_within_spec = tie.close (tie.spec (λ c. search rules) (λ c. search rules) returns returns-2 returns-3)
