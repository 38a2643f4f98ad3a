-- `listing_pairs::order::from` meets its contract: each return is a branch of the definition, by the test that led to it.
use borrow.Author.Rules.{rules}
use Rattle.listing_pairs.specs.Workings.Job.{from}
use Rattle.listing_pairs.proofs.order.from.Statement.{statement}
use Rattle.listing_pairs.proofs.order.from.Tie as tie

returns : tie.Need-returns-then-job
unfolding from
returns c = simp c.if-job.true

returns-2 : tie.Need-returns
unfolding from
returns-2 c = simp c.if-job.false

pub from_spec : {M : Type 1} → statement M
from_spec = tie.close (tie.spec (λ c. search rules) returns returns-2)
