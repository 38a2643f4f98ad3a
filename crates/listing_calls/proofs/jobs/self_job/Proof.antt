-- `listing_calls::jobs::self_job` meets its contract: its count is the definition's.
use borrow.Author.Rules.{rules}
use Rattle.listing_calls.proofs.jobs.self_job.Statement.{statement}
use Rattle.listing_calls.proofs.jobs.self_job.Tie as tie

pub self_job_spec : {M : Type 1} → statement M
self_job_spec = tie.close (tie.spec (λ c. search rules) (λ c. simp c.segment_count-n.ensures))
