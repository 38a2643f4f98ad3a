-- `listing_calls::jobs::mutual_job` meets its contract: its counts are the definition's.
use borrow.Author.Rules.{rules}
use Rattle.listing_calls.proofs.jobs.mutual_job.Statement.{statement}
use Rattle.listing_calls.proofs.jobs.mutual_job.Tie as tie

pub mutual_job_spec : {M : Type 1} → statement M
mutual_job_spec =
    tie.close
    (tie.spec
    (λ c. search rules) (λ c. search rules)
    (λ c. simp (c.segment_count-m.ensures, c.segment_count-n.ensures)))
