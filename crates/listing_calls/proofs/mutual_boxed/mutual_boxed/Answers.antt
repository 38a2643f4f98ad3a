-- A fault is answered as it is; if there is none, every pair is fine for the pair call, and the job's boxed listing is the two paths'.
use Rattle.std.proofs.Common.{sym}
use Rattle.checks.specs.Laws.Steps.{raised}
use Rattle.listing_calls.specs.Laws.Entry.{mutual-ready, mutual-few}
use Rattle.listing_calls.specs.Laws.BoxedEntry as entry
use Rattle.listing_calls.proofs.mutual_boxed.mutual_boxed.Goals as goal

pub returns-in_err-check_mutual : goal.returns-in_err-check_mutual
returns-in_err-check_mutual c =
    rw (raised c.from_residual.ensures) (entry.mutual-boxed-refused _ _ _ _ _ _ _ _ _ (sym c.in_err-check_mutual.ensures))

pub list_boxed-requires-clause-ready : goal.list_boxed-requires-clause-ready
list_boxed-requires-clause-ready c = mutual-ready _ _ _ _ _ (sym c.in_ok-check_mutual.ensures) _ c.mutual_job-job.ensures

pub list_boxed-requires-clause-m_bound : goal.list_boxed-requires-clause-m_bound
list_boxed-requires-clause-m_bound c = mutual-few _ _ _ _ _ _ c.mutual_job-job.ensures

pub returns : goal.returns
returns c =
    entry.mutual-boxed _ _ _ _ _ _ _ _ _ _ _ _ (sym c.in_ok-check_mutual.ensures) _ c.mutual_job-job.ensures c.list_boxed.ensures
