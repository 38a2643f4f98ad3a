-- A fault is answered as it is; if there is none, every pair is fine for the pair call, and the job's listing is the two paths'.
use Rattle.std.proofs.Common.{sym}
use Rattle.checks.specs.Laws.Steps.{raised}
use Rattle.listing_calls.specs.Laws.Entry.{mutual-ready, mutual-plain, mutual-listed, mutual-refused}
use Rattle.listing_calls.proofs.mutual_listing.mutual_listing.Goals as goal

pub returns-in_err-check_mutual : goal.returns-in_err-check_mutual
returns-in_err-check_mutual c =
    rw (raised c.from_residual.ensures) (mutual-refused _ _ _ _ _ _ _ _ (sym c.in_err-check_mutual.ensures))

pub list-requires-clause-ready : goal.list-requires-clause-ready
list-requires-clause-ready c = mutual-ready _ _ _ _ _ (sym c.in_ok-check_mutual.ensures) _ c.mutual_job-job.ensures

pub list-requires-clause-boxed_value : goal.list-requires-clause-boxed_value
list-requires-clause-boxed_value c = mutual-plain _ _ _ _ _ (sym c.in_ok-check_mutual.ensures) _ c.mutual_job-job.ensures

pub returns : goal.returns
returns c = mutual-listed _ _ _ _ _ (sym c.in_ok-check_mutual.ensures) _ c.mutual_job-job.ensures _ _ _ _ _ c.list.ensures
