-- A fault is answered as it is; if there is none, every pair is fine for the pair call, and the job's page is the two paths'.
use Rattle.std.proofs.Common.{sym}
use Rattle.checks.specs.Laws.Steps.{raised}
use Rattle.listing_calls.specs.Laws.Entry.{mutual-ready, mutual-plain, mutual-paged, mutual-page-refused}
use Rattle.listing_calls.proofs.mutual_page.mutual_page.Goals as goal

pub returns-in_err-check_mutual : goal.returns-in_err-check_mutual
returns-in_err-check_mutual c =
    rw (raised c.from_residual.ensures) (mutual-page-refused _ _ _ _ _ _ _ _ (sym c.in_err-check_mutual.ensures) _ _)

pub page-requires-clause-ready : goal.page-requires-clause-ready
page-requires-clause-ready c = mutual-ready _ _ _ _ _ (sym c.in_ok-check_mutual.ensures) _ c.mutual_job-job.ensures

pub page-requires-clause-boxed_value : goal.page-requires-clause-boxed_value
page-requires-clause-boxed_value c = mutual-plain _ _ _ _ _ (sym c.in_ok-check_mutual.ensures) _ c.mutual_job-job.ensures

pub returns : goal.returns
returns c = mutual-paged _ _ _ _ _ (sym c.in_ok-check_mutual.ensures) _ c.mutual_job-job.ensures _ _ _ _ _ _ _ c.page.ensures
