-- A fault is answered as it is; if there is none, every pair is fine for the pair call, and the job's page is the path's.
use Rattle.std.proofs.Common.{sym}
use Rattle.checks.specs.Laws.Steps.{raised}
use Rattle.listing_calls.specs.Laws.Entry.{self-ready, self-plain, self-paged, self-page-refused}
use Rattle.listing_calls.proofs.self_page.self_page.Goals as goal

pub returns-in_err-check_self : goal.returns-in_err-check_self
returns-in_err-check_self c =
    rw (raised c.from_residual.ensures) (self-page-refused _ _ _ _ _ _ (sym c.in_err-check_self.ensures) _ _)

pub page-requires-clause-ready : goal.page-requires-clause-ready
page-requires-clause-ready c = self-ready _ _ _ (sym c.in_ok-check_self.ensures) _ c.self_job-job.ensures

pub page-requires-clause-boxed_value : goal.page-requires-clause-boxed_value
page-requires-clause-boxed_value c = self-plain _ _ _ (sym c.in_ok-check_self.ensures) _ c.self_job-job.ensures

pub returns : goal.returns
returns c = self-paged _ _ _ (sym c.in_ok-check_self.ensures) _ c.self_job-job.ensures _ _ _ _ _ _ _ c.page.ensures
