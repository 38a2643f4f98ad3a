-- A fault is answered as it is; if there is none, every pair is fine for the pair call, and the job's listing is the path's.
use Rattle.std.proofs.Common.{sym}
use Rattle.checks.specs.Laws.Steps.{raised}
use Rattle.listing_calls.specs.Laws.Entry.{self-ready, self-plain, self-listed, self-refused}
use Rattle.listing_calls.proofs.self_listing.self_listing.Goals as goal

pub returns-in_err-check_self : goal.returns-in_err-check_self
returns-in_err-check_self c =
    rw (raised c.from_residual.ensures) (self-refused _ _ _ _ _ _ (sym c.in_err-check_self.ensures))

pub list-requires-clause-ready : goal.list-requires-clause-ready
list-requires-clause-ready c = self-ready _ _ _ (sym c.in_ok-check_self.ensures) _ c.self_job-job.ensures

pub list-requires-clause-boxed_value : goal.list-requires-clause-boxed_value
list-requires-clause-boxed_value c = self-plain _ _ _ (sym c.in_ok-check_self.ensures) _ c.self_job-job.ensures

pub returns : goal.returns
returns c = self-listed _ _ _ (sym c.in_ok-check_self.ensures) _ c.self_job-job.ensures _ _ _ _ _ c.list.ensures
