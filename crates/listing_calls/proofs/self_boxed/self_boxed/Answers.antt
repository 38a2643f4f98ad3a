-- A fault is answered as it is; if there is none, every pair is fine for the pair call, and the job's boxed listing is the path's.
use Rattle.std.proofs.Common.{sym}
use Rattle.checks.specs.Laws.Steps.{raised}
use Rattle.listing_calls.specs.Laws.Entry.{self-ready, self-few}
use Rattle.listing_calls.specs.Laws.BoxedEntry as entry
use Rattle.listing_calls.proofs.self_boxed.self_boxed.Goals as goal

pub returns-in_err-check_self : goal.returns-in_err-check_self
returns-in_err-check_self c =
    rw (raised c.from_residual.ensures) (entry.self-boxed-refused _ _ _ _ _ _ _ (sym c.in_err-check_self.ensures))

pub list_boxed-requires-clause-ready : goal.list_boxed-requires-clause-ready
list_boxed-requires-clause-ready c = self-ready _ _ _ (sym c.in_ok-check_self.ensures) _ c.self_job-job.ensures

pub list_boxed-requires-clause-m_bound : goal.list_boxed-requires-clause-m_bound
list_boxed-requires-clause-m_bound c = self-few _ _ _ _ c.self_job-job.ensures

pub returns : goal.returns
returns c =
    entry.self-boxed _ _ _ _ _ _ _ _ _ _ (sym c.in_ok-check_self.ensures) _ c.self_job-job.ensures c.list_boxed.ensures
