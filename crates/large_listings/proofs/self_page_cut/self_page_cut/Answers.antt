-- A fault is answered as it is; if there is none, the path was checked.
use Rattle.std.proofs.Common.{sym}
use Rattle.checks.specs.Laws.Steps.{raised}
use Rattle.large_listings.specs.Laws.LargeEntry.{self-page-refused}
use Rattle.large_listings.proofs.self_page_cut.self_page_cut.Goals as goal

pub returns-in_err-check_self_large : goal.returns-in_err-check_self_large
returns-in_err-check_self_large c =
    rw (raised c.from_residual.ensures) (self-page-refused _ _ _ _ _ _ (sym c.in_err-check_self_large.ensures) _ _)

pub page_self-requires : goal.page_self-requires
page_self-requires c = sym c.in_ok-check_self_large.ensures
