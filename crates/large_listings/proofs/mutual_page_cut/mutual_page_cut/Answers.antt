-- A fault is answered as it is; if there is none, the paths were checked.
use Rattle.std.proofs.Common.{sym}
use Rattle.checks.specs.Laws.Steps.{raised}
use Rattle.large_listings.specs.Laws.LargeEntry.{mutual-page-refused}
use Rattle.large_listings.proofs.mutual_page_cut.mutual_page_cut.Goals as goal

pub returns-in_err-check_mutual_large : goal.returns-in_err-check_mutual_large
returns-in_err-check_mutual_large c =
    rw (raised c.from_residual.ensures) (mutual-page-refused _ _ _ _ _ _ _ _ (sym c.in_err-check_mutual_large.ensures) _ _)

pub page_mutual-requires : goal.page_mutual-requires
page_mutual-requires c = sym c.in_ok-check_mutual_large.ensures
