-- A fault is answered as it is; if there is none, the paths were checked.
use Rattle.std.proofs.Common.{sym}
use Rattle.checks.specs.Laws.Steps.{raised}
use Rattle.large_listings.specs.Laws.LargeEntry.{mutual-refused}
use Rattle.large_listings.proofs.mutual_cut.mutual_cut.Goals as goal

pub returns-in_err-check_mutual_large : goal.returns-in_err-check_mutual_large
returns-in_err-check_mutual_large c =
    rw (raised c.from_residual.ensures) (mutual-refused _ _ _ _ _ _ _ _ (sym c.in_err-check_mutual_large.ensures))

pub list_mutual-requires : goal.list_mutual-requires
list_mutual-requires c = sym c.in_ok-check_mutual_large.ensures
