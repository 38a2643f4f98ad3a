-- `check_mutual_large` meets its contract: it answers the first fault of its checks.
use Rattle.std.proofs.Common.{sym, ◌∙◌}
use Rattle.checks.specs.Laws.Chains.{first-append}
use Rattle.checks.specs.Laws.Steps.{stops, passes}
use Rattle.cuts.specs.LargeChecks.{large_path_checks}
use Rattle.large_listings.specs.LargeListings.{check_mutual_large}
use Rattle.large_listings.proofs.jobs.check_mutual_large.Goals as goal

pub returns-in_err-check_large_path : goal.returns-in_err-check_large_path
unfolding check_mutual_large
returns-in_err-check_large_path c =
    passes c.in_ok-epsilon.ensures
    (passes c.in_ok-shape.ensures
    (passes c.in_ok-shape-2.ensures
    (stops _ c.from_residual-in_err-check_large_path.ensures c.in_err-check_large_path.ensures ∙ sym (first-append (large_path_checks _ _ _) (large_path_checks _ _ _)))))

pub returns : goal.returns
unfolding check_mutual_large
returns c =
    passes c.in_ok-epsilon.ensures
    (passes c.in_ok-shape.ensures
    (passes c.in_ok-shape-2.ensures
    (passes c.in_ok-check_large_path.ensures c.check_large_path-2.ensures ∙ sym (first-append (large_path_checks _ _ _) (large_path_checks _ _ _)))))
