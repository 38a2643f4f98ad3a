-- `check_mutual` meets its contract: it answers the first fault of its checks.
use Rattle.std.proofs.Common.{sym, ◌∙◌}
use Rattle.checks.specs.Laws.Chains.{first-append}
use Rattle.checks.specs.Laws.Steps.{stops, passes}
use Rattle.paths.specs.Check.{path_checks}
use Rattle.listing_calls.specs.Listing.{check_mutual}
use Rattle.listing_calls.proofs.jobs.check_mutual.Goals as goal

pub returns-in_err-check_path : goal.returns-in_err-check_path
unfolding check_mutual
returns-in_err-check_path c =
    passes c.in_ok-epsilon.ensures
    (passes c.in_ok-shape.ensures
    (passes c.in_ok-shape-2.ensures
    (stops _ c.from_residual-in_err-check_path.ensures c.in_err-check_path.ensures ∙ sym (first-append (path_checks _ _ _) (path_checks _ _ _)))))

pub returns : goal.returns
unfolding check_mutual
returns c =
    passes c.in_ok-epsilon.ensures
    (passes c.in_ok-shape.ensures
    (passes c.in_ok-shape-2.ensures
    (passes c.in_ok-check_path.ensures c.check_path-2.ensures ∙ sym (first-append (path_checks _ _ _) (path_checks _ _ _)))))
