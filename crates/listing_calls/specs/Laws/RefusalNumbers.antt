-- A fault that a listing, boxed or not, or a page finds fits into a word, by the checks that find it.
use Rattle.checks.specs.Checked.{Checked}
use Rattle.std.specs.Prelude.{Bool, List, [], ◌∷◌, ◌++◌, ℕ, Float}
use Rattle.std.proofs.Common.{arith}
use Rattle.checks.specs.First.{first as first_fault}
use Rattle.checks.specs.Refusal
use Rattle.checks.specs.Laws.RefusalNumbers.{Small, fine, refused, and, at-0-0, append}
use Rattle.paths.specs.Check.{path_checks}
use Rattle.paths.specs.Laws.RefusalNumbers.{path-small}
use Rattle.listing_pairs.specs.declared.row.Row.{Row}
use Rattle.listing_outcomes.specs.Outcome.{room_check}
use Rattle.listing_outcomes.specs.PageOutcome.{position_check, budget_check, row_check, limits}
use Rattle.listing_outcomes.specs.BoxedOutcome.{index_check}
use Rattle.listing_calls.specs.Laws.CheckedPaths.{two-paths, one-path}
use Rattle.listing_calls.specs.Listing.{mutual_checks, self_checks}

-- ---- the checks of the paths
pub mutual-checked : (first : List Float) (first_closed : Bool) (second : List Float) (second_closed : Bool) (eps : Float)
    → Small (first_fault (mutual_checks first first_closed second second_closed eps))
mutual-checked = two-paths path_checks path-small

pub self-checked : (path : List Float) (closed : Bool) (eps : Float) → Small (first_fault (self_checks path closed eps))
self-checked = one-path path_checks path-small

-- ---- with the last checks of a listing and of a page
module _ (rows : List Row) (i : List ℕ) (p : List Float) where
  room_small : Small (room_check rows i p)
  unfolding room_check
  room_small = refused _ Refusal.rows _ (omega arith) (omega arith) (at-0-0 _)

  pub mutual-small : (first : List Float) (first_closed : Bool) (second : List Float) (second_closed : Bool) (eps : Float)
      → Small (first_fault (mutual_checks first first_closed second second_closed eps ++ (room_check rows i p ∷ [])))
  mutual-small first first_closed second second_closed eps =
      append (mutual_checks first first_closed second second_closed eps) (room_check rows i p ∷ [])
      (mutual-checked first first_closed second second_closed eps) (and room_small fine)

  pub self-small : (path : List Float) (closed : Bool) (eps : Float)
      → Small (first_fault (self_checks path closed eps ++ (room_check rows i p ∷ [])))
  self-small path closed eps =
      append (self_checks path closed eps) (room_check rows i p ∷ []) (self-checked path closed eps) (and room_small fine)

module _ (idx b : List Float) (rows : List Row) (i : List ℕ) (p : List Float) where
  abbrev last : List Checked
  last = index_check idx b ∷ room_check rows i p ∷ []

  last-small : Small (first_fault (index_check idx b ∷ room_check rows i p ∷ []))
  unfolding index_check
  last-small = and (refused _ Refusal.boxes _ (omega arith) (omega arith) (at-0-0 _)) (and (room_small rows i p) fine)

  pub mutual-boxed-small : (first : List Float) (first_closed : Bool) (second : List Float) (second_closed : Bool) (eps : Float)
      → Small (first_fault (mutual_checks first first_closed second second_closed eps ++ last))
  mutual-boxed-small first first_closed second second_closed eps =
      append (mutual_checks first first_closed second second_closed eps) last
      (mutual-checked first first_closed second second_closed eps) last-small

  pub self-boxed-small : (path : List Float) (closed : Bool) (eps : Float)
      → Small (first_fault (self_checks path closed eps ++ last))
  self-boxed-small path closed eps = append (self_checks path closed eps) last (self-checked path closed eps) last-small

module _ (position all budget : ℕ) (i : List ℕ) (p : List Float) where
  limits-small : Small (first_fault (limits position all budget i p))
  unfolding position_check budget_check row_check
  limits-small =
      and (refused _ Refusal.position _ (omega arith) (omega arith) (at-0-0 _))
      (and (refused _ Refusal.budget _ (omega arith) (omega arith) (at-0-0 _))
      (and (refused _ Refusal.rows _ (omega arith) (omega arith) (at-0-0 _)) fine))

  pub mutual-page-small : (first : List Float) (first_closed : Bool) (second : List Float) (second_closed : Bool) (eps : Float)
      → Small (first_fault (mutual_checks first first_closed second second_closed eps ++ limits position all budget i p))
  mutual-page-small first first_closed second second_closed eps =
      append (mutual_checks first first_closed second second_closed eps) (limits position all budget i p)
      (mutual-checked first first_closed second second_closed eps) limits-small

  pub self-page-small : (path : List Float) (closed : Bool) (eps : Float)
      → Small (first_fault (self_checks path closed eps ++ limits position all budget i p))
  self-page-small path closed eps =
      append (self_checks path closed eps) (limits position all budget i p) (self-checked path closed eps) limits-small
