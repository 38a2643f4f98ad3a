-- Neighbours in a self listing of the mode of large arcs: when exactly a pair of the cut path makes a row, and that no such row
-- is left out of a listing, boxed or not. This is Joints.antt of the crate `listing_calls` over the cut path; a row has the names
-- of both segments. A pair of one trace is passed over, so also the two halves of an arc of a trace above 0.
use Rattle.std.specs.Prelude.{◌≡◌, Bool, true, false, ◌↔◌, ◌⊎◌, List, ℕ, ◌<◌, Float}
use Rattle.checks.specs.First.{first as first_fault}
use Rattle.crossing.specs.PlineSegIntr.{class_of}
use Rattle.arcs.specs.declared.pline_seg_intr.PlineSegIntr.{PlineSegIntr}
use Rattle.cuts.specs.CutPath.{cut_path, cut_count, name_at}
use Rattle.boxes.specs.Index.{index}
use Rattle.listing_pairs.specs.declared.row.Look.TheVariants.{Skipped, Nothing, Made}
use Rattle.listing_pairs.specs.Row.{row}
use Rattle.listing_pairs.specs.Order.{Pair}
use Rattle.listing_pairs.specs.Traces.{one_trace}
use Rattle.listing_pairs.specs.Boxed.{boxes_meet, boxed_pairs}
use Rattle.listing_calls.specs.Complete.{pair_of}
use Rattle.listing_calls.specs.Joints as joints
use Rattle.listing_calls.specs.Laws.Complete.{those-have}
use Rattle.large_outcomes.specs.LargeOutcome.{large_outcome, large_boxed_outcome}
use Rattle.large_listings.specs.LargeListings.{
  self_numbers,
  self_large_checks,
  self_large_look,
  self_large_pairs,
  self_large,
  self_boxed_large,
}
use Rattle.large_listings.specs.LargeRefusals.{all}
use Rattle.large_listings.specs.LargeBoxedRefusals.{boxed_checks}
use Rattle.large_listings.specs.HasLargeRow.{HasLargeRow}
use Rattle.large_listings.specs.LargeComplete.{listed-row-of}
use Rattle.listing_outcomes.specs.Answer.{Listed}

-- ---- segments i and j of the cut path
module _ (path : List Float) (closed : Bool) (epsilon : Float) (i j : ℕ) where
  abbrev n : ℕ
  n = cut_count path closed

  abbrev cut : List Float
  cut = cut_path path closed

  -- how they meet
  abbrev pub met_large : PlineSegIntr
  met_large = pair_of (cut_path path closed) (cut_path path closed) epsilon i j

  -- they meet only at vertices that they share
  abbrev pub AtLargeJoint : Type 0
  AtLargeJoint = joints.AtJoint (cut_count path closed) (cut_path path closed) closed epsilon i j

  abbrev pub OneLargeTrace : Bool
  OneLargeTrace = one_trace (cut_path path closed) (cut_path path closed) (record { i = i; j = j })

  pub large-skipped-when : (self_large_look path closed epsilon i j ≡ Skipped) ↔ (OneLargeTrace ≡ true)
  large-skipped-when = joints.skipped-when n cut closed epsilon i j

  -- it is looked at and makes no row exactly if the two are apart or at a joint
  pub large-no-row-when : (self_large_look path closed epsilon i j ≡ Nothing)
      ↔ (((class_of met_large ≡ 0) ⊎ AtLargeJoint) × (OneLargeTrace ≡ false))
  large-no-row-when = joints.no-row-when n cut closed epsilon i j

  -- it makes a row exactly if they meet, and not only at a joint
  pub large-row-when : (self_large_look path closed epsilon i j ≡ Made (row i j met_large))
      ↔ (((0 < class_of met_large) × (AtLargeJoint → ⊥)) × (OneLargeTrace ≡ false))
  large-row-when = joints.row-when n cut closed epsilon i j

-- ---- a listing: no such row is left out
module _ (path : List Float) (closed : Bool) (epsilon : Float) (rows pairs i j : ℕ) (order : i < j)
    (last : j < cut_count path closed) (meets : 0 < class_of (met_large path closed epsilon i j))
    (elsewhere : AtLargeJoint path closed epsilon i j → ⊥) (other : OneLargeTrace path closed epsilon i j ≡ false) where
  pub large-self-complete : (indices : List ℕ) (points : List Float)
      → (self_large path closed epsilon indices points).answer ≡ Listed rows pairs
      → HasLargeRow rows (self_large path closed epsilon indices points).indices (name_at path closed i) (name_at path closed j)
  unfolding self_large large_outcome
  large-self-complete indices points e =
      let f = self_large_look path closed epsilon in
      let ps = self_large_pairs path closed in
      listed-row-of (name_at path closed) (name_at path closed)
      (first_fault (all (self_numbers path closed) (self_large_checks path closed epsilon) f ps indices points))
      f ps indices points rows pairs i j (met_large path closed epsilon i j) e
      (joints.own_pair (cut_count path closed) i j order last)
      ((large-row-when path closed epsilon i j).1 ((meets, elsewhere), other))

  pub large-self-boxed-complete : boxes_meet (cut_path path closed) (cut_path path closed) epsilon (record { i = i; j = j }) ≡ true
      → (boxes : List Float) (indices : List ℕ) (points : List Float)
      → (self_boxed_large path closed epsilon boxes indices points).listing.answer ≡ Listed rows pairs
      → HasLargeRow rows (self_boxed_large path closed epsilon boxes indices points).listing.indices
      (name_at path closed i) (name_at path closed j)
  unfolding self_boxed_large large_boxed_outcome
  large-self-boxed-complete boxed boxes indices points e =
      let cut = cut_path path closed in
      let f = self_large_look path closed epsilon in
      let all = self_large_pairs path closed in
      let ps = boxed_pairs cut cut epsilon all in
      let idx = index cut epsilon (cut_count path closed) in
      listed-row-of (name_at path closed) (name_at path closed)
      (first_fault (boxed_checks (self_numbers path closed) (self_large_checks path closed epsilon) f ps idx boxes indices points))
      f ps indices points rows pairs i j (met_large path closed epsilon i j) e
      (those-have (boxes_meet cut cut epsilon) (record { i = i; j = j }) all boxed
      (joints.own_pair (cut_count path closed) i j order last))
      ((large-row-when path closed epsilon i j).1 ((meets, elsewhere), other))
