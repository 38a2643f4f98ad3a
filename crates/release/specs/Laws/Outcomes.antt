-- For any checks, look and pairs: if the checks find no fault only where every pair gives a good row or none, every row that is
-- written is good.
use Rattle.checks.specs.Checked.{Checked}
use Rattle.std.specs.Prelude.{◌≡◌, ℕ, Float, length, drop, Ok, Err}
use Rattle.std.proofs.Math.Path.{refl}
use mathlib.Core.List.{List, [], ◌∷◌, ◌++◌}
use Rattle.checks.specs.First.{first as first_fault}
use Rattle.listing_pairs.specs.declared.row.Row.{Row}
use Rattle.listing_pairs.specs.declared.row.Look.{Look}
use Rattle.listing_pairs.specs.Row.{indices_of}
use Rattle.listing_pairs.specs.Order.{Pair}
use Rattle.listing_pairs.specs.Rows.{rows_of, looked_at}
use Rattle.listing_pairs.specs.Page.{page}
use Rattle.listing_outcomes.specs.Answer.{Listed}
use Rattle.listing_outcomes.specs.Outcome.{room, room_check, outcome}
use Rattle.listing_outcomes.specs.PageOutcome.{limits, page_outcome}
use Rattle.listing_outcomes.specs.BoxedOutcome.{index_check, boxed_outcome}
use Rattle.large_outcomes.specs.LargeRow.{large_room}
use Rattle.large_outcomes.specs.LargeOutcome.{
  large_room_check,
  large_outcome,
  large_limits,
  large_page_outcome,
  large_boxed_outcome,
}
use Rattle.release.specs.Words.{All, Wrote, listed, paged}
use Rattle.release.specs.Laws.Rows.{GoodLook, each-drop, rows-each, page-each, wrote, large-wrote, earlier}

module _ (P : Row → Type 0) (Q : Pair → Type 0) (checks : List Checked) (look : ℕ → ℕ → Look)
    (good : first_fault checks ≡ Ok tt → (p : Pair) → Q p → GoodLook P (look p.i p.j))
    (ps : List Pair) (inside : All Q ps) (i : List ℕ) (p : List Float) where
  pub full-wrote : Wrote listed P indices_of (outcome checks look ps i p)
  unfolding outcome
  full-wrote =
      let rows = rows_of look ps in
      let last : List Checked = room_check rows i p ∷ [] in
      wrote P listed Err (λ f. refl) (Listed (length rows) (looked_at look ps)) rows refl i p
      (first_fault (checks ++ last)) (λ e. rows-each P Q look (good (earlier checks last e)) ps inside)

  pub boxed-wrote : (idx boxes : List Float) → Wrote listed P indices_of (boxed_outcome checks look ps idx boxes i p).listing
  unfolding boxed_outcome
  boxed-wrote idx boxes =
      let rows = rows_of look ps in
      let last : List Checked = index_check idx boxes ∷ room_check rows i p ∷ [] in
      wrote P listed Err (λ f. refl) (Listed (length rows) (looked_at look ps)) rows refl i p
      (first_fault (checks ++ last)) (λ e. rows-each P Q look (good (earlier checks last e)) ps inside)

  pub page-wrote : (position budget : ℕ) → Wrote paged P indices_of (page_outcome checks look ps position budget i p)
  unfolding page_outcome
  page-wrote position budget =
      let q = page look (drop position ps) (room i p) budget in
      let last = limits position (length ps) budget i p in
      wrote P paged Err (λ f. refl) _ q.rows refl i p (first_fault (checks ++ last))
      (λ e.
      page-each P Q look (good (earlier checks last e)) (drop position ps) (room i p) budget
      (each-drop Q position ps inside))

  -- with rows of five whole numbers
  module _ (words : Row → List ℕ) where
    pub large-full-wrote : Wrote listed P words (large_outcome words checks look ps i p)
    unfolding large_outcome
    large-full-wrote =
        let rows = rows_of look ps in
        let last : List Checked = large_room_check rows i p ∷ [] in
        large-wrote P words listed Err (λ f. refl) (Listed (length rows) (looked_at look ps))
        rows refl i p (first_fault (checks ++ last)) (λ e. rows-each P Q look (good (earlier checks last e)) ps inside)

    pub large-boxed-wrote : (idx boxes : List Float)
        → Wrote listed P words (large_boxed_outcome words checks look ps idx boxes i p).listing
    unfolding large_boxed_outcome
    large-boxed-wrote idx boxes =
        let rows = rows_of look ps in
        let last : List Checked = index_check idx boxes ∷ large_room_check rows i p ∷ [] in
        large-wrote P words listed Err (λ f. refl) (Listed (length rows) (looked_at look ps))
        rows refl i p (first_fault (checks ++ last)) (λ e. rows-each P Q look (good (earlier checks last e)) ps inside)

    pub large-page-wrote : (position budget : ℕ) → Wrote paged P words (large_page_outcome words checks look ps position budget i p)
    unfolding large_page_outcome
    large-page-wrote position budget =
        let q = page look (drop position ps) (large_room i p) budget in
        let last = large_limits position (length ps) budget i p in
        large-wrote P words paged Err (λ f. refl) _ q.rows refl i p (first_fault (checks ++ last))
        (λ e.
        page-each P Q look (good (earlier checks last e)) (drop position ps) (large_room i p) budget
        (each-drop Q position ps inside))
