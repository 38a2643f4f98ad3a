-- One call of a chain of pages of the mode of large arcs that is not refused: it is the old page of the lent parts, and its rows
-- of five are those of the pairs that it passed.
use Rattle.checks.specs.Checked.{Checked}
use Rattle.std.specs.Prelude.{◌≡◌, ℕ, ◌+◌, ◌*◌, ◌<◌, ◌≤◌, Float, length, drop, Err, Ok}
use Rattle.std.proofs.Math.Path.{refl, ap}
use Rattle.std.proofs.Common.{sym, ◌∙◌, arith, take_at}
use mathlib.Core.List.{List, [], ◌∷◌, ◌++◌}
use Rattle.std.proofs.Math.ListN.{take}
use Rattle.float_laws.specs.Stores.{flat-length}
use Rattle.checks.specs.declared.fault.Fault.{Fault}
use Rattle.checks.specs.First.{first as first_fault}
use Rattle.listing_pairs.specs.declared.row.Row.{Row}
use Rattle.listing_pairs.specs.declared.row.Look.{Look}
use Rattle.listing_pairs.specs.Order.{Pair}
use Rattle.listing_pairs.specs.Page.{Page, page}
use Rattle.listing_pairs.specs.Row.{points_a_row, points_of, numbers_of_rows}
use Rattle.listing_pairs.specs.Rows.{rows_of}
use Rattle.listing_outcomes.specs.Answer.{PageAnswer, Paged}
use Rattle.listing_outcomes.specs.Outcome.{Outcome, overwrite, room, outcome_of}
use Rattle.listing_outcomes.specs.PageOutcome.{limits, paged_of, page_outcome}
use Rattle.listing_calls.specs.Chain.{between}
use Rattle.listing_calls.specs.Laws.Chains.{Called, called, its-rows}
use Rattle.large_outcomes.specs.LargeRow.{large_indices_a_row, large_room}
use Rattle.large_outcomes.specs.LargeOutcome.{large_limits, large_paged_of, large_page_outcome}
use Rattle.large_outcomes.specs.Laws.Parts.{indices_part, points_part, same-room}
use Rattle.large_outcomes.specs.Laws.Large.{limits-same}

never : {f : Fault} {r p q a : ℕ} → Err f ≡ Paged r p q a → ⊥
never e = let z : ◌≡◌ {A = ℕ} 0 1 = cc in omega (arith, z)

module _ (numbers : Row → List ℕ) (wide : (r : Row) → length (numbers r) ≡ large_indices_a_row) (checks : List Checked)
    (look : ℕ → ℕ → Look) (ps : List Pair) (position budget : ℕ) (i₀ : List ℕ) (p₀ : List Float) where
  abbrev i₁ : List ℕ
  i₁ = indices_part i₀ p₀ (large_room i₀ p₀) refl

  abbrev p₁ : List Float
  p₁ = points_part i₀ p₀ (large_room i₀ p₀) refl

  -- the page of the lent parts
  abbrev pub old_page : Outcome PageAnswer
  old_page = page_outcome checks look ps position budget i₁ p₁

  abbrev q : Page
  q = page look (drop position ps) (large_room i₀ p₀) budget

  -- both, by the first fault
  same : (c : Checked)
      → (large_paged_of numbers c q position (length ps) i₀ p₀).answer ≡ (paged_of c q position (length ps) i₁ p₁).answer
  same (Ok _) = refl
  same (Err f) = refl

  pub same_answer : (large_page_outcome numbers checks look ps position budget i₀ p₀).answer ≡ old_page.answer
  unfolding large_page_outcome page_outcome
  same_answer =
      same (first_fault (checks ++ large_limits position (length ps) budget i₀ p₀))
      ∙ ap (λ (l : List Checked). (paged_of (first_fault (checks ++ l)) q position (length ps) i₁ p₁).answer)
      (sym (limits-same i₀ p₀ (large_room i₀ p₀) refl position (length ps) budget))
      ∙ ap (λ (n : ℕ). (paged_of (first_fault (checks ++ limits position (length ps) budget i₁ p₁))
      (page look (drop position ps) n budget) position (length ps) i₁ p₁).answer)
      (sym (same-room i₀ p₀ (large_room i₀ p₀) refl))

  module _ {rows pairs next all : ℕ}
      (e : (large_page_outcome numbers checks look ps position budget i₀ p₀).answer ≡ Paged rows pairs next all) where
    pub as_called : Called look ps position budget i₁ p₁ old_page rows pairs next all
    as_called = called checks look ps position budget i₁ p₁ (sym same_answer ∙ e)

    rows-here : q.rows ≡ rows_of look (between position next ps)
    rows-here =
        ap (λ (n : ℕ). (page look (drop position ps) n budget).rows) (sym (same-room i₀ p₀ (large_room i₀ p₀) refl))
        ∙ its-rows as_called

    count-here : rows ≡ length q.rows
    count-here =
        as_called.rows_are
        ∙ ap (λ (n : ℕ). length (page look (drop position ps) n budget).rows) (same-room i₀ p₀ (large_room i₀ p₀) refl)

    read : {A : Type 0} (each : Row → List A) (width : ℕ) → ((r : Row) → length (each r) ≡ width)
        → (old : List A)
        → take (rows * width) (overwrite old (numbers_of_rows each q.rows))
        ≡ numbers_of_rows each (rows_of look (between position next ps))
    read {A} each width long old =
        let written = numbers_of_rows each q.rows in
        take_at written (drop (length written) old) (rows * width)
        (flat-length each width long q.rows ∙ ap (λ (n : ℕ). n * width) (sym count-here))
        ∙ ap (numbers_of_rows each) rows-here

    pub read-large : take (rows * large_indices_a_row) (large_page_outcome numbers checks look ps position budget i₀ p₀).indices
        ≡ numbers_of_rows numbers (rows_of look (between position next ps))
    unfolding large_page_outcome
    read-large = go (first_fault (checks ++ large_limits position (length ps) budget i₀ p₀)) e
      where
        go : (c : Checked) → (large_paged_of numbers c q position (length ps) i₀ p₀).answer ≡ Paged rows pairs next all
            → take (rows * large_indices_a_row) (large_paged_of numbers c q position (length ps) i₀ p₀).indices
            ≡ numbers_of_rows numbers (rows_of look (between position next ps))
        go (Err f) h = absurd (never h)
        go (Ok _) h = read numbers large_indices_a_row wide i₀

    pub read-points : take (rows * points_a_row) (large_page_outcome numbers checks look ps position budget i₀ p₀).points
        ≡ numbers_of_rows points_of (rows_of look (between position next ps))
    unfolding large_page_outcome
    read-points = go (first_fault (checks ++ large_limits position (length ps) budget i₀ p₀)) e
      where
        go : (c : Checked) → (large_paged_of numbers c q position (length ps) i₀ p₀).answer ≡ Paged rows pairs next all
            → take (rows * points_a_row) (large_paged_of numbers c q position (length ps) i₀ p₀).points
            ≡ numbers_of_rows points_of (rows_of look (between position next ps))
        go (Err f) h = absurd (never h)
        go (Ok _) h = read points_of points_a_row (λ r. refl) p₀
