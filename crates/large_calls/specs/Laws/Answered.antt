-- What the old mode's call leaves in the lent parts, with its rows spread as many as it answers, is the outcome with rows of
-- five; and a refusal leaves the slices as they were. The same for a listing, a page and a boxed listing.
use Rattle.checks.specs.Checked.{Checked}
use Rattle.std.specs.Prelude.{◌≡◌, Bool, true, false, List, [], ◌∷◌, ◌++◌, ℕ, ◌+◌, ◌*◌, ◌≤◌, Float, drop, Err, Ok}
use Rattle.std.proofs.Math.Path.{refl, ap}
use Rattle.std.proofs.Common.{sym, ◌∙◌, subst, true≢false}
use native.Mathlib.Omega.{arith}
use Rattle.std.proofs.Math.ListN.{length}
use Rattle.checks.specs.declared.fault.Fault.{Fault}
use Rattle.checks.specs.First.{first as first_fault}
use Rattle.listing_pairs.specs.declared.row.Row.{Row}
use Rattle.listing_pairs.specs.declared.row.Look.{Look}
use Rattle.listing_pairs.specs.Row.{indices_a_row, points_a_row}
use Rattle.listing_pairs.specs.Order.{Pair}
use Rattle.listing_pairs.specs.Rows.{rows_of, looked_at}
use Rattle.listing_pairs.specs.Page.{page}
use Rattle.listing_outcomes.specs.Answer.{Listed, ListingAnswer, PageAnswer, Paged}
use Rattle.listing_outcomes.specs.Outcome.{Leaves, outcome}
use Rattle.listing_outcomes.specs.PageOutcome.{page_outcome}
use Rattle.listing_outcomes.specs.BoxedOutcome.{LeavesBoxed, index_check, boxes_after, boxed_outcome}
use Rattle.large_outcomes.specs.LargeRow.{large_indices_a_row, with_zeros, large_room}
use Rattle.large_outcomes.specs.LargeOutcome.{
  large_of,
  large_room_check,
  large_listed_of,
  large_outcome,
  large_limits,
  large_page_outcome,
  large_boxed_outcome,
}
use Rattle.large_outcomes.specs.Workings.Spread.{zero_halves, spread}
use Rattle.large_outcomes.specs.Laws.Parts.{indices_part, points_part}
use Rattle.large_outcomes.specs.Laws.Large.{
  last-fine,
  listed-refused,
  listed-spread,
  listed-few,
  paged-refused,
  paged-spread,
  paged-few,
  boxed-refused,
  boxed-spread,
  boxed-few,
}
use Rattle.large_calls.specs.Workings.Answers.{of_bulge, listed_rows, listed_bulge, paged_rows, paged_bulge}

listed-apart : (f : Fault) (n k : ℕ) → Err f ≡ Listed n k → ⊥
listed-apart f n k e = let z : ◌≡◌ {A = ℕ} 0 1 = cc in omega (arith, z)

paged-apart : (f : Fault) (n k next all : ℕ) → Err f ≡ Paged n k next all → ⊥
paged-apart f n k next all e = let z : ◌≡◌ {A = ℕ} 0 1 = cc in omega (arith, z)

-- both slices are as they were
pub record Kept (i₀ i : List ℕ) (p₀ p : List Float) : Type 0 where
  pub indices : i ≡ i₀
  pub points : p ≡ p₀

refusal-keeps : {A : Type 0} (numbers : Row → List ℕ) (refused : Fault → A) (c : Checked) (answer : A) (rows : List Row)
    (i₀ i : List ℕ) (p₀ p : List Float) (f : Fault) → (refused f ≡ answer → ⊥)
    → Leaves (large_of numbers refused c answer rows i₀ p₀) (refused f) i p → Kept i₀ i p₀ p
refusal-keeps numbers refused (Ok _) answer rows i₀ i p₀ p f apart l = absurd (apart l.answer)
refusal-keeps numbers refused (Err x) answer rows i₀ i p₀ p f apart l = record { indices = l.indices; points = l.points }

listing-keeps : (checks : List Checked) (look : ℕ → ℕ → Look) (ps : List Pair) (i₀ i : List ℕ) (p₀ p : List Float) (f : Fault)
    → Leaves (large_outcome with_zeros checks look ps i₀ p₀) (Err f) i p → Kept i₀ i p₀ p
unfolding large_outcome
listing-keeps checks look ps i₀ i p₀ p f l =
    let rows = rows_of look ps in
    refusal-keeps with_zeros Err (first_fault (checks ++ (large_room_check rows i₀ p₀ ∷ [])))
    (Listed (length rows) (looked_at look ps)) rows i₀ i p₀ p f (listed-apart f (length rows) (looked_at look ps)) l

page-keeps : (checks : List Checked) (look : ℕ → ℕ → Look) (ps : List Pair) (position budget : ℕ) (i₀ i : List ℕ)
    (p₀ p : List Float) (f : Fault)
    → Leaves (large_page_outcome with_zeros checks look ps position budget i₀ p₀) (Err f) i p → Kept i₀ i p₀ p
unfolding large_page_outcome
page-keeps checks look ps position budget i₀ i p₀ p f l =
    let q = page look (drop position ps) (large_room i₀ p₀) budget in
    let n = length q.rows in
    refusal-keeps with_zeros Err (first_fault (checks ++ large_limits position (length ps) budget i₀ p₀))
    (Paged n q.passed (position + q.passed) (length ps)) q.rows i₀ i p₀ p f
    (paged-apart f n q.passed (position + q.passed) (length ps)) l

boxes-kept : (numbers : Row → List ℕ) (c : Checked) (rows : List Row) (k : ℕ) (i₀ : List ℕ) (p₀ idx x₀ x : List Float)
    (f : Fault) → Err f ≡ (large_listed_of numbers c rows k i₀ p₀).answer → x ≡ boxes_after c idx x₀ → x ≡ x₀
boxes-kept numbers (Ok _) rows k i₀ p₀ idx x₀ x f e is = absurd (listed-apart f (length rows) k e)
boxes-kept numbers (Err g) rows k i₀ p₀ idx x₀ x f e is = is

boxed-keeps : (checks : List Checked) (look : ℕ → ℕ → Look) (ps : List Pair) (idx x₀ x : List Float) (i₀ i : List ℕ)
    (p₀ p : List Float) (f : Fault)
    → LeavesBoxed (large_boxed_outcome with_zeros checks look ps idx x₀ i₀ p₀) (Err f) x i p → Kept i₀ i p₀ p × (x ≡ x₀)
unfolding large_boxed_outcome
boxed-keeps checks look ps idx x₀ x i₀ i p₀ p f l =
    let rows = rows_of look ps in
    let k = looked_at look ps in
    let c = first_fault (checks ++ (index_check idx x₀ ∷ large_room_check rows i₀ p₀ ∷ [])) in (
      refusal-keeps with_zeros Err c (Listed (length rows) k) rows i₀ i p₀ p f (listed-apart f (length rows) k) l.listing,
      boxes-kept with_zeros c rows k i₀ p₀ idx x₀ x f l.listing.answer l.boxes,
    )

module _ (checks : List Checked) (look : ℕ → ℕ → Look) (ps : List Pair) (i₀ : List ℕ) (p₀ : List Float) (m : ℕ)
    (is : m ≡ large_room i₀ p₀) where
  abbrev a₀ : List ℕ
  a₀ = indices_part i₀ p₀ m is

  abbrev b₀ : List Float
  b₀ = points_part i₀ p₀ m is

  abbrev whole : List ℕ → List ℕ
  whole i = i ++ drop (m * indices_a_row) i₀

  abbrev whole-points : List Float → List Float
  whole-points p = p ++ drop (m * points_a_row) p₀

  -- ---- a listing
  module _ (r : ListingAnswer) (i : List ℕ) (p : List Float) where
    pub answered-few : Leaves (outcome checks look ps (indices_part i₀ p₀ m is) (points_part i₀ p₀ m is)) r i p
        → listed_rows r * large_indices_a_row ≤ length i₀
    unfolding outcome
    answered-few l = go r refl
      where
        go : (a : ListingAnswer) → r ≡ a → listed_rows a * large_indices_a_row ≤ length i₀
        go (Err f) e = omega arith
        go (Ok counts) e =
            listed-few i₀ p₀ m is zero_halves (λ x y class. refl) look ps (λ c. first_fault (checks ++ (c ∷ [])))
            (last-fine checks) r i p counts.rows counts.pairs e l

    refused-whole : (f : Fault) → r ≡ Err f → Leaves (outcome checks look ps a₀ b₀) r i p
        → Leaves (large_outcome with_zeros checks look ps i₀ p₀) (Err f) (whole i) (whole-points p)
    unfolding outcome large_outcome
    refused-whole f e l =
        listed-refused i₀ p₀ m is zero_halves (λ x y class. refl) look ps (λ c. first_fault (checks ++ (c ∷ [])))
        (last-fine checks) r i p f e l

    pub answered : (now : List ℕ) → Leaves (outcome checks look ps (indices_part i₀ p₀ m is) (points_part i₀ p₀ m is)) r i p
        → now ≡ spread zero_halves (listed_rows r) (i ++ drop (m * indices_a_row) i₀)
        → Leaves (large_outcome with_zeros checks look ps i₀ p₀) r now (p ++ drop (m * points_a_row) p₀)
    unfolding outcome large_outcome
    answered now l done = go r refl
      where
        go : (a : ListingAnswer) → r ≡ a → Leaves (large_outcome with_zeros checks look ps i₀ p₀) r now (whole-points p)
        go (Err f) e =
            let w = refused-whole f e l in
            record {
              answer = e ∙ w.answer;
              indices = done ∙ ap (λ (a : ListingAnswer). spread zero_halves (listed_rows a) (whole i)) e ∙ w.indices;
              points = w.points;
            }
        go (Ok counts) e =
            let w : Leaves (large_outcome with_zeros checks look ps i₀ p₀) (Ok counts) now (whole-points p) =
            listed-spread i₀ p₀ m is zero_halves (λ x y class. refl) look ps (λ c. first_fault (checks ++ (c ∷ [])))
            (last-fine checks) r i now p counts.rows counts.pairs e l
            (done ∙ ap (λ (a : ListingAnswer). spread zero_halves (listed_rows a) (whole i)) e) in
            record { answer = e ∙ w.answer; indices = w.indices; points = w.points }

    pub refusal-kept : listed_bulge r ≡ true
        → Leaves (outcome checks look ps (indices_part i₀ p₀ m is) (points_part i₀ p₀ m is)) r i p
        → Kept i₀ (i ++ drop (m * indices_a_row) i₀) p₀ (p ++ drop (m * points_a_row) p₀)
    refusal-kept b l = go r refl
      where
        go : (a : ListingAnswer) → r ≡ a → Kept i₀ (whole i) p₀ (whole-points p)
        go (Err f) e = listing-keeps checks look ps i₀ (whole i) p₀ (whole-points p) f (refused-whole f e l)
        go (Ok counts) e = absurd (true≢false (sym b ∙ ap listed_bulge e))

  -- ---- a page
  module _ (position budget : ℕ) (r : PageAnswer) (i : List ℕ) (p : List Float) where
    pub paged-answered-few :
        Leaves (page_outcome checks look ps position budget (indices_part i₀ p₀ m is) (points_part i₀ p₀ m is)) r i p
        → paged_rows r * large_indices_a_row ≤ length i₀
    unfolding page_outcome
    paged-answered-few l = go r refl
      where
        go : (a : PageAnswer) → r ≡ a → paged_rows a * large_indices_a_row ≤ length i₀
        go (Err f) e = omega arith
        go (Ok counts) e =
            paged-few i₀ p₀ m is zero_halves (λ x y class. refl) look ps checks position budget r i p counts.rows counts.pairs counts.next counts.all e l

    page-refused-whole : (f : Fault) → r ≡ Err f → Leaves (page_outcome checks look ps position budget a₀ b₀) r i p
        → Leaves (large_page_outcome with_zeros checks look ps position budget i₀ p₀) (Err f) (whole i) (whole-points p)
    unfolding page_outcome large_page_outcome
    page-refused-whole f e l =
        paged-refused i₀ p₀ m is zero_halves (λ x y class. refl) look ps checks position budget r i p f e l

    pub paged-answered : (now : List ℕ)
        → Leaves (page_outcome checks look ps position budget (indices_part i₀ p₀ m is) (points_part i₀ p₀ m is)) r i p
        → now ≡ spread zero_halves (paged_rows r) (i ++ drop (m * indices_a_row) i₀)
        → Leaves (large_page_outcome with_zeros checks look ps position budget i₀ p₀) r now (p ++ drop (m * points_a_row) p₀)
    unfolding page_outcome large_page_outcome
    paged-answered now l done = go r refl
      where
        go : (a : PageAnswer) → r ≡ a
            → Leaves (large_page_outcome with_zeros checks look ps position budget i₀ p₀) r now (whole-points p)
        go (Err f) e =
            let w = page-refused-whole f e l in
            record {
              answer = e ∙ w.answer;
              indices = done ∙ ap (λ (a : PageAnswer). spread zero_halves (paged_rows a) (whole i)) e ∙ w.indices;
              points = w.points;
            }
        go (Ok counts) e =
            let w : Leaves (large_page_outcome with_zeros checks look ps position budget i₀ p₀) (Ok counts) now
            (whole-points p) =
            paged-spread i₀ p₀ m is zero_halves (λ x y class. refl) look ps checks position budget r i now p counts.rows counts.pairs counts.next counts.all e l
            (done ∙ ap (λ (a : PageAnswer). spread zero_halves (paged_rows a) (whole i)) e) in
            record { answer = e ∙ w.answer; indices = w.indices; points = w.points }

    pub page-refusal-kept : paged_bulge r ≡ true
        → Leaves (page_outcome checks look ps position budget (indices_part i₀ p₀ m is) (points_part i₀ p₀ m is)) r i p
        → Kept i₀ (i ++ drop (m * indices_a_row) i₀) p₀ (p ++ drop (m * points_a_row) p₀)
    page-refusal-kept b l = go r refl
      where
        go : (a : PageAnswer) → r ≡ a → Kept i₀ (whole i) p₀ (whole-points p)
        go (Err f) e =
            page-keeps checks look ps position budget i₀ (whole i) p₀ (whole-points p) f (page-refused-whole f e l)
        go (Ok counts) e = absurd (true≢false (sym b ∙ ap paged_bulge e))

  -- ---- a boxed listing
  module _ (idx x₀ : List Float) (r : ListingAnswer) (x : List Float) (i : List ℕ) (p : List Float) where
    pub boxed-answered-few :
        LeavesBoxed (boxed_outcome checks look ps idx x₀ (indices_part i₀ p₀ m is) (points_part i₀ p₀ m is)) r x i p
        → listed_rows r * large_indices_a_row ≤ length i₀
    unfolding boxed_outcome
    boxed-answered-few l = go r refl
      where
        go : (a : ListingAnswer) → r ≡ a → listed_rows a * large_indices_a_row ≤ length i₀
        go (Err f) e = omega arith
        go (Ok counts) e = boxed-few i₀ p₀ m is zero_halves (λ x y class. refl) look ps checks idx x₀ r x i p counts.rows counts.pairs e l

    boxed-refused-whole : (f : Fault) → r ≡ Err f → LeavesBoxed (boxed_outcome checks look ps idx x₀ a₀ b₀) r x i p
        → LeavesBoxed (large_boxed_outcome with_zeros checks look ps idx x₀ i₀ p₀) (Err f) x (whole i) (whole-points p)
    unfolding boxed_outcome large_boxed_outcome
    boxed-refused-whole f e l =
        boxed-refused i₀ p₀ m is zero_halves (λ x y class. refl) look ps checks idx x₀ r x i p f e l

    pub boxed-answered : (now : List ℕ)
        → LeavesBoxed (boxed_outcome checks look ps idx x₀ (indices_part i₀ p₀ m is) (points_part i₀ p₀ m is)) r x i p
        → now ≡ spread zero_halves (listed_rows r) (i ++ drop (m * indices_a_row) i₀)
        → LeavesBoxed (large_boxed_outcome with_zeros checks look ps idx x₀ i₀ p₀) r x now (p ++ drop (m * points_a_row) p₀)
    unfolding boxed_outcome large_boxed_outcome
    boxed-answered now l done = go r refl
      where
        go : (a : ListingAnswer) → r ≡ a
            → LeavesBoxed (large_boxed_outcome with_zeros checks look ps idx x₀ i₀ p₀) r x now (whole-points p)
        go (Err f) e =
            let w = boxed-refused-whole f e l in
            record {
              listing =
                  record {
                    answer = e ∙ w.listing.answer;
                    indices = done ∙ ap (λ (a : ListingAnswer). spread zero_halves (listed_rows a) (whole i)) e
                        ∙ w.listing.indices;
                    points = w.listing.points;
                  };
              boxes = w.boxes;
            }
        go (Ok counts) e =
            let w : LeavesBoxed (large_boxed_outcome with_zeros checks look ps idx x₀ i₀ p₀) (Ok counts) x now (whole-points p) =
            boxed-spread i₀ p₀ m is zero_halves (λ x y class. refl) look ps checks idx x₀ r x i now p counts.rows counts.pairs e l
            (done ∙ ap (λ (a : ListingAnswer). spread zero_halves (listed_rows a) (whole i)) e) in
            record {
              listing =
                  record { answer = e ∙ w.listing.answer; indices = w.listing.indices; points = w.listing.points };
              boxes = w.boxes;
            }

    pub boxed-refusal-kept : listed_bulge r ≡ true
        → LeavesBoxed (boxed_outcome checks look ps idx x₀ (indices_part i₀ p₀ m is) (points_part i₀ p₀ m is)) r x i p
        → Kept i₀ (i ++ drop (m * indices_a_row) i₀) p₀ (p ++ drop (m * points_a_row) p₀) × (x ≡ x₀)
    boxed-refusal-kept b l = go r refl
      where
        go : (a : ListingAnswer) → r ≡ a → Kept i₀ (whole i) p₀ (whole-points p) × (x ≡ x₀)
        go (Err f) e =
            boxed-keeps checks look ps idx x₀ x i₀ (whole i) p₀ (whole-points p) f (boxed-refused-whole f e l)
        go (Ok counts) e = absurd (true≢false (sym b ∙ ap listed_bulge e))
