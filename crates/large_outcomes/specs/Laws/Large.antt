-- From what a listing, a page and a boxed listing leave in the lent parts to the outcome with rows of five.
use Rattle.checks.specs.Checked.{Checked}
use Rattle.std.specs.Prelude.{◌≡◌, refl, Bool, true, false, cond, List, [], ◌∷◌, ◌++◌, ℕ, ◌+◌, ◌*◌, ◌≤◌, ltb, eqb, Float, length, drop, Err, Ok}
use Rattle.std.proofs.Common.{sym, ◌∙◌, arith}
use Rattle.std.proofs.Math.Path.{ap}
use borrow.Author.Tests.{ltb-false}
use Rattle.checks.specs.declared.fault.Item.TheVariants.{Rows}
use Rattle.checks.specs.declared.fault.Place.{Place}
use Rattle.checks.specs.declared.fault.Fault.{Fault}
use Rattle.checks.specs.Fault.{at, bad, refuse, later}
use Rattle.checks.specs.First.{first as first_fault}
use Rattle.checks.specs.Refusal
use Rattle.checks.specs.Laws.Chains.{first-append}
use Rattle.checks.specs.Laws.Later.{later-fine}
use Rattle.listing_pairs.specs.declared.row.Row.{Row}
use Rattle.listing_pairs.specs.declared.row.Look.{Look}
use Rattle.listing_pairs.specs.Row.{indices_a_row, points_a_row}
use Rattle.listing_pairs.specs.Order.{Pair}
use Rattle.listing_pairs.specs.Page.{Page, page}
use Rattle.listing_pairs.specs.Rows.{rows_of, looked_at}
use Rattle.listing_loop.specs.Laws.Pages.{joins}
use Rattle.listing_outcomes.specs.Answer.{Listed, ListingAnswer, PageAnswer, Paged}
use Rattle.listing_outcomes.specs.Outcome.{Leaves, room, room_check, listed_of, outcome_of}
use Rattle.listing_outcomes.specs.PageOutcome.{position_check, budget_check, row_check, limits, paged_of}
use Rattle.listing_outcomes.specs.BoxedOutcome.{LeavesBoxed, index_check, boxes_after, boxed_of}
use Rattle.listing_outcomes.specs.Laws.Counts.{same-rows, same-page-rows}
use Rattle.large_outcomes.specs.LargeRow.{large_indices_a_row, large_room}
use Rattle.large_outcomes.specs.LargeOutcome.{
  large_room_check,
  large_listed_of,
  large_row_check,
  large_limits,
  large_paged_of,
  large_boxed_of,
}
use Rattle.large_outcomes.specs.Workings.Spread.{spread, numbers_by}
use Rattle.large_outcomes.specs.Laws.Parts.{
  indices_part,
  points_part,
  same-room,
  indices-inside,
  points-inside,
  rows_inside,
  part-whole,
  part-refused,
  part-spread,
}

-- ---- answers and checks
listed-apart : (f : Fault) (n k : ℕ) → Err f ≡ Listed n k → ⊥
listed-apart f n k e = let z : ◌≡◌ {A = ℕ} 0 1 = cc in omega (arith, z)

paged-apart : (f : Fault) (n k next all : ℕ) → Err f ≡ Paged n k next all → ⊥
paged-apart f n k next all e = let z : ◌≡◌ {A = ℕ} 0 1 = cc in omega (arith, z)

-- a check that is fine said no
said-no : (b : Bool) (n : ℕ) (p : Place) → refuse b n p ≡ Ok tt → b ≡ false
unfolding refuse
said-no false n p e = refl
said-no true n p e = let z : ◌≡◌ {A = ℕ} 0 1 = cc in absurd (omega (arith, z))

-- if all checks are fine, so are the later ones, and the last
later_ones : (before more : List Checked) → first_fault (before ++ more) ≡ Ok tt → first_fault more ≡ Ok tt
later_ones before more e = ((later-fine (first_fault before) (first_fault more)).0 (sym (first-append before more) ∙ e)).1

pub last-fine : (before : List Checked) (c : Checked) → first_fault (before ++ (c ∷ [])) ≡ Ok tt → c ≡ Ok tt
last-fine before c e = ((later-fine c (Ok tt)).0 (later_ones before (c ∷ []) e)).0

last-of-two : (before : List Checked) (b c : Checked) → first_fault (before ++ (b ∷ c ∷ [])) ≡ Ok tt → c ≡ Ok tt
last-of-two before b c e =
    ((later-fine c (Ok tt)).0 ((later-fine b (later c (Ok tt))).0 (later_ones before (b ∷ c ∷ []) e)).1).0

module _ (indices : List ℕ) (points : List Float) (m : ℕ) (is : m ≡ large_room indices points) where
  abbrev is-part : List ℕ
  is-part = indices_part indices points m is

  abbrev ps-part : List Float
  ps-part = points_part indices points m is

  room-same : room is-part ps-part ≡ large_room indices points
  room-same = same-room indices points m is ∙ is

  check-same : (rows : List Row) → room_check rows is-part ps-part ≡ large_room_check rows indices points
  unfolding room_check large_room_check
  check-same rows = ap (λ (n : ℕ). refuse (ltb n (length rows)) Refusal.rows (at 0 0 Rows)) room-same

  pub few-rows : (rows : List Row) → large_room_check rows indices points ≡ Ok tt → length rows ≤ m
  unfolding large_room_check
  few-rows rows e =
      omega (arith, is, ltb-false (large_room indices points) (length rows) (said-no _ Refusal.rows (at 0 0 Rows) e))

  row-check-same : row_check is-part ps-part ≡ large_row_check indices points
  unfolding row_check large_row_check
  row-check-same = ap (λ (n : ℕ). refuse (eqb n 0) Refusal.rows (at 0 0 Rows)) room-same

  pub limits-same : (position all budget : ℕ)
      → limits position all budget (indices_part indices points m is) (points_part indices points m is)
      ≡ large_limits position all budget indices points
  limits-same position all budget =
      ap (λ (c : Checked). position_check position all ∷ budget_check budget ∷ c ∷ []) row-check-same

  -- `five`: what the three numbers of a row become
  module _ (five : ℕ → ℕ → ℕ → List ℕ) (wide : (i j class : ℕ) → length (five i j class) ≡ large_indices_a_row)
      (look : ℕ → ℕ → Look) (ps : List Pair) where
    abbrev rows : List Row
    rows = rows_of look ps

    -- ---- a listing. `found` makes the first fault of all checks from 8's check, which is among them
    module _ (found : Checked → Checked) (among : (c : Checked) → found c ≡ Ok tt → c ≡ Ok tt) where
      abbrev all_found : Checked
      all_found = found (large_room_check rows indices points)

      -- what was left in the parts, and what is to stand in the whole slices
      abbrev pub ListedPart : ListingAnswer → List ℕ → List Float → Type 0
      ListedPart r i p = Leaves (listed_of (found (room_check rows is-part ps-part)) rows (looked_at look ps) is-part ps-part) r i p

      abbrev pub ListedWhole : ListingAnswer → List ℕ → List Float → Type 0
      ListedWhole r i p = Leaves (large_listed_of (numbers_by five) all_found rows (looked_at look ps) indices points) r i p

      on-part : (r : ListingAnswer) (i : List ℕ) (p : List Float) → ListedPart r i p
          → Leaves (listed_of all_found rows (looked_at look ps) is-part ps-part) r i p
      on-part r i p l = rw (check-same rows) at l

      few-found : all_found ≡ Ok tt → length rows ≤ m
      few-found e = few-rows rows (among (large_room_check rows indices points) e)

      pub listed-refused : (r : ListingAnswer) (i : List ℕ) (p : List Float) (f : Fault) → r ≡ Err f → ListedPart r i p
          → ListedWhole (Err f) (i ++ drop (m * indices_a_row) indices) (p ++ drop (m * points_a_row) points)
      listed-refused r i p f e l =
          part-refused indices points m is Err (Listed (length rows) (looked_at look ps)) rows five wide
          all_found r i p f e (listed-apart f _ _) (on-part r i p l)

      pub listed-spread : (r : ListingAnswer) (i now : List ℕ) (p : List Float) (n k : ℕ) → r ≡ Listed n k → ListedPart r i p
          → now ≡ spread five n (i ++ drop (m * indices_a_row) indices)
          → ListedWhole (Listed n k) now (p ++ drop (m * points_a_row) points)
      listed-spread r i now p n k e l done =
          let all : ListedWhole r now (p ++ drop (m * points_a_row) points) =
          part-spread indices points m is Err (Listed (length rows) (looked_at look ps)) rows five wide
          all_found r i now p n (λ f h. listed-apart f n k (sym h ∙ e)) (λ h. same-rows (sym e ∙ h))
          few-found (on-part r i p l) done in
          rw e at all

      -- what stands in the whole slices before the rows are spread
      pub listed-whole : (r : ListingAnswer) (i : List ℕ) (p : List Float) → ListedPart r i p
          → Leaves (listed_of (found (large_room_check (rows_of look ps) indices points)) (rows_of look ps) (looked_at look ps)
          indices points) r (i ++ drop (m * indices_a_row) indices) (p ++ drop (m * points_a_row) points)
      listed-whole r i p l =
          part-whole indices points m is Err (Listed (length rows) (looked_at look ps)) rows five wide
          all_found r i p few-found (on-part r i p l)

      -- the rows that were written are few
      pub listed-few : (r : ListingAnswer) (i : List ℕ) (p : List Float) (n k : ℕ) → r ≡ Listed n k → ListedPart r i p
          → n * large_indices_a_row ≤ length indices
      listed-few r i p n k e l = go all_found refl (on-part r i p l)
        where
          go : (c : Checked) → all_found ≡ c
              → Leaves (listed_of c rows (looked_at look ps) is-part ps-part) r i p → n * large_indices_a_row ≤ length indices
          go (Err g) h l = absurd (listed-apart g n k (sym l.answer ∙ e))
          go (Ok _) h l =
              let count : n ≡ length rows = same-rows (sym e ∙ l.answer) in
              omega (arith, count, few-found h, rows_inside indices points m is)

    -- ---- a page. `before`: the checks that come before 13, 14 and 8
    module _ (before : List Checked) (position budget : ℕ) where
      abbrev q : Page
      q = page look (drop position ps) (large_room indices points) budget

      few-on-page : length q.rows ≤ m
      few-on-page = omega (arith, is, (joins look (drop position ps) (large_room indices points) budget).few)

      abbrev page-found : Checked
      page-found = first_fault (before ++ large_limits position (length ps) budget indices points)

      abbrev pub PagedPart : PageAnswer → List ℕ → List Float → Type 0
      PagedPart r i p =
          Leaves (paged_of (first_fault (before ++ limits position (length ps) budget is-part ps-part))
          (page look (drop position ps) (room is-part ps-part) budget) position (length ps) is-part ps-part) r i p

      abbrev pub PagedWhole : PageAnswer → List ℕ → List Float → Type 0
      PagedWhole r i p = Leaves (large_paged_of (numbers_by five) page-found q position (length ps) indices points) r i p

      on-page : (r : PageAnswer) (i : List ℕ) (p : List Float) → PagedPart r i p
          → Leaves (paged_of page-found q position (length ps) is-part ps-part) r i p
      on-page r i p l = rw (row-check-same, room-same) at l

      pub paged-refused : (r : PageAnswer) (i : List ℕ) (p : List Float) (f : Fault) → r ≡ Err f
          → PagedPart r i p
          → PagedWhole (Err f) (i ++ drop (m * indices_a_row) indices) (p ++ drop (m * points_a_row) points)
      paged-refused r i p f e l =
          part-refused indices points m is Err
          (Paged (length q.rows) q.passed (position + q.passed) (length ps)) q.rows five wide
          page-found r i p f e (paged-apart f _ _ _ _) (on-page r i p l)

      pub paged-spread : (r : PageAnswer) (i now : List ℕ) (p : List Float) (n k next all : ℕ)
          → r ≡ Paged n k next all → PagedPart r i p
          → now ≡ spread five n (i ++ drop (m * indices_a_row) indices)
          → PagedWhole (Paged n k next all) now (p ++ drop (m * points_a_row) points)
      paged-spread r i now p n k next all e l done =
          let whole : PagedWhole r now (p ++ drop (m * points_a_row) points) =
          part-spread indices points m is Err
          (Paged (length q.rows) q.passed (position + q.passed) (length ps)) q.rows five wide
          page-found r i now p n (λ f h. paged-apart f n k next all (sym h ∙ e)) (λ h. same-page-rows (sym e ∙ h))
          (λ h. few-on-page) (on-page r i p l) done in
          rw e at whole

      pub paged-few : (r : PageAnswer) (i : List ℕ) (p : List Float) (n k next all : ℕ) → r ≡ Paged n k next all
          → PagedPart r i p → n * large_indices_a_row ≤ length indices
      paged-few r i p n k next all e l = go page-found (on-page r i p l)
        where
          go : (c : Checked) → Leaves (paged_of c q position (length ps) is-part ps-part) r i p
              → n * large_indices_a_row ≤ length indices
          go (Err g) l = absurd (paged-apart g n k next all (sym l.answer ∙ e))
          go (Ok _) l =
              let count : n ≡ length q.rows = same-page-rows (sym e ∙ l.answer) in
              omega (arith, count, few-on-page, rows_inside indices points m is)

    -- ---- a boxed listing. `before`: the checks that come before 17 and 8
    module _ (before : List Checked) (idx b₀ : List Float) where
      abbrev box-found : Checked → Checked
      box-found c = first_fault (before ++ (index_check idx b₀ ∷ c ∷ []))

      box-among : (c : Checked) → box-found c ≡ Ok tt → c ≡ Ok tt
      box-among = last-of-two before (index_check idx b₀)

      abbrev pub BoxedPart : ListingAnswer → List Float → List ℕ → List Float → Type 0
      BoxedPart r b i p =
          LeavesBoxed (boxed_of (box-found (room_check rows is-part ps-part)) rows (looked_at look ps) idx b₀ is-part ps-part)
          r b i p

      abbrev pub BoxedWhole : ListingAnswer → List Float → List ℕ → List Float → Type 0
      BoxedWhole r b i p =
          LeavesBoxed (large_boxed_of (numbers_by five) (box-found (large_room_check rows indices points)) rows (looked_at look ps)
          idx b₀ indices points) r b i p

      boxes-are : (r : ListingAnswer) (b : List Float) (i : List ℕ) (p : List Float) → BoxedPart r b i p
          → b ≡ boxes_after (box-found (large_room_check rows indices points)) idx b₀
      boxes-are r b i p l =
          l.boxes ∙ ap (λ (c : Checked). boxes_after (box-found c) idx b₀) (check-same rows)

      pub boxed-refused : (r : ListingAnswer) (b : List Float) (i : List ℕ) (p : List Float) (f : Fault) → r ≡ Err f
          → BoxedPart r b i p
          → BoxedWhole (Err f) b (i ++ drop (m * indices_a_row) indices) (p ++ drop (m * points_a_row) points)
      boxed-refused r b i p f e l =
          record { listing = listed-refused box-found box-among r i p f e l.listing; boxes = boxes-are r b i p l }

      pub boxed-spread : (r : ListingAnswer) (b : List Float) (i now : List ℕ) (p : List Float) (n k : ℕ) → r ≡ Listed n k
          → BoxedPart r b i p → now ≡ spread five n (i ++ drop (m * indices_a_row) indices)
          → BoxedWhole (Listed n k) b now (p ++ drop (m * points_a_row) points)
      boxed-spread r b i now p n k e l done =
          record { listing = listed-spread box-found box-among r i now p n k e l.listing done; boxes = boxes-are r b i p l }

      pub boxed-few : (r : ListingAnswer) (b : List Float) (i : List ℕ) (p : List Float) (n k : ℕ) → r ≡ Listed n k
          → BoxedPart r b i p → n * large_indices_a_row ≤ length indices
      boxed-few r b i p n k e l = listed-few box-found box-among r i p n k e l.listing
