-- From the checks of a listing, a page or a boxed listing of the mode of large arcs to its outcome: the chain of calls is the
-- list of checks; if they are fine, every pair of the cut paths is fine for the pair call; and the outcome is that of checked
-- paths, or the refusal of the first fault.
use Rattle.checks.specs.Checked.{Checked}
use Rattle.std.specs.Prelude.{◌≡◌, Bool, true, false, ℕ, ◌*◌, ◌<◌, ◌≤◌, Float, length, Err, Ok}
use Rattle.std.proofs.Math.Path.{refl, sym, ap}
use Rattle.std.proofs.Common.{◌∙◌, true≢false, arith}
use mathlib.Core.List.{List, [], ◌∷◌, ◌++◌, append-nil}
use Rattle.checks.specs.declared.fault.Fault.{Fault}
use Rattle.checks.specs.Fault.{later}
use Rattle.checks.specs.Each
use Rattle.checks.specs.First.{first as first_fault}
use Rattle.checks.specs.Laws.Chains.{first-append}
use Rattle.checks.specs.Laws.Later.{fine-right, later-assoc, later-fine}
use Rattle.paths.specs.Path.{most_vertices, vertex_count}
use Rattle.paths.specs.Shape.{shape}
use Rattle.paths.specs.Laws.RefusalNumbers.{shape-few}
use Rattle.cuts.specs.CutPath.{cut_path, cut_count, name_words}
use Rattle.cuts.specs.LargeChecks.{large_path_checks, check_large_path}
use Rattle.cuts.specs.Laws.Fine.{LargePathFine, path-fine}
use Rattle.boxes.specs.Index.{index}
use Rattle.listing_pairs.specs.declared.row.Row.{Row}
use Rattle.listing_pairs.specs.declared.row.Look.{Look}
use Rattle.listing_pairs.specs.declared.order.Job.{Job}
use Rattle.listing_pairs.specs.Order.{Pair, mutual_pairs, self_pairs}
use Rattle.listing_pairs.specs.Rows.{rows_of, looked_at}
use Rattle.listing_pairs.specs.Look.{look, self_look_of}
use Rattle.listing_pairs.specs.Boxed.{boxed_pairs}
use Rattle.listing_pairs.specs.Workings.Job.{every}
use Rattle.listing_pairs.specs.Workings.Ready.{look_on, boxed_look, look_by}
use Rattle.listing_pairs.specs.Laws.Sequence.{mutual-every, self-every}
use Rattle.listing_pairs.specs.Laws.Skipped.{boxed-rows, boxed-looked}
use Rattle.listing_outcomes.specs.Answer.{Listed, ListingAnswer, PageAnswer}
use Rattle.listing_outcomes.specs.Outcome.{Leaves}
use Rattle.listing_outcomes.specs.BoxedOutcome.{BoxedOutcome, LeavesBoxed, index_check}
use Rattle.listing_outcomes.specs.Workings.BoxedOutcome.{index_for, OwnPath}
use Rattle.listing_calls.specs.Laws.Entry.{after-fine, after-bad}
use Rattle.large_outcomes.specs.LargeRow.{large_room}
use Rattle.large_outcomes.specs.LargeOutcome.{
  large_of,
  large_room_check,
  large_listed_of,
  large_outcome,
  large_limits,
  large_page_outcome,
  large_boxed_of,
  large_boxed_outcome,
}
use Rattle.large_outcomes.specs.Workings.Spread.{five_of}
use Rattle.large_outcomes.specs.Workings.LargeOutcome.{large_listed, large_paged, large_boxed}
use Rattle.large_outcomes.specs.Laws.Names.{five-named}
use Rattle.large_listings.specs.LargeListings.{
  mutual_numbers,
  mutual_large_checks,
  check_mutual_large,
  mutual_large_look,
  mutual_large_pairs,
  mutual_large_index,
  mutual_large,
  mutual_page_large,
  mutual_boxed_large,
  self_numbers,
  self_large_checks,
  check_self_large,
  self_large_look,
  self_large_pairs,
  self_large,
  self_page_large,
  self_boxed_large,
}
use Rattle.large_listings.specs.Workings.Jobs.{mutual_job, self_job}

-- ---- any call: its checks, then the last ones
module _ {A : Type 0} (numbers : Row → List ℕ) (refused : Fault → A) (checks more : List Checked) (answer : A) (rows : List Row)
    (i₀ : List ℕ) (p₀ : List Float) where
  outcome-fine : first_fault checks ≡ Ok tt
      → large_of numbers refused (first_fault (checks ++ more)) answer rows i₀ p₀
      ≡ large_of numbers refused (first_fault more) answer rows i₀ p₀
  outcome-fine e = ap (λ (t : Checked). large_of numbers refused t answer rows i₀ p₀) (after-fine checks more e)

  outcome-bad : (x : Fault) → first_fault checks ≡ Err x
      → Leaves (large_of numbers refused (first_fault (checks ++ more)) answer rows i₀ p₀) (refused x) i₀ p₀
  outcome-bad x e = rw (after-bad checks more x e) (record { answer = refl; indices = refl; points = refl })

module _ (numbers : Row → List ℕ) (checks : List Checked) (f : ℕ → ℕ → Look) (ps : List Pair) (i₀ : List ℕ) (p₀ : List Float)
    (e : first_fault checks ≡ Ok tt) where
  listing-fine : large_outcome numbers checks f ps i₀ p₀ ≡ large_listed numbers f ps i₀ p₀
  unfolding large_outcome
  listing-fine =
      let c = large_room_check (rows_of f ps) i₀ p₀ in
      outcome-fine numbers Err checks (c ∷ []) (Listed (length (rows_of f ps)) (looked_at f ps)) (rows_of f ps) i₀ p₀ e
      ∙ ap (λ (t : Checked). large_listed_of numbers t (rows_of f ps) (looked_at f ps) i₀ p₀) (fine-right c)

  page-fine : (position budget : ℕ)
      → large_page_outcome numbers checks f ps position budget i₀ p₀ ≡ large_paged numbers f ps position budget i₀ p₀
  unfolding large_page_outcome
  page-fine position budget =
      outcome-fine numbers Err checks (large_limits position (length ps) budget i₀ p₀) _ _ i₀ p₀ e

  boxed-fine : (idx b₀ : List Float) → large_boxed_outcome numbers checks f ps idx b₀ i₀ p₀ ≡ large_boxed numbers f ps idx b₀ i₀ p₀
  unfolding large_boxed_outcome
  boxed-fine idx b₀ =
      ap (λ (t : Checked). large_boxed_of numbers t (rows_of f ps) (looked_at f ps) idx b₀ i₀ p₀)
      (after-fine checks (index_check idx b₀ ∷ large_room_check (rows_of f ps) i₀ p₀ ∷ []) e)

-- a refusal of the checks
module _ (numbers : Row → List ℕ) (checks : List Checked) (f : ℕ → ℕ → Look) (ps : List Pair) (i₀ : List ℕ) (p₀ : List Float)
    (x : Fault) (e : first_fault checks ≡ Err x) where
  listing-bad : Leaves (large_outcome numbers checks f ps i₀ p₀) (Err x) i₀ p₀
  unfolding large_outcome
  listing-bad = outcome-bad numbers Err checks _ _ _ i₀ p₀ x e

  page-bad : (position budget : ℕ)
      → Leaves (large_page_outcome numbers checks f ps position budget i₀ p₀) (Err x) i₀ p₀
  unfolding large_page_outcome
  page-bad position budget = outcome-bad numbers Err checks _ _ _ i₀ p₀ x e

  boxed-bad : (idx b₀ : List Float) → LeavesBoxed (large_boxed_outcome numbers checks f ps idx b₀ i₀ p₀) (Err x) b₀ i₀ p₀
  unfolding large_boxed_outcome
  boxed-bad idx b₀ =
      rw (after-bad checks (index_check idx b₀ ∷ large_room_check (rows_of f ps) i₀ p₀ ∷ []) x e)
      (record { listing = record { answer = refl; indices = refl; points = refl }; boxes = refl })

-- in a boxed listing the pairs are skipped, or left out
left_out : (numbers : Row → List ℕ) (first second : List Float) (epsilon : Float) (f : ℕ → ℕ → Look) (ps : List Pair)
    (idx b₀ : List Float) (i₀ : List ℕ) (p₀ : List Float)
    → large_boxed numbers (boxed_look first second epsilon f) ps idx b₀ i₀ p₀
    ≡ large_boxed numbers f (boxed_pairs first second epsilon ps) idx b₀ i₀ p₀
left_out numbers first second epsilon f ps idx b₀ i₀ p₀ =
    let of : List Row → ℕ → BoxedOutcome = λ rows looked.
    large_boxed_of numbers (first_fault (index_check idx b₀ ∷ large_room_check rows i₀ p₀ ∷ [])) rows looked idx b₀ i₀ p₀ in
    ap (λ (rows : List Row). of rows (looked_at (boxed_look first second epsilon f) ps)) (boxed-rows first second epsilon f ps)
    ∙ ap (of (rows_of f (boxed_pairs first second epsilon ps))) (boxed-looked first second epsilon f ps)

-- ---- two paths
module _ (first : List Float) (first_closed : Bool) (second : List Float) (second_closed : Bool) (epsilon : Float) where
  abbrev shapes : Checked
  shapes = later (later (Each.epsilon epsilon) (shape first 0)) (shape second 1)

  abbrev these : List Checked
  these = mutual_large_checks first first_closed second second_closed epsilon

  abbrev five : Row → List ℕ
  five = mutual_numbers first first_closed second second_closed

  abbrev looks : ℕ → ℕ → Look
  looks = mutual_large_look first first_closed second second_closed epsilon

  abbrev between : List Pair
  between = mutual_large_pairs first first_closed second second_closed

  pub mutual-chain : check_large_path (check_large_path shapes first first_closed 0) second second_closed 1
      ≡ check_mutual_large first first_closed second second_closed epsilon
  unfolding check_large_path check_mutual_large
  mutual-chain =
      let e = Each.epsilon epsilon in
      let c0 : List Checked = e ∷ shape first 0 ∷ shape second 1 ∷ [] in
      let c1 = large_path_checks first first_closed 0 in
      let c2 = large_path_checks second second_closed 1 in
      let three : shapes ≡ first_fault c0 = simp (later-assoc, fine-right) in
      ap (λ (t : Checked). later (later t (first_fault c1)) (first_fault c2)) three
      ∙ ap (λ (t : Checked). later t (first_fault c2)) (sym (first-append c0 c1))
      ∙ sym (first-append (c0 ++ c1) c2)

  -- what is known if the checks are fine
  pub record MutualFine : Type 0 where
    pub eps : Each.epsilon epsilon ≡ Ok tt
    pub first-shape : shape first 0 ≡ Ok tt
    pub second-shape : shape second 1 ≡ Ok tt
    pub first_fine : LargePathFine first first_closed
    pub second-fine : LargePathFine second second_closed

  pub mutual-fine : check_mutual_large first first_closed second second_closed epsilon ≡ Ok tt → MutualFine
  mutual-fine e =
      let outer = (path-fine (check_large_path shapes first first_closed 0) second second_closed 1).0 (mutual-chain ∙ e) in
      let inner = (path-fine shapes first first_closed 0).0 outer.0 in
      let two = (later-fine (later (Each.epsilon epsilon) (shape first 0)) (shape second 1)).0 inner.0 in
      let one = (later-fine (Each.epsilon epsilon) (shape first 0)).0 two.0 in
      record {
        eps = one.0;
        first-shape = one.1;
        second-shape = two.1;
        first_fine = inner.1;
        second-fine = outer.1;
      }

  -- a and b: the cut paths as they stand in slices; n and m: their numbers of segments; words and others: those of their names
  module _ (a b : List Float) (words others : List ℕ) (n m : ℕ)
      (a-is : a ≡ cut_path first first_closed) (b-is : b ≡ cut_path second second_closed)
      (words_are : words ≡ name_words first first_closed) (others-are : others ≡ name_words second second_closed)
      (n-is : n ≡ cut_count first first_closed) (m-is : m ≡ cut_count second second_closed)
      (e : check_mutual_large first first_closed second second_closed epsilon ≡ Ok tt) (i₀ i : List ℕ) (p₀ p : List Float) where
    abbrev plain : Job
    plain = mutual_job (cut_count first first_closed) (cut_count second second_closed) false epsilon

    abbrev boxed : Job
    boxed = mutual_job (cut_count first first_closed) (cut_count second second_closed) true epsilon

    pub mutual-listed : (r : ListingAnswer) (j : Job) → j ≡ mutual_job n m false epsilon
        → Leaves (large_listed (five_of words others) (look_by a b j) (every j) i₀ p₀) r i p
        → Leaves (mutual_large first first_closed second second_closed epsilon i₀ p₀) r i p
    unfolding mutual_large check_mutual_large look_on look
    mutual-listed r j is h =
        let g : Leaves (large_listed five looks between i₀ p₀) r i p =
        rw (
          is,
          n-is,
          m-is,
          words_are,
          others-are,
          a-is,
          b-is,
          mutual-every plain refl,
          five-named first first_closed second second_closed,
        ) at h in
        rw (listing-fine five these looks between i₀ p₀ e) g

    pub mutual-paged : (r : PageAnswer) (position budget : ℕ) (j : Job) → j ≡ mutual_job n m false epsilon
        → Leaves (large_paged (five_of words others) (look_by a b j) (every j) position budget i₀ p₀) r i p
        → Leaves (mutual_page_large first first_closed second second_closed epsilon position budget i₀ p₀) r i p
    unfolding mutual_page_large check_mutual_large look_on look
    mutual-paged r position budget j is h =
        let g : Leaves (large_paged five looks between position budget i₀ p₀) r i p =
        rw (
          is,
          n-is,
          m-is,
          words_are,
          others-are,
          a-is,
          b-is,
          mutual-every plain refl,
          five-named first first_closed second second_closed,
        ) at h in
        rw (page-fine five these looks between i₀ p₀ e position budget) g

    pub mutual-boxed : (r : ListingAnswer) (b₀ b₁ : List Float) (j : Job) → j ≡ mutual_job n m true epsilon
        → LeavesBoxed (large_boxed (five_of words others) (look_by a b j) (every j) (index_for a b j) b₀ i₀ p₀) r b₁ i p
        → LeavesBoxed (mutual_boxed_large first first_closed second second_closed epsilon b₀ i₀ p₀) r b₁ i p
    unfolding mutual_boxed_large check_mutual_large look_on look
    mutual-boxed r b₀ b₁ j is h =
        let x = cut_path first first_closed in
        let y = cut_path second second_closed in
        let idx = mutual_large_index first first_closed second second_closed epsilon in
        let g : LeavesBoxed (large_boxed five (boxed_look x y epsilon looks) between idx b₀ i₀ p₀) r b₁ i p =
        rw (
          is,
          n-is,
          m-is,
          words_are,
          others-are,
          a-is,
          b-is,
          mutual-every boxed refl,
          five-named first first_closed second second_closed,
        ) at h in
        rw (boxed-fine five these looks (boxed_pairs x y epsilon between) i₀ p₀ e idx b₀)
        (rw (left_out five x y epsilon looks between idx b₀ i₀ p₀) at g)

  -- a fault
  module _ (x : Fault) (i₀ : List ℕ) (p₀ : List Float)
      (e : check_mutual_large first first_closed second second_closed epsilon ≡ Err x) where
    pub mutual-refused : Leaves (mutual_large first first_closed second second_closed epsilon i₀ p₀) (Err x) i₀ p₀
    unfolding mutual_large check_mutual_large
    mutual-refused = listing-bad five these looks between i₀ p₀ x e

    pub mutual-page-refused : (position budget : ℕ)
        → Leaves (mutual_page_large first first_closed second second_closed epsilon position budget i₀ p₀) (Err x) i₀ p₀
    unfolding mutual_page_large check_mutual_large
    mutual-page-refused position budget = page-bad five these looks between i₀ p₀ x e position budget

    pub mutual-boxed-refused : (b₀ : List Float)
        → LeavesBoxed (mutual_boxed_large first first_closed second second_closed epsilon b₀ i₀ p₀) (Err x) b₀ i₀ p₀
    unfolding mutual_boxed_large check_mutual_large
    mutual-boxed-refused b₀ =
        boxed-bad five these looks (boxed_pairs (cut_path first first_closed)
        (cut_path second second_closed) epsilon between) i₀ p₀ x e
        (mutual_large_index first first_closed second second_closed epsilon) b₀

pub two-paths : (first second : List Float) (n m : ℕ) (boxed : Bool) (epsilon : Float) (j : Job)
    → j ≡ mutual_job n m boxed epsilon → OwnPath first second j
two-paths first second n m by_boxes epsilon j is owns = absurd (true≢false (sym owns ∙ ap (λ (k : Job). k.own) is))

pub mutual-plain : (n m : ℕ) (epsilon : Float) (j : Job) → j ≡ mutual_job n m false epsilon → j.boxed ≡ false
mutual-plain n m epsilon j is = ap (λ (k : Job). k.boxed) is

-- ---- one path
module _ (path : List Float) (closed : Bool) (epsilon : Float) where
  abbrev shaped : Checked
  shaped = later (Each.epsilon epsilon) (shape path 0)

  abbrev its : List Checked
  its = self_large_checks path closed epsilon

  abbrev own-five : Row → List ℕ
  own-five = self_numbers path closed

  abbrev own-looks : ℕ → ℕ → Look
  own-looks = self_large_look path closed epsilon

  abbrev own : List Pair
  own = self_large_pairs path closed

  pub self-chain : check_large_path shaped path closed 0 ≡ check_self_large path closed epsilon
  unfolding check_large_path check_self_large
  self-chain =
      let e = Each.epsilon epsilon in
      let c0 : List Checked = e ∷ shape path 0 ∷ [] in
      let c1 = large_path_checks path closed 0 in
      let two : shaped ≡ first_fault c0 = simp (later-assoc, fine-right) in
      ap (λ (t : Checked). later t (first_fault c1)) two ∙ sym (first-append c0 c1)

  pub record SelfFine : Type 0 where
    pub eps : Each.epsilon epsilon ≡ Ok tt
    pub shape-fine : shape path 0 ≡ Ok tt
    pub path-fine : LargePathFine path closed

  pub self-fine : check_self_large path closed epsilon ≡ Ok tt → SelfFine
  self-fine e =
      let whole = (path-fine shaped path closed 0).0 (self-chain ∙ e) in
      let one = (later-fine (Each.epsilon epsilon) (shape path 0)).0 whole.0 in
      record { eps = one.0; shape-fine = one.1; path-fine = whole.1 }

  module _ (a : List Float) (words : List ℕ) (n : ℕ) (a-is : a ≡ cut_path path closed) (words_are : words ≡ name_words path closed)
      (n-is : n ≡ cut_count path closed) (e : check_self_large path closed epsilon ≡ Ok tt) (i₀ i : List ℕ) (p₀ p : List Float) where
    abbrev own-plain : Job
    own-plain = self_job (cut_count path closed) closed false epsilon

    abbrev own-boxed : Job
    own-boxed = self_job (cut_count path closed) closed true epsilon

    pub self-listed : (r : ListingAnswer) (j : Job) → j ≡ self_job n closed false epsilon
        → Leaves (large_listed (five_of words words) (look_by a a j) (every j) i₀ p₀) r i p
        → Leaves (self_large path closed epsilon i₀ p₀) r i p
    unfolding self_large check_self_large look_on self_look_of
    self-listed r j is h =
        let g : Leaves (large_listed own-five own-looks own i₀ p₀) r i p =
        rw (is, n-is, words_are, a-is, self-every own-plain refl refl, five-named path closed path closed) at h in
        rw (listing-fine own-five its own-looks own i₀ p₀ e) g

    pub self-paged : (r : PageAnswer) (position budget : ℕ) (j : Job) → j ≡ self_job n closed false epsilon
        → Leaves (large_paged (five_of words words) (look_by a a j) (every j) position budget i₀ p₀) r i p
        → Leaves (self_page_large path closed epsilon position budget i₀ p₀) r i p
    unfolding self_page_large check_self_large look_on self_look_of
    self-paged r position budget j is h =
        let g : Leaves (large_paged own-five own-looks own position budget i₀ p₀) r i p =
        rw (is, n-is, words_are, a-is, self-every own-plain refl refl, five-named path closed path closed) at h in
        rw (page-fine own-five its own-looks own i₀ p₀ e position budget) g

    pub self-boxed : (r : ListingAnswer) (b₀ b₁ : List Float) (j : Job) → j ≡ self_job n closed true epsilon
        → LeavesBoxed (large_boxed (five_of words words) (look_by a a j) (every j) (index_for a a j) b₀ i₀ p₀) r b₁ i p
        → LeavesBoxed (self_boxed_large path closed epsilon b₀ i₀ p₀) r b₁ i p
    unfolding self_boxed_large check_self_large look_on self_look_of
    self-boxed r b₀ b₁ j is h =
        let x = cut_path path closed in
        let idx = index x epsilon (cut_count path closed) in
        let k : LeavesBoxed (large_boxed own-five (boxed_look x x epsilon own-looks) own (idx ++ []) b₀ i₀ p₀) r b₁ i p =
        rw (is, n-is, words_are, a-is, self-every own-boxed refl refl, five-named path closed path closed) at h in
        let g : LeavesBoxed (large_boxed own-five (boxed_look x x epsilon own-looks) own idx b₀ i₀ p₀) r b₁ i p =
        rw (append-nil idx) at k in
        rw (boxed-fine own-five its own-looks (boxed_pairs x x epsilon own) i₀ p₀ e idx b₀)
        (rw (left_out own-five x x epsilon own-looks own idx b₀ i₀ p₀) at g)

  module _ (x : Fault) (i₀ : List ℕ) (p₀ : List Float) (e : check_self_large path closed epsilon ≡ Err x) where
    pub self-refused : Leaves (self_large path closed epsilon i₀ p₀) (Err x) i₀ p₀
    unfolding self_large check_self_large
    self-refused = listing-bad own-five its own-looks own i₀ p₀ x e

    pub self-page-refused : (position budget : ℕ)
        → Leaves (self_page_large path closed epsilon position budget i₀ p₀) (Err x) i₀ p₀
    unfolding self_page_large check_self_large
    self-page-refused position budget = page-bad own-five its own-looks own i₀ p₀ x e position budget

    pub self-boxed-refused : (b₀ : List Float)
        → LeavesBoxed (self_boxed_large path closed epsilon b₀ i₀ p₀) (Err x) b₀ i₀ p₀
    unfolding self_boxed_large check_self_large
    self-boxed-refused b₀ =
        boxed-bad own-five its own-looks (boxed_pairs (cut_path path closed) (cut_path path closed) epsilon own) i₀ p₀ x e
        (index (cut_path path closed) epsilon (cut_count path closed)) b₀

pub one-path : (path : List Float) (n : ℕ) (closed boxed : Bool) (epsilon : Float) (j : Job) → j ≡ self_job n closed boxed epsilon
    → OwnPath path path j
one-path path n closed by_boxes epsilon j is owns = (refl, ap (λ (k : Job). k.n) is ∙ sym (ap (λ (k : Job). k.m) is))

pub self-plain : (n : ℕ) (closed : Bool) (epsilon : Float) (j : Job) → j ≡ self_job n closed false epsilon → j.boxed ≡ false
self-plain n closed epsilon j is = ap (λ (k : Job). k.boxed) is
