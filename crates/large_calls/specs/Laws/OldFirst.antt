-- The old mode is asked first. What it answers, in rows of five with halves 0, is the answer of the mode of large arcs, unless it
-- is refusal 3.
use Rattle.checks.specs.Checked.{Checked}
use Rattle.std.specs.Prelude.{◌≡◌, refl, Bool, true, false, List, [], ◌∷◌, ◌++◌, ℕ, Float, length, drop, Err, Ok}
use Rattle.std.proofs.Common.{sym, ap, ◌∙◌, subst}
use Rattle.checks.specs.declared.fault.Fault.{Fault}
use Rattle.checks.specs.First.{first as first_fault}
use Rattle.paths.specs.Segments.{segment_count}
use Rattle.boxes.specs.Index.{index}
use Rattle.listing_pairs.specs.declared.row.Row.{Row}
use Rattle.listing_pairs.specs.Order.{mutual_pairs, self_pairs}
use Rattle.listing_pairs.specs.Rows.{rows_of, looked_at}
use Rattle.listing_pairs.specs.Look.{traced_look, traced_self_look}
use Rattle.listing_pairs.specs.Boxed.{boxed_pairs}
use Rattle.listing_pairs.specs.Page.{page}
use Rattle.listing_outcomes.specs.Answer.{ListingAnswer, PageAnswer}
use Rattle.listing_outcomes.specs.Outcome.{Outcome, Leaves}
use Rattle.listing_outcomes.specs.BoxedOutcome.{BoxedOutcome, LeavesBoxed, index_check}
use Rattle.listing_calls.specs.Listing.{mutual_checks, self_checks}
use Rattle.listing_calls.specs.Laws.Entry.{after-bad}
use Rattle.large_outcomes.specs.LargeRow.{with_zeros}
use Rattle.large_outcomes.specs.LargeOutcome.{
  large_of,
  large_room_check,
  large_outcome,
  large_limits,
  large_page_outcome,
  large_boxed_of,
  large_boxed_outcome,
}
use Rattle.large_listings.specs.LargeListings.{
  mutual_large_checks,
  check_mutual_large,
  mutual_large,
  mutual_page_large,
  mutual_boxed_large,
  self_large_checks,
  check_self_large,
  self_large,
  self_page_large,
  self_boxed_large,
}
use Rattle.large_listings.specs.NoLarge.{
  mutual-plain,
  mutual-page-plain,
  mutual-boxed-plain,
  self-plain,
  self-page-plain,
  self-boxed-plain,
}
use Rattle.large_listings.specs.Laws.LargeEntry.{
  mutual-refused,
  mutual-page-refused,
  mutual-boxed-refused,
  self-refused,
  self-page-refused,
  self-boxed-refused,
}
use Rattle.large_calls.specs.Workings.Answers.{of_bulge, listed_bulge, paged_bulge}
use Rattle.large_calls.specs.Laws.Answered.{Kept}
use Rattle.large_calls.specs.Laws.Agree.{AgreeAll, over_bulge, agree-mutual, plain-mutual, agree-self, plain-self}

-- ---- any call: its checks in both modes, and its outcome in the mode of large arcs
module _ {A : Type 0} (refused : Fault → A) (checks larges more : List Checked) (agree : AgreeAll checks larges) (answer : A)
    (rows : List Row) (i₀ : List ℕ) (p₀ : List Float) (r : A) (i : List ℕ) (p : List Float)
    (other : (x : Fault) → r ≡ refused x → of_bulge x ≡ false) where
  abbrev zeros : Outcome A
  zeros = large_of with_zeros refused (first_fault (checks ++ more)) answer rows i₀ p₀

  old-first : (whole : Outcome A) → (first_fault checks ≡ Ok tt → whole ≡ zeros)
      → ((x : Fault) → first_fault larges ≡ Err x → Leaves whole (refused x) i₀ p₀)
      → Leaves (large_of with_zeros refused (first_fault (checks ++ more)) answer rows i₀ p₀) r i p → Leaves whole r i p
  old-first whole plain bad l = go (first_fault checks) refl
    where
      go : (c : Checked) → first_fault checks ≡ c → Leaves whole r i p
      go (Ok _) e = subst (λ (o : Outcome A). Leaves o r i p) (sym (plain e)) l
      go (Err x) e =
          let left : Leaves (large_of with_zeros refused (Err x) answer rows i₀ p₀) r i p = rw (after-bad checks more x e) at l in
          let same = agree (ap over_bulge e ∙ other x left.answer) ∙ e in
          let b = bad x same in
          record {
            answer = left.answer ∙ b.answer;
            indices = left.indices ∙ b.indices;
            points = left.points ∙ b.points;
          }

boxed-first : (checks larges more : List Checked) → AgreeAll checks larges → (rows : List Row) (k : ℕ) (idx x₀ : List Float)
    (i₀ : List ℕ) (p₀ : List Float) (r : ListingAnswer) (x : List Float) (i : List ℕ) (p : List Float)
    → ((f : Fault) → r ≡ Err f → of_bulge f ≡ false) → (whole : BoxedOutcome)
    → (first_fault checks ≡ Ok tt → whole ≡ large_boxed_of with_zeros (first_fault (checks ++ more)) rows k idx x₀ i₀ p₀)
    → ((f : Fault) → first_fault larges ≡ Err f → LeavesBoxed whole (Err f) x₀ i₀ p₀)
    → LeavesBoxed (large_boxed_of with_zeros (first_fault (checks ++ more)) rows k idx x₀ i₀ p₀) r x i p → LeavesBoxed whole r x i p
boxed-first checks larges more agree rows k idx x₀ i₀ p₀ r x i p other whole plain bad l = go (first_fault checks) refl
  where
    go : (c : Checked) → first_fault checks ≡ c → LeavesBoxed whole r x i p
    go (Ok _) e = subst (λ (o : BoxedOutcome). LeavesBoxed o r x i p) (sym (plain e)) l
    go (Err f) e =
        let left : LeavesBoxed (large_boxed_of with_zeros (Err f) rows k idx x₀ i₀ p₀) r x i p =
        rw (after-bad checks more f e) at l in
        let same = agree (ap over_bulge e ∙ other f left.listing.answer) ∙ e in
        let b = bad f same in
        record {
          listing =
              record {
                answer = left.listing.answer ∙ b.listing.answer;
                indices = left.listing.indices ∙ b.listing.indices;
                points = left.listing.points ∙ b.listing.points;
              };
          boxes = left.boxes ∙ b.boxes;
        }

listed-other : (r : ListingAnswer) → listed_bulge r ≡ false → (x : Fault) → r ≡ Err x → of_bulge x ≡ false
listed-other r b x e = sym (ap listed_bulge e) ∙ b

paged-other : (r : PageAnswer) → paged_bulge r ≡ false → (x : Fault) → r ≡ Err x → of_bulge x ≡ false
paged-other r b x e = sym (ap paged_bulge e) ∙ b

-- ---- the slices are as they were, and the paths are cut
pub then-cut : {A : Type 0} (of : List ℕ → List Float → Outcome A) (i₀ i₁ : List ℕ) (p₀ p₁ : List Float)
    → Kept i₀ i₁ p₀ p₁ → (r : A) (i : List ℕ) (p : List Float) → Leaves (of i₁ p₁) r i p → Leaves (of i₀ p₀) r i p
then-cut of i₀ i₁ p₀ p₁ k r i p l = rw (k.indices, k.points) at l

pub then-boxed-cut : (of : List Float → List ℕ → List Float → BoxedOutcome) (x₀ x₁ : List Float) (i₀ i₁ : List ℕ)
    (p₀ p₁ : List Float) → Kept i₀ i₁ p₀ p₁ × (x₁ ≡ x₀) → (r : ListingAnswer) (x : List Float) (i : List ℕ) (p : List Float)
    → LeavesBoxed (of x₁ i₁ p₁) r x i p → LeavesBoxed (of x₀ i₀ p₀) r x i p
then-boxed-cut of x₀ x₁ i₀ i₁ p₀ p₁ k r x i p l = rw (k.0.indices, k.0.points, k.1) at l

-- ---- two paths
module _ (first : List Float) (first_closed : Bool) (second : List Float) (second_closed : Bool) (epsilon : Float)
    (i₀ : List ℕ) (p₀ : List Float) (i : List ℕ) (p : List Float) where
  abbrev olds : List Checked
  olds = mutual_checks first first_closed second second_closed epsilon

  abbrev larges : List Checked
  larges = mutual_large_checks first first_closed second second_closed epsilon

  pub mutual-first : (r : ListingAnswer) → listed_bulge r ≡ false
      → Leaves (large_outcome with_zeros (mutual_checks first first_closed second second_closed epsilon)
      (traced_look first second epsilon)
      (mutual_pairs (segment_count first first_closed) (segment_count second second_closed)) i₀ p₀) r i p
      → Leaves (mutual_large first first_closed second second_closed epsilon i₀ p₀) r i p
  unfolding large_outcome check_mutual_large
  mutual-first r b l =
      old-first Err olds larges _ (agree-mutual first first_closed second second_closed epsilon) _ _ i₀ p₀ r i p
      (listed-other r b) (mutual_large first first_closed second second_closed epsilon i₀ p₀)
      (λ e. let both = plain-mutual first first_closed second second_closed epsilon e in
      mutual-plain first first_closed second second_closed epsilon both.0 both.1 i₀ p₀)
      (λ x e. mutual-refused first first_closed second second_closed epsilon x i₀ p₀ e) l

  pub mutual-page-first : (position budget : ℕ) (r : PageAnswer) → paged_bulge r ≡ false
      → Leaves (large_page_outcome with_zeros (mutual_checks first first_closed second second_closed epsilon)
      (traced_look first second epsilon)
      (mutual_pairs (segment_count first first_closed) (segment_count second second_closed)) position budget i₀ p₀) r i p
      → Leaves (mutual_page_large first first_closed second second_closed epsilon position budget i₀ p₀) r i p
  unfolding large_page_outcome check_mutual_large
  mutual-page-first position budget r b l =
      old-first Err olds larges _ (agree-mutual first first_closed second second_closed epsilon) _ _ i₀ p₀ r i p
      (paged-other r b) (mutual_page_large first first_closed second second_closed epsilon position budget i₀ p₀)
      (λ e. let both = plain-mutual first first_closed second second_closed epsilon e in
      mutual-page-plain first first_closed second second_closed epsilon both.0 both.1 i₀ p₀ position budget)
      (λ x e. mutual-page-refused first first_closed second second_closed epsilon x i₀ p₀ e position budget) l

  pub mutual-boxed-first : (x₀ x : List Float) (r : ListingAnswer) → listed_bulge r ≡ false
      → LeavesBoxed (large_boxed_outcome with_zeros (mutual_checks first first_closed second second_closed epsilon)
      (traced_look first second epsilon)
      (boxed_pairs first second epsilon (mutual_pairs (segment_count first first_closed) (segment_count second second_closed)))
      (index first epsilon (segment_count first first_closed) ++ index second epsilon (segment_count second second_closed))
      x₀ i₀ p₀) r x i p
      → LeavesBoxed (mutual_boxed_large first first_closed second second_closed epsilon x₀ i₀ p₀) r x i p
  unfolding large_boxed_outcome check_mutual_large
  mutual-boxed-first x₀ x r b l =
      let n = segment_count first first_closed in
      let m = segment_count second second_closed in
      let look = traced_look first second epsilon in
      let ps = boxed_pairs first second epsilon (mutual_pairs n m) in
      let idx = index first epsilon n ++ index second epsilon m in
      boxed-first olds larges (index_check idx x₀ ∷ large_room_check (rows_of look ps) i₀ p₀ ∷ [])
      (agree-mutual first first_closed second second_closed epsilon) (rows_of look ps) (looked_at look ps) idx x₀ i₀ p₀ r x i p
      (listed-other r b) (mutual_boxed_large first first_closed second second_closed epsilon x₀ i₀ p₀)
      (λ e. let both = plain-mutual first first_closed second second_closed epsilon e in
      mutual-boxed-plain first first_closed second second_closed epsilon both.0 both.1 i₀ p₀ x₀)
      (λ f e. mutual-boxed-refused first first_closed second second_closed epsilon f i₀ p₀ e x₀) l

-- ---- one path
module _ (path : List Float) (closed : Bool) (epsilon : Float) (i₀ : List ℕ) (p₀ : List Float) (i : List ℕ) (p : List Float) where
  abbrev own-olds : List Checked
  own-olds = self_checks path closed epsilon

  abbrev own-larges : List Checked
  own-larges = self_large_checks path closed epsilon

  pub self-first : (r : ListingAnswer) → listed_bulge r ≡ false
      → Leaves (large_outcome with_zeros (self_checks path closed epsilon) (traced_self_look path closed epsilon)
      (self_pairs (segment_count path closed)) i₀ p₀) r i p
      → Leaves (self_large path closed epsilon i₀ p₀) r i p
  unfolding large_outcome check_self_large
  self-first r b l =
      old-first Err own-olds own-larges _ (agree-self path closed epsilon) _ _ i₀ p₀ r i p (listed-other r b)
      (self_large path closed epsilon i₀ p₀)
      (λ e. self-plain path closed epsilon (plain-self path closed epsilon e) i₀ p₀)
      (λ x e. self-refused path closed epsilon x i₀ p₀ e) l

  pub self-page-first : (position budget : ℕ) (r : PageAnswer) → paged_bulge r ≡ false
      → Leaves (large_page_outcome with_zeros (self_checks path closed epsilon) (traced_self_look path closed epsilon)
      (self_pairs (segment_count path closed)) position budget i₀ p₀) r i p
      → Leaves (self_page_large path closed epsilon position budget i₀ p₀) r i p
  unfolding large_page_outcome check_self_large
  self-page-first position budget r b l =
      old-first Err own-olds own-larges _ (agree-self path closed epsilon) _ _ i₀ p₀ r i p (paged-other r b)
      (self_page_large path closed epsilon position budget i₀ p₀)
      (λ e. self-page-plain path closed epsilon (plain-self path closed epsilon e) i₀ p₀ position budget)
      (λ x e. self-page-refused path closed epsilon x i₀ p₀ e position budget) l

  pub self-boxed-first : (x₀ x : List Float) (r : ListingAnswer) → listed_bulge r ≡ false
      → LeavesBoxed (large_boxed_outcome with_zeros (self_checks path closed epsilon) (traced_self_look path closed epsilon)
      (boxed_pairs path path epsilon (self_pairs (segment_count path closed)))
      (index path epsilon (segment_count path closed)) x₀ i₀ p₀) r x i p
      → LeavesBoxed (self_boxed_large path closed epsilon x₀ i₀ p₀) r x i p
  unfolding large_boxed_outcome check_self_large
  self-boxed-first x₀ x r b l =
      let look = traced_self_look path closed epsilon in
      let ps = boxed_pairs path path epsilon (self_pairs (segment_count path closed)) in
      let idx = index path epsilon (segment_count path closed) in
      boxed-first own-olds own-larges (index_check idx x₀ ∷ large_room_check (rows_of look ps) i₀ p₀ ∷ [])
      (agree-self path closed epsilon) (rows_of look ps) (looked_at look ps) idx x₀ i₀ p₀ r x i p (listed-other r b)
      (self_boxed_large path closed epsilon x₀ i₀ p₀)
      (λ e. self-boxed-plain path closed epsilon (plain-self path closed epsilon e) i₀ p₀ x₀)
      (λ f e. self-boxed-refused path closed epsilon f i₀ p₀ e x₀) l
