-- From the checks of a boxed listing to its outcome: that of checked paths, or the refusal of the first fault. To skip pairs is
-- to leave them out.
use Rattle.checks.specs.Checked.{Checked}
use Rattle.std.specs.Prelude.{◌≡◌, Bool, true, List, [], ◌∷◌, ◌++◌, ℕ, Float, Err, Ok}
use Rattle.std.proofs.Math.Path.{refl, ap}
use Rattle.std.proofs.Common.{sym, ◌∙◌, true≢false, append-nil}
use Rattle.checks.specs.declared.fault.Fault.{Fault}
use Rattle.checks.specs.First.{first as first_fault}
use Rattle.paths.specs.Segments.{segment_count}
use Rattle.boxes.specs.Index.{index}
use Rattle.listing_pairs.specs.declared.row.Row.{Row}
use Rattle.listing_pairs.specs.declared.row.Look.{Look}
use Rattle.listing_pairs.specs.declared.order.Job.{Job}
use Rattle.listing_pairs.specs.Order.{Pair, mutual_pairs, self_pairs}
use Rattle.listing_pairs.specs.Rows.{rows_of, looked_at}
use Rattle.listing_pairs.specs.Look.{look, self_look_of, traced_look, traced_self_look}
use Rattle.listing_pairs.specs.Boxed.{boxed_pairs}
use Rattle.listing_pairs.specs.Workings.Job.{every}
use Rattle.listing_pairs.specs.Workings.Ready.{look_on, boxed_look, look_by}
use Rattle.listing_pairs.specs.Laws.Sequence.{mutual-every, self-every}
use Rattle.listing_pairs.specs.Laws.Skipped.{boxed-rows, boxed-looked}
use Rattle.listing_outcomes.specs.Answer.{ListingAnswer}
use Rattle.listing_outcomes.specs.Outcome.{room_check}
use Rattle.listing_outcomes.specs.BoxedOutcome.{BoxedOutcome, LeavesBoxed, index_check, boxed_of, boxed_outcome}
use Rattle.listing_outcomes.specs.Workings.BoxedOutcome.{boxed, index_for, OwnPath}
use Rattle.listing_calls.specs.Listing.{mutual_checks, check_mutual, self_checks, check_self}
use Rattle.listing_calls.specs.Boxed.{mutual_boxed, self_boxed}
use Rattle.listing_calls.specs.Workings.Jobs.{mutual_job, self_job}
use Rattle.listing_calls.specs.Laws.Entry.{after-fine, after-bad, job, own-job}

-- ---- any boxed listing
module _ (checks : List Checked) (f : ℕ → ℕ → Look) (ps : List Pair) (idx b₀ : List Float) (i₀ : List ℕ) (p₀ : List Float) where
  abbrev more : List Checked
  more = index_check idx b₀ ∷ room_check (rows_of f ps) i₀ p₀ ∷ []

  boxed-fine : first_fault checks ≡ Ok tt → boxed_outcome checks f ps idx b₀ i₀ p₀ ≡ boxed f ps idx b₀ i₀ p₀
  unfolding boxed_outcome
  boxed-fine e =
      ap (λ (t : Checked). boxed_of t (rows_of f ps) (looked_at f ps) idx b₀ i₀ p₀) (after-fine checks more e)

  boxed-bad : (x : Fault) → first_fault checks ≡ Err x
      → LeavesBoxed (boxed_outcome checks f ps idx b₀ i₀ p₀) (Err x) b₀ i₀ p₀
  unfolding boxed_outcome
  boxed-bad x e =
      rw (after-bad checks more x e)
      (record { listing = record { answer = refl; indices = refl; points = refl }; boxes = refl })

-- whether both are one path
pub two-paths : (first : List Float) (first_closed : Bool) (second : List Float) (second_closed boxed : Bool) (epsilon : Float)
    (j : Job) → j ≡ mutual_job first first_closed second second_closed boxed epsilon → OwnPath first second j
two-paths first first_closed second second_closed boxed epsilon j is own =
    absurd (true≢false (sym own ∙ ap (λ (k : Job). k.own) is))

pub one-path : (path : List Float) (closed boxed : Bool) (epsilon : Float) (j : Job) → j ≡ self_job path closed boxed epsilon
    → OwnPath path path j
one-path path closed boxed epsilon j is own = (refl, ap (λ (k : Job). k.n) is ∙ sym (ap (λ (k : Job). k.m) is))

-- the pairs are skipped, or left out
left_out : (first second : List Float) (epsilon : Float) (f : ℕ → ℕ → Look) (ps : List Pair)
    (idx b₀ : List Float) (i₀ : List ℕ) (p₀ : List Float)
    → boxed (boxed_look first second epsilon f) ps idx b₀ i₀ p₀ ≡ boxed f (boxed_pairs first second epsilon ps) idx b₀ i₀ p₀
left_out first second epsilon f ps idx b₀ i₀ p₀ =
    let of : List Row → ℕ → BoxedOutcome = λ rows looked.
    boxed_of (first_fault (index_check idx b₀ ∷ room_check rows i₀ p₀ ∷ [])) rows looked idx b₀ i₀ p₀ in
    ap (λ (rows : List Row). of rows (looked_at (boxed_look first second epsilon f) ps)) (boxed-rows first second epsilon f ps)
    ∙ ap (of (rows_of f (boxed_pairs first second epsilon ps))) (boxed-looked first second epsilon f ps)

-- ---- two paths
module _ (first : List Float) (first_closed : Bool) (second : List Float) (second_closed : Bool) (epsilon : Float)
    (b₀ : List Float) (i₀ : List ℕ) (p₀ : List Float) where
  abbrev these : List Checked
  these = mutual_checks first first_closed second second_closed epsilon

  abbrev between : List Pair
  between = mutual_pairs (segment_count first first_closed) (segment_count second second_closed)

  abbrev both : List Float
  both = index first epsilon (segment_count first first_closed) ++ index second epsilon (segment_count second second_closed)

  pub mutual-boxed : (b : List Float) (i : List ℕ) (p : List Float) (r : ListingAnswer)
      → check_mutual first first_closed second second_closed epsilon ≡ Ok tt
      → (j : Job) → j ≡ job first first_closed second second_closed epsilon true
      → LeavesBoxed (boxed (look_by first second j) (every j) (index_for first second j) b₀ i₀ p₀) r b i p
      → LeavesBoxed (mutual_boxed first first_closed second second_closed epsilon b₀ i₀ p₀) r b i p
  unfolding mutual_boxed check_mutual look_on look
  mutual-boxed b i p r e j is h =
      let g : LeavesBoxed (boxed (boxed_look first second epsilon (traced_look first second epsilon)) between both b₀ i₀ p₀) r b i p =
      rw (is, mutual-every (job first first_closed second second_closed epsilon true) refl) at h in
      rw (boxed-fine these (traced_look first second epsilon) (boxed_pairs first second epsilon between) both b₀ i₀ p₀ e)
      (rw (left_out first second epsilon (traced_look first second epsilon) between both b₀ i₀ p₀) at g)

  pub mutual-boxed-refused : (x : Fault) → check_mutual first first_closed second second_closed epsilon ≡ Err x
      → LeavesBoxed (mutual_boxed first first_closed second second_closed epsilon b₀ i₀ p₀) (Err x) b₀ i₀ p₀
  unfolding mutual_boxed check_mutual
  mutual-boxed-refused x e =
      boxed-bad these (traced_look first second epsilon) (boxed_pairs first second epsilon between) both b₀ i₀ p₀ x e

-- ---- one path
module _ (path : List Float) (closed : Bool) (epsilon : Float) (b₀ : List Float) (i₀ : List ℕ) (p₀ : List Float) where
  abbrev its : List Checked
  its = self_checks path closed epsilon

  abbrev own : List Pair
  own = self_pairs (segment_count path closed)

  abbrev one : List Float
  one = index path epsilon (segment_count path closed)

  pub self-boxed : (b : List Float) (i : List ℕ) (p : List Float) (r : ListingAnswer) → check_self path closed epsilon ≡ Ok tt
      → (j : Job) → j ≡ own-job path closed epsilon true
      → LeavesBoxed (boxed (look_by path path j) (every j) (index_for path path j) b₀ i₀ p₀) r b i p
      → LeavesBoxed (self_boxed path closed epsilon b₀ i₀ p₀) r b i p
  unfolding self_boxed check_self look_on self_look_of
  self-boxed b i p r e j is h =
      let k : LeavesBoxed (boxed (boxed_look path path epsilon (traced_self_look path closed epsilon)) own (one ++ []) b₀ i₀ p₀) r b i p =
      rw (is, self-every (own-job path closed epsilon true) refl refl) at h in
      let l : LeavesBoxed (boxed (boxed_look path path epsilon (traced_self_look path closed epsilon)) own one b₀ i₀ p₀) r b i p =
      rw (append-nil one) at k in
      rw (boxed-fine its (traced_self_look path closed epsilon) (boxed_pairs path path epsilon own) one b₀ i₀ p₀ e)
      (rw (left_out path path epsilon (traced_self_look path closed epsilon) own one b₀ i₀ p₀) at l)

  pub self-boxed-refused : (x : Fault) → check_self path closed epsilon ≡ Err x
      → LeavesBoxed (self_boxed path closed epsilon b₀ i₀ p₀) (Err x) b₀ i₀ p₀
  unfolding self_boxed check_self
  self-boxed-refused x e =
      boxed-bad its (traced_self_look path closed epsilon) (boxed_pairs path path epsilon own) one b₀ i₀ p₀ x e
