-- From the checks of a listing or a page to its outcome: the chain of calls is the list of checks; if they are fine, every pair
-- of the job is fine for the pair call; and the outcome is that of checked paths, or the refusal of the first fault.
use Rattle.checks.specs.Checked.{Checked}
use Rattle.std.specs.Prelude.{◌≡◌, Bool, false, ℕ, ◌≤◌, Float, length, Err, Ok}
use Rattle.std.proofs.Math.Path.{refl, sym, ap}
use Rattle.std.proofs.Common.{◌∙◌}
use mathlib.Core.List.{List, [], ◌∷◌, ◌++◌}
use Rattle.checks.specs.declared.fault.Fault.{Fault}
use Rattle.checks.specs.Fault.{at, later}
use Rattle.checks.specs.Each
use Rattle.checks.specs.First.{first as first_fault}
use Rattle.checks.specs.Laws.Chains.{first-append}
use Rattle.checks.specs.Laws.Later.{fine-left, fine-right, later-assoc, later-fine}
use Rattle.paths.specs.Shape.{shape}
use Rattle.paths.specs.Segments.{segment_count}
use Rattle.paths.specs.Check.{path_checks, check_path}
use Rattle.paths.specs.Path.{most_vertices}
use Rattle.paths.specs.Laws.Segments.{few-segments}
use Rattle.paths.specs.Laws.Fine.{PathFine, path-fine}
use Rattle.listing_pairs.specs.declared.row.Row.{Row}
use Rattle.listing_pairs.specs.declared.row.Look.{Look}
use Rattle.listing_pairs.specs.declared.order.Job.{Job}
use Rattle.listing_pairs.specs.Order.{Pair, mutual_pairs, self_pairs}
use Rattle.listing_pairs.specs.Rows.{rows_of, looked_at}
use Rattle.listing_pairs.specs.Look.{look, self_look_of, traced_look, traced_self_look}
use Rattle.listing_pairs.specs.Workings.Job.{every}
use Rattle.listing_pairs.specs.Laws.Sequence.{mutual-every, self-every}
use Rattle.listing_pairs.specs.Workings.Ready.{look_on, look_by, Ready, paths-ready}
use Rattle.listing_outcomes.specs.Answer.{Listed, ListingAnswer, PageAnswer}
use Rattle.listing_outcomes.specs.Outcome.{Leaves, room_check, outcome_of, listed_of, outcome}
use Rattle.listing_outcomes.specs.PageOutcome.{limits, page_outcome}
use Rattle.listing_outcomes.specs.Workings.Outcome.{listed}
use Rattle.listing_outcomes.specs.Workings.PageOutcome.{paged}
use Rattle.listing_calls.specs.Pages.{mutual_page, self_page}
use Rattle.listing_calls.specs.Workings.Jobs.{mutual_job, self_job}
use Rattle.listing_calls.specs.Listing.{mutual_checks, check_mutual, mutual_listing, self_checks, check_self, self_listing}

-- ---- any call: its checks, then the last ones
pub after-fine : (checks more : List Checked) → first_fault checks ≡ Ok tt → first_fault (checks ++ more) ≡ first_fault more
after-fine checks more e =
    first-append checks more ∙ ap (λ (t : Checked). later t (first_fault more)) e ∙ fine-left (first_fault more)

pub after-bad : (checks more : List Checked) (x : Fault) → first_fault checks ≡ Err x → first_fault (checks ++ more) ≡ Err x
unfolding later
after-bad checks more x e = first-append checks more ∙ ap (λ (t : Checked). later t (first_fault more)) e

module _ {A : Type 0} (refused : Fault → A) (checks more : List Checked) (answer : A) (rows : List Row)
    (i₀ : List ℕ) (p₀ : List Float) where
  outcome-fine : first_fault checks ≡ Ok tt
      → outcome_of refused (first_fault (checks ++ more)) answer rows i₀ p₀
      ≡ outcome_of refused (first_fault more) answer rows i₀ p₀
  outcome-fine e = ap (λ (t : Checked). outcome_of refused t answer rows i₀ p₀) (after-fine checks more e)

  outcome-bad : (x : Fault) → first_fault checks ≡ Err x
      → Leaves (outcome_of refused (first_fault (checks ++ more)) answer rows i₀ p₀) (refused x) i₀ p₀
  outcome-bad x e = rw (after-bad checks more x e) (record { answer = refl; indices = refl; points = refl })

-- a listing: if the checks are fine, it is that of checked paths
listing-fine : (checks : List Checked) (f : ℕ → ℕ → Look) (ps : List Pair) (i₀ : List ℕ) (p₀ : List Float)
    → first_fault checks ≡ Ok tt → outcome checks f ps i₀ p₀ ≡ listed f ps i₀ p₀
unfolding outcome
listing-fine checks f ps i₀ p₀ e =
    let c = room_check (rows_of f ps) i₀ p₀ in
    outcome-fine Err checks (c ∷ []) (Listed (length (rows_of f ps)) (looked_at f ps)) (rows_of f ps) i₀ p₀ e
    ∙ ap (λ (t : Checked). listed_of t (rows_of f ps) (looked_at f ps) i₀ p₀) (fine-right c)

-- so is a page
page-fine : (checks : List Checked) (f : ℕ → ℕ → Look) (ps : List Pair) (position budget : ℕ) (i₀ : List ℕ) (p₀ : List Float)
    → first_fault checks ≡ Ok tt → page_outcome checks f ps position budget i₀ p₀ ≡ paged f ps position budget i₀ p₀
unfolding page_outcome
page-fine checks f ps position budget i₀ p₀ e =
    outcome-fine Err checks (limits position (length ps) budget i₀ p₀) _ _ i₀ p₀ e

-- ---- two paths
module _ (first : List Float) (first_closed : Bool) (second : List Float) (second_closed : Bool) (epsilon : Float) where
  abbrev shapes : Checked
  shapes = later (later (Each.epsilon epsilon) (shape first 0)) (shape second 1)

  abbrev these : List Checked
  these = mutual_checks first first_closed second second_closed epsilon

  abbrev pub job : Bool → Job
  job boxed = mutual_job first first_closed second second_closed boxed epsilon

  abbrev f : ℕ → ℕ → Look
  f = traced_look first second epsilon

  abbrev between : List Pair
  between = mutual_pairs (segment_count first first_closed) (segment_count second second_closed)

  pub mutual-few : {boxed : Bool} (j : Job) → j ≡ job boxed → j.m ≤ most_vertices
  mutual-few {boxed} j is = rw is (few-segments second second_closed)

  pub mutual-chain : check_path (check_path shapes first first_closed 0) second second_closed 1
      ≡ check_mutual first first_closed second second_closed epsilon
  unfolding check_path check_mutual
  mutual-chain =
      let e = Each.epsilon epsilon in
      let c0 : List Checked = e ∷ shape first 0 ∷ shape second 1 ∷ [] in
      let c1 = path_checks first first_closed 0 in
      let c2 = path_checks second second_closed 1 in
      let three : shapes ≡ first_fault c0 = simp (later-assoc, fine-right) in
      ap (λ (t : Checked). later (later t (first_fault c1)) (first_fault c2)) three
      ∙ ap (λ (t : Checked). later t (first_fault c2)) (sym (first-append c0 c1))
      ∙ sym (first-append (c0 ++ c1) c2)

  module _ (e : check_mutual first first_closed second second_closed epsilon ≡ Ok tt) where
    outer : (check_path shapes first first_closed 0 ≡ Ok tt) × PathFine second second_closed
    outer = (path-fine (check_path shapes first first_closed 0) second second_closed 1).0 (mutual-chain ∙ e)

    inner : (shapes ≡ Ok tt) × PathFine first first_closed
    inner = (path-fine shapes first first_closed 0).0 outer.0

    eps : Each.epsilon epsilon ≡ Ok tt
    eps =
        let a = Each.epsilon epsilon in
        ((later-fine a (shape first 0)).0 ((later-fine (later a (shape first 0)) (shape second 1)).0 inner.0).0).0

    pub mutual-ready : {boxed : Bool} (j : Job) → j ≡ job boxed → Ready first second j
    mutual-ready {boxed} j is =
        rw is (paths-ready first second first_closed second_closed (job boxed) eps inner.1 outer.1 refl refl)

    pub mutual-plain : (j : Job) → j ≡ job false → (j.boxed ≡ false) × (j.m ≤ most_vertices)
    mutual-plain j is = (ap (λ (k : Job). k.boxed) is, mutual-few j is)

    module _ (j : Job) (is : j ≡ job false) (i₀ i : List ℕ) (p₀ p : List Float) where
      pub mutual-listed : (r : ListingAnswer) → Leaves (listed (look_by first second j) (every j) i₀ p₀) r i p
          → Leaves (mutual_listing first first_closed second second_closed epsilon i₀ p₀) r i p
      unfolding mutual_listing check_mutual look_on look
      mutual-listed r h =
          let g : Leaves (listed f between i₀ p₀) r i p = rw (is, mutual-every (job false) refl) at h in
          rw (listing-fine these f between i₀ p₀ e) g

      pub mutual-paged : (r : PageAnswer) (position budget : ℕ)
          → Leaves (paged (look_by first second j) (every j) position budget i₀ p₀) r i p
          → Leaves (mutual_page first first_closed second second_closed epsilon position budget i₀ p₀) r i p
      unfolding mutual_page check_mutual look_on look
      mutual-paged r position budget h =
          let g : Leaves (paged f between position budget i₀ p₀) r i p = rw (is, mutual-every (job false) refl) at h in
          rw (page-fine these f between position budget i₀ p₀ e) g

  module _ (x : Fault) (i₀ : List ℕ) (p₀ : List Float)
      (e : check_mutual first first_closed second second_closed epsilon ≡ Err x) where
    pub mutual-refused : Leaves (mutual_listing first first_closed second second_closed epsilon i₀ p₀) (Err x) i₀ p₀
    unfolding mutual_listing outcome check_mutual
    mutual-refused = outcome-bad Err these _ _ _ i₀ p₀ x e

    pub mutual-page-refused : (position budget : ℕ)
        → Leaves (mutual_page first first_closed second second_closed epsilon position budget i₀ p₀)
        (Err x) i₀ p₀
    unfolding mutual_page page_outcome check_mutual
    mutual-page-refused position budget = outcome-bad Err these _ _ _ i₀ p₀ x e

-- ---- one path
module _ (path : List Float) (closed : Bool) (epsilon : Float) where
  abbrev shaped : Checked
  shaped = later (Each.epsilon epsilon) (shape path 0)

  abbrev its : List Checked
  its = self_checks path closed epsilon

  abbrev pub own-job : Bool → Job
  own-job boxed = self_job path closed boxed epsilon

  abbrev g : ℕ → ℕ → Look
  g = traced_self_look path closed epsilon

  abbrev own : List Pair
  own = self_pairs (segment_count path closed)

  pub self-few : {boxed : Bool} (j : Job) → j ≡ own-job boxed → j.m ≤ most_vertices
  self-few {boxed} j is = rw is (few-segments path closed)

  pub self-chain : check_path shaped path closed 0 ≡ check_self path closed epsilon
  unfolding check_path check_self
  self-chain =
      let e = Each.epsilon epsilon in
      let c0 : List Checked = e ∷ shape path 0 ∷ [] in
      let c1 = path_checks path closed 0 in
      let two : shaped ≡ first_fault c0 = simp (later-assoc, fine-right) in
      ap (λ (t : Checked). later t (first_fault c1)) two ∙ sym (first-append c0 c1)

  module _ (e : check_self path closed epsilon ≡ Ok tt) where
    whole : (shaped ≡ Ok tt) × PathFine path closed
    whole = (path-fine shaped path closed 0).0 (self-chain ∙ e)

    self-eps : Each.epsilon epsilon ≡ Ok tt
    self-eps = ((later-fine (Each.epsilon epsilon) (shape path 0)).0 whole.0).0

    pub self-ready : {boxed : Bool} (j : Job) → j ≡ own-job boxed → Ready path path j
    self-ready {boxed} j is =
        rw is (paths-ready path path closed closed (own-job boxed) self-eps whole.1 whole.1 refl refl)

    pub self-plain : (j : Job) → j ≡ own-job false → (j.boxed ≡ false) × (j.m ≤ most_vertices)
    self-plain j is = (ap (λ (k : Job). k.boxed) is, self-few j is)

    module _ (j : Job) (is : j ≡ own-job false) (i₀ i : List ℕ) (p₀ p : List Float) where
      pub self-listed : (r : ListingAnswer) → Leaves (listed (look_by path path j) (every j) i₀ p₀) r i p
          → Leaves (self_listing path closed epsilon i₀ p₀) r i p
      unfolding self_listing check_self look_on self_look_of
      self-listed r h =
          let k : Leaves (listed g own i₀ p₀) r i p = rw (is, self-every (own-job false) refl refl) at h in
          rw (listing-fine its g own i₀ p₀ e) k

      pub self-paged : (r : PageAnswer) (position budget : ℕ)
          → Leaves (paged (look_by path path j) (every j) position budget i₀ p₀) r i p
          → Leaves (self_page path closed epsilon position budget i₀ p₀) r i p
      unfolding self_page check_self look_on self_look_of
      self-paged r position budget h =
          let k : Leaves (paged g own position budget i₀ p₀) r i p = rw (is, self-every (own-job false) refl refl) at h in
          rw (page-fine its g own position budget i₀ p₀ e) k

  module _ (x : Fault) (i₀ : List ℕ) (p₀ : List Float) (e : check_self path closed epsilon ≡ Err x) where
    pub self-refused : Leaves (self_listing path closed epsilon i₀ p₀) (Err x) i₀ p₀
    unfolding self_listing outcome check_self
    self-refused = outcome-bad Err its _ _ _ i₀ p₀ x e

    pub self-page-refused : (position budget : ℕ)
        → Leaves (self_page path closed epsilon position budget i₀ p₀) (Err x) i₀ p₀
    unfolding self_page page_outcome check_self
    self-page-refused position budget = outcome-bad Err its _ _ _ i₀ p₀ x e
