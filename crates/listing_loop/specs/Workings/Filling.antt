-- What it leaves to fill rows from a pair on, as a page; and the loop that does so, step by step. Its invariant: the remaining
-- page, added to what the slices hold now, gives what the whole page gives.
use Rattle.std.specs.Prelude.{◌≡◌, refl, Bool, cond, ℕ, zero, suc, ◌+◌, ◌-◌, ◌≤◌, ◌<◌, ltb, Float, length}
use Rattle.std.proofs.Common.{sym, ◌∙◌, arith, ltb-true, ltb-false}
use Rattle.std.proofs.Math.Path.{ap}
use Rattle.std.proofs.Math.Bool.{true, false}
use mathlib.Core.List.{List, ◌∷◌}
use Rattle.listing_pairs.specs.declared.row.Row.{Row}
use Rattle.listing_pairs.specs.declared.row.Look.{Look}
use Rattle.listing_pairs.specs.declared.row.Look.TheVariants.{Skipped, Nothing, Made}
use Rattle.listing_pairs.specs.declared.order.Job.{Job}
use Rattle.listing_pairs.specs.Order.{Pair}
use Rattle.listing_pairs.specs.Page.{Page, page, stop, pass, turn}
use Rattle.listing_pairs.specs.Row.{indices_a_row, points_a_row, indices_of, points_of}
use Rattle.listing_pairs.specs.Workings.Job as JobDefs
use Rattle.listing_pairs.specs.Laws.Order.{left_end, left-pair, left-next}
use Rattle.listing_pairs.specs.Workings.Stored.{stored, stored-none, stored_one, put_indices, put_points}
use Rattle.listing_loop.specs.declared.fill.Part.{Part}
use Rattle.listing_loop.specs.declared.fill.Filling.{Filling}
use Rattle.listing_loop.specs.Laws.Pages.{empty}

-- ---- where the indices from j on end: at `to`, or after as many as the budget allows
unfoldable pub end_within : ℕ → ℕ → ℕ → ℕ
end_within j to budget = cond (ltb j to) (cond (ltb budget (to - j)) (j + budget) to) to

-- it is not beyond `to`; no more than the budget are passed; and where it is before `to`, the budget is spent there
pub record EndsWithin (j to budget end : ℕ) : Type 0 where
  pub inside : end ≤ to
  pub allowed : end - j ≤ budget
  pub spent : end < to → end ≡ j + budget

ends-within : (j to budget : ℕ) → EndsWithin j to budget (end_within j to budget)
unfolding end_within
ends-within j to budget = go (ltb j to) refl (ltb budget (to - j)) refl
  where
    go : (a : Bool) → ltb j to ≡ a → (b : Bool) → ltb budget (to - j) ≡ b
        → EndsWithin j to budget (cond a (cond b (j + budget) to) to)
    go true e true f =
        let less : j < to = ltb-true j to e in
        let fewer : budget < to - j = ltb-true budget (to - j) f in
        record { inside = omega (arith, less, fewer); allowed = omega arith; spent = λ h. refl }
    go true e false f =
        let enough : to - j ≤ budget = ltb-false budget (to - j) f in
        record { inside = omega arith; allowed = omega (arith, enough); spent = λ h. absurd (omega (arith, h)) }
    go false e b f =
        let none : to ≤ j = ltb-false j to e in
        record { inside = omega arith; allowed = omega (arith, none); spent = λ h. absurd (omega (arith, h)) }

pub so-ends : {j to budget end : ℕ} → end ≡ end_within j to budget → EndsWithin j to budget end
so-ends {j} {to} {budget} {end} e = rw e (ends-within j to budget)

-- ---- the answer, and what the slices hold at the end
pub record Filled (job : Job) (part : Part) (whole : Page) (r : Filling) (i₀ i : List ℕ) (p₀ p : List Float) : Type 0 where
  pub rows : r.rows ≡ part.rows + length whole.rows
  pub passed : r.passed ≡ whole.passed
  pub looked : r.looked ≡ whole.looked
  pub rest : whole.rest ≡ JobDefs.left job r.i r.j
  pub within : r.i ≤ job.n
  pub ended : r.ended ≡ empty whole.rest
  pub indices : i ≡ stored indices_of indices_a_row part.write i₀ part.rows whole.rows
  pub points : p ≡ stored points_of points_a_row part.write p₀ part.rows whole.rows

-- q remains of the whole page, with `rows` rows in all, and `passed` pairs passed and `looked` of them looked at
pub record Left (part : Part) (whole q : Page) (rows passed looked : ℕ) (i₀ i : List ℕ) (p₀ p : List Float) : Type 0 where
  pub count : rows + length q.rows ≡ part.rows + length whole.rows
  pub position : passed + q.passed ≡ whole.passed
  pub views : looked + q.looked ≡ whole.looked
  pub rest : q.rest ≡ whole.rest
  pub indices :
      stored indices_of indices_a_row part.write i rows q.rows
      ≡ stored indices_of indices_a_row part.write i₀ part.rows whole.rows
  pub points :
      stored points_of points_a_row part.write p rows q.rows
      ≡ stored points_of points_a_row part.write p₀ part.rows whole.rows

pub left-start : (part : Part) (q : Page) (i : List ℕ) (p : List Float) → Left part q q part.rows 0 0 i i p p
left-start part q i p =
    record { count = refl; position = omega arith; views = omega arith; rest = refl; indices = refl; points = refl }

module _ {part : Part} {whole : Page} {rows passed looked : ℕ} {i₀ i : List ℕ} {p₀ p : List Float} where
  left-skipped : {q : Page} → Left part whole (pass Skipped q) rows passed looked i₀ i p₀ p
      → Left part whole q rows (passed + 1) looked i₀ i p₀ p
  left-skipped h =
      record {
        count = h.count;
        position = omega (arith, h.position);
        views = h.views;
        rest = h.rest;
        indices = h.indices;
        points = h.points;
      }

  left-nothing : {q : Page} → Left part whole (pass Nothing q) rows passed looked i₀ i p₀ p
      → Left part whole q rows (passed + 1) (looked + 1) i₀ i p₀ p
  left-nothing h =
      record {
        count = h.count;
        position = omega (arith, h.position);
        views = omega (arith, h.views);
        rest = h.rest;
        indices = h.indices;
        points = h.points;
      }

  left-made : (r : Row) {q : Page} → Left part whole (pass (Made r) q) rows passed looked i₀ i p₀ p
      → Left part whole q (rows + 1) (passed + 1) (looked + 1)
      i₀ (put_indices part.write i rows r) p₀ (put_points part.write p rows r)
  left-made r {q} h =
      record {
        count = omega (arith, h.count);
        position = omega (arith, h.position);
        views = omega (arith, h.views);
        rest = h.rest;
        indices = stored_one indices_of indices_a_row part.write i rows r q.rows refl ∙ h.indices;
        points = stored_one points_of points_a_row part.write p rows r q.rows refl ∙ h.points;
      }

  left-stop : (job : Job) (a b : ℕ) (done : Bool) → a ≤ job.n → done ≡ empty (JobDefs.left job a b)
      → Left part whole (stop (JobDefs.left job a b)) rows passed looked i₀ i p₀ p
      → Filled job part whole
      (record { rows = rows; passed = passed; looked = looked; i = a; j = b; ended = done }) i₀ i p₀ p
  left-stop job a b done w e h =
      record {
        rows = omega (arith, h.count);
        passed = omega (arith, h.position);
        looked = omega (arith, h.views);
        rest = sym h.rest;
        within = w;
        ended = e ∙ ap empty h.rest;
        indices = stored-none indices_of indices_a_row part.write i rows ∙ h.indices;
        points = stored-none points_of points_a_row part.write p rows ∙ h.points;
      }

-- ---- the loop, at the pair (i, j)
module _ (look : ℕ → ℕ → Look) (job : Job) (part : Part) (whole : Page) (i₀ : List ℕ) (p₀ : List Float) where
  -- `budget` pairs may still be passed
  abbrev pub At : ℕ → ℕ → ℕ → ℕ → ℕ → ℕ → List ℕ → List Float → Type 0
  At i j rows budget passed looked l p =
      Left part whole (page look (JobDefs.left job i j) (part.room - rows) budget) rows passed looked i₀ l p₀ p

  -- the answer, if it stops here
  abbrev pub Stops : ℕ → ℕ → Bool → ℕ → ℕ → ℕ → List ℕ → List Float → Type 0
  Stops i j done rows passed looked l p =
      Filled job part whole (record { rows = rows; passed = passed; looked = looked; i = i; j = j; ended = done }) i₀ l p₀ p

  module _ (i j rows budget passed looked : ℕ) (l : List ℕ) (p : List Float) where
    -- no segment remains
    pub ends : At i j rows budget passed looked l p → job.n ≤ i → i ≤ job.n → Stops i j true rows passed looked l p
    unfolding page
    ends h beyond w =
        let e = left_end (JobDefs.from job) (JobDefs.to job) job.n i j beyond in
        let stopped : page look (JobDefs.left job i j) (part.room - rows) budget ≡ stop (JobDefs.left job i j) =
        ap (λ (ps : List Pair). page look ps (part.room - rows) budget) e ∙ ap stop (sym e) in
        left-stop job i j true w (ap empty (sym e)) (rw stopped at h)

    module _ (inside : i < job.n) where
      -- no index remains that is paired with i
      pub next-i : At i j rows budget passed looked l p → JobDefs.to job i ≤ j
          → At (i + 1) (JobDefs.from job (i + 1)) rows budget passed looked l p
      next-i h beyond = rw (left-next (JobDefs.from job) (JobDefs.to job) job.n i j inside beyond) at h

      module _ (below : j < JobDefs.to job i) where
        here : JobDefs.left job i j ≡ record { i = i; j = j } ∷ JobDefs.left job i (j + 1)
        here = left-pair (JobDefs.from job) (JobDefs.to job) job.n i j inside below

        -- the budget is spent
        pub spent : At i j rows budget passed looked l p → budget ≡ 0 → Stops i j false rows passed looked l p
        unfolding page
        spent h none =
            let t = ap (λ (b : ℕ). page look (JobDefs.left job i j) (part.room - rows) b) none
            ∙ ap (λ (ps : List Pair). page look ps (part.room - rows) 0) here
            ∙ ap stop (sym here) in
            left-stop job i j false (omega (arith, inside)) (ap empty (sym here)) (rw t at h)

        -- one pair is passed
        module _ (less : ℕ) (allowed : budget ≡ suc less) (h : At i j rows budget passed looked l p) where
          step : (s : Look) → look i j ≡ s
              → page look (JobDefs.left job i j) (part.room - rows) budget
              ≡ turn s (record { i = i; j = j } ∷ JobDefs.left job i (j + 1))
              (λ left. page look (JobDefs.left job i (j + 1)) left less) (part.room - rows)
          unfolding page
          step s e =
              let after = JobDefs.left job i (j + 1) in
              ap (λ (b : ℕ). page look (JobDefs.left job i j) (part.room - rows) b) allowed
              ∙ ap (λ (ps : List Pair). page look ps (part.room - rows) (suc less)) here
              ∙ ap
              (λ (t : Look). turn t (record { i = i; j = j } ∷ after) (λ left. page look after left less) (part.room - rows))
              e

          pub skips : look i j ≡ Skipped → At i (j + 1) rows less (passed + 1) looked l p
          skips e = left-skipped (rw (step Skipped e) at h)

          pub looks : look i j ≡ Nothing → At i (j + 1) rows less (passed + 1) (looked + 1) l p
          looks e = left-nothing (rw (step Nothing e) at h)

          pub makes : (r : Row) → look i j ≡ Made r → rows < part.room
              → At i (j + 1) (rows + 1) less (passed + 1) (looked + 1)
              (put_indices part.write l rows r) (put_points part.write p rows r)
          makes r e fits =
              let one : part.room - rows ≡ suc (part.room - (rows + 1)) = omega (arith, fits) in
              let after = JobDefs.left job i (j + 1) in
              let t = step (Made r) e
              ∙ ap (λ (k : ℕ). turn (Made r) (record { i = i; j = j } ∷ after) (λ left. page look after left less) k) one in
              left-made r (rw t at h)

          pub stops : (r : Row) → look i j ≡ Made r → part.room ≤ rows → Stops i j false rows passed looked l p
          stops r e full =
              let no : part.room - rows ≡ 0 = omega (arith, full) in
              let after = JobDefs.left job i (j + 1) in
              let t = step (Made r) e
              ∙ ap (λ (k : ℕ). turn (Made r) (record { i = i; j = j } ∷ after) (λ left. page look after left less) k) no
              ∙ ap stop (sym here) in
              left-stop job i j false (omega (arith, inside)) (ap empty (sym here)) (rw t at h)
