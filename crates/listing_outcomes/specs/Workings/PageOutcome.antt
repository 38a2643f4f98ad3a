-- The outcome of a page of checked paths, from what the loop leaves: the three refusals, and the rows filled in from the
-- position on.
use Rattle.checks.specs.Checked.{Checked}
use Rattle.std.specs.Prelude.{◌≡◌, false, true, ◌≢◌, List, [], ◌∷◌, ℕ, ◌+◌, ◌-◌, ◌*◌, ◌≤◌, ◌<◌, Float, length, drop, Ok, Err}
use Rattle.std.proofs.Math.Path.{refl}
use Rattle.std.proofs.Common.{sym, ap, ◌∙◌, mul-le-mul, le_refl, arith, le-ltb, lt-ltb, eq-eqb, ne_eqb, length-drop}
use Rattle.std.proofs.Math.Nat.{sub-zero}
use Rattle.std.proofs.lemmas.List.Edits.{sets}
use Rattle.checks.specs.declared.fault.Place.{Place}
use Rattle.checks.specs.declared.fault.Fault.{Fault}
use Rattle.checks.specs.declared.fault.Item.TheVariants.{Rows, Position, Budget}
use Rattle.checks.specs.Fault.{at, bad, whole, refuse, later}
use Rattle.checks.specs.First.{first as first_fault}
use Rattle.checks.specs.Refusal
use Rattle.listing_pairs.specs.declared.row.Row.{Row}
use Rattle.listing_pairs.specs.declared.row.Look.{Look}
use Rattle.listing_pairs.specs.declared.order.Job.{Job}
use Rattle.listing_pairs.specs.declared.order.Spot.{Spot}
use Rattle.listing_pairs.specs.Row.{indices_a_row, points_a_row, indices_of, points_of, numbers_of_rows}
use Rattle.listing_pairs.specs.Order.{Pair}
use Rattle.listing_pairs.specs.Page.{Page, page}
use Rattle.listing_pairs.specs.Workings.Job as JobDefs
use Rattle.float_laws.specs.Stores.{flat-length}
use Rattle.listing_loop.specs.declared.fill.Part.{Part}
use Rattle.listing_loop.specs.declared.fill.Filling.{Filling}
use Rattle.listing_loop.specs.Laws.Pages.{joins}
use Rattle.listing_loop.specs.Workings.Filling.{Filled}
use Rattle.listing_loop.specs.Laws.Loop.{most_pairs}
use Rattle.listing_outcomes.specs.Answer.{PageAnswer, Paged}
use Rattle.listing_outcomes.specs.Outcome.{Outcome, Leaves, overwrite, room}
use Rattle.listing_outcomes.specs.PageOutcome.{position_check, budget_check, row_check, limits, paged_of}
use Rattle.listing_outcomes.specs.Laws.Overwrite.{sets_over}
use Rattle.listing_outcomes.specs.Workings.Outcome.{every-within}
use Rattle.paths.specs.Path.{most_segments}

-- the first fault of three checks: the first, or the second, or the third
in-first : (a b c : Checked) (n : ℕ) (p : Place) → a ≡ bad n p → first_fault (a ∷ b ∷ c ∷ []) ≡ bad n p
unfolding later
in-first a b c n p e = rw e refl

in-second : (a b c : Checked) (n : ℕ) (p : Place) → a ≡ Ok tt → b ≡ bad n p → first_fault (a ∷ b ∷ c ∷ []) ≡ bad n p
unfolding later
in-second a b c n p e f = rw (e, f) refl

in-third : (a b c : Checked) (n : ℕ) (p : Place) → a ≡ Ok tt → b ≡ Ok tt → c ≡ bad n p → first_fault (a ∷ b ∷ c ∷ []) ≡ bad n p
unfolding later
in-third a b c n p e f g = rw (e, f, g) refl

in-none : (a b c : Checked) → a ≡ Ok tt → b ≡ Ok tt → c ≡ Ok tt → first_fault (a ∷ b ∷ c ∷ []) ≡ Ok tt
unfolding later
in-none a b c e f g = rw (e, f, g) refl

-- a page of checked paths
abbrev pub paged : (ℕ → ℕ → Look) → List Pair → ℕ → ℕ → List ℕ → List Float → Outcome PageAnswer
paged look ps position budget indices points =
    paged_of (first_fault (limits position (length ps) budget indices points))
    (page look (drop position ps) (room indices points) budget) position (length ps) indices points

-- where a part of it starts: at (i, j), with no row yet
abbrev pub starting : ℕ → ℕ → ℕ → ℕ → Part
starting i j m budget = record { i = i; j = j; rows = 0; room = m; budget = budget; write = true }

pub from-none : (look : ℕ → ℕ → Look) (job : Job) (i j m budget : ℕ) (r : Filling) (i₀ u : List ℕ) (p₀ v : List Float)
    → Filled job (starting i j m budget) (page look (JobDefs.left job i j) (m - 0) budget) r i₀ u p₀ v
    → Filled job (starting i j m budget) (page look (JobDefs.left job i j) m budget) r i₀ u p₀ v
from-none look job i j m budget r i₀ u p₀ v h = rw (sub-zero m) at h

-- there are not too many pairs
pub every-few : (job : Job) → job.n ≤ most_segments → job.m ≤ most_segments → length (JobDefs.every job) ≤ most_pairs
every-few job n m = omega (arith, every-within job, mul-le-mul n m)

-- the next position is not beyond the end
pub next-few : (look : ℕ → ℕ → Look) (ps : List Pair) (position m budget : ℕ) → position ≤ length ps
    → position + (page look (drop position ps) m budget).passed ≤ length ps
next-few look ps position m budget within =
    omega (arith, (joins look (drop position ps) m budget).passed, length-drop position ps, within)

module _ (look : ℕ → ℕ → Look) (ps : List Pair) (position budget : ℕ) (i₀ : List ℕ) (p₀ : List Float) where
  abbrev its : Page
  its = page look (drop position ps) (room i₀ p₀) budget

  abbrev is : PageAnswer → List ℕ → List Float → Type 0
  is r i p = Leaves (paged look ps position budget i₀ p₀) r i p

  -- what the first fault of the three checks is
  refused : (n : ℕ) (p : Place) → first_fault (limits position (length ps) budget i₀ p₀) ≡ bad n p
      → (f : Fault) → f ≡ record { number = n; place = p } → is (Err f) i₀ p₀
  refused n p e f same = rw e (record { answer = ap Err same; indices = refl; points = refl })

  is-beyond : length ps < position → position_check position (length ps) ≡ bad Refusal.position (at 0 0 Position)
  unfolding position_check refuse
  is-beyond h = rw (lt-ltb _ _ h) refl

  pub beyond : length ps < position → (f : Fault) → f ≡ whole Refusal.position Position → is (Err f) i₀ p₀
  beyond h =
      refused Refusal.position (at 0 0 Position)
      (in-first (position_check position (length ps)) (budget_check budget) (row_check i₀ p₀) _ _ (is-beyond h))

  module _ (within : position ≤ length ps) where
    position-passes : position_check position (length ps) ≡ Ok tt
    unfolding position_check refuse
    position-passes = rw (le-ltb (length ps) position within) refl

    budget-none : budget ≡ 0 → budget_check budget ≡ bad Refusal.budget (at 0 0 Budget)
    unfolding budget_check refuse
    budget-none e = rw (eq-eqb budget 0 e) refl

    pub no-budget : budget ≡ 0 → (f : Fault) → f ≡ whole Refusal.budget Budget → is (Err f) i₀ p₀
    no-budget e =
        refused Refusal.budget (at 0 0 Budget)
        (in-second (position_check position (length ps)) (budget_check budget) (row_check i₀ p₀) _ _ position-passes (budget-none e))

    module _ (some : budget ≢ 0) where
      budget-passes : budget_check budget ≡ Ok tt
      unfolding budget_check refuse
      budget-passes = rw (ne_eqb budget 0 some) refl

      row-none : room i₀ p₀ ≡ 0 → row_check i₀ p₀ ≡ bad Refusal.rows (at 0 0 Rows)
      unfolding row_check refuse
      row-none e = rw (eq-eqb (room i₀ p₀) 0 e) refl

      pub no_row : room i₀ p₀ ≡ 0 → (f : Fault) → f ≡ whole Refusal.rows Rows → is (Err f) i₀ p₀
      no_row e =
          refused Refusal.rows (at 0 0 Rows)
          (in-third (position_check position (length ps)) (budget_check budget) (row_check i₀ p₀) _ _
          position-passes budget-passes (row-none e))

      module _ (fits : room i₀ p₀ ≢ 0) where
        row-passes : row_check i₀ p₀ ≡ Ok tt
        unfolding row_check refuse
        row-passes = rw (ne_eqb (room i₀ p₀) 0 fits) refl

        all_pass : first_fault (limits position (length ps) budget i₀ p₀) ≡ Ok tt
        all_pass =
            in-none (position_check position (length ps)) (budget_check budget) (row_check i₀ p₀)
            position-passes budget-passes row-passes

        is-paged : (i : List ℕ) (p : List Float) (n passed next all : ℕ) → n ≡ length its.rows → passed ≡ its.passed
            → next ≡ position + its.passed → all ≡ length ps
            → i ≡ overwrite i₀ (numbers_of_rows indices_of its.rows) → p ≡ overwrite p₀ (numbers_of_rows points_of its.rows)
            → is (Paged n passed next all) i p
        is-paged i p n passed next all a b c d e f =
            rw all_pass (record { answer = rw (a, b, c, d) refl; indices = e; points = f })

        -- one kind of numbers, stored from the front on
        stored-front : {A : Type 0} (numbers : Row → List A) (width : ℕ) → ((r : Row) → length (numbers r) ≡ width)
            → (old : List A) → room i₀ p₀ * width ≤ length old
            → sets old 0 (numbers_of_rows numbers its.rows) ≡ overwrite old (numbers_of_rows numbers its.rows)
        stored-front numbers width each old long =
            sets_over old (numbers_of_rows numbers its.rows) (fewer (joins look (drop position ps) (room i₀ p₀) budget).few)
          where
            fewer : length its.rows ≤ room i₀ p₀ → length (numbers_of_rows numbers its.rows) ≤ length old
            fewer h =
                omega (
                  arith,
                  flat-length numbers width each its.rows,
                  mul-le-mul h (le_refl width),
                  long,
                )

        -- the loop filled it from (i, j) on
        pub filled-page : (job : Job) (i j m all : ℕ) (r : Filling) (u : List ℕ) (v : List Float) → m ≡ room i₀ p₀
            → JobDefs.left job i j ≡ drop position ps → all ≡ length ps
            → Filled job (starting i j m budget) (page look (JobDefs.left job i j) m budget) r i₀ u p₀ v
            → is (Paged r.rows r.passed (position + r.passed) all) u v
        filled-page job i j m all r u v same e d h =
            let f = rw (same, e) at h in
            is-paged u v r.rows r.passed (position + r.passed) all (omega (arith, f.rows)) f.passed
            (ap (λ (k : ℕ). position + k) f.passed) d
            (f.indices ∙ stored-front indices_of indices_a_row (λ r. refl) i₀ (omega arith))
            (f.points ∙ stored-front points_of points_a_row (λ r. refl) p₀ (omega arith))
