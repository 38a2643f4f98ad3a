-- The outcome of a listing of checked paths, from pages: all rows on one page; rows held back and then copied; rows held back,
-- the rest counted and then filled in behind them; and too many rows.
use Rattle.std.specs.Prelude.{◌≡◌, refl, Bool, true, false, List, ◌++◌, ℕ, ◌+◌, ◌-◌, ◌*◌, ◌≤◌, ◌<◌, Float, length, Err}
use Rattle.std.proofs.Common.{sym, ◌∙◌, mul-le-mul, le_refl, add-mul, arith, le-ltb, lt-ltb, length-append}
use Rattle.std.proofs.Math.Path.{ap}
use Rattle.std.proofs.Math.Nat.{sub-zero}
use Rattle.std.proofs.Math.Seq.{paste}
use Rattle.std.proofs.lemmas.List.Edits.{sets}
use Rattle.checks.specs.declared.fault.Item.TheVariants.{Rows}
use Rattle.checks.specs.declared.fault.Fault.{Fault}
use Rattle.checks.specs.Fault.{whole, refuse}
use Rattle.checks.specs.Refusal
use Rattle.paths.specs.Path.{most_segments}
use Rattle.listing_pairs.specs.declared.row.Row.{Row}
use Rattle.listing_pairs.specs.declared.row.Look.{Look}
use Rattle.listing_pairs.specs.declared.order.Job.{Job}
use Rattle.listing_pairs.specs.Row.{indices_a_row, points_a_row, indices_of, points_of, numbers_of_rows}
use Rattle.listing_pairs.specs.Order.{Pair, pairs_from}
use Rattle.listing_pairs.specs.Rows.{rows_of, looked_at}
use Rattle.listing_pairs.specs.Workings.Job as JobDefs
use Rattle.float_laws.specs.Stores.{flat_append, flat-length}
use Rattle.listing_pairs.specs.Page.{Page, page}
use Rattle.listing_loop.specs.declared.fill.Part.{Part}
use Rattle.listing_loop.specs.declared.fill.Filling.{Filling}
use Rattle.listing_loop.specs.Laws.Pages.{
  empty,
  Joins,
  joins,
  whole-rows,
  whole-looked,
  too_many,
  all_fit,
  few-rows,
}
use Rattle.listing_loop.specs.Workings.Filling.{Filled}
use Rattle.listing_loop.specs.Laws.Loop.{most_pairs, few-left, few-on-page}
use Rattle.listing_outcomes.specs.Answer.{Listed, ListingAnswer}
use Rattle.listing_outcomes.specs.Outcome.{Outcome, Leaves, overwrite, room, room_check, listed_of}
use Rattle.listing_outcomes.specs.Laws.Overwrite.{sets_over, paste-over, paste_all, over-all, sets-beyond}

-- how many rows are held back while it is not known that all fit
abbrev pub held_rows : ℕ
held_rows = 2048

-- a listing of checked paths
abbrev pub listed : (ℕ → ℕ → Look) → List Pair → List ℕ → List Float → Outcome ListingAnswer
listed look ps indices points =
    let rows = rows_of look ps in
    listed_of (room_check rows indices points) rows (looked_at look ps) indices points

module _ (look : ℕ → ℕ → Look) (ps : List Pair) (i₀ : List ℕ) (p₀ : List Float) where
  abbrev rows : List Row
  rows = rows_of look ps

  -- ---- refused, and listed
  pub is-refused : room i₀ p₀ < length rows → (i : List ℕ) (p : List Float) → i ≡ i₀ → p ≡ p₀
      → (f : Fault) → f ≡ whole Refusal.rows Rows → Leaves (listed look ps i₀ p₀) (Err f) i p
  unfolding room_check refuse
  is-refused h i p a b f e = rw (lt-ltb _ _ h) (record { answer = ap Err e; indices = a; points = b })

  pub is-listed : length rows ≤ room i₀ p₀ → (n k : ℕ) (i : List ℕ) (p : List Float) → n ≡ length rows → k ≡ looked_at look ps
      → i ≡ overwrite i₀ (numbers_of_rows indices_of rows) → p ≡ overwrite p₀ (numbers_of_rows points_of rows)
      → Leaves (listed look ps i₀ p₀) (Listed n k) i p
  unfolding room_check refuse
  is-listed h n k i p a b c d = rw (le-ltb _ _ h) (record { answer = rw (a, b) refl; indices = c; points = d })

  -- ---- the numbers of rows that fit
  -- both slices have room for n rows
  pub fit-indices : (n : ℕ) → n ≤ room i₀ p₀ → n * indices_a_row ≤ length i₀
  fit-indices n h = omega (arith, h)

  pub fit-points : (n : ℕ) → n ≤ room i₀ p₀ → n * points_a_row ≤ length p₀
  fit-points n h = omega (arith, h)

  -- ---- no pair remains after a page with room for k rows
  module _ {k budget : ℕ} {q : Page} (j : Joins look ps k budget q) (within : k ≤ room i₀ p₀)
      (ended : empty q.rest ≡ true) where
    all : q.rows ≡ rows
    all = whole-rows look j ended

    few : length rows ≤ room i₀ p₀
    few = omega (arith, ap length all, j.few, within)

    -- one kind of numbers, stored with room for all rows
    stored-all : {A : Type 0} (numbers : Row → List A) (width : ℕ) → ((r : Row) → length (numbers r) ≡ width)
        → (old : List A) → length rows * width ≤ length old
        → sets old 0 (numbers_of_rows numbers q.rows) ≡ overwrite old (numbers_of_rows numbers rows)
    stored-all numbers width each old fit =
        ap (λ (rs : List Row). sets old 0 (numbers_of_rows numbers rs)) all
        ∙ sets_over old (numbers_of_rows numbers rows) (omega (arith, flat-length numbers width each rows, fit))

    -- filled directly into the caller's slices
    pub on-one-page : (n m : ℕ) (i : List ℕ) (p : List Float) → n ≡ 0 + length q.rows → m ≡ q.looked
        → i ≡ sets i₀ 0 (numbers_of_rows indices_of q.rows) → p ≡ sets p₀ 0 (numbers_of_rows points_of q.rows)
        → Leaves (listed look ps i₀ p₀) (Listed n m) i p
    on-one-page n m i p a b c d =
        is-listed few n m i p (omega (arith, a, ap length all)) (b ∙ whole-looked look j ended)
        (c ∙ stored-all indices_of indices_a_row (λ r. refl) i₀ (fit-indices (length rows) few))
        (d ∙ stored-all points_of points_a_row (λ r. refl) p₀ (fit-points (length rows) few))

    -- one kind of numbers, stored in a buffer a and copied from there
    copied_all : {A : Type 0} (numbers : Row → List A) (width : ℕ) → ((r : Row) → length (numbers r) ≡ width)
        → (old buffer a : List A) (n : ℕ) → n ≡ length rows → k * width ≤ length buffer
        → a ≡ sets buffer 0 (numbers_of_rows numbers q.rows)
        → paste old 0 a (n * width) ≡ overwrite old (numbers_of_rows numbers rows)
    copied_all {A} numbers width each old buffer a n count fit is =
        let fewer : length rows ≤ k = omega (arith, ap length all, j.few) in
        let inside = stored-all numbers width each buffer (omega (arith, mul-le-mul fewer (le_refl width), fit)) in
        ap (λ (l : List A). paste old 0 l (n * width)) (is ∙ inside)
        ∙ paste-over old buffer (numbers_of_rows numbers rows) (n * width)
        (ap (λ (c : ℕ). c * width) count ∙ sym (flat-length numbers width each rows))

    -- filled into other slices, which have room for k rows, and copied
    pub held_back : (n m : ℕ) (a₀ a i : List ℕ) (b₀ b p : List Float) → n ≡ 0 + length q.rows → m ≡ q.looked
        → k * indices_a_row ≤ length a₀ → k * points_a_row ≤ length b₀
        → a ≡ sets a₀ 0 (numbers_of_rows indices_of q.rows) → b ≡ sets b₀ 0 (numbers_of_rows points_of q.rows)
        → i ≡ paste i₀ 0 a (n * indices_a_row) → p ≡ paste p₀ 0 b (n * points_a_row)
        → Leaves (listed look ps i₀ p₀) (Listed n m) i p
    held_back n m a₀ a i b₀ b p e f x y c d g h =
        let count : n ≡ length rows = omega (arith, e, ap length all) in
        is-listed few n m i p count (f ∙ whole-looked look j ended)
        (g ∙ copied_all indices_of indices_a_row (λ r. refl) i₀ a₀ a n count x c)
        (h ∙ copied_all points_of points_a_row (λ r. refl) p₀ b₀ b n count y d)

-- ---- all pairs, from the first on
pub from_first : (job : Job) (start : ℕ) → start ≡ JobDefs.from job 0 → JobDefs.left job 0 start ≡ JobDefs.every job
from_first job start e =
    ap (λ (j : ℕ). pairs_from (JobDefs.from job) (JobDefs.to job) 0 j (job.n - 0)) e
    ∙ ap (pairs_from (JobDefs.from job) (JobDefs.to job) 0 (JobDefs.from job 0)) (sub-zero job.n)

pub every-within : (job : Job) → length (JobDefs.every job) ≤ job.n * job.m
every-within job = let start = JobDefs.from job 0 in omega (arith, ap length (from_first job start refl), few-left job 0 start)

-- ---- filled from the first pair on
module _ (look : ℕ → ℕ → Look) (job : Job) where
  -- a budget for every pair
  abbrev pub budget : ℕ
  budget = job.n * job.m

  enough : length (JobDefs.every job) ≤ budget
  enough = every-within job

  -- a part that starts at the first pair
  abbrev pub front : ℕ → ℕ → ℕ → Part
  front start k b = record { i = 0; j = start; rows = 0; room = k; budget = b; write = true }

  pub filled-first : (start k b : ℕ) (r : Filling) (i₀ i : List ℕ) (p₀ p : List Float) → start ≡ JobDefs.from job 0 → b ≡ budget
      → Filled job (front start k b) (page look (JobDefs.left job 0 start) (k - 0) b) r i₀ i p₀ p
      → Filled job (front start k budget) (page look (JobDefs.every job) k budget) r i₀ i p₀ p
  filled-first start k b r i₀ i p₀ p e same f = rw (same, sub-zero k, from_first job start e) at f

  pub few-on-every : (k : ℕ) → job.n ≤ most_segments → job.m ≤ most_segments
      → (page look (JobDefs.every job) k budget).looked ≤ most_pairs
  few-on-every k n m =
      let start = JobDefs.from job 0 in
      omega (
        arith,
        ap (λ (ps : List Pair). (page look ps k budget).looked) (from_first job start refl),
        few-on-page look job 0 start k budget n m,
      )

  -- the page of all pairs, with room for k rows
  pub joins-every : (k : ℕ) → Joins look (JobDefs.every job) k budget (page look (JobDefs.every job) k budget)
  joins-every k = joins look (JobDefs.every job) k budget

  pub full-every : (k : ℕ) → empty (page look (JobDefs.every job) k budget).rest ≡ false
      → length (page look (JobDefs.every job) k budget).rows ≡ k
  full-every k e = ((joins-every k).full enough e).0

  pub too-many-every : (k : ℕ) → empty (page look (JobDefs.every job) k budget).rest ≡ false
      → k < length (rows_of look (JobDefs.every job))
  too-many-every k e = too_many look (joins-every k) enough e

  -- if there is room for a row of every pair
  pub no_more : (k : ℕ) → budget ≤ k → empty (page look (JobDefs.every job) k budget).rest ≡ true
  no_more k h =
      let ps = JobDefs.every job in all_fit look ps k budget enough (omega (arith, few-rows look ps, enough, h))

-- ---- k rows are held back, as many as the buffer has room for, and pairs remain from where the loop stopped
pub record Held (look : ℕ → ℕ → Look) (job : Job) (k : ℕ) (r : Filling) (a : List ℕ) (b : List Float) : Type 0 where
  pub within : r.i ≤ job.n
  pub rest : (page look (JobDefs.every job) k (job.n * job.m)).rest ≡ JobDefs.left job r.i r.j
  pub more : empty (page look (JobDefs.every job) k (job.n * job.m)).rest ≡ false
  pub looked : r.looked ≡ (page look (JobDefs.every job) k (job.n * job.m)).looked
  pub indices : a ≡ numbers_of_rows indices_of (page look (JobDefs.every job) k (job.n * job.m)).rows
  pub points : b ≡ numbers_of_rows points_of (page look (JobDefs.every job) k (job.n * job.m)).rows

-- the numbers of k rows, stored with exactly enough room for them
just-all : {A : Type 0} (numbers : Row → List A) (width : ℕ) → ((r : Row) → length (numbers r) ≡ width)
    → (rows : List Row) (old : List A) (k : ℕ) → length rows ≡ k → length old ≡ k * width
    → sets old 0 (numbers_of_rows numbers rows) ≡ numbers_of_rows numbers rows
just-all numbers width each rows old k n l =
    let long = flat-length numbers width each rows ∙ ap (λ (c : ℕ). c * width) n in
    sets_over old (numbers_of_rows numbers rows) (omega (arith, long, l)) ∙ over-all old (numbers_of_rows numbers rows) (l ∙ sym long)

-- a page that fills slices with exactly its room, after which pairs remain
pub hold : (look : ℕ → ℕ → Look) (job : Job) (start k m : ℕ) (r : Filling) (a₀ a : List ℕ) (b₀ b : List Float) → m ≡ k
    → Filled job (front look job start m (job.n * job.m)) (page look (JobDefs.every job) m (job.n * job.m)) r a₀ a b₀ b
    → r.ended ≡ false
    → length a₀ ≡ k * indices_a_row → length b₀ ≡ k * points_a_row
    → Held look job k r a b
hold look job start k m r a₀ a b₀ b same g e x y =
    let f = rw same at g in
    let q = page look (JobDefs.every job) k (job.n * job.m) in
    let more = sym f.ended ∙ e in
    let n = full-every look job k more in
    record {
      within = f.within;
      rest = f.rest;
      more = more;
      looked = f.looked;
      indices = f.indices ∙ just-all indices_of indices_a_row (λ r. refl) q.rows a₀ k n x;
      points = f.points ∙ just-all points_of points_a_row (λ r. refl) q.rows b₀ k n y;
    }

module _ {look : ℕ → ℕ → Look} {job : Job} {k : ℕ} {r : Filling} {a : List ℕ} {b : List Float}
    (held : Held look job k r a b) where
  abbrev ps : List Pair
  ps = JobDefs.every job

  abbrev most : ℕ
  most = job.n * job.m

  abbrev before : Page
  before = page look ps k most

  abbrev after : List Pair
  after = JobDefs.left job r.i r.j

  first_rows : rows_of look ps ≡ before.rows ++ rows_of look after
  first_rows =
      sym (joins-every look job k).rows ∙ ap (λ (l : List Pair). before.rows ++ rows_of look l) held.rest

  count-front : length before.rows ≡ k
  count-front = full-every look job k held.more

  pub held-indices : length a ≡ k * indices_a_row
  held-indices =
      ap length held.indices ∙ flat-length indices_of indices_a_row (λ r. refl) before.rows
      ∙ ap (λ (n : ℕ). n * indices_a_row) count-front

  pub held-points : length b ≡ k * points_a_row
  held-points =
      ap length held.points ∙ flat-length points_of points_a_row (λ r. refl) before.rows
      ∙ ap (λ (n : ℕ). n * points_a_row) count-front

  module _ (i₀ : List ℕ) (p₀ : List Float) (fits : k ≤ room i₀ p₀) where
    -- the page after it
    abbrev pub behind : Page
    behind = page look after (room i₀ p₀ - k) most

    -- a part that fills it
    abbrev pub next : ℕ → ℕ → Bool → Part
    next m b write = record { i = r.i; j = r.j; rows = k; room = m; budget = b; write = write }

    pub filled-behind : (m b : ℕ) (write : Bool) (x : Filling) (u₀ u : List ℕ) (v₀ v : List Float) → m ≡ room i₀ p₀ → b ≡ most
        → Filled job (next m b write) (page look after (m - k) b) x u₀ u v₀ v
        → Filled job (next (room i₀ p₀) most write) behind x u₀ u v₀ v
    filled-behind m b write x u₀ u v₀ v e f h = rw (e, f) at h

    -- pairs remain after that page too
    pub behind-refused : empty behind.rest ≡ false → (x : List ℕ) (y : List Float) → x ≡ i₀ → y ≡ p₀
        → (f : Fault) → f ≡ whole Refusal.rows Rows → Leaves (listed look ps i₀ p₀) (Err f) x y
    behind-refused e =
        let n = too_many look (joins look after (room i₀ p₀ - k) most) (few-left job r.i r.j) e in
        let l = length-append before.rows (rows_of look after) in
        is-refused look ps i₀ p₀ (omega (arith, n, l, ap length first_rows, count-front, fits))

    module _ (ended : empty behind.rest ≡ true) where
      both : rows_of look ps ≡ before.rows ++ behind.rows
      both =
          let j = joins look after (room i₀ p₀ - k) most in
          first_rows ∙ ap (λ (rs : List Row). before.rows ++ rs) (sym (whole-rows look j ended))

      looked : looked_at look ps ≡ r.looked + behind.looked
      looked =
          let j = joins look after (room i₀ p₀ - k) most in
          omega (arith, (joins-every look job k).looked, ap (looked_at look) held.rest, whole-looked look j ended, held.looked)

      count-both : length (rows_of look ps) ≡ k + length behind.rows
      count-both = omega (arith, ap length both, length-append before.rows behind.rows, count-front)

      few-behind : k + length behind.rows ≤ room i₀ p₀
      few-behind = omega (arith, (joins look after (room i₀ p₀ - k) most).few, fits)

      -- one kind of numbers, copied and then stored behind
      stored-both : {A : Type 0} (numbers : Row → List A) (width : ℕ) → ((r : Row) → length (numbers r) ≡ width)
          → (old held : List A) → held ≡ numbers_of_rows numbers before.rows → room i₀ p₀ * width ≤ length old
          → sets (paste old 0 held (k * width)) (k * width) (numbers_of_rows numbers behind.rows)
          ≡ overwrite old (numbers_of_rows numbers (rows_of look ps))
      stored-both {A} numbers width each old held is long =
          let front_long = flat-length numbers width each before.rows in
          let behind-long = flat-length numbers width each behind.rows in
          let k-long : k * width ≡ length (numbers_of_rows numbers before.rows) =
          ap (λ (n : ℕ). n * width) (sym count-front) ∙ sym front_long in
          let in_all : (k + length behind.rows) * width ≤ room i₀ p₀ * width = mul-le-mul few-behind (le_refl width) in
          let end : k * width + length (numbers_of_rows numbers behind.rows) ≤ length old =
          omega (arith, behind-long, add-mul k (length behind.rows) width, in_all, long) in
          ap (λ (l : List A). sets (paste old 0 l (k * width)) (k * width) (numbers_of_rows numbers behind.rows)) is
          ∙ ap (λ (l : List A). sets l (k * width) (numbers_of_rows numbers behind.rows))
          (paste_all old (numbers_of_rows numbers before.rows) (k * width) k-long)
          ∙ sets-beyond old (numbers_of_rows numbers before.rows) (numbers_of_rows numbers behind.rows)
          (k * width) (sym k-long) end
          ∙ ap (overwrite old) (sym (flat_append numbers before.rows behind.rows) ∙ ap (numbers_of_rows numbers) (sym both))

      -- u and v: the slices after the held_back rows are copied to their fronts
      pub behind-listed : (n l : ℕ) (u x : List ℕ) (v y : List Float) → n ≡ k + length behind.rows
          → l ≡ r.looked + behind.looked
          → u ≡ paste i₀ 0 a (k * indices_a_row) → v ≡ paste p₀ 0 b (k * points_a_row)
          → x ≡ sets u (k * indices_a_row) (numbers_of_rows indices_of behind.rows)
          → y ≡ sets v (k * points_a_row) (numbers_of_rows points_of behind.rows)
          → Leaves (listed look ps i₀ p₀) (Listed n l) x y
      behind-listed n l u x v y count pairs to-u to-v to-x to-y =
          let all = room i₀ p₀ in
          let front-indices = ap (λ (d : List ℕ). sets d (k * indices_a_row) (numbers_of_rows indices_of behind.rows)) to-u in
          let front-points = ap (λ (d : List Float). sets d (k * points_a_row) (numbers_of_rows points_of behind.rows)) to-v in
          let long-indices = fit-indices look ps i₀ p₀ all (le_refl all) in
          let long-points = fit-points look ps i₀ p₀ all (le_refl all) in
          is-listed look ps i₀ p₀ (omega (arith, count-both, few-behind)) n l x y (count ∙ sym count-both) (pairs ∙ sym looked)
          (to-x ∙ front-indices ∙ stored-both indices_of indices_a_row (λ r. refl) i₀ a held.indices long-indices)
          (to-y ∙ front-points ∙ stored-both points_of points_a_row (λ r. refl) p₀ b held.points long-points)
