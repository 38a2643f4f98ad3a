-- The state of the loop that fills rows, at the pair (i, j), and its steps. The proof of `fill` uses them, place by place.
use Rattle.std.specs.Prelude.{◌≡◌, refl, false, List, [], ◌∷◌, ◌⊎◌, Float, length, take}
use Rattle.std.proofs.Common.{sym, ap, ◌∙◌, inl, inr, mul-le-mul, eq-or-lt_of_le, arith}
use Rattle.std.proofs.Math.Bool.{true}
use Prim.Native.Nat.{ℕ, zero, suc, ◌+◌, ◌-◌, ◌*◌, ◌≤◌, ◌<◌}
use Rattle.std.proofs.Math.Seq.{length-sets}
use Rattle.paths.specs.Path.{most_segments}
use Rattle.listing_pairs.specs.declared.row.Row.{Row}
use Rattle.listing_pairs.specs.declared.row.Look.{Look}
use Rattle.listing_pairs.specs.declared.row.Look.TheVariants.{Skipped, Nothing, Made}
use Rattle.listing_pairs.specs.declared.order.Job.{Job}
use Rattle.listing_pairs.specs.Order.{Pair}
use Rattle.listing_pairs.specs.Page.{Page, page}
use Rattle.listing_pairs.specs.Workings.Ready.{look_by}
use Rattle.listing_pairs.specs.Row.{indices_a_row, points_a_row, indices_of, points_of, numbers_of_rows}
use Rattle.listing_pairs.specs.Workings.Job as JobDefs
use Rattle.listing_pairs.specs.Workings.Keeping.{KeptOf, KeptFor}
use Rattle.listing_pairs.specs.Laws.Order.{few-pairs, left_end, left-pair, left-next}
use Rattle.listing_pairs.specs.Workings.Stored.{written, put_indices, put_points}
use Rattle.sieves.specs.declared.marks.Grain.{Grain}
use Rattle.sieves.specs.Workings.Marks.{marked, mark_of, Noted, More, noted_more}
use Rattle.listing_loop.specs.declared.fill.How.{How}
use Rattle.listing_loop.specs.declared.fill.Part.{Part}
use Rattle.listing_loop.specs.Laws.Pages.{joins, few-looked}
use Rattle.listing_loop.specs.Workings.Filling as filling
use Rattle.listing_loop.specs.Workings.Filling.{Left, Stops}

-- ---- at most as many pairs as each segment of one path with each of another
abbrev pub most_pairs : ℕ
most_pairs = most_segments * most_segments

pub few-left : (job : Job) (i j : ℕ) → length (JobDefs.left job i j) ≤ job.n * job.m
few-left job i j =
    let some = few-pairs (JobDefs.from job) (JobDefs.to job) job.n job.m (JobDefs.to-within job) i j (job.n - i) in
    let fewer : job.n - i ≤ job.n = omega arith in
    let same : job.m ≤ job.m = omega arith in
    omega (arith, some, mul-le-mul fewer same)

pub few-on-page : (look : ℕ → ℕ → Look) (job : Job) (i j room budget : ℕ) → job.n ≤ most_segments → job.m ≤ most_segments
    → (page look (JobDefs.left job i j) room budget).looked ≤ most_pairs
few-on-page look job i j room budget n m =
    let ps = JobDefs.left job i j in
    omega (arith, (joins look ps room budget).looked, few-looked look ps, few-left job i j, mul-le-mul n m)

-- a pair that makes a row is neither skipped nor without one
skipped-or-made : {r : Row} → Skipped ≡ Made r → ⊥
skipped-or-made e = let z : ◌≡◌ {A = ℕ} 0 1 = ap tag e in absurd (omega (arith, z))
  where
    tag : Look → ℕ
    tag Skipped = 0
    tag Nothing = 0
    tag (Made r) = 1

nothing-or-made : {r : Row} → Nothing ≡ Made r → ⊥
nothing-or-made e = let z : ◌≡◌ {A = ℕ} 0 1 = ap tag e in absurd (omega (arith, z))
  where
    tag : Look → ℕ
    tag Skipped = 0
    tag Nothing = 0
    tag (Made r) = 1

-- the page of all pairs that a call can walk
abbrev whole : (ℕ → ℕ → Look) → Job → Part → Page
whole look job part = page look (JobDefs.left job part.i part.j) (part.room - part.rows) part.budget

-- At the pair (i, j), with `rows` rows in all, a budget that is left, `looked` pairs looked at, and the slices as they are now;
-- when the call began they were i₀ and p₀. The marks are w.
pub record State (first second kept : List Float) (job : Job) (grain : Grain) (how : How) (part : Part) (i₀ : List ℕ) (p₀ : List Float)
    (i j rows budget looked : ℕ) (l : List ℕ) (p : List Float) (w : List ℕ) : Type 0 where
  pub left :
      Left part (whole (look_by first second job) job part)
      (page (look_by first second job) (JobDefs.left job i j) (part.room - rows) budget)
      rows (part.budget - budget) looked i₀ l p₀ p
  pub keeps : KeptFor second kept job.epsilon (take budget (JobDefs.left job i j))
  pub allowed : budget ≤ part.budget
  pub fits : rows ≤ part.room
  pub within : i ≤ job.n
  pub indices : length l ≡ length i₀
  pub points : length p ≡ length p₀
  -- if rows are noted, and the marks of the pairs that remain will be there, then all are
  pub notes : how.noting ≡ true → (m : List ℕ) → More w m
      → Noted (look_by first second job) grain (JobDefs.left job i j) m
      → Noted (look_by first second job) grain (JobDefs.left job part.i part.j) m
  -- if rows are recalled, the marks of the pairs that remain are there
  pub recalls : how.recalling ≡ true → Noted (look_by first second job) grain (JobDefs.left job i j) w

pub starts : (first second kept : List Float) (job : Job) (grain : Grain) (how : How) (part : Part) (i₀ : List ℕ) (p₀ : List Float)
    (w : List ℕ)
    → KeptFor second kept job.epsilon (take part.budget (JobDefs.left job part.i part.j))
    → part.rows ≤ part.room → part.i ≤ job.n
    → (how.recalling ≡ true → Noted (look_by first second job) grain (JobDefs.left job part.i part.j) w)
    → State first second kept job grain how part i₀ p₀ part.i part.j part.rows part.budget 0 i₀ p₀ w
starts first second kept job grain how part i₀ p₀ w k h within marks =
    let none : part.budget - part.budget ≡ 0 = omega arith in
    record {
      left = rw none (filling.left-start part (whole (look_by first second job) job part) i₀ p₀);
      keeps = k;
      allowed = omega arith;
      fits = h;
      within = within;
      indices = refl;
      points = refl;
      notes = λ e m more rest. rest;
      recalls = marks;
    }

module _ {first second kept : List Float} {job : Job} {grain : Grain} {how : How} {part : Part} {i₀ : List ℕ} {p₀ : List Float}
    {i j rows budget looked : ℕ} {l : List ℕ} {p : List Float} {w : List ℕ}
    (s : State first second kept job grain how part i₀ p₀ i j rows budget looked l p w) where
  abbrev f : ℕ → ℕ → Look
  f = look_by first second job

  abbrev all : Page
  all = whole f job part

  pub few : job.n ≤ most_segments → job.m ≤ most_segments → looked ≤ most_pairs
  few n m =
      omega (arith, s.left.views, few-on-page f job part.i part.j (part.room - part.rows) part.budget n m)

  pub ends : job.n ≤ i → Stops f job part all i₀ p₀ i j true rows (part.budget - budget) looked l p
  ends beyond = filling.ends f job part all i₀ p₀ i j rows budget _ looked l p s.left beyond s.within

  -- and all that made a row have their marks
  pub all_noted : job.n ≤ i → how.noting ≡ true → Noted f grain (JobDefs.left job part.i part.j) w
  unfolding Noted
  all_noted beyond noting =
      let e = left_end (JobDefs.from job) (JobDefs.to job) job.n i j beyond in
      s.notes noting w (λ k h. h) (rw e tt)

  module _ (inside : i < job.n) where
    pub next-i : JobDefs.to job i ≤ j
        → State first second kept job grain how part i₀ p₀ (i + 1) (JobDefs.from job (i + 1)) rows budget looked l p w
    next-i beyond =
        let e = left-next (JobDefs.from job) (JobDefs.to job) job.n i j inside beyond in
        record {
          left = filling.next-i f job part all i₀ p₀ i j rows budget _ looked l p inside s.left beyond;
          keeps = rw e at s.keeps;
          allowed = s.allowed;
          fits = s.fits;
          within = omega (arith, inside);
          indices = s.indices;
          points = s.points;
          notes = λ h m more rest. s.notes h m more (rw e rest);
          recalls = λ h. rw e at (s.recalls h);
        }

    module _ (below : j < JobDefs.to job i) where
      pub spent : budget ≡ 0 → Stops f job part all i₀ p₀ i j false rows (part.budget - budget) looked l p
      spent none = filling.spent f job part all i₀ p₀ i j rows budget _ looked l p inside below s.left none

      -- a pair that the budget allows
      module _ (less : ℕ) (one : budget ≡ suc less) where
        here : JobDefs.left job i j ≡ record { i = i; j = j } ∷ JobDefs.left job i (j + 1)
        here = left-pair (JobDefs.from job) (JobDefs.to job) job.n i j inside below

        -- the mark of this pair, if rows are recalled
        pub marked-here : how.recalling ≡ true → (r : Row) → f i j ≡ Made r → marked w grain i j ≡ true
        unfolding Noted
        marked-here h = (rw here at (s.recalls h)).0

        -- the marks of the pairs after this one
        recalls-more : (m : List ℕ) → More w m → how.recalling ≡ true → Noted f grain (JobDefs.left job i (j + 1)) m
        unfolding Noted
        recalls-more m more h = noted_more f grain (JobDefs.left job i (j + 1)) w m more (rw here at (s.recalls h)).1

        -- if this pair has its mark where it makes a row
        notes-more : (m : List ℕ) → More w m → (how.noting ≡ true → (r : Row) → f i j ≡ Made r → marked m grain i j ≡ true)
            → how.noting ≡ true → (more : List ℕ) → More m more → Noted f grain (JobDefs.left job i (j + 1)) more
            → Noted f grain (JobDefs.left job part.i part.j) more
        unfolding Noted
        notes-more m grows own h last on rest =
            s.notes h last (λ k t. on k (grows k t)) (rw here ((λ r e. on (mark_of grain i j) (own h r e)), rest))

        pairs : take budget (JobDefs.left job i j) ≡ record { i = i; j = j } ∷ take less (JobDefs.left job i (j + 1))
        pairs =
            ap (λ (b : ℕ). take b (JobDefs.left job i j)) one ∙ ap (take (suc less)) here

        both : KeptFor second kept job.epsilon (record { i = i; j = j } ∷ take less (JobDefs.left job i (j + 1)))
        both = rw pairs at s.keeps

        pub kept_here : KeptOf second kept job.epsilon j
        unfolding KeptFor
        kept_here = both.0

        keeps-more : KeptFor second kept job.epsilon (take less (JobDefs.left job i (j + 1)))
        unfolding KeptFor
        keeps-more = both.1

        -- to the next pair, with the same rows
        on : {looked' : ℕ} → ((r : Row) → f i j ≡ Made r → ⊥)
            → Left part all (page f (JobDefs.left job i (j + 1)) (part.room - rows) less)
            rows (part.budget - budget + 1) looked' i₀ l p₀ p
            → State first second kept job grain how part i₀ p₀ i (j + 1) rows less looked' l p w
        on {looked'} none h =
            let more : part.budget - budget + 1 ≡ part.budget - less = omega (arith, one, s.allowed) in
            record {
              left = rw more at h;
              keeps = keeps-more;
              allowed = omega (arith, one, s.allowed);
              fits = s.fits;
              within = s.within;
              indices = s.indices;
              points = s.points;
              notes = notes-more w (λ k t. t) (λ g r e. absurd (none r e));
              recalls = recalls-more w (λ k t. t);
            }

        pub skips : f i j ≡ Skipped → State first second kept job grain how part i₀ p₀ i (j + 1) rows less looked l p w
        skips e =
            on (λ r d. absurd (skipped-or-made (sym e ∙ d)))
            (filling.skips f job part all i₀ p₀ i j rows budget _ looked l p inside below less one s.left e)

        pub looks : f i j ≡ Nothing → State first second kept job grain how part i₀ p₀ i (j + 1) rows less (looked + 1) l p w
        looks e =
            on (λ r d. absurd (nothing-or-made (sym e ∙ d)))
            (filling.looks f job part all i₀ p₀ i j rows budget _ looked l p inside below less one s.left e)

        module _ (r : Row) (e : f i j ≡ Made r) where
          pub makes : rows < part.room → (m : List ℕ) → More w m → (how.noting ≡ true → marked m grain i j ≡ true)
              → State first second kept job grain how part i₀ p₀ i (j + 1) (rows + 1) less (looked + 1)
              (put_indices part.write l rows r) (put_points part.write p rows r) m
          makes fits m more own =
              let spends : part.budget - budget + 1 ≡ part.budget - less = omega (arith, one, s.allowed) in
              record {
                left =
                    rw spends at
                    (filling.makes f job part all i₀ p₀ i j rows budget _ looked l p inside below less one s.left r e fits);
                keeps = keeps-more;
                allowed = omega (arith, one, s.allowed);
                fits = omega (arith, fits);
                within = s.within;
                indices =
                    length-sets l (rows * indices_a_row) (numbers_of_rows indices_of (written part.write (r ∷ []))) ∙ s.indices;
                points = length-sets p (rows * points_a_row) (numbers_of_rows points_of (written part.write (r ∷ []))) ∙ s.points;
                notes = notes-more m more (λ h q d. own h);
                recalls = recalls-more m more;
              }

          pub stops : part.room ≤ rows → Stops f job part all i₀ p₀ i j false rows (part.budget - budget) looked l p
          stops full =
              filling.stops f job part all i₀ p₀ i j rows budget _ looked l p inside below less one s.left r e full

-- ---- over pairs that make no row: from j up to k
module _ {first second kept : List Float} {job : Job} {grain : Grain} {how : How} {part : Part} {i₀ : List ℕ} {p₀ : List Float}
    {i rows : ℕ} {l : List ℕ} {p : List Float} {w : List ℕ} (inside : i < job.n) where
  -- which adds so many to the pairs looked at for each
  module _ (what : Look) (each : ℕ)
      (step : (j budget looked : ℕ) → State first second kept job grain how part i₀ p₀ i j rows budget looked l p w
      → j < JobDefs.to job i → (less : ℕ) → budget ≡ suc less → look_by first second job i j ≡ what
      → State first second kept job grain how part i₀ p₀ i (j + 1) rows less (looked + each) l p w) where
    over : (count j budget looked : ℕ) → State first second kept job grain how part i₀ p₀ i j rows budget looked l p w
        → j + count ≤ JobDefs.to job i → count ≤ budget
        → ((h : ℕ) → j ≤ h → h < j + count → look_by first second job i h ≡ what)
        → State first second kept job grain how part i₀ p₀ i (j + count) rows (budget - count) (looked + count * each) l p w
    over zero j budget looked s high allowed none =
        let here : j + 0 ≡ j = omega arith in
        let all : budget - 0 ≡ budget = omega arith in
        let same : looked + 0 * each ≡ looked = omega arith in
        rw (here, all, same) s
    over (suc count) j budget looked s high allowed none =
        let one : budget ≡ suc (budget - 1) = omega (arith, allowed) in
        let next = step j budget looked s (omega (arith, high)) (budget - 1) one (none j (omega arith) (omega arith)) in
        let rest = over count (j + 1) (budget - 1) (looked + each) next (omega (arith, high)) (omega (arith, allowed))
        (λ h a b. none h (omega (arith, a)) (omega (arith, b))) in
        let here : j + suc count ≡ j + 1 + count = omega arith in
        let left : budget - suc count ≡ budget - 1 - count = omega arith in
        let sum : looked + suc count * each ≡ looked + each + count * each = omega arith in
        rw (here, left, sum) rest

  module _ {looked : ℕ} (j k budget : ℕ) (s : State first second kept job grain how part i₀ p₀ i j rows budget looked l p w)
      (on : j ≤ k) (high : k ≤ JobDefs.to job i) (allowed : k - j ≤ budget) where
    there : j + (k - j) ≡ k
    there = omega (arith, on)

    pub skips-over : ((h : ℕ) → j ≤ h → h < k → look_by first second job i h ≡ Skipped)
        → State first second kept job grain how part i₀ p₀ i k rows (budget - (k - j)) looked l p w
    skips-over none =
        let r = over Skipped 0 step (k - j) j budget looked s (omega (arith, high, there)) allowed
        (λ h a b. none h a (omega (arith, b, there))) in
        let same : looked + (k - j) * 0 ≡ looked = omega arith in
        rw same at (rw there at r)
      where
        step : (a b c : ℕ) → State first second kept job grain how part i₀ p₀ i a rows b c l p w → a < JobDefs.to job i
            → (less : ℕ) → b ≡ suc less → look_by first second job i a ≡ Skipped
            → State first second kept job grain how part i₀ p₀ i (a + 1) rows less (c + 0) l p w
        step a b c t below less one e =
            let same : c + 0 ≡ c = omega arith in
            rw same (skips t inside below less one e)

    pub looks-over : ((h : ℕ) → j ≤ h → h < k → look_by first second job i h ≡ Nothing)
        → State first second kept job grain how part i₀ p₀ i k rows (budget - (k - j)) (looked + (k - j)) l p w
    looks-over none =
        let r = over Nothing 1 step (k - j) j budget looked s (omega (arith, high, there)) allowed
        (λ h a b. none h a (omega (arith, b, there))) in
        let same : looked + (k - j) * 1 ≡ looked + (k - j) = omega arith in
        rw same at (rw there at r)
      where
        step : (a b c : ℕ) → State first second kept job grain how part i₀ p₀ i a rows b c l p w → a < JobDefs.to job i
            → (less : ℕ) → b ≡ suc less → look_by first second job i a ≡ Nothing
            → State first second kept job grain how part i₀ p₀ i (a + 1) rows less (c + 1) l p w
        step a b c t below less one e = looks t inside below less one e

-- ---- what is known of the pairs of a run: what is kept of their segments, and their marks
module _ (first second kept : List Float) (job : Job) (i : ℕ) (inside : i < job.n) where
  pub kept-along : (count j budget : ℕ) → KeptFor second kept job.epsilon (take budget (JobDefs.left job i j))
      → j + count ≤ JobDefs.to job i → count ≤ budget
      → (k : ℕ) → j ≤ k → k < j + count → KeptOf second kept job.epsilon k
  unfolding KeptFor
  kept-along zero j budget s high allowed k low below = absurd (omega (arith, low, below))
  kept-along (suc count) j zero s high allowed k low below = absurd (omega (arith, allowed))
  kept-along (suc count) j (suc budget) s high allowed k low below =
      let here : JobDefs.left job i j ≡ record { i = i; j = j } ∷ JobDefs.left job i (j + 1) =
      left-pair (JobDefs.from job) (JobDefs.to job) job.n i j inside (omega (arith, high)) in
      let both = rw here at s in
      go (eq-or-lt_of_le low) both.0
      (λ (h : j < k). kept-along count (j + 1) budget both.1 (omega (arith, high)) (omega (arith, allowed)) k
      (omega (arith, h)) (omega (arith, below)))
    where
      go : (j ≡ k) ⊎ (j < k) → KeptOf second kept job.epsilon j → (j < k → KeptOf second kept job.epsilon k)
          → KeptOf second kept job.epsilon k
      go (inl e) h rest = rw (sym e) h
      go (inr h) own rest = rest h

  pub marked-along : (grain : Grain) (w : List ℕ) (count j : ℕ)
      → Noted (look_by first second job) grain (JobDefs.left job i j) w → j + count ≤ JobDefs.to job i
      → (k : ℕ) → j ≤ k → k < j + count → (r : Row) → look_by first second job i k ≡ Made r → marked w grain i k ≡ true
  unfolding Noted
  marked-along grain w zero j s high k low below = absurd (omega (arith, low, below))
  marked-along grain w (suc count) j s high k low below =
      let here : JobDefs.left job i j ≡ record { i = i; j = j } ∷ JobDefs.left job i (j + 1) =
      left-pair (JobDefs.from job) (JobDefs.to job) job.n i j inside (omega (arith, high)) in
      let both = rw here at s in
      go (eq-or-lt_of_le low) both.0
      (λ (h : j < k). marked-along grain w count (j + 1) both.1 (omega (arith, high)) k (omega (arith, h))
      (omega (arith, below)))
    where
      go : (j ≡ k) ⊎ (j < k) → ((r : Row) → look_by first second job i j ≡ Made r → marked w grain i j ≡ true)
          → (j < k → (r : Row) → look_by first second job i k ≡ Made r → marked w grain i k ≡ true)
          → (r : Row) → look_by first second job i k ≡ Made r → marked w grain i k ≡ true
      go (inl e) h rest = rw (sym e) h
      go (inr h) own rest = rest h
