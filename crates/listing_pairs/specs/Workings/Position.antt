-- How many pairs there are, and where the pair stands before which there are a given number of others. Nothing is divided, and no
-- sum is worked out at once: the pairs of each i are counted, one i after the other.
use Rattle.std.specs.Prelude.{◌≡◌, refl, Bool, true, false, cond, List, ◌++◌, ℕ, zero, suc, ◌+◌, ◌-◌, ◌*◌, ◌≤◌, ◌<◌, ltb, length, drop}
use Rattle.std.proofs.Common.{sym, ap, ◌∙◌, zero-add, add-one, arith, lt-ltb, le-ltb, ltb-true, ltb-false, length-append}
use Rattle.std.proofs.Math.Seq.{drop-nil, drop-append-add}
use Rattle.std.proofs.lemmas.List.{drop-append-le}
use Rattle.paths.specs.Path.{most_segments}
use Rattle.listing_pairs.specs.declared.order.Job.{Job}
use Rattle.listing_pairs.specs.declared.order.Spot.{Spot}
use Rattle.listing_pairs.specs.Order.{Pair, along, pairs_from}
use Rattle.listing_pairs.specs.Laws.Order.{along-length}
use Rattle.listing_pairs.specs.Workings.Job as JobDefs

drop-along : (i j count k : ℕ) → drop k (along i j count) ≡ along i (j + k) (count - k)
drop-along i j count zero =
    let e : j ≡ j + 0 = omega arith in
    let f : count ≡ count - 0 = omega arith in
    ap (λ (h : ℕ). along i h count) e ∙ ap (along i (j + 0)) f
drop-along i j zero (suc k) = let e : 0 ≡ 0 - suc k = omega arith in ap (along i (j + suc k)) e
drop-along i j (suc count) (suc k) =
    let e : suc j + k ≡ j + suc k = omega arith in
    let f : count - k ≡ suc count - suc k = omega arith in
    drop-along i (suc j) count k ∙ ap (λ (h : ℕ). along i h (count - k)) e ∙ ap (along i (j + suc k)) f

module _ (from to : ℕ → ℕ) where
  -- how many pairs i has
  abbrev pub pairs_at : ℕ → ℕ
  pairs_at i = to i - from i

  -- how many pairs i, i + 1, .. have, `count` of them
  abbrev pub count_from : ℕ → ℕ → ℕ
  count_from i zero = 0
  count_from i (suc count) = pairs_at i + count_from (suc i) count

  -- the place of the pair before which there are `position` others, of those that i, i + 1, .. have, `count` of them
  abbrev pub locate_from : ℕ → ℕ → ℕ → Spot
  locate_from i zero position = record { i = i; j = from i }
  locate_from i (suc count) position =
      cond (ltb position (pairs_at i)) (record { i = i; j = from i + position })
      (locate_from (suc i) count (position - pairs_at i))

  pub count-length : (i count : ℕ) → length (pairs_from from to i (from i) count) ≡ count_from i count
  count-length i zero = refl
  count-length i (suc count) =
      omega (
        arith,
        length-append (along i (from i) (to i - from i)) (pairs_from from to (suc i) (from (suc i)) count),
        along-length i (from i) (to i - from i),
        count-length (suc i) count,
      )

  -- ---- what is left from there on is what is left without the first `position` pairs
  pub locate-left : (i count position : ℕ)
      → (let s = locate_from i count position in
      pairs_from from to s.i s.j (i + count - s.i) ≡ drop position (pairs_from from to i (from i) count))
  locate-left i zero position =
      let e : i + 0 - i ≡ 0 = omega arith in ap (pairs_from from to i (from i)) e ∙ sym (drop-nil position)
  locate-left i (suc count) position =
      go (ltb position (pairs_at i)) refl (locate-left (suc i) count (position - pairs_at i))
    where
      these : List Pair
      these = along i (from i) (to i - from i)

      rest : List Pair
      rest = pairs_from from to (suc i) (from (suc i)) count

      go : (b : Bool) → ltb position (pairs_at i) ≡ b
          → (let s = locate_from (suc i) count (position - pairs_at i) in
          pairs_from from to s.i s.j (suc i + count - s.i) ≡ drop (position - pairs_at i) rest)
          → (let s = cond b (record { i = i; j = from i + position }) (locate_from (suc i) count (position - pairs_at i)) in
          pairs_from from to s.i s.j (i + suc count - s.i) ≡ drop position (these ++ rest))
      go true b later =
          let below = ltb-true position (pairs_at i) b in
          let long = along-length i (from i) (to i - from i) in
          let room : position ≤ length these = omega (arith, below, long) in
          let e : i + suc count - i ≡ suc count = omega arith in
          let f : to i - (from i + position) ≡ to i - from i - position = omega arith in
          ap (pairs_from from to i (from i + position)) e
          ∙ ap (λ (k : ℕ). along i (from i + position) k ++ rest) f
          ∙ ap (λ (l : List Pair). l ++ rest) (sym (drop-along i (from i) (to i - from i) position))
          ∙ sym (drop-append-le position these rest room)
      go false b later =
          let s = locate_from (suc i) count (position - pairs_at i) in
          let beyond = ltb-false position (pairs_at i) b in
          let long = along-length i (from i) (to i - from i) in
          let e : i + suc count - s.i ≡ suc i + count - s.i = omega arith in
          let f : length these + (position - pairs_at i) ≡ position = omega (arith, beyond, long) in
          ap (pairs_from from to s.i s.j) e
          ∙ later
          ∙ sym (drop-append-add these rest (position - pairs_at i))
          ∙ ap (λ (k : ℕ). drop k (these ++ rest)) f

  pub locate-within : (i count position : ℕ)
      → (let s = locate_from i count position in (i ≤ s.i) × (s.i ≤ i + count))
  locate-within i zero position = (omega arith, omega arith)
  locate-within i (suc count) position = go (ltb position (pairs_at i)) (locate-within (suc i) count (position - pairs_at i))
    where
      go : (b : Bool)
          → (let s = locate_from (suc i) count (position - pairs_at i) in (suc i ≤ s.i) × (s.i ≤ suc i + count))
          → (let s = cond b (record { i = i; j = from i + position }) (locate_from (suc i) count (position - pairs_at i)) in
          (i ≤ s.i) × (s.i ≤ i + suc count))
      go true later = (omega arith, omega arith)
      go false later =
          let h = later.0 in
          let l = later.1 in
          (omega (arith, h), omega (arith, l))

  -- ---- one i more
  count-step : (n i : ℕ) → i < n → count_from i (n - i) ≡ pairs_at i + count_from (i + 1) (n - (i + 1))
  count-step n i below =
      let e : n - i ≡ suc (n - (i + 1)) = omega (arith, below) in
      ap (count_from i) e ∙ ap (λ (k : ℕ). pairs_at i + count_from k (n - (i + 1))) (sym (add-one i))

  locate-step : (n i rest here : ℕ) → i < n → here ≡ pairs_at i
      → locate_from i (n - i) rest
      ≡ cond (ltb rest here) (record { i = i; j = from i + rest }) (locate_from (i + 1) (n - (i + 1)) (rest - here))
  locate-step n i rest here below is =
      let e : n - i ≡ suc (n - (i + 1)) = omega (arith, below) in
      ap (λ (k : ℕ). locate_from i k rest) e
      ∙ ap (λ (k : ℕ). cond (ltb rest k) (record { i = i; j = from i + rest }) (locate_from (suc i) (n - (i + 1)) (rest - k)))
      (sym is)
      ∙ ap (λ (k : ℕ). cond (ltb rest here) (record { i = i; j = from i + rest })
      (locate_from k (n - (i + 1)) (rest - here))) (sym (add-one i))

-- ---- the pairs of a job
unfoldable pub count : Job → ℕ
count job = count_from (JobDefs.from job) (JobDefs.to job) 0 job.n

-- the place of the pair before which there are `position` others, and the end if there are no more
unfoldable pub locate : Job → ℕ → Spot
locate job position = locate_from (JobDefs.from job) (JobDefs.to job) 0 job.n position

pub every-length : (job : Job) → length (JobDefs.every job) ≡ count job
unfolding count
every-length job = count-length (JobDefs.from job) (JobDefs.to job) 0 job.n

pub located : (job : Job) (position : ℕ)
    → (let s = locate job position in JobDefs.left job s.i s.j ≡ drop position (JobDefs.every job))
unfolding locate
located job position =
    let s = locate job position in
    ap (λ (k : ℕ). pairs_from (JobDefs.from job) (JobDefs.to job) s.i s.j (k - s.i)) (sym (zero-add job.n))
    ∙ locate-left (JobDefs.from job) (JobDefs.to job) 0 job.n position

pub located-within : (job : Job) (position : ℕ) → (locate job position).i ≤ job.n
unfolding locate
located-within job position =
    let h = (locate-within (JobDefs.from job) (JobDefs.to job) 0 job.n position).1 in omega (arith, h)

-- ---- the loop that counts: `sum` pairs before those of i
pub record Counting (job : Job) (sum i : ℕ) : Type 0 where
  pub with_rest : sum + count_from (JobDefs.from job) (JobDefs.to job) i (job.n - i) ≡ count job
  pub few : sum ≤ i * most_segments
  pub within : i ≤ job.n

pub counting-starts : (job : Job) → Counting job 0 0
unfolding count
counting-starts job =
    let e : job.n - 0 ≡ job.n = omega arith in
    let f = ap (count_from (JobDefs.from job) (JobDefs.to job) 0) e in
    record { with_rest = omega (arith, f); few = omega arith; within = omega arith }

module _ {job : Job} {sum i : ℕ} (here : ℕ) (so_far : Counting job sum i) (below : i < job.n)
    (is : here ≡ JobDefs.to job i - JobDefs.from job i) (m-few : job.m ≤ most_segments) where
  pub counting-few : job.n ≤ most_segments → sum + here ≤ most_segments * most_segments
  counting-few n-few = omega (arith, is, JobDefs.to-within job i, m-few, n-few, below, so_far.few)

  pub counting-turn : Counting job (sum + here) (i + 1)
  counting-turn =
      let e = count-step (JobDefs.from job) (JobDefs.to job) job.n i below in
      record {
        with_rest = omega (arith, e, is, so_far.with_rest);
        few = omega (arith, is, JobDefs.to-within job i, m-few, so_far.few);
        within = omega (arith, below);
      }

pub counting-ends : {job : Job} {sum i : ℕ} → Counting job sum i → job.n ≤ i → sum ≡ count job
counting-ends {job} {sum} {i} so_far beyond =
    let e : job.n - i ≡ 0 = omega (arith, beyond) in
    let f = ap (count_from (JobDefs.from job) (JobDefs.to job) i) e in
    omega (arith, f, so_far.with_rest)

-- ---- the loop that locates: `rest` of the pairs before the place are still to be counted, from those of i on
pub record Locating (job : Job) (position rest i : ℕ) : Type 0 where
  pub same : locate_from (JobDefs.from job) (JobDefs.to job) i (job.n - i) rest ≡ locate job position
  pub within : i ≤ job.n

pub locating-starts : (job : Job) (position : ℕ) → Locating job position position 0
unfolding locate
locating-starts job position =
    let e : job.n - 0 ≡ job.n = omega arith in
    record {
      same = ap (λ (k : ℕ). locate_from (JobDefs.from job) (JobDefs.to job) 0 k position) e;
      within = omega arith;
    }

module _ {job : Job} {position rest i : ℕ} (here : ℕ) (so_far : Locating job position rest i) (below : i < job.n)
    (is : here ≡ JobDefs.to job i - JobDefs.from job i) where
  abbrev branch : Bool → Spot
  branch b =
      cond b (record { i = i; j = JobDefs.from job i + rest })
      (locate_from (JobDefs.from job) (JobDefs.to job) (i + 1) (job.n - (i + 1)) (rest - here))

  branched : branch (ltb rest here) ≡ locate job position
  branched = sym (locate-step (JobDefs.from job) (JobDefs.to job) job.n i rest here below is) ∙ so_far.same

  module _ (j : ℕ) (start : j ≡ JobDefs.from job i) (inside : rest < here) where
    pub locating-few : j + rest < job.m
    locating-few = omega (arith, inside, is, start, JobDefs.to-within job i)

    pub locating-here : record { i = i; j = j + rest } ≡ locate job position
    locating-here =
        ap (λ (k : ℕ). record { i = i; j = k + rest }) start ∙ ap branch (sym (lt-ltb rest here inside)) ∙ branched

  pub locating-turn : here ≤ rest → Locating job position (rest - here) (i + 1)
  locating-turn beyond =
      record { same = ap branch (sym (le-ltb rest here beyond)) ∙ branched; within = omega (arith, below) }

pub locating-ends : {job : Job} {position rest i : ℕ} (j : ℕ) → Locating job position rest i → job.n ≤ i
    → j ≡ JobDefs.from job i → record { i = i; j = j } ≡ locate job position
locating-ends {job} {position} {rest} {i} j so_far beyond start =
    let e : job.n - i ≡ 0 = omega (arith, beyond) in
    ap (λ (k : ℕ). record { i = i; j = k }) start
    ∙ sym (ap (λ (k : ℕ). locate_from (JobDefs.from job) (JobDefs.to job) i k rest) e) ∙ so_far.same
