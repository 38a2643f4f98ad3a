-- What is kept for the pairs that a listing looks at: the second segments of its first `budget` pairs from (i, j) on.
use Rattle.std.specs.Prelude.{◌≡◌, Bool, true, false, cond, ◌||◌, ◌⊎◌, leb, Float, length, take}
use Rattle.std.proofs.Math.Path.{refl}
use Rattle.std.proofs.Common.{sym, ap, subst, ◌∙◌, true≢false, inl, inr, le_refl, add-one, arith, le-leb, leb-false}
use mathlib.Core.List.{List, [], ◌∷◌, ◌++◌}
use Prim.Native.Nat.{ℕ, zero, suc, ◌+◌, ◌-◌, ◌*◌, ◌≤◌, ◌<◌, min}
use Rattle.std.proofs.lemmas.Bool.{lt-leb}
use Rattle.std.proofs.lemmas.List.{take-append-le}
use Rattle.std.proofs.Math.Seq.{take-append-add}
use Rattle.paths.specs.Path.{most_segments}
use Rattle.listing_pairs.specs.declared.order.Job.{Job}
use Rattle.listing_pairs.specs.Order.{Pair, along, pairs_from}
use Rattle.listing_pairs.specs.Laws.Order.{lt-or-le, along-length, left_end}
use Rattle.listing_pairs.specs.Workings.Job as JobDefs
use Rattle.listing_pairs.specs.Workings.Ready as paths
use Rattle.listing_pairs.specs.Workings.Keeping.{
  floats_before,
  keep,
  keep-length,
  KeptOf,
  KeptFor,
  Ready,
  AllReady,
  AllKept,
  floats_boxed,
  keep_boxes,
  BoxesKept,
  no-boxes,
  kept-inside,
  kept-still,
  boxes-grouped,
  boxes-are,
  still_kept,
  keep-tracked,
  still-tracked,
}
use Rattle.listing_pairs.specs.Workings.Tracks.{Tracked}

module _ (second kept : List Float) (epsilon : Float) where
  abbrev Kept : ℕ → Type 0
  Kept h = KeptOf second kept epsilon h

  abbrev Each : List Pair → Type 0
  Each ps = KeptFor second kept epsilon ps

  none : Each []
  unfolding KeptFor
  none = tt

  each_append : (xs ys : List Pair) → Each xs → Each ys → Each (xs ++ ys)
  unfolding KeptFor
  each_append [] ys h l = l
  each_append (x ∷ xs) ys h l = (h.0, each_append xs ys h.1 l)

  each_take : (n : ℕ) (xs : List Pair) → Each xs → Each (take n xs)
  unfolding KeptFor
  each_take zero xs h = tt
  each_take (suc n) [] h = tt
  each_take (suc n) (x ∷ xs) h = (h.0, each_take n xs h.1)

  each-along : (i j count : ℕ) → ((h : ℕ) → j ≤ h → h < j + count → Kept h) → Each (along i j count)
  unfolding KeptFor
  each-along i j zero all = tt
  each-along i j (suc count) all = (
    all j (omega arith) (omega arith),
    each-along i (suc j) count (λ h a b. all h (omega (arith, a)) (omega (arith, b))),
  )

  -- all pairs have indices from `low` on and below m
  module _ (from to : ℕ → ℕ) (m low : ℕ) (rises : (i : ℕ) → from i ≤ from (suc i)) (within : (i : ℕ) → to i ≤ m)
      (all : (h : ℕ) → low ≤ h → h < m → Kept h) where
    each-above : (i j count : ℕ) → low ≤ j → low ≤ from (suc i) → Each (pairs_from from to i j count)
    each-above i j zero a b = none
    each-above i j (suc count) a b =
        each_append (along i j (to i - j)) (pairs_from from to (suc i) (from (suc i)) count)
        (each-along i j (to i - j) (λ h c d. all h (omega (arith, a, c)) (omega (arith, within i, c, d))))
        (each-above (suc i) (from (suc i)) count b (omega (arith, b, rises (suc i))))

  -- if every segment's numbers are kept, so are those for any of the pairs
  pub all-kept : (job : Job) → ((h : ℕ) → h < job.m → KeptOf second kept epsilon h) → (i j budget : ℕ)
      → KeptFor second kept epsilon (take budget (JobDefs.left job i j))
  all-kept job all i j budget =
      each_take budget (JobDefs.left job i j)
      (each-above (JobDefs.from job) (JobDefs.to job) job.m 0 (JobDefs.from-rises job) (JobDefs.to-within job)
      (λ h a b. all h b) i j (job.n - i) (omega arith) (omega arith))

pub all-ready : {first second kept : List Float} {job : Job} → AllReady first second kept job → (i j budget : ℕ)
    → Ready first second kept job i j budget
all-ready {first} {second} {kept} {job} h i j budget =
    record {
      pairs = h.pairs;
      keeps = all-kept second kept job.epsilon job h.keeps i j budget;
      boxes = h.boxes;
      tracks = h.tracks;
    }

-- so after all of them were stored
pub kept-ready : (first second l kept : List Float) (job : Job) → paths.Ready first second job → job.boxed ≡ false
    → floats_before job.m ≤ length l → Tracked second l job.m → kept ≡ keep second 0 job.m job.epsilon l
    → AllReady first second kept job
kept-ready first second l kept job ready plain room tracks e =
    record {
      pairs = ready;
      keeps = λ j b. rw e (kept-inside second l 0 job.m job.epsilon room j (omega arith) b);
      boxes = no-boxes plain;
      tracks = rw e (keep-tracked second l 0 job.m job.m job.epsilon (le_refl job.m) tracks);
    }

-- and after the boxes were stored behind them
module _ (first second l front : List Float) (job : Job) (ready : paths.Ready first second job)
    (room : floats_boxed job.m ≤ length l) (tracks : Tracked second l job.m)
    (e : front ≡ keep second 0 job.m job.epsilon l) where
  long : length front ≡ length l
  long = ap length e ∙ keep-length second 0 (job.m - 0) job.epsilon l

  pub front-room : floats_boxed job.m ≤ length front
  front-room = omega (arith, room, long)

  pub front_kept : AllKept second front job.epsilon job.m
  front_kept j b =
      rw e
      (kept-inside second l 0 job.m job.epsilon (omega (arith, room)) j (omega arith) b)

  front-tracked : Tracked second front job.m
  front-tracked = rw e (keep-tracked second l 0 job.m job.m job.epsilon (le_refl job.m) tracks)

  module _ (kept : List Float) (f : kept ≡ keep_boxes second job.m job.epsilon front) where
    pub boxes-kept : BoxesKept second kept job
    boxes-kept =
        rw f
        (record {
          grouped = boxes-grouped second front job.epsilon job.m front-room;
          is = boxes-are second front job.epsilon job.m front-room;
        })

    pub boxes-ready : AllReady first second kept job
    boxes-ready =
        record {
          pairs = ready;
          keeps = rw f (still_kept second front job.epsilon job.m front-room front_kept);
          boxes = λ t. boxes-kept;
          tracks = rw f (still-tracked second front job.epsilon job.m front-room front-tracked);
        }

-- ---- of the segments that the first `budget` pairs from (i, j) on can reach
-- the larger of two
abbrev pub greater : ℕ → ℕ → ℕ
greater a b = b + (a - b)

-- the end of the indices of `rest` pairs that start at index `low`: low + rest, and m at most
abbrev pub high_of : ℕ → ℕ → ℕ → ℕ
high_of m low rest = m - (m - low - rest)

-- i has enough pairs, or is the last
abbrev pub is_here : Job → ℕ → ℕ → ℕ → Bool
is_here job i spent budget = leb budget spent || leb job.n (i + 1)

abbrev pub keep_here : List Float → Job → ℕ → ℕ → ℕ → List Float → List Float
keep_here second job i j budget l =
    let end = JobDefs.to job i in keep second j (end - (end - j - budget)) job.epsilon l

-- all pairs of i, and of those that follow
abbrev pub keep_beyond : List Float → Job → ℕ → ℕ → ℕ → List Float → List Float
keep_beyond second job i j budget l =
    let end = JobDefs.to job i in
    let low = JobDefs.from job (i + 1) in
    let high = high_of job.m low (budget - (end - j)) in
    keep second (greater j high) end job.epsilon (keep second (min j low) high job.epsilon l)

unfoldable pub keep_reached : List Float → Job → ℕ → ℕ → ℕ → List Float → List Float
keep_reached second job i j budget l =
    cond (leb job.n i) l
    (cond (is_here job i (JobDefs.to job i - j) budget) (keep_here second job i j budget l) (keep_beyond second job i j budget l))

module _ (second : List Float) (job : Job) (i j budget : ℕ) (l : List Float) where
  pub reached-none : job.n ≤ i → keep_reached second job i j budget l ≡ l
  unfolding keep_reached
  reached-none h = rw (le-leb job.n i h) refl

  pub reached-here : i < job.n → is_here job i (JobDefs.to job i - j) budget ≡ true
      → keep_reached second job i j budget l ≡ keep_here second job i j budget l
  unfolding keep_reached
  reached-here h b = rw (lt-leb job.n i h, b) refl

  pub reached-beyond : i < job.n → is_here job i (JobDefs.to job i - j) budget ≡ false
      → keep_reached second job i j budget l ≡ keep_beyond second job i j budget l
  unfolding keep_reached
  reached-beyond h b = rw (lt-leb job.n i h, b) refl

-- ---- these are all that the pairs need
lesser-first : (a b c : ℕ) → a ≤ c → min a b ≤ c
lesser-first a b c h = omega (arith, h)

lesser-second : (a b c : ℕ) → b ≤ c → min a b ≤ c
lesser-second a b c h = omega (arith, h)

greater-most : (a b c : ℕ) → a ≤ c → b ≤ c → greater a b ≤ c
greater-most a b c h l = omega (arith, h, l)

take-along : (i j count budget : ℕ) → budget ≤ count → take budget (along i j count) ≡ along i j budget
take-along i j count zero h = refl
take-along i j zero (suc budget) h = absurd (omega (arith, h))
take-along i j (suc count) (suc budget) h =
    ap (λ (l : List Pair). record { i = i; j = j } ∷ l) (take-along i (suc j) count budget (omega (arith, h)))

module _ (second kept : List Float) (epsilon : Float) (from to : ℕ → ℕ) where
  -- the first pairs of i
  here : (i j count budget : ℕ) → budget ≤ to i - j → ((h : ℕ) → j ≤ h → h < j + budget → KeptOf second kept epsilon h)
      → KeptFor second kept epsilon (take budget (pairs_from from to i j (suc count)))
  here i j count budget enough all =
      let these = along i j (to i - j) in
      let rest = pairs_from from to (suc i) (from (suc i)) count in
      let room : budget ≤ length these = omega (arith, enough, along-length i j (to i - j)) in
      rw (take-append-le budget these rest room, take-along i j (to i - j) budget enough)
      (each-along second kept epsilon i j budget all)

  -- all of them, and some of those that follow
  beyond : (i j count budget : ℕ) → to i - j ≤ budget → ((h : ℕ) → j ≤ h → h < to i → KeptOf second kept epsilon h)
      → KeptFor second kept epsilon (take (budget - (to i - j)) (pairs_from from to (suc i) (from (suc i)) count))
      → KeptFor second kept epsilon (take budget (pairs_from from to i j (suc count)))
  beyond i j count budget enough all later =
      let these = along i j (to i - j) in
      let rest = pairs_from from to (suc i) (from (suc i)) count in
      let e : budget ≡ length these + (budget - (to i - j)) = omega (arith, enough, along-length i j (to i - j)) in
      rw (ap (λ (n : ℕ). take n (these ++ rest)) e, take-append-add these rest (budget - (to i - j)))
      (each_append second kept epsilon these (take (budget - (to i - j)) rest)
      (each-along second kept epsilon i j (to i - j) (λ h a b. all h a (omega (arith, a, b))))
      later)

  -- the first pairs from i on, if i goes up to m: if it has not enough of them, they reach up to m
  from_start : (m : ℕ) → ((i : ℕ) → from i ≤ from (suc i)) → ((i : ℕ) → to i ≤ m) → (i count budget : ℕ) → to i ≡ m
      → ((h : ℕ) → from i ≤ h → h < high_of m (from i) budget → KeptOf second kept epsilon h)
      → KeptFor second kept epsilon (take budget (pairs_from from to i (from i) count))
  from_start m rises within i zero budget up all = each_take second kept epsilon budget [] (none second kept epsilon)
  from_start m rises within i (suc count) budget up all = go (lt-or-le (to i - from i) budget)
    where
      go : (to i - from i < budget) ⊎ (budget ≤ to i - from i)
          → KeptFor second kept epsilon (take budget (pairs_from from to i (from i) (suc count)))
      go (inr few) = here i (from i) count budget few (λ h a b. all h a (omega (arith, a, b, few, up)))
      go (inl many) =
          each_take second kept epsilon budget (pairs_from from to i (from i) (suc count))
          (each-above second kept epsilon from to m (from i) rises within (λ h a b. all h a (omega (arith, a, b, many, up)))
          i (from i) (suc count) (omega arith) (rises i))

module _ (second l : List Float) (job : Job) (room : floats_before job.m ≤ length l) (i j budget : ℕ) where
  abbrev Enough : List Float → Type 0
  Enough kept = KeptFor second kept job.epsilon (take budget (JobDefs.left job i j))

  enough-here : i < job.n → budget ≤ JobDefs.to job i - j → Enough (keep_here second job i j budget l)
  enough-here inside few =
      let e : job.n - i ≡ suc (job.n - suc i) = omega (arith, inside) in
      let end = JobDefs.to job i in
      let stop = end - (end - j - budget) in
      let up = JobDefs.to-within job i in
      let fits : floats_before stop ≤ length l = omega (arith, room, up) in
      rw e
      (here second (keep_here second job i j budget l) job.epsilon (JobDefs.from job) (JobDefs.to job) i j
      (job.n - suc i) budget few
      (λ h a b. kept-inside second l j stop job.epsilon fits h a (omega (arith, a, b, few))))

  enough-beyond : i < job.n → JobDefs.to job i - j < budget → Enough (keep_beyond second job i j budget l)
  enough-beyond inside many =
      let e : job.n - i ≡ suc (job.n - suc i) = omega (arith, inside) in
      rw e
      (beyond second kept job.epsilon (JobDefs.from job) (JobDefs.to job) i j (job.n - suc i) budget (omega (arith, many))
      first
      (from_start second kept job.epsilon (JobDefs.from job) (JobDefs.to job) job.m (JobDefs.from-rises job)
      (JobDefs.to-within job) (suc i) (job.n - suc i) (budget - (end - j)) (JobDefs.to-all job i) later))
    where
      end : ℕ
      end = JobDefs.to job i

      low : ℕ
      low = JobDefs.from job (i + 1)

      high : ℕ
      high = high_of job.m low (budget - (end - j))

      once : List Float
      once = keep second (min j low) high job.epsilon l

      kept : List Float
      kept = keep_beyond second job i j budget l

      high-room : floats_before high ≤ length l
      high-room = omega (arith, room)

      end-room : floats_before end ≤ length once
      end-room =
          omega (arith, room, JobDefs.to-within job i, keep-length second (min j low) (high - min j low) job.epsilon l)

      below : (h : ℕ) → min j low ≤ h → h < high → KeptOf second kept job.epsilon h
      below h a b =
          kept-still second once (greater j high) end job.epsilon end-room h
          (kept-inside second l (min j low) high job.epsilon high-room h a b)

      first : (h : ℕ) → j ≤ h → h < end → KeptOf second kept job.epsilon h
      first h a b = go (lt-or-le h high)
        where
          go : (h < high) ⊎ (high ≤ h) → KeptOf second kept job.epsilon h
          go (inl c) = below h (lesser-first j low h a) c
          go (inr c) = kept-inside second once (greater j high) end job.epsilon end-room h (greater-most j high h a c) b

      later : (h : ℕ) → JobDefs.from job (suc i) ≤ h → h < high_of job.m (JobDefs.from job (suc i)) (budget - (end - j))
          → KeptOf second kept job.epsilon h
      later h a b =
          let e : JobDefs.from job (suc i) ≡ low = ap (JobDefs.from job) (sym (add-one i)) in
          below h (lesser-second j low h (subst (λ (k : ℕ). k ≤ h) e a))
          (subst (λ (k : ℕ). h < high_of job.m k (budget - (end - j))) e b)

  -- no pairs follow those of i
  enough-last : i < job.n → job.n ≤ i + 1 → JobDefs.to job i - j < budget → Enough (keep_here second job i j budget l)
  enough-last inside last many =
      let e : job.n - i ≡ 1 = omega (arith, inside, last) in
      let end = JobDefs.to job i in
      let kept = keep_here second job i j budget l in
      let stop = end - (end - j - budget) in
      let up = JobDefs.to-within job i in
      let fits : floats_before stop ≤ length l = omega (arith, room, up) in
      rw e
      (each_take second kept job.epsilon budget (along i j (end - j) ++ [])
      (each_append second kept job.epsilon (along i j (end - j)) []
      (each-along second kept job.epsilon i j (end - j)
      (λ h a b. kept-inside second l j stop job.epsilon fits h a (omega (arith, a, b, many))))
      (none second kept job.epsilon)))

  pub reached-kept : KeptFor second (keep_reached second job i j budget l) job.epsilon (take budget (JobDefs.left job i j))
  reached-kept = go (lt-or-le i job.n) (lt-or-le (JobDefs.to job i - j) budget) (lt-or-le (i + 1) job.n)
    where
      spent : ℕ
      spent = JobDefs.to job i - j

      go : (i < job.n) ⊎ (job.n ≤ i) → (spent < budget) ⊎ (budget ≤ spent) → (i + 1 < job.n) ⊎ (job.n ≤ i + 1)
          → Enough (keep_reached second job i j budget l)
      go (inl inside) (inl many) (inl more) =
          let test : is_here job i spent budget ≡ false =
          rw (lt-leb budget spent many, lt-leb job.n (i + 1) more) refl in
          rw (reached-beyond second job i j budget l inside test) (enough-beyond inside many)
      go (inl inside) (inl many) (inr last) =
          let test : is_here job i spent budget ≡ true =
          rw (lt-leb budget spent many, le-leb job.n (i + 1) last) refl in
          rw (reached-here second job i j budget l inside test) (enough-last inside last many)
      go (inl inside) (inr few) some =
          let test : is_here job i spent budget ≡ true = rw (le-leb budget spent few) refl in
          rw (reached-here second job i j budget l inside test) (enough-here inside few)
      go (inr done) some other =
          rw (left_end (JobDefs.from job) (JobDefs.to job) job.n i j done)
          (each_take second (keep_reached second job i j budget l) job.epsilon budget []
          (none second (keep_reached second job i j budget l) job.epsilon))

-- ---- the code's steps
-- a range that ends at s may be stored
pub may-keep : {s m vertices room : ℕ} → s ≤ m → m ≤ vertices → m ≤ most_segments → floats_before m ≤ room
    → (s ≤ vertices) × ((s ≤ most_segments) × (floats_before s ≤ room))
may-keep up a b c = (omega (arith, up, a), (omega (arith, up, b), omega (arith, up, c)))

-- the budget is more than i has
pub not-here : (job : Job) (i spent budget : ℕ) → is_here job i spent budget ≡ false → spent ≤ budget
not-here job i spent budget test = go (leb budget spent) refl test
  where
    go : (b : Bool) → leb budget spent ≡ b → (b || leb job.n (i + 1)) ≡ false → spent ≤ budget
    go true e f = absurd (true≢false f)
    go false e f = let h = leb-false budget spent e in omega (arith, h)

pub less-most : {a m : ℕ} (b : ℕ) → a ≤ m → a - b ≤ m
less-most b h = omega (arith, h)

pub room-left : (second l : List Float) (from to m : ℕ) (epsilon : Float) {now : List Float}
    → now ≡ keep second from to epsilon l → floats_before m ≤ length l → floats_before m ≤ length now
room-left second l from to m epsilon {now} e room =
    let long = ap length e ∙ keep-length second from (to - from) epsilon l in omega (arith, room, long)

module _ (second : List Float) (job : Job) (i j budget : ℕ) (l : List Float) {end spent : ℕ} (inside : i < job.n)
    (end_is : end ≡ JobDefs.to job i) (spent-is : spent ≡ end - j) where
  counted : spent ≡ JobDefs.to job i - j
  counted = spent-is ∙ ap (λ (n : ℕ). n - j) end_is

  pub stored_here : {now : List Float} {over : ℕ} → is_here job i spent budget ≡ true → over ≡ spent - budget
      → now ≡ keep second j (end - over) job.epsilon l → now ≡ keep_reached second job i j budget l
  stored_here {now} {over} test over-is is =
      is
      ∙ ap (λ (n : ℕ). keep second j (end - n) job.epsilon l) (over-is ∙ ap (λ (n : ℕ). n - budget) counted)
      ∙ ap (λ (n : ℕ). keep second j (n - (JobDefs.to job i - j - budget)) job.epsilon l) end_is
      ∙ sym (reached-here second job i j budget l inside
      (sym (ap (λ (n : ℕ). is_here job i n budget) counted) ∙ test))

  abbrev highest : ℕ
  highest = high_of job.m (JobDefs.from job (i + 1)) (budget - (JobDefs.to job i - j))

  pub stored-beyond : {once now : List Float} {low wide over start more : ℕ} → is_here job i spent budget ≡ false
      → low ≡ JobDefs.from job (i + 1) → wide ≡ job.m - low → over ≡ wide - (budget - spent) → start ≡ min j low
      → once ≡ keep second start (job.m - over) job.epsilon l → more ≡ greater j (job.m - over)
      → now ≡ keep second more end job.epsilon once → now ≡ keep_reached second job i j budget l
  stored-beyond {once} {now} {low} {wide} {over} {start} {more} test low-is wide_is over-is start_is once_is more-is is =
      let top : job.m - over ≡ highest = rw (over-is, wide_is, low-is, counted) refl in
      is
      ∙ ap (λ (n : ℕ). keep second n end job.epsilon once) (more-is ∙ ap (greater j) top)
      ∙ ap (λ (n : ℕ). keep second (greater j highest) n job.epsilon once) end_is
      ∙ ap (keep second (greater j highest) (JobDefs.to job i) job.epsilon)
      (once_is
      ∙ ap (λ (n : ℕ). keep second n (job.m - over) job.epsilon l) (start_is ∙ ap (min j) low-is)
      ∙ ap (λ (n : ℕ). keep second (min j (JobDefs.from job (i + 1))) n job.epsilon l) top)
      ∙ sym (reached-beyond second job i j budget l inside
      (sym (ap (λ (n : ℕ). is_here job i n budget) counted) ∙ test))

-- the traces of groups stand as they did
reached-tracked : (second : List Float) (job : Job) (i j budget : ℕ) (l : List Float) → Tracked second l job.m
    → Tracked second (keep_reached second job i j budget l) job.m
unfolding keep_reached
reached-tracked second job i j budget l was =
    go (leb job.n i) (is_here job i (JobDefs.to job i - j) budget)
  where
    end : ℕ
    end = JobDefs.to job i

    go : (a b : Bool)
        → Tracked second (cond a l (cond b (keep_here second job i j budget l) (keep_beyond second job i j budget l))) job.m
    go true b = was
    go false true =
        keep-tracked second l j (end - (end - j - budget)) job.m job.epsilon (omega arith) was
    go false false =
        let low = JobDefs.from job (i + 1) in
        let high = high_of job.m low (budget - (end - j)) in
        let once = keep second (min j low) high job.epsilon l in
        keep-tracked second once (greater j high) end job.m job.epsilon (le_refl job.m)
        (keep-tracked second l (min j low) high job.m job.epsilon (omega arith) was)

pub reached-ready : (first second l kept : List Float) (job : Job) (i j budget : ℕ) → paths.Ready first second job
    → job.boxed ≡ false → floats_before job.m ≤ length l → Tracked second l job.m
    → kept ≡ keep_reached second job i j budget l
    → Ready first second kept job i j budget
reached-ready first second l kept job i j budget ready plain room tracks e =
    record {
      pairs = ready;
      keeps = rw e (reached-kept second l job room i j budget);
      boxes = no-boxes plain;
      tracks = rw e (reached-tracked second job i j budget l tracks);
    }
