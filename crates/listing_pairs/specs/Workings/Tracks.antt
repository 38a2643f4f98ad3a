-- What is kept of groups of segments for the traces: the trace of each group of 16 segments that all have it, and 0 of any other.
-- If a trace above 0 is the kept one, every segment of the group has it.
use Rattle.std.specs.Prelude.{◌≡◌, refl, Bool, true, false, cond, not, ◌&&◌, ◌||◌, ◌⊎◌, List, ℕ, zero, suc, ◌+◌, ◌*◌, ◌/◌, ◌≤◌, ◌<◌, T, ltb, Float, length, get_or, set}
use Rattle.std.proofs.Common.{sym, ap, subst, ◌∙◌, true≢false, inl, inr, eq-or-lt_of_le, add-one, arith, ltb-true, ltb-false, length-set, get_or-set_same, get_or-set_other}
use Rattle.std.specs.Float.{nan}
use Rattle.std.specs.Float.Ieee.{le}
use Rattle.float_laws.specs.Chains.{le-numbers, eq_self, eq-sym, eq_trans}
use Rattle.floats.specs.Ops.{◌≈◌, ◌≻◌, f0}
use Rattle.paths.specs.Path.{most_segments, trace}
use Rattle.boxes.specs.Groups.{group_size, group_count}
use Rattle.boxes.specs.Workings.Next.{first, First, first-is}
use Rattle.listing_pairs.specs.Laws.Order.{lt-or-le}
use Rattle.listing_pairs.specs.Laws.Zero.{not-above}

-- segment k has the trace t; another
abbrev pub same : List Float → Float → ℕ → Bool
same path t k = t ≈ trace path k

abbrev pub other : List Float → Float → ℕ → Bool
other path t k = not (same path t k)

-- ---- the trace of a group
abbrev pub most_groups : ℕ
most_groups = most_segments / group_size

-- of group g of n segments
unfoldable pub group_trace : List Float → ℕ → ℕ → Float
group_trace path n g =
    let from = g * group_size in
    let to = from + group_size in
    let t = trace path from in
    cond (ltb n to) f0 (cond (not (t ≻ f0)) f0 (cond (ltb (first (other path t) from to) to) f0 t))

-- how many numbers are kept of a segment, and where the groups' traces stand: behind those of n segments
abbrev pub numbers_kept : ℕ
numbers_kept = 4

abbrev pub traces_kept : ℕ → ℕ
traces_kept n = n * numbers_kept

-- those of `count` groups of n segments are stored
unfoldable pub keep_traces : List Float → ℕ → ℕ → List Float → List Float
keep_traces path n zero l = l
keep_traces path n (suc count) l = set (keep_traces path n count l) (traces_kept n + count) (group_trace path n count)

-- the vertex after the group of k, if t is kept of it; else k
unfoldable pub past_group : List Float → ℕ → Float → ℕ → ℕ
past_group kept n t k =
    let g = k / group_size in
    cond (t ≈ get_or kept (traces_kept n + g) nan) ((g + 1) * group_size) k

-- the vertex after the group of k, if another trace above 0 is kept of it; else k
unfoldable pub past_others : List Float → ℕ → Float → ℕ → ℕ
past_others kept n t k =
    let g = k / group_size in
    let u = get_or kept (traces_kept n + g) nan in
    cond ((u ≻ f0) && not (t ≈ u)) ((g + 1) * group_size) k

-- ---- what the loop needs: a trace above 0 that is kept of a group of n segments is that of its segments
pub record Tracked (path kept : List Float) (n : ℕ) : Type 0 where
  pub few : n ≤ most_segments
  pub room : traces_kept n + most_groups ≤ length kept
  pub is : (g : ℕ) (t : Float) → g < group_count n → (t ≈ get_or kept (traces_kept n + g) nan) ≡ true → (t ≻ f0) ≡ true
      → (k : ℕ) → g * group_size ≤ k → k < g * group_size + group_size → same path t k ≡ true

-- all of a group have its trace, if that is above 0
holds : (b : Bool) → T b → b ≡ true
holds true h = refl
holds false h = absurd h

both : (x y z : Float) → (x ≈ y) ≡ true → (y ≈ z) ≡ true → (x ≈ z) ≡ true
both x y z h g = holds (x ≈ z) (eq_trans x y z (subst T (sym h) tt) (subst T (sym g) tt))

turned : (x y : Float) → (x ≈ y) ≡ true → (y ≈ x) ≡ true
turned x y h = holds (y ≈ x) (eq-sym x y (subst T (sym h) tt))

-- what is above 0 is a number, so equal to itself
itself : (x : Float) → (x ≻ f0) ≡ true → (x ≈ x) ≡ true
unfolding le
itself x h = holds (x ≈ x) (eq_self x (le-numbers f0 x (left (x ≻ f0) (f0 ≈ x) h)).1)
  where
    left : (a b : Bool) → a ≡ true → T (a || b)
    left true b e = tt
    left false b e = absurd (true≢false (sym e))

pub group-has : (path : List Float) (n g : ℕ) (t : Float) → (t ≈ group_trace path n g) ≡ true → (t ≻ f0) ≡ true
    → (k : ℕ) → g * group_size ≤ k → k < g * group_size + group_size → same path t k ≡ true
unfolding group_trace
group-has path n g t is above k low high = whole (ltb n to) is
  where
    to : ℕ
    to = g * group_size + group_size

    u : Float
    u = trace path (g * group_size)

    at : ℕ
    at = first (other path u) (g * group_size) to

    found : First (other path u) (g * group_size) to at
    found = first-is (other path u) (g * group_size) to at (omega arith) refl

    denied : (b : Bool) → not b ≡ false → b ≡ true
    denied true e = refl
    denied false e = absurd (true≢false e)

    zero : {A : Type 0} → (t ≈ f0) ≡ true → A
    zero h = absurd (true≢false (sym above ∙ not-above t h))

    go : (b : Bool) → ltb at to ≡ b → (t ≈ cond b f0 u) ≡ true → same path t k ≡ true
    go true e h = zero h
    go false e h =
        both t u (trace path k) h
        (denied (u ≈ trace path k) (found.before k low (omega (arith, high, ltb-false at to e))))

    first-test : (b : Bool) → (t ≈ cond b f0 (cond (ltb at to) f0 u)) ≡ true → same path t k ≡ true
    first-test true h = zero h
    first-test false h = go (ltb at to) refl h

    whole : (b : Bool) → (t ≈ cond b f0 (cond (not (u ≻ f0)) f0 (cond (ltb at to) f0 u))) ≡ true → same path t k ≡ true
    whole true h = zero h
    whole false h = first-test (not (u ≻ f0)) h

-- ---- stored and read
pub traces-length : (path : List Float) (n count : ℕ) (l : List Float) → length (keep_traces path n count l) ≡ length l
unfolding keep_traces
traces-length path n zero l = refl
traces-length path n (suc count) l = length-set (keep_traces path n count l) _ _ ∙ traces-length path n count l

traces-at : (path : List Float) (n count : ℕ) (l : List Float) → traces_kept n + count ≤ length l
    → (g : ℕ) → g < count → get_or (keep_traces path n count l) (traces_kept n + g) nan ≡ group_trace path n g
unfolding keep_traces
traces-at path n zero l h g b = absurd (omega (arith, b))
traces-at path n (suc count) l h g b =
    let up_to : g ≤ count = omega (arith, b) in
    go (eq-or-lt_of_le up_to) (λ (s : g < count). traces-at path n count l (omega (arith, h)) g s)
  where
    now : List Float
    now = keep_traces path n count l

    at : ℕ
    at = traces_kept n

    go : (g ≡ count) ⊎ (g < count) → (g < count → get_or now (at + g) nan ≡ group_trace path n g)
        → get_or (set now (at + count) (group_trace path n count)) (at + g) nan ≡ group_trace path n g
    go (inl e) rest =
        ap (λ (k : ℕ). get_or (set now (at + count) (group_trace path n count)) (at + k) nan) e
        ∙ get_or-set_same now (at + count) _ nan (omega (arith, h, traces-length path n count l))
        ∙ sym (ap (group_trace path n) e)
    go (inr s) rest =
        get_or-set_other now (at + count) (at + g) _ nan (λ (e : at + g ≡ at + count). omega (arith, s, e)) ∙ rest s

-- ---- the loop that stores them: those of the groups before g are stored
pub record Storing (path : List Float) (n : ℕ) (old now : List Float) (g : ℕ) : Type 0 where
  pub is : now ≡ keep_traces path n g old
  pub within : g ≤ group_count n
  pub long : length now ≡ length old

pub storing-starts : (path : List Float) (n : ℕ) (old : List Float) → Storing path n old old 0
unfolding keep_traces
storing-starts path n old = record { is = refl; within = omega arith; long = refl }

pub storing-turn : {path old now : List Float} {n g : ℕ} (t : Float) → Storing path n old now g → g < group_count n
    → t ≡ group_trace path n g → Storing path n old (set now (traces_kept n + g) t) (g + 1)
unfolding keep_traces
storing-turn {path} {old} {now} {n} {g} t so_far below is =
    record {
      is =
          ap (λ (l : List Float). set l (traces_kept n + g) t) so_far.is
          ∙ ap (set (keep_traces path n g old) (traces_kept n + g)) is
          ∙ ap (λ (k : ℕ). keep_traces path n k old) (sym (add-one g));
      within = omega (arith, below);
      long = length-set now (traces_kept n + g) t ∙ so_far.long;
    }

pub storing-ends : {path old now : List Float} {n g : ℕ} → Storing path n old now g → group_count n ≤ g
    → now ≡ keep_traces path n (group_count n) old
storing-ends {path} {old} {now} {n} {g} so_far beyond =
    let all : g ≡ group_count n = omega (arith, so_far.within, beyond) in
    so_far.is ∙ ap (λ (k : ℕ). keep_traces path n k old) all

-- ---- so it is known of the groups, whatever stood there before
traces-kept : (path l : List Float) (n : ℕ) → n ≤ most_segments → traces_kept n + most_groups ≤ length l
    → Tracked path (keep_traces path n (group_count n) l) n
traces-kept path l n few room =
    record {
      few = few;
      room = omega (arith, room, traces-length path n (group_count n) l);
      is = λ g t below h above k low high.
          group-has path n g t
          (sym (ap (λ (x : Float). t ≈ x) (traces-at path n (group_count n) l (omega (arith, room, few)) g below)) ∙ h)
          above k low high;
    }

-- from what a call of `keep_traces` left
module _ (path l now : List Float) (n : ℕ) (is : now ≡ keep_traces path n (group_count n) l) where
  pub call_length : length now ≡ length l
  call_length = ap length is ∙ traces-length path n (group_count n) l

  pub call-tracked : n ≤ most_segments → traces_kept n + most_groups ≤ length l → Tracked path now n
  call-tracked few room = subst (λ (m : List Float). Tracked path m n) (sym is) (traces-kept path l n few room)

-- what is stored elsewhere does not change it
pub tracked-still : (path l now : List Float) (n : ℕ) → length now ≡ length l
    → ((g : ℕ) → g < most_groups → get_or now (traces_kept n + g) nan ≡ get_or l (traces_kept n + g) nan)
    → Tracked path l n → Tracked path now n
tracked-still path l now n long same-there was =
    record {
      few = was.few;
      room = omega (arith, was.room, long);
      is = λ g t below h above k low high.
          was.is g t below (sym (ap (λ (x : Float). t ≈ x) (same-there g (omega (arith, below, was.few)))) ∙ h) above k low high;
    }

-- ---- the step past a group: what lies between has the trace
pub past-clear : (path kept : List Float) (n : ℕ) (t : Float) (k : ℕ) → Tracked path kept n → (t ≻ f0) ≡ true → k < n
    → (h : ℕ) → k ≤ h → h < past_group kept n t k → other path t h ≡ false
unfolding past_group
past-clear path kept n t k tracked above few h low high = go (t ≈ get_or kept (traces_kept n + g) nan) refl high
  where
    g : ℕ
    g = k / group_size

    go : (b : Bool) → (t ≈ get_or kept (traces_kept n + g) nan) ≡ b → h < cond b ((g + 1) * group_size) k → other path t h ≡ false
    go true e below =
        ap not (tracked.is g t (omega (arith, few)) e above h (omega (arith, low)) (omega (arith, below)))
    go false e below = absurd (omega (arith, low, below))

-- or another
pub others-clear : (path kept : List Float) (n : ℕ) (t : Float) (k : ℕ) → Tracked path kept n → k < n
    → (h : ℕ) → k ≤ h → h < past_others kept n t k → same path t h ≡ false
unfolding past_others
others-clear path kept n t k tracked few h low high = go (u ≻ f0) refl (t ≈ u) refl high
  where
    g : ℕ
    g = k / group_size

    u : Float
    u = get_or kept (traces_kept n + g) nan

    denies : (b : Bool) → (b ≡ true → ⊥) → b ≡ false
    denies true h = absurd (h refl)
    denies false h = refl

    go : (a : Bool) → (u ≻ f0) ≡ a → (b : Bool) → (t ≈ u) ≡ b → h < cond (a && not b) ((g + 1) * group_size) k
        → same path t h ≡ false
    go true e false f below =
        let all = tracked.is g u (omega (arith, few)) (itself u e) e h (omega (arith, low)) (omega (arith, below)) in
        denies (same path t h) (λ is. true≢false (sym (both t (trace path h) u is (turned u (trace path h) all)) ∙ f))
    go true e true f below = absurd (omega (arith, low, below))
    go false e b f below = absurd (omega (arith, low, below))
