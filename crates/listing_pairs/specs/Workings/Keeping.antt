-- What is kept of the second path's segments: four numbers of each in a list, stored one segment after the other, and read back.
-- The traces of groups stand behind them, and the boxes of a boxed listing behind these.
use Rattle.std.specs.Prelude.{◌≡◌, refl, true, false, List, [], ◌∷◌, ◌⊎◌, ℕ, zero, suc, ◌+◌, ◌-◌, ◌*◌, ◌/◌, ◌≤◌, ◌<◌, Float, length, get_or, set, take}
use Rattle.std.proofs.Common.{sym, ap, subst, ◌∙◌, true≢false, inl, inr, eq-or-lt_of_le, arith}
use Rattle.std.specs.Float.Ieee.{nan}
use Rattle.std.proofs.lemmas.List.Edits.{sets}
use Rattle.std.proofs.Math.Seq.{length-sets}
use Rattle.float_laws.specs.Stores.{four-set, sets-before, sets_behind, sets-read}
use Rattle.fast_pair.specs.declared.kept.Kept.{Kept}
use Rattle.fast_pair.specs.Workings.Kept.{kept_of, chord-kept}
use Rattle.paths.specs.declared.path.Segment.{Segment}
use Rattle.paths.specs.Segments.{segment_from}
use Rattle.boxes.specs.declared.bounds.Box.{Box}
use Rattle.boxes.specs.Groups.{segment_box, group_count, group_box}
use Rattle.boxes.specs.Index.{floats_a_box, floats_needed, floats_of_boxes, boxes_from, index}
use Rattle.boxes.specs.Workings.Chord.{Known}
use Rattle.boxes.specs.Workings.Stored.{boxes_on, with_groups, box-before, stores-index}
use Rattle.boxes.specs.Workings.Stored.{Storing as StoringBoxes}
use Rattle.boxes.specs.Workings.Next.{GroupedTwice, still-grouped, groups-stored, index-grouped, index-segments}
use Rattle.listing_pairs.specs.declared.order.Job.{Job}
use Rattle.listing_pairs.specs.Order.{Pair}
use Rattle.listing_pairs.specs.Laws.Order.{lt-or-le}
use Rattle.listing_pairs.specs.Workings.Job as JobDefs
use Rattle.listing_pairs.specs.Workings.Ready as paths
use Rattle.listing_pairs.specs.Workings.Tracks.{traces_kept, most_groups, Tracked, tracked-still}
pub use Rattle.listing_pairs.specs.Workings.Tracks.{numbers_kept}

abbrev pub of_segment : Segment → Float → Kept
of_segment s epsilon = kept_of s.v1 s.v2 epsilon

-- ---- four numbers
-- where those of segment j stand
abbrev place_of : ℕ → ℕ
place_of j = j * numbers_kept

-- the traces of as many groups as a listing walks stand in the place of so many segments
abbrev pub front_kept : ℕ
front_kept = most_groups / numbers_kept

-- how many floats are kept of n segments and of their groups, before the boxes
abbrev pub floats_before : ℕ → ℕ
floats_before n = (front_kept + n) * numbers_kept

-- read from a place on
abbrev kept_from : List Float → ℕ → Kept
kept_from l at =
    record {
      radius_or_slope = get_or l at nan;
      center_x_or_root = get_or l (at + 1) nan;
      center_y_or_zero = get_or l (at + 2) nan;
      chord_or_zero = get_or l (at + 3) nan;
    }

unfoldable pub kept_at : List Float → ℕ → Kept
kept_at l j = kept_from l (place_of j)

-- stored from a place on
abbrev numbers_of : Kept → List Float
numbers_of k = k.radius_or_slope ∷ k.center_x_or_root ∷ k.center_y_or_zero ∷ k.chord_or_zero ∷ []

abbrev put_at : List Float → ℕ → Kept → List Float
put_at l at k =
    set (set (set (set l at k.radius_or_slope) (at + 1) k.center_x_or_root) (at + 2) k.center_y_or_zero)
    (at + 3) k.chord_or_zero

abbrev put : List Float → ℕ → Kept → List Float
put l j k = put_at l (place_of j) k

-- the numbers of `count` segments, from `from` on
unfoldable pub keep_from : List Float → ℕ → ℕ → Float → List Float → List Float
keep_from path from zero epsilon l = l
keep_from path from (suc count) epsilon l =
    put (keep_from path from count epsilon l) (from + count) (of_segment (segment_from path (from + count)) epsilon)

-- the numbers of the segments from `from` up to, but not including, `to`
abbrev pub keep : List Float → ℕ → ℕ → Float → List Float → List Float
keep path from to epsilon l = keep_from path from (to - from) epsilon l

-- ---- stored and read
put-sets : (l : List Float) (at : ℕ) (k : Kept) → put_at l at k ≡ sets l at (numbers_of k)
put-sets l at k =
    four-set l at k.radius_or_slope k.center_x_or_root k.center_y_or_zero k.chord_or_zero

put-length : (l : List Float) (at : ℕ) (k : Kept) → length (put_at l at k) ≡ length l
put-length l at k = ap length (put-sets l at k) ∙ length-sets l at (numbers_of k)

pub keep-length : (path : List Float) (from count : ℕ) (epsilon : Float) (l : List Float)
    → length (keep_from path from count epsilon l) ≡ length l
unfolding keep_from
keep-length path from zero epsilon l = refl
keep-length path from (suc count) epsilon l =
    put-length (keep_from path from count epsilon l) (place_of (from + count)) _ ∙ keep-length path from count epsilon l

same_kept : (a b : Kept) → a.radius_or_slope ≡ b.radius_or_slope → a.center_x_or_root ≡ b.center_x_or_root
    → a.center_y_or_zero ≡ b.center_y_or_zero → a.chord_or_zero ≡ b.chord_or_zero → a ≡ b
same_kept a b = go a.radius_or_slope a.center_x_or_root a.center_y_or_zero a.chord_or_zero
  where
    go : (x y z w : Float) → x ≡ b.radius_or_slope → y ≡ b.center_x_or_root → z ≡ b.center_y_or_zero
        → w ≡ b.chord_or_zero
        → record { radius_or_slope = x; center_x_or_root = y; center_y_or_zero = z; chord_or_zero = w } ≡ b
    go x y z w e f g h = rw (e, f, g, h) refl

-- if the numbers are the same, what is kept is
kept_same : (l m : List Float) (i j : ℕ) → ((n : ℕ) → n < numbers_kept → get_or l (i + n) nan ≡ get_or m (j + n) nan)
    → kept_from l i ≡ kept_from m j
kept_same l m i j same =
    same_kept _ _
    (at i j 0 (omega arith) (omega arith) (omega arith)) (same 1 (omega arith)) (same 2 (omega arith)) (same 3 (omega arith))
  where
    at : (a b n : ℕ) → a ≡ i + n → b ≡ j + n → n < numbers_kept → get_or l a nan ≡ get_or m b nan
    at a b n e f few =
        ap (λ (k : ℕ). get_or l k nan) e ∙ same n few ∙ sym (ap (λ (k : ℕ). get_or m k nan) f)

-- what is stored from a place on is read back from there
read_back : (l : List Float) (a : ℕ) (k : Kept) → a + numbers_kept ≤ length l → kept_from (put_at l a k) a ≡ k
read_back l a k h =
    kept_same (put_at l a k) (numbers_of k) a 0 (λ n few.
    ap (λ (m : List Float). get_or m (a + n) nan) (put-sets l a k)
    ∙ sets-read l (numbers_of k) a n nan (omega (arith, h)) few
    ∙ zero n)
  where
    zero : (n : ℕ) → get_or (numbers_of k) n nan ≡ get_or (numbers_of k) (0 + n) nan
    zero n = let e : n ≡ 0 + n = omega arith in ap (λ (m : ℕ). get_or (numbers_of k) m nan) e

-- the segment's own numbers are read back
put_same : (l : List Float) (j : ℕ) (k : Kept) → floats_before (suc j) ≤ length l → kept_at (put l j k) j ≡ k
unfolding kept_at
put_same l j k h = read_back l (place_of j) k (omega (arith, h))

-- another segment's numbers are unchanged
put_other : (l : List Float) (i j : ℕ) (k : Kept) → (i < j) ⊎ (j < i) → kept_at (put l j k) i ≡ kept_at l i
unfolding kept_at
put_other l i j k apart =
    kept_same (put l j k) l (place_of i) (place_of i) (λ n few.
    ap (λ (a : List Float). get_or a (place_of i + n) nan) (put-sets l (place_of j) k)
    ∙ other n few apart)
  where
    other : (n : ℕ) → n < numbers_kept → (i < j) ⊎ (j < i)
        → get_or (sets l (place_of j) (numbers_of k)) (place_of i + n) nan ≡ get_or l (place_of i + n) nan
    other n few (inl h) = sets-before l (numbers_of k) (place_of j) (place_of i + n) nan (omega (arith, few, h))
    other n few (inr h) = sets_behind l (numbers_of k) (place_of j) (place_of i + n) nan (omega (arith, h))

-- a segment that is not among those that are stored
pub keep-other : (path : List Float) (from count : ℕ) (epsilon : Float) (l : List Float) (j : ℕ)
    → (j < from) ⊎ (from + count ≤ j) → kept_at (keep_from path from count epsilon l) j ≡ kept_at l j
unfolding keep_from
keep-other path from zero epsilon l j out = refl
keep-other path from (suc count) epsilon l j out =
    put_other (keep_from path from count epsilon l) j (from + count) _ (apart out)
    ∙ keep-other path from count epsilon l j (before out)
  where
    apart : (j < from) ⊎ (from + suc count ≤ j) → (j < from + count) ⊎ (from + count < j)
    apart (inl h) = inl (omega (arith, h))
    apart (inr h) = inr (omega (arith, h))

    before : (j < from) ⊎ (from + suc count ≤ j) → (j < from) ⊎ (from + count ≤ j)
    before (inl h) = inl h
    before (inr h) = inr (omega (arith, h))

-- one that is
pub keep_at : (path : List Float) (from count : ℕ) (epsilon : Float) (l : List Float)
    → floats_before (from + count) ≤ length l → (j : ℕ) → from ≤ j → j < from + count
    → kept_at (keep_from path from count epsilon l) j ≡ of_segment (segment_from path j) epsilon
unfolding keep_from
keep_at path from zero epsilon l h j a b = absurd (omega (arith, a, b))
keep_at path from (suc count) epsilon l h j a b =
    let up_to : j ≤ from + count = omega (arith, b) in
    go (eq-or-lt_of_le up_to) (λ (s : j < from + count). keep_at path from count epsilon l (omega (arith, h)) j a s)
  where
    now : List Float
    now = keep_from path from count epsilon l

    go : (j ≡ from + count) ⊎ (j < from + count)
        → (j < from + count → kept_at now j ≡ of_segment (segment_from path j) epsilon)
        → kept_at (put now (from + count) (of_segment (segment_from path (from + count)) epsilon)) j
        ≡ of_segment (segment_from path j) epsilon
    go (inr s) rest = put_other now j (from + count) _ (inl s) ∙ rest s
    go (inl e) rest =
        ap (kept_at (put now (from + count) (of_segment (segment_from path (from + count)) epsilon))) e
        ∙ put_same now (from + count) _ (omega (arith, h, keep-length path from count epsilon l))
        ∙ ap (λ (i : ℕ). of_segment (segment_from path i) epsilon) (sym e)

-- ---- the loop that stores them: those before j are stored
pub record Storing (path : List Float) (from to : ℕ) (epsilon : Float) (old now : List Float) (j : ℕ) : Type 0 where
  pub is : now ≡ keep_from path from (j - from) epsilon old
  pub started : from ≤ j
  pub within : j - from ≤ to - from
  pub long : length now ≡ length old

pub storing-starts : (path : List Float) (from to : ℕ) (epsilon : Float) (old : List Float)
    → Storing path from to epsilon old old from
unfolding keep_from
storing-starts path from to epsilon old =
    let e : 0 ≡ from - from = omega arith in
    record {
      is = ap (λ (n : ℕ). keep_from path from n epsilon old) e;
      started = omega arith;
      within = omega arith;
      long = refl;
    }

-- one turn
pub storing-turn : {path old now : List Float} {from to j : ℕ} {epsilon : Float} (s : Segment) (k : Kept)
    → Storing path from to epsilon old now j → j < to → s ≡ segment_from path j → k ≡ of_segment s epsilon
    → Storing path from to epsilon old (put now j k) (j + 1)
unfolding keep_from
storing-turn {path} {old} {now} {from} {to} {j} {epsilon} s k so_far below f g =
    let here : j ≡ from + (j - from) = omega (arith, so_far.started) in
    let next : suc (j - from) ≡ j + 1 - from = omega (arith, so_far.started) in
    record {
      is =
          ap (λ (a : List Float). put a j k) so_far.is
          ∙ ap (put (keep_from path from (j - from) epsilon old) j) (g ∙ ap (λ (t : Segment). of_segment t epsilon) f)
          ∙ ap (λ (n : ℕ). put (keep_from path from (j - from) epsilon old) n (of_segment (segment_from path n) epsilon)) here
          ∙ ap (λ (n : ℕ). keep_from path from n epsilon old) next;
      started = omega (arith, so_far.started);
      within = omega (arith, so_far.started, below);
      long = put-length now (place_of j) k ∙ so_far.long;
    }

pub storing-ends : {path old now : List Float} {from to j : ℕ} {epsilon : Float}
    → Storing path from to epsilon old now j → to ≤ j → now ≡ keep path from to epsilon old
storing-ends {path} {old} {now} {from} {to} {j} {epsilon} so_far beyond =
    let all : j - from ≡ to - from = omega (arith, so_far.started, so_far.within, beyond) in
    so_far.is ∙ ap (λ (n : ℕ). keep_from path from n epsilon old) all

-- ---- what a listing's loop needs: checked paths, and what is kept of the second
-- what is kept of segment j stands in its place
pub record KeptOf (second kept : List Float) (epsilon : Float) (j : ℕ) : Type 0 where
  pub room : floats_before (j + 1) ≤ length kept
  pub is : kept_at kept j ≡ of_segment (segment_from second j) epsilon

-- so of the first n segments
abbrev pub AllKept : List Float → List Float → Float → ℕ → Type 0
AllKept second kept epsilon n = (j : ℕ) → j < n → KeptOf second kept epsilon j

-- so for the second segment of each of these pairs
unfoldable pub KeptFor : List Float → List Float → Float → List Pair → Type 0
KeptFor second kept epsilon [] = Unit {0}
KeptFor second kept epsilon (p ∷ ps) = KeptOf second kept epsilon p.j × KeptFor second kept epsilon ps

-- the index of the second path's n segments stands behind what is kept of them and of their groups, from this box on
abbrev pub boxes_kept : ℕ → ℕ
boxes_kept n = front_kept + n

-- how many floats the index of n segments needs, with the boxes of groups of groups behind it
abbrev pub box_floats : ℕ → ℕ
box_floats n = floats_needed n + floats_a_box * group_count (group_count n)

-- how many floats a boxed listing keeps of n segments
abbrev pub floats_boxed : ℕ → ℕ
floats_boxed n = boxes_kept n * floats_a_box + box_floats n

unfoldable pub keep_boxes : List Float → ℕ → Float → List Float → List Float
keep_boxes path n epsilon l =
    with_groups (sets l (boxes_kept n * floats_a_box) (index path epsilon n)) (boxes_kept n + n) (group_count n)

pub record BoxesKept (second kept : List Float) (job : Job) : Type 0 where
  pub grouped : GroupedTwice kept (boxes_kept job.m) job.m
  pub is : (j : ℕ) → j < job.m → boxes_on kept (boxes_kept job.m) j ≡ segment_box second job.epsilon j

-- the first `budget` pairs from (i, j) on can be looked at
pub record Ready (first second kept : List Float) (job : Job) (i j budget : ℕ) : Type 0 where
  pub pairs : paths.Ready first second job
  pub keeps : KeptFor second kept job.epsilon (take budget (JobDefs.left job i j))
  pub boxes : job.boxed ≡ true → BoxesKept second kept job
  pub tracks : Tracked second kept job.m

-- every pair can be looked at
pub record AllReady (first second kept : List Float) (job : Job) : Type 0 where
  pub pairs : paths.Ready first second job
  pub keeps : AllKept second kept job.epsilon job.m
  pub boxes : job.boxed ≡ true → BoxesKept second kept job
  pub tracks : Tracked second kept job.m

-- a listing that is not boxed needs no boxes
pub no-boxes : {second kept : List Float} {job : Job} → job.boxed ≡ false → job.boxed ≡ true → BoxesKept second kept job
no-boxes f e = absurd (true≢false (sym e ∙ f))

-- ---- after a call of `keep`
-- what is kept of each of its segments stands in its place
pub kept-inside : (path l : List Float) (from to : ℕ) (epsilon : Float) → floats_before to ≤ length l
    → (j : ℕ) → from ≤ j → j < to → KeptOf path (keep path from to epsilon l) epsilon j
kept-inside path l from to epsilon room j a b =
    let enough : floats_before (from + (to - from)) ≤ length l = omega (arith, room, a, b) in
    let inside : j < from + (to - from) = omega (arith, a, b) in
    record {
      room = omega (arith, room, b, keep-length path from (to - from) epsilon l);
      is = keep_at path from (to - from) epsilon l enough j a inside;
    }

-- and what stood in its place before still does
pub kept-still : (path l : List Float) (from to : ℕ) (epsilon : Float) → floats_before to ≤ length l
    → (j : ℕ) → KeptOf path l epsilon j → KeptOf path (keep path from to epsilon l) epsilon j
kept-still path l from to epsilon room j was = at (lt-or-le j from)
  where
    unchanged : (j < from) ⊎ (from + (to - from) ≤ j) → KeptOf path (keep path from to epsilon l) epsilon j
    unchanged out =
        record {
          room = omega (arith, was.room, keep-length path from (to - from) epsilon l);
          is = keep-other path from (to - from) epsilon l j out ∙ was.is;
        }

    from_on : from ≤ j → (j < to) ⊎ (to ≤ j) → KeptOf path (keep path from to epsilon l) epsilon j
    from_on a (inl b) = kept-inside path l from to epsilon room j a b
    from_on a (inr b) = unchanged (inr (omega (arith, a, b)))

    at : (j < from) ⊎ (from ≤ j) → KeptOf path (keep path from to epsilon l) epsilon j
    at (inl h) = unchanged (inl h)
    at (inr h) = from_on h (lt-or-le j to)

-- the traces of groups of n segments stand as they did
keep-behind : (path : List Float) (from count n : ℕ) (epsilon : Float) (l : List Float) (a : ℕ) → from + count ≤ n
    → traces_kept n ≤ a → get_or (keep_from path from count epsilon l) a nan ≡ get_or l a nan
unfolding keep_from
keep-behind path from zero n epsilon l a few high = refl
keep-behind path from (suc count) n epsilon l a few high =
    let now = keep_from path from count epsilon l in
    let at = place_of (from + count) in
    let k = of_segment (segment_from path (from + count)) epsilon in
    ap (λ (m : List Float). get_or m a nan) (put-sets now at k)
    ∙ sets_behind now (numbers_of k) at a nan (omega (arith, few, high))
    ∙ keep-behind path from count n epsilon l a (omega (arith, few)) high

none-stored : (path l : List Float) (from : ℕ) (epsilon : Float) → keep_from path from 0 epsilon l ≡ l
unfolding keep_from
none-stored path l from epsilon = refl

pub keep-tracked : (path l : List Float) (from to n : ℕ) (epsilon : Float) → to ≤ n → Tracked path l n
    → Tracked path (keep path from to epsilon l) n
keep-tracked path l from to n epsilon few was = go (lt-or-le from to)
  where
    go : (from < to) ⊎ (to ≤ from) → Tracked path (keep path from to epsilon l) n
    go (inl some) =
        tracked-still path l (keep path from to epsilon l) n (keep-length path from (to - from) epsilon l)
        (λ g below. keep-behind path from (to - from) n epsilon l (traces_kept n + g) (omega (arith, few, some)) (omega arith)) was
    go (inr none) =
        let e : to - from ≡ 0 = omega (arith, none) in
        subst (λ (m : List Float). Tracked path m n)
        (sym (ap (λ (k : ℕ). keep_from path from k epsilon l) e ∙ none-stored path l from epsilon)) was

-- and if boxes are stored behind the numbers of n segments, what is kept of these still does
pub kept-before : (path l vs : List Float) (epsilon : Float) (n j : ℕ) → j < n → KeptOf path l epsilon j
    → KeptOf path (sets l (boxes_kept n * floats_a_box) vs) epsilon j
unfolding kept_at
kept-before path l vs epsilon n j below was =
    let at = boxes_kept n * floats_a_box in
    record {
      room = omega (arith, was.room, length-sets l at vs);
      is =
          kept_same (sets l at vs) l (place_of j) (place_of j)
          (λ k h. sets-before l vs at (place_of j + k) nan (omega (arith, below, h)))
          ∙ was.is;
    }

-- ---- boxes behind the numbers
-- the box of a segment, with the chord length that is kept of it
pub chord-known : (path kept : List Float) (epsilon : Float) (j : ℕ) (s : Segment) (k : Kept) → KeptOf path kept epsilon j
    → s ≡ segment_from path j → k ≡ kept_at kept j → Known s.v1 s.v2 k.chord_or_zero
chord-known path kept epsilon j s k was e f arc =
    chord-kept s.v1 s.v2 k epsilon (f ∙ was.is ∙ ap (λ (t : Segment). of_segment t epsilon) (sym e)) arc

-- while boxes are stored, the numbers stand as they did
pub kept-while : {path old now : List Float} {epsilon : Float} {n i : ℕ} (box : ℕ → Box)
    → AllKept path old epsilon n → StoringBoxes box (boxes_kept n) n old now i → AllKept path now epsilon n
kept-while {path} {old} {now} {epsilon} {n} {i} box was so_far j below =
    rw so_far.is (kept-before path old (floats_of_boxes (boxes_from box 0 i)) epsilon n j below (was j below))

-- from what three calls left: the boxes of segments, of groups, of groups of groups
pub boxes-stored : (path l m r s : List Float) (epsilon : Float) (n groups : ℕ) → floats_boxed n ≤ length l
    → m ≡ sets l (boxes_kept n * floats_a_box) (floats_of_boxes (boxes_from (segment_box path epsilon) 0 n))
    → r ≡ with_groups m (boxes_kept n) n → groups ≡ group_count n → s ≡ with_groups r (boxes_kept n + n) groups
    → s ≡ keep_boxes path n epsilon l
unfolding keep_boxes
boxes-stored path l m r s epsilon n groups room to-m to-r is to-s =
    to-s
    ∙ ap (λ (k : ℕ). with_groups r (boxes_kept n + n) k) is
    ∙ ap (λ (d : List Float). with_groups d (boxes_kept n + n) (group_count n))
    (stores-index l m r path epsilon (boxes_kept n) n (omega (arith, room)) to-m to-r)

-- what the boxes are, and that the numbers stand as they did
module _ (path l : List Float) (epsilon : Float) (n : ℕ) (room : floats_boxed n ≤ length l) where
  abbrev front : List Float
  front = sets l (boxes_kept n * floats_a_box) (index path epsilon n)

  -- the boxes of groups of groups
  abbrev outer : List Float
  outer =
      floats_of_boxes
      (boxes_from (group_box (boxes_on front (boxes_kept n + n)) (group_count n)) 0 (group_count (group_count n)))

  -- and where they stand
  abbrev behind : ℕ
  behind = (boxes_kept n + n + group_count n) * floats_a_box

  long : length front ≡ length l
  long = length-sets l (boxes_kept n * floats_a_box) (index path epsilon n)

  first-room : boxes_kept n * floats_a_box + floats_needed n ≤ length l
  first-room = omega (arith, room)

  pub boxes-grouped : GroupedTwice (keep_boxes path n epsilon l) (boxes_kept n) n
  unfolding keep_boxes
  boxes-grouped =
      record {
        once =
            still-grouped front outer (boxes_kept n) n behind (omega arith)
            (index-grouped l path epsilon (boxes_kept n) n first-room);
        twice = groups-stored front (boxes_kept n + n) (group_count n) (omega (arith, room, long));
      }

  pub boxes-are : (j : ℕ) → j < n → boxes_on (keep_boxes path n epsilon l) (boxes_kept n) j ≡ segment_box path epsilon j
  unfolding keep_boxes
  boxes-are j below =
      box-before front outer behind (boxes_kept n + j) (omega (arith, below))
      ∙ index-segments l path epsilon (boxes_kept n) n first-room j below

  pub still_kept : AllKept path l epsilon n → AllKept path (keep_boxes path n epsilon l) epsilon n
  unfolding keep_boxes kept_at
  still_kept was j below =
      record {
        room = omega (arith, (was j below).room, long, length-sets front behind outer);
        is =
            kept_same (sets front behind outer) front (place_of j) (place_of j)
            (λ m h. sets-before front outer behind (place_of j + m) nan (omega (arith, below, h)))
            ∙ (kept-before path l (index path epsilon n) epsilon n j below (was j below)).is;
      }

  pub still-tracked : Tracked path l n → Tracked path (keep_boxes path n epsilon l) n
  unfolding keep_boxes
  still-tracked was =
      tracked-still path l (sets front behind outer) n (length-sets front behind outer ∙ long)
      (λ g below. sets-before front outer behind (traces_kept n + g) nan (omega (arith, below))
      ∙ sets-before l (index path epsilon n) (boxes_kept n * floats_a_box) (traces_kept n + g) nan (omega (arith, below)))
      was
