-- Boxes in a slice of floats: read from it, stored in it one after the other, and read back.
use Rattle.std.specs.Prelude.{◌≡◌, refl, List, [], ◌∷◌, ◌++◌, Float, length, get_or}
use Rattle.std.proofs.Math.Path.{sym, ap}
use Rattle.std.proofs.Common.{◌∙◌, append-nil, add-one, length-append, get_or-append-add}
use Prim.Native.Nat.{ℕ, zero, suc, ◌+◌, ◌-◌, ◌*◌, ◌≤◌, ◌<◌, min as lesser}
use native.Mathlib.Omega.{arith}
use Rattle.std.specs.Float.{nan}
use Rattle.std.proofs.Math.ListN.{get_or-append}
use Rattle.std.proofs.lemmas.List.Edits.{sets}
use Rattle.std.proofs.Math.Seq.{length-sets}
use Rattle.float_laws.specs.Stores.{sets-append, sets-before, sets-read, flat_append, flat-length}
use Rattle.paths.specs.declared.path.Segment.{Segment}
use Rattle.paths.specs.Segments.{segment_from}
use Rattle.boxes.specs.declared.bounds.Box.{Box}
use Rattle.boxes.specs.Box.{box_of, join}
use Rattle.boxes.specs.Groups.{segment_box, group_size, group_count, members_of, join_from, group_box}
use Rattle.boxes.specs.Index.{floats_a_box, floats_of, floats_of_boxes, boxes_from, boxes_of, index, floats_needed}

-- box k
unfoldable pub box_at : List Float → ℕ → Box
box_at l k =
    let at = k * floats_a_box in
    record {
      least_x = get_or l at nan;
      least_y = get_or l (at + 1) nan;
      greatest_x = get_or l (at + 2) nan;
      greatest_y = get_or l (at + 3) nan;
    }

-- the boxes from box `from` on
abbrev pub boxes_on : List Float → ℕ → ℕ → Box
boxes_on l from i = box_at l (from + i)

-- the boxes of the groups of n boxes, which stand from box `from` on, stored behind these
abbrev pub with_groups : List Float → ℕ → ℕ → List Float
with_groups l from n =
    sets l ((from + n) * floats_a_box) (floats_of_boxes (boxes_from (group_box (boxes_on l from) n) 0 (group_count n)))

-- ---- lengths
pub boxes-length : (box : ℕ → Box) (i count : ℕ) → length (boxes_from box i count) ≡ count
boxes-length box i zero = refl
boxes-length box i (suc count) = ap suc (boxes-length box (suc i) count)

pub floats-length : (bs : List Box) → length (floats_of_boxes bs) ≡ length bs * floats_a_box
floats-length bs = flat-length floats_of floats_a_box (λ b. refl) bs

-- ---- one box more
boxes-more : (box : ℕ → Box) (i count : ℕ) → boxes_from box i (suc count) ≡ boxes_from box i count ++ (box (i + count) ∷ [])
boxes-more box i zero = let e : i ≡ i + 0 = omega arith in ap (λ (k : ℕ). box k ∷ []) e
boxes-more box i (suc count) =
    let e : suc i + count ≡ i + suc count = omega arith in
    ap (λ (bs : List Box). box i ∷ bs) (boxes-more box (suc i) count)
    ∙ ap (λ (k : ℕ). box i ∷ (boxes_from box (suc i) count ++ (box k ∷ []))) e

pub store-one : (l : List Float) (from : ℕ) (box : ℕ → Box) (k : ℕ) (b : Box) → b ≡ box k
    → sets (sets l (from * floats_a_box) (floats_of_boxes (boxes_from box 0 k))) ((from + k) * floats_a_box) (floats_of b)
    ≡ sets l (from * floats_a_box) (floats_of_boxes (boxes_from box 0 (k + 1)))
store-one l from box k b is =
    let bs = boxes_from box 0 k in
    let n = floats-length bs in
    let at : (from + k) * floats_a_box ≡ from * floats_a_box + length (floats_of_boxes bs) =
    omega (arith, n, boxes-length box 0 k) in
    let zero-k : k ≡ 0 + k = omega arith in
    let last : floats_of b ≡ floats_of_boxes (box (0 + k) ∷ []) =
    ap floats_of (is ∙ ap box zero-k) ∙ append-nil (floats_of (box (0 + k))) in
    ap (λ (i : ℕ). sets (sets l (from * floats_a_box) (floats_of_boxes bs)) i (floats_of b)) at
    ∙ sets-append l (from * floats_a_box) (floats_of_boxes bs) (floats_of b)
    ∙ ap (λ (fs : List Float). sets l (from * floats_a_box) (floats_of_boxes bs ++ fs)) last
    ∙ ap (sets l (from * floats_a_box)) (sym (flat_append floats_of bs (box (0 + k) ∷ [])))
    ∙ ap (λ (cs : List Box). sets l (from * floats_a_box) (floats_of_boxes cs))
    (sym (boxes-more box 0 k) ∙ ap (boxes_from box 0) (sym (add-one k)))

-- boxes that are the same, and one list of them behind another
boxes-same : (f h : ℕ → Box) (i count : ℕ) → ((k : ℕ) → i ≤ k → k < i + count → f k ≡ h k)
    → boxes_from f i count ≡ boxes_from h i count
boxes-same f h i zero same = refl
boxes-same f h i (suc count) same =
    ap (λ (b : Box). b ∷ boxes_from f (suc i) count) (same i (omega arith) (omega arith))
    ∙ ap (λ (bs : List Box). h i ∷ bs)
    (boxes-same f h (suc i) count (λ k a b. same k (omega (arith, a)) (omega (arith, b))))

boxes-join : (f h : ℕ → Box) (i count n m : ℕ) → ((k : ℕ) → k < m → f (i + count + k) ≡ h (n + k))
    → boxes_from f i (count + m) ≡ boxes_from f i count ++ boxes_from h n m
boxes-join f h i zero n m same = go i n m (λ k b. let e : i + k ≡ i + 0 + k = omega arith in ap f e ∙ same k b)
  where
    go : (i n m : ℕ) → ((k : ℕ) → k < m → f (i + k) ≡ h (n + k)) → boxes_from f i (0 + m) ≡ boxes_from h n m
    go i n m same = let e : 0 + m ≡ m = omega arith in ap (boxes_from f i) e ∙ each i n m same
      where
        each : (i n m : ℕ) → ((k : ℕ) → k < m → f (i + k) ≡ h (n + k)) → boxes_from f i m ≡ boxes_from h n m
        each i n zero same = refl
        each i n (suc m) same =
            let a : i ≡ i + 0 = omega arith in
            let b : n + 0 ≡ n = omega arith in
            ap (λ (c : Box). c ∷ boxes_from f (suc i) m) (ap f a ∙ same 0 (omega arith) ∙ ap h b)
            ∙ ap (λ (bs : List Box). h n ∷ bs)
            (each (suc i) (suc n) m (λ k l.
            let c : suc i + k ≡ i + suc k = omega arith in
            let d : n + suc k ≡ suc n + k = omega arith in
            ap f c ∙ same (suc k) (omega (arith, l)) ∙ ap h d))
boxes-join f h i (suc count) n m same =
    let e : suc count + m ≡ suc (count + m) = omega arith in
    ap (boxes_from f i) e
    ∙ ap (λ (bs : List Box). f i ∷ bs)
    (boxes-join f h (suc i) count n m (λ k b.
    let c : suc i + count + k ≡ i + suc count + k = omega arith in ap f c ∙ same k b))

-- ---- read back
pub same-box : (a b : Box) → a.least_x ≡ b.least_x → a.least_y ≡ b.least_y
    → a.greatest_x ≡ b.greatest_x → a.greatest_y ≡ b.greatest_y → a ≡ b
same-box a b = go a.least_x a.least_y a.greatest_x a.greatest_y
  where
    go : (x y z w : Float) → x ≡ b.least_x → y ≡ b.least_y → z ≡ b.greatest_x → w ≡ b.greatest_y
        → record { least_x = x; least_y = y; greatest_x = z; greatest_y = w } ≡ b
    go x y z w e f g h = rw (e, f, g, h) refl

-- the boxes of a list, by their numbers
boxes-of-list : (bs : List Box) (k : ℕ) (d : Box) → k < length bs → box_at (floats_of_boxes bs) k ≡ get_or bs k d
unfolding box_at
boxes-of-list [] k d h = absurd (omega (arith, h))
boxes-of-list (b ∷ bs) zero d h = refl
boxes-of-list (b ∷ bs) (suc k) d h =
    let rest = boxes-of-list bs k d (omega (arith, h)) in
    same-box _ _
    (at (suc k * floats_a_box) (k * floats_a_box) (omega arith) ∙ ap (λ (c : Box). c.least_x) rest)
    (at (suc k * floats_a_box + 1) (k * floats_a_box + 1) (omega arith) ∙ ap (λ (c : Box). c.least_y) rest)
    (at (suc k * floats_a_box + 2) (k * floats_a_box + 2) (omega arith) ∙ ap (λ (c : Box). c.greatest_x) rest)
    (at (suc k * floats_a_box + 3) (k * floats_a_box + 3) (omega arith) ∙ ap (λ (c : Box). c.greatest_y) rest)
  where
    at : (m n : ℕ) → m ≡ suc (suc (suc (suc n))) → get_or (floats_of_boxes (b ∷ bs)) m nan ≡ get_or (floats_of_boxes bs) n nan
    at m n e = ap (λ (i : ℕ). get_or (floats_of_boxes (b ∷ bs)) i nan) e

boxes-from : (box : ℕ → Box) (i count k : ℕ) (d : Box) → k < count → get_or (boxes_from box i count) k d ≡ box (i + k)
boxes-from box i zero k d h = absurd (omega (arith, h))
boxes-from box i (suc count) zero d h = let e : i ≡ i + 0 = omega arith in ap box e
boxes-from box i (suc count) (suc k) d h =
    let e : suc i + k ≡ i + suc k = omega arith in boxes-from box (suc i) count k d (omega (arith, h)) ∙ ap box e

-- what is stored from box `from` on
pub stored-box : (l vs : List Float) (from k : ℕ) → from * floats_a_box + length vs ≤ length l → (k + 1) * floats_a_box ≤ length vs
    → box_at (sets l (from * floats_a_box) vs) (from + k) ≡ box_at vs k
unfolding box_at
stored-box l vs from k room inside =
    let start = (from + k) * floats_a_box in
    let place = k * floats_a_box in
    same-box _ _
    (at start place (omega arith) (omega arith)) (at (start + 1) (place + 1) (omega arith) (omega arith))
    (at (start + 2) (place + 2) (omega arith) (omega arith)) (at (start + 3) (place + 3) (omega arith) (omega arith))
  where
    at : (m n : ℕ) → m ≡ from * floats_a_box + n → n < (k + 1) * floats_a_box
        → get_or (sets l (from * floats_a_box) vs) m nan ≡ get_or vs n nan
    at m n e few =
        ap (λ (i : ℕ). get_or (sets l (from * floats_a_box) vs) i nan) e
        ∙ sets-read l vs (from * floats_a_box) n nan room (omega (arith, few, inside))

-- what stands before it
pub box-before : (l vs : List Float) (at k : ℕ) → (k + 1) * floats_a_box ≤ at → box_at (sets l at vs) k ≡ box_at l k
unfolding box_at
box-before l vs at k h =
    let place = k * floats_a_box in
    same-box _ _
    (sets-before l vs at place nan (omega arith)) (sets-before l vs at (place + 1) nan (omega arith))
    (sets-before l vs at (place + 2) nan (omega arith)) (sets-before l vs at (place + 3) nan (omega arith))

-- the boxes of a list, stored from box `from` on and read back
pub stored-list : (l : List Float) (bs : List Box) (from k : ℕ) (d : Box)
    → from * floats_a_box + length (floats_of_boxes bs) ≤ length l → k < length bs
    → box_at (sets l (from * floats_a_box) (floats_of_boxes bs)) (from + k) ≡ get_or bs k d
stored-list l bs from k d room inside =
    stored-box l (floats_of_boxes bs) from k room (omega (arith, floats-length bs, inside)) ∙ boxes-of-list bs k d inside

pub stored-from : (l : List Float) (box : ℕ → Box) (n from k : ℕ)
    → from * floats_a_box + n * floats_a_box ≤ length l → k < n
    → box_at (sets l (from * floats_a_box) (floats_of_boxes (boxes_from box 0 n))) (from + k) ≡ box k
stored-from l box n from k room inside =
    let bs = boxes_from box 0 n in
    let long = boxes-length box 0 n in
    let zero-k : 0 + k ≡ k = omega arith in
    stored-list l bs from k (box 0) (omega (arith, floats-length bs, long, room)) (omega (arith, long, inside))
    ∙ boxes-from box 0 n k (box 0) inside ∙ ap box zero-k

-- ---- a loop that stores boxes from box `from` on: after i turns the first i of n are stored
pub record Storing (box : ℕ → Box) (from n : ℕ) (old now : List Float) (i : ℕ) : Type 0 where
  pub is : now ≡ sets old (from * floats_a_box) (floats_of_boxes (boxes_from box 0 i))
  pub within : i ≤ n
  pub long : length now ≡ length old

module _ {box : ℕ → Box} {from n : ℕ} where
  pub storing-starts : (old : List Float) → Storing box from n old old 0
  storing-starts old = record { is = refl; within = omega arith; long = refl }

  module _ {old now : List Float} {i : ℕ} (so_far : Storing box from n old now i) where
    pub storing-turn : (b : Box) → i < n → b ≡ box i
        → Storing box from n old (sets now ((from + i) * floats_a_box) (floats_of b)) (i + 1)
    storing-turn b below e =
        record {
          is =
              ap (λ (l : List Float). sets l ((from + i) * floats_a_box) (floats_of b)) so_far.is
              ∙ store-one old from box i b e;
          within = omega (arith, below);
          long = length-sets now ((from + i) * floats_a_box) (floats_of b) ∙ so_far.long;
        }

    pub storing-ends : n ≤ i → now ≡ sets old (from * floats_a_box) (floats_of_boxes (boxes_from box 0 n))
    storing-ends done =
        let all : i ≡ n = omega (arith, done, so_far.within) in
        so_far.is ∙ ap (λ (k : ℕ). sets old (from * floats_a_box) (floats_of_boxes (boxes_from box 0 k))) all

-- ---- the box of a group, from boxes that are the same
join-same : (f h : ℕ → Box) (a : Box) (i count : ℕ) → ((k : ℕ) → k < i + count → f k ≡ h k)
    → join_from f a i count ≡ join_from h a i count
unfolding join_from
join-same f h a i zero same = refl
join-same f h a i (suc count) same =
    join-same f h (join a (f i)) (suc i) count (λ k b. same k (omega (arith, b)))
    ∙ ap (λ (b : Box). join_from h (join a b) (suc i) count) (same i (omega arith))

pub group-same : (f h : ℕ → Box) (n g : ℕ) → g < group_count n → ((k : ℕ) → k < n → f k ≡ h k) → group_box f n g ≡ group_box h n g
unfolding group_box
group-same f h n g some same =
    let i = g * group_size in
    let count = members_of n g - 1 in
    join-same f h (f i) (suc i) count (λ k b. same k (omega (arith, b, some)))
    ∙ ap (λ (b : Box). join_from h b (suc i) count) (same i (omega (arith, some)))

pub groups-same : (f h : ℕ → Box) (n : ℕ) → ((k : ℕ) → k < n → f k ≡ h k) → (i count : ℕ) → i + count ≤ group_count n
    → boxes_from (group_box f n) i count ≡ boxes_from (group_box h n) i count
groups-same f h n same i zero few = refl
groups-same f h n same i (suc count) few =
    ap (λ (b : Box). b ∷ boxes_from (group_box f n) (suc i) count) (group-same f h n i (omega (arith, few)) same)
    ∙ ap (λ (bs : List Box). group_box h n i ∷ bs) (groups-same f h n same (suc i) count (omega (arith, few)))

-- the box of segment i, worked out
pub box-of-segment : (path : List Float) (epsilon : Float) (i : ℕ) (s : Segment) (b : Box) → s ≡ segment_from path i
    → b ≡ box_of s.v1 s.v2 epsilon → b ≡ segment_box path epsilon i
unfolding segment_box
box-of-segment path epsilon i s b e f = f ∙ ap (λ (t : Segment). box_of t.v1 t.v2 epsilon) e

-- the box of a group, while boxes are stored behind those of the segments
pub group-still : (old now : List Float) (from n g : ℕ) (b : Box) {box : ℕ → Box} {count i : ℕ}
    → Storing box (from + n) count old now i → g < group_count n
    → b ≡ group_box (boxes_on now from) n g → b ≡ group_box (boxes_on old from) n g
group-still old now from n g b {box} {count} {i} so_far some e =
    e
    ∙ group-same (boxes_on now from) (boxes_on old from) n g some (λ k h.
    ap (λ (l : List Float). box_at l (from + k)) so_far.is
    ∙ box-before old (floats_of_boxes (boxes_from box 0 i)) ((from + n) * floats_a_box) (from + k) (omega (arith, h)))

-- the boxes of the segments, and then those of their groups
pub stores-index : (l m r : List Float) (path : List Float) (epsilon : Float) (from n : ℕ)
    → from * floats_a_box + floats_needed n ≤ length l
    → m ≡ sets l (from * floats_a_box) (floats_of_boxes (boxes_from (segment_box path epsilon) 0 n))
    → r ≡ with_groups m from n
    → r ≡ sets l (from * floats_a_box) (index path epsilon n)
unfolding index
stores-index l m r path epsilon from n room to-m to-r =
    let box = segment_box path epsilon in
    let bs = boxes_from box 0 n in
    let gs = boxes_from (group_box box n) 0 (group_count n) in
    let long = floats-length bs in
    let behind : (from + n) * floats_a_box ≡ from * floats_a_box + length (floats_of_boxes bs) =
    omega (arith, long, boxes-length box 0 n) in
    let same = groups-same (boxes_on m from) box n (λ k h.
    ap (λ (d : List Float). box_at d (from + k)) to-m ∙ stored-from l box n from k (omega (arith, room)) h) in
    to-r
    ∙ ap (λ (cs : List Box). sets m ((from + n) * floats_a_box) (floats_of_boxes cs)) (same 0 (group_count n) (omega arith))
    ∙ ap (λ (i : ℕ). sets m i (floats_of_boxes gs)) behind
    ∙ ap (λ (d : List Float). sets d (from * floats_a_box + length (floats_of_boxes bs)) (floats_of_boxes gs)) to-m
    ∙ sets-append l (from * floats_a_box) (floats_of_boxes bs) (floats_of_boxes gs)
    ∙ ap (sets l (from * floats_a_box)) (sym (flat_append floats_of bs gs))

-- boxes that are copied from a slice are the index, if the slice has the boxes of the segments and, behind them, of their groups
pub index-copied : (stored path : List Float) (epsilon : Float) (from n : ℕ)
    → ((k : ℕ) → k < n → boxes_on stored from k ≡ segment_box path epsilon k)
    → ((g : ℕ) → g < group_count n → box_at stored (from + n + g) ≡ group_box (boxes_on stored from) n g)
    → floats_of_boxes (boxes_from (boxes_on stored from) 0 (n + group_count n)) ≡ index path epsilon n
unfolding index
index-copied stored path epsilon from n segments groups =
    let box = segment_box path epsilon in
    ap floats_of_boxes
    (boxes-join (boxes_on stored from) (group_box box n) 0 n 0 (group_count n) (λ g some.
    let e : from + (0 + n + g) ≡ from + n + g = omega arith in
    let z : g ≡ 0 + g = omega arith in
    ap (box_at stored) e ∙ groups g some ∙ group-same (boxes_on stored from) box n g some segments ∙ ap (group_box box n) z)
    ∙ ap (λ (bs : List Box). bs ++ boxes_from (group_box box n) 0 (group_count n))
    (boxes-same (boxes_on stored from) box 0 n (λ k a b. segments k (omega (arith, b)))))

-- ---- a loop that joins: b is joined of those before i, up to `end`
pub record Joining (box : ℕ → Box) (n g end : ℕ) (b : Box) (i : ℕ) : Type 0 where
  pub same : join_from box b i (end - i) ≡ group_box box n g
  pub within : i ≤ end

module _ {box : ℕ → Box} {n g end : ℕ} where
  pub joining-starts : (b : Box) → b ≡ box (g * group_size) → g < group_count n → end ≡ lesser ((g + 1) * group_size) n
      → Joining box n g end b (g * group_size + 1)
  unfolding group_box
  joining-starts b e some ends =
      let i = g * group_size in
      let count : end - (i + 1) ≡ members_of n g - 1 = omega (arith, some, ends) in
      let next : i + 1 ≡ suc i = omega arith in
      record {
        same =
            ap (λ (c : Box). join_from box c (i + 1) (end - (i + 1))) e
            ∙ ap (join_from box (box i) (i + 1)) count
            ∙ ap (λ (k : ℕ). join_from box (box i) k (members_of n g - 1)) next;
        within = omega (arith, some, ends);
      }

  module _ {b : Box} {i : ℕ} (so_far : Joining box n g end b i) where
    pub joining-turn : (c : Box) → i < end → c ≡ join b (box i) → Joining box n g end c (i + 1)
    unfolding join_from
    joining-turn c below e =
        let one : end - i ≡ suc (end - suc i) = omega (arith, below) in
        let next : i + 1 ≡ suc i = omega arith in
        record {
          same =
              ap (λ (k : ℕ). join_from box c k (end - k)) next
              ∙ ap (λ (d : Box). join_from box d (suc i) (end - suc i)) e
              ∙ sym (ap (join_from box b i) one)
              ∙ so_far.same;
          within = omega (arith, below);
        }

    pub joining-ends : end ≤ i → b ≡ group_box box n g
    unfolding join_from
    joining-ends done =
        let none : end - i ≡ 0 = omega (arith, done) in
        sym (ap (join_from box b i) none) ∙ so_far.same

-- ---- an index, stored from box `from` on and read back
pub index-length : (box : ℕ → Box) (n : ℕ) → length (floats_of_boxes (boxes_of box n)) ≡ floats_needed n
index-length box n =
    let bs = boxes_from box 0 n in
    let gs = boxes_from (group_box box n) 0 (group_count n) in
    omega (
      arith,
      floats-length (bs ++ gs),
      length-append bs gs,
      boxes-length box 0 n,
      boxes-length (group_box box n) 0 (group_count n),
    )

module _ (l : List Float) (box : ℕ → Box) (from n : ℕ) (room : from * floats_a_box + floats_needed n ≤ length l) where
  abbrev bs : List Box
  bs = boxes_from box 0 n

  abbrev gs : List Box
  gs = boxes_from (group_box box n) 0 (group_count n)

  -- box k of them
  nth : (k : ℕ) → k < n + group_count n
      → box_at (sets l (from * floats_a_box) (floats_of_boxes (boxes_of box n))) (from + k) ≡ get_or (bs ++ gs) k (box 0)
  nth k inside =
      stored-list l (bs ++ gs) from k (box 0) (omega (arith, index-length box n, room))
      (omega (arith, length-append bs gs, boxes-length box 0 n, boxes-length (group_box box n) 0 (group_count n), inside))

  pub index-segment : (k : ℕ) → k < n
      → box_at (sets l (from * floats_a_box) (floats_of_boxes (boxes_of box n))) (from + k) ≡ box k
  index-segment k inside =
      let zero-k : 0 + k ≡ k = omega arith in
      nth k (omega (arith, inside))
      ∙ get_or-append bs gs (box 0) k (omega (arith, boxes-length box 0 n, inside))
      ∙ boxes-from box 0 n k (box 0) inside ∙ ap box zero-k

  pub index-group : (g : ℕ) → g < group_count n
      → box_at (sets l (from * floats_a_box) (floats_of_boxes (boxes_of box n))) (from + n + g) ≡ group_box box n g
  index-group g some =
      let behind : from + n + g ≡ from + (n + g) = omega arith in
      let long : n + g ≡ length bs + g = omega (arith, boxes-length box 0 n) in
      let zero-g : 0 + g ≡ g = omega arith in
      ap (box_at (sets l (from * floats_a_box) (floats_of_boxes (boxes_of box n)))) behind
      ∙ nth (n + g) (omega (arith, some))
      ∙ ap (λ (k : ℕ). get_or (bs ++ gs) k (box 0)) long
      ∙ get_or-append-add bs gs g (box 0)
      ∙ boxes-from (group_box box n) 0 (group_count n) g (box 0) some ∙ ap (group_box box n) zero-g
