-- The first number from j on for which a test says yes; and which boxes of a slice meet a given one, where the boxes of n
-- segments stand from box `from` on and, behind them, those of their groups.
use Rattle.std.specs.Prelude.{◌≡◌, Bool, cond, not, ◌⊎◌, List, Float, length}
use Rattle.std.proofs.Math.Path.{refl, sym, ap}
use Rattle.std.proofs.Common.{◌∙◌, inl, inr, eq-or-lt_of_le, add-one, arith}
use Rattle.std.proofs.Math.Bool.{true, false}
use Prim.Native.Nat.{ℕ, zero, suc, ◌+◌, ◌-◌, ◌*◌, ◌/◌, ◌≤◌, ◌<◌, max}
use Rattle.std.proofs.lemmas.List.Edits.{sets}
use Rattle.std.proofs.Math.Seq.{length-sets}
use Rattle.boxes.specs.declared.bounds.Box.{Box}
use Rattle.boxes.specs.Box.{meet}
use Rattle.boxes.specs.Groups.{segment_box, group_size, group_count, group_box}
use Rattle.boxes.specs.Index.{floats_a_box, floats_of_boxes, boxes_from, index, floats_needed}
use Rattle.boxes.specs.Laws.Joined.{group-apart}
use Rattle.boxes.specs.Workings.Stored.{box_at, boxes_on, with_groups, box-before, stored-from, group-same}
use Rattle.boxes.specs.Workings.Stored.{index-segment, index-group}

-- the first of j, j + 1, .., `count` of them, for which the test says yes; the number after them if there is none
unfoldable pub first_of : (ℕ → Bool) → ℕ → ℕ → ℕ
first_of test j zero = j
first_of test j (suc count) = cond (test j) j (first_of test (suc j) count)

-- the first from j on and before `end`
abbrev pub first : (ℕ → Bool) → ℕ → ℕ → ℕ
first test j end = first_of test j (end - j)

module _ (test : ℕ → Bool) where
  pub first-none : (j end : ℕ) → end ≤ j → first test j end ≡ j
  unfolding first_of
  first-none j end h = let e : end - j ≡ 0 = omega (arith, h) in ap (first_of test j) e

  step : (j end : ℕ) → j < end → first test j end ≡ cond (test j) j (first test (suc j) end)
  unfolding first_of
  step j end h = let e : end - j ≡ suc (end - suc j) = omega (arith, h) in ap (first_of test j) e

  pub first-here : (j end : ℕ) → j < end → test j ≡ true → first test j end ≡ j
  first-here j end h e = step j end h ∙ ap (λ (b : Bool). cond b j (first test (suc j) end)) e

  pub first_on : (j end : ℕ) → j < end → test j ≡ false → first test j end ≡ first test (j + 1) end
  first_on j end h e =
      step j end h ∙ ap (λ (b : Bool). cond b j (first test (suc j) end)) e
      ∙ ap (λ (k : ℕ). first test k end) (sym (add-one j))

  -- over several for which it says no
  over : (j end count : ℕ) → j + count ≤ end → ((i : ℕ) → j ≤ i → i < j + count → test i ≡ false)
      → first test j end ≡ first test (j + count) end
  over j end zero h none = let e : j ≡ j + 0 = omega arith in ap (λ (k : ℕ). first test k end) e
  over j end (suc count) h none =
      let e : suc j + count ≡ j + suc count = omega arith in
      step j end (omega (arith, h))
      ∙ ap (λ (b : Bool). cond b j (first test (suc j) end)) (none j (omega arith) (omega arith))
      ∙ over (suc j) end count (omega (arith, h)) (λ i a b. none i (omega (arith, a)) (omega (arith, b)))
      ∙ ap (λ (k : ℕ). first test k end) e

  pub first-over : (j k end : ℕ) → j ≤ k → k ≤ end → ((i : ℕ) → j ≤ i → i < k → test i ≡ false)
      → first test j end ≡ first test k end
  first-over j k end h l none =
      let e : j + (k - j) ≡ k = omega (arith, h) in
      over j end (k - j) (omega (arith, h, l)) (λ i a b. none i a (omega (arith, b, h)))
      ∙ ap (λ (m : ℕ). first test m end) e

  -- ---- what it says: before it the test says no, and there it says yes, if it is not the end
  pub record First (j end r : ℕ) : Type 0 where
    pub low : j ≤ r
    pub high : r ≤ end
    pub before : (i : ℕ) → j ≤ i → i < r → test i ≡ false
    pub here : r < end → test r ≡ true

  is-first : (j end count : ℕ) → j + count ≡ end → First j end (first_of test j count)
  unfolding first_of
  is-first j end zero e =
      record {
        low = omega arith;
        high = omega (arith, e);
        before = λ i a b. absurd (omega (arith, a, b));
        here = λ h. absurd (omega (arith, e, h));
      }
  is-first j end (suc count) e = go (test j) refl (is-first (suc j) end count (omega (arith, e)))
    where
      go : (b : Bool) → test j ≡ b → First (suc j) end (first_of test (suc j) count)
          → First j end (cond b j (first_of test (suc j) count))
      go true f rest =
          record {
            low = omega arith;
            high = omega (arith, e);
            before = λ i a b. absurd (omega (arith, a, b));
            here = λ h. f;
          }
      go false f rest =
          record {
            low = omega (arith, rest.low);
            high = rest.high;
            before = λ i a b. at i b (eq-or-lt_of_le a);
            here = rest.here;
          }
        where
          at : (i : ℕ) → i < first_of test (suc j) count → (j ≡ i) ⊎ (j < i) → test i ≡ false
          at i b (inl g) = ap test (sym g) ∙ f
          at i b (inr g) = rest.before i g b

  pub first-is : (j end r : ℕ) → j ≤ end → r ≡ first test j end → First j end r
  first-is j end r h e = rw e (is-first j end (end - j) (omega (arith, h)))

-- ---- a loop that looks for the first: those before k say no
pub record Finding (test : ℕ → Bool) (j end k : ℕ) : Type 0 where
  pub same : first test k end ≡ first test j end
  pub within : k ≤ end

pub finding-starts : (test : ℕ → Bool) (j end : ℕ) → j ≤ end → Finding test j end j
finding-starts test j end h = record { same = refl; within = h }

module _ {test : ℕ → Bool} {j end k : ℕ} (so_far : Finding test j end k) where
  pub finding-here : (said : Bool) → k < end → said ≡ test k → said ≡ true → k ≡ first test j end
  finding-here said below is e = sym (first-here test k end below (sym is ∙ e)) ∙ so_far.same

  pub finding-on : (said : Bool) → k < end → said ≡ test k → said ≡ false → Finding test j end (k + 1)
  finding-on said below is e =
      record { same = sym (first_on test k end below (sym is ∙ e)) ∙ so_far.same; within = omega (arith, below) }

  -- over several
  pub finding-over : (m : ℕ) → k ≤ m → m ≤ end → ((i : ℕ) → k ≤ i → i < m → test i ≡ false) → Finding test j end m
  finding-over m low high none =
      record { same = sym (first-over test k m end low high none) ∙ so_far.same; within = high }

  -- the first from k on and before m is one from j on and before the end
  pub finding-found : (m r : ℕ) → k ≤ m → m ≤ end → r ≡ first test k m → r < m → r ≡ first test j end
  finding-found m r low high e inside =
      let f = first-is test k m r low e in
      sym (first-here test r end (omega (arith, inside, high)) (f.here inside))
      ∙ sym (first-over test k r end f.low (omega (arith, inside, high)) f.before) ∙ so_far.same

  -- and if there is none before m, m is next
  pub finding-past : (m r : ℕ) → k ≤ m → m ≤ end → r ≡ first test k m → m ≤ r → Finding test j end m
  finding-past m r low high e none =
      let f = first-is test k m r low e in
      finding-over m low high (λ i a b. f.before i a (omega (arith, b, none)))

  pub finding-ends : end ≤ k → end ≡ first test j end
  finding-ends done =
      let all : end ≡ k = omega (arith, done, so_far.within) in
      all ∙ sym (first-none test k end done) ∙ so_far.same

-- ---- boxes of a slice, from box `from` on, that meet b, and that do not
abbrev pub meets : List Float → ℕ → Box → ℕ → Bool
meets boxes from b k = meet b (boxes_on boxes from k)

abbrev pub apart : List Float → ℕ → Box → ℕ → Bool
apart boxes from b k = not (meets boxes from b k)

-- behind the boxes of n segments stand those of their groups
pub record Grouped (boxes : List Float) (from n : ℕ) : Type 0 where
  pub room : from * floats_a_box + floats_needed n ≤ length boxes
  pub groups : (g : ℕ) → g < group_count n → box_at boxes (from + n + g) ≡ group_box (boxes_on boxes from) n g

-- if the group of k does not meet b, no segment from k up to the end of its group does
pub none-in-group : (boxes : List Float) (from n : ℕ) (b : Box) (k stop : ℕ) → Grouped boxes from n
    → meet b (box_at boxes (from + n + k / group_size)) ≡ false → k < n → stop ≤ n → stop ≤ (k / group_size + 1) * group_size
    → (i : ℕ) → k ≤ i → i < stop → meets boxes from b i ≡ false
none-in-group boxes from n b k stop has e inside within ends i low high =
    let g = k / group_size in
    let is = has.groups g (omega (arith, inside)) in
    group-apart (boxes_on boxes from) b n g i (sym (ap (meet b) is) ∙ e)
    (omega (arith, low)) (omega (arith, high, ends)) (omega (arith, high, within))

-- ---- groups of groups
-- behind the boxes of n segments stand those of their groups, and behind these those of groups of groups
pub record GroupedTwice (boxes : List Float) (from n : ℕ) : Type 0 where
  pub once : Grouped boxes from n
  pub twice : Grouped boxes (from + n) (group_count n)

-- k, or the first segment of group g if that comes later
abbrev pub in_group : ℕ → ℕ → ℕ
in_group k g = max k (g * group_size)

pub record InGroup (k g r : ℕ) : Type 0 where
  pub low : k ≤ r
  pub start : g * group_size ≤ r
  pub least : (i : ℕ) → k ≤ i → i < r → i < g * group_size
  pub high : (end : ℕ) → k < end → g * group_size < end → r < end

pub in-group-lem : (k g r : ℕ) → r ≡ in_group k g → InGroup k g r
in-group-lem k g r e =
    record {
      low = omega (arith, e);
      start = omega (arith, e);
      least = λ i a b. omega (arith, e, a, b);
      high = λ end a b. omega (arith, e, a, b);
    }

-- if no group from that of k up to g meets b, no segment from k up to the start of group g does
pub none-in-groups : (boxes : List Float) (from n : ℕ) (b : Box) (k g : ℕ) → Grouped boxes from n
    → ((h : ℕ) → k / group_size ≤ h → h < g → meets boxes (from + n) b h ≡ false)
    → (i : ℕ) → k ≤ i → i < g * group_size → i < n → meets boxes from b i ≡ false
none-in-groups boxes from n b k g has none i low high inside =
    none-in-group boxes from n b i (i + 1) has (none (i / group_size) (omega (arith, low)) (omega (arith, high)))
    inside (omega (arith, inside)) (omega arith) i (omega arith) (omega arith)

-- so a search that has found no group before g goes on there
module _ {boxes : List Float} {from n j end k groups g at : ℕ} (b : Box) (so_far : Finding (meets boxes from b) j end k)
    (has : Grouped boxes from n) (next : First (meets boxes (from + n) b) (k / group_size) groups g) (there : InGroup k g at) where
  pub groups-over : (m : ℕ) → k ≤ m → m ≤ at → m ≤ end → end ≤ n → Finding (meets boxes from b) j end m
  groups-over m low high within inside =
      finding-over so_far m low within (λ i a l.
      none-in-groups boxes from n b k g has next.before i a
      (there.least i a (omega (arith, l, high))) (omega (arith, l, within, inside)))

  -- and before the end of that group
  pub in-time : at < (g + 1) * group_size
  in-time = there.high ((g + 1) * group_size) (omega (arith, next.low)) (omega arith)

-- groups that are stored behind the boxes
pub still-grouped : (l vs : List Float) (from n at : ℕ) → (from + n + group_count n) * floats_a_box ≤ at → Grouped l from n
    → Grouped (sets l at vs) from n
still-grouped l vs from n at behind has =
    record {
      room = omega (arith, has.room, length-sets l at vs);
      groups = λ g some.
          box-before l vs at (from + n + g) (omega (arith, behind, some))
          ∙ has.groups g some
          ∙ group-same (boxes_on l from) (boxes_on (sets l at vs) from) n g some
          (λ k h. sym (box-before l vs at (from + k) (omega (arith, behind, h))));
    }

pub groups-stored : (l : List Float) (from n : ℕ) → from * floats_a_box + floats_needed n ≤ length l
    → Grouped (with_groups l from n) from n
groups-stored l from n room =
    let at = (from + n) * floats_a_box in
    let box = group_box (boxes_on l from) n in
    let vs = floats_of_boxes (boxes_from box 0 (group_count n)) in
    record {
      room = omega (arith, room, length-sets l at vs);
      groups = λ g some.
          stored-from l box (group_count n) (from + n) g (omega (arith, room)) some
          ∙ group-same (boxes_on l from) (boxes_on (sets l at vs) from) n g some
          (λ k h. sym (box-before l vs at (from + k) (omega (arith, h))));
    }

-- ---- an index that is stored from box `from` on
module _ (l path : List Float) (epsilon : Float) (from n : ℕ) (room : from * floats_a_box + floats_needed n ≤ length l) where
  abbrev after : List Float
  after = sets l (from * floats_a_box) (index path epsilon n)

  pub index-segments : (k : ℕ) → k < n → boxes_on after from k ≡ segment_box path epsilon k
  unfolding index
  index-segments k inside = index-segment l (segment_box path epsilon) from n room k inside

  pub index-grouped : Grouped after from n
  unfolding index
  index-grouped =
      let box = segment_box path epsilon in
      record {
        room = omega (arith, room, length-sets l (from * floats_a_box) (index path epsilon n));
        groups = λ g some.
            index-group l box from n room g some
            ∙ sym (group-same (boxes_on after from) box n g some (index-segment l box from n room));
      }
