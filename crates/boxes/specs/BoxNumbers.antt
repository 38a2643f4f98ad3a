-- No number of a box is a NaN, an infinity or -0, if the segment's coordinates and the epsilon passed their checks. That holds
-- for the box of a segment, for that of a group and for every number of a path's index. So no comparison of boxes meets a NaN,
-- and the box of a group does not depend on the order in which its members' boxes are joined (GroupExact.antt).
use Rattle.checks.specs.Checked.{Checked}
use Rattle.std.specs.Prelude.{◌≡◌, ◌≢◌, Bool, true, false, cond, ◌||◌, List, [], ◌∷◌, ◌++◌, ℕ, zero, suc, ◌+◌, ◌-◌, ◌*◌, ◌≤◌, ◌<◌, T, ℤ, Float, Ok}
use Rattle.std.proofs.Common.{arith, lit≤}
use Rattle.std.specs.Float.{fin, binary64}
use Rattle.std.specs.Float.Ieee.{low, is_nan, fits}
use Rattle.std.specs.Float.Ieee.Fits.{add-fits, sub-fits}
use Rattle.float_laws.specs.Roundings.{Within}
use Rattle.float_laws.specs.Magnitudes.{within-up}
use Rattle.floats.specs.Ops.{◌⊕◌, ◌⊖◌}
use Rattle.plane.specs.declared.pline_vertex.PlineVertex.{PlineVertex}
use Rattle.plane.specs.PlineVertex as vertices
use Rattle.plane.specs.PlineVertex.{bulge_is_zero}
use Rattle.checks.specs.declared.fault.Place.{Place}
use Rattle.checks.specs.Number.{is_infinite}
use Rattle.checks.specs.Limit
use Rattle.checks.specs.Each
use Rattle.checks.specs.Chord.{of-points}
use Rattle.checks.specs.Laws.Fine as fine
use Rattle.checks.specs.Laws.Fine.{of_number, coordinate-fine, epsilon-fine}
use Rattle.checks.specs.Laws.Chains.{PointFine}
use Rattle.checks.specs.Laws.Lengths.{coordinate-small}
use Rattle.paths.specs.Path.{number, vertex}
use Rattle.paths.specs.Segments.{segment_count, segment_from}
use Rattle.paths.specs.Check.{check_path}
use Rattle.paths.specs.Laws.Fine.{path-fine, segment-fine}
use Rattle.boxes.specs.declared.bounds.Box.{Box}
use Rattle.boxes.specs.Box.{margin, box_of, join}
use Rattle.boxes.specs.Groups.{segment_box, group_size, group_count, members_of, join_from, group_box}
use Rattle.boxes.specs.Index.{floats_of_boxes, boxes_from, boxes_of, index}
use Rattle.boxes.specs.Laws.Numbers.{Number, Outward, add-number, sub_number, small-within, epsilon-outward, arc-outward}
use Rattle.boxes.specs.Laws.Extremes.{min-has, max-has}

-- x is an f64, written as every f64 is: the kit's `fits`. The logic has more floats than a program, some with more digits or
-- smaller ones, and a difference of such floats could round to -0.
abbrev pub IsF64 : Float → Type 0
IsF64 x = T (fits binary64 x)

-- an f64 that is no NaN, no infinity and not -0. A finite float is `fin s m e`, which is m * 2 ^ e, with a minus if s is true; so
-- -0 is `fin true 0 e`.
pub record Plain (x : Float) : Type 0 where
  pub f64 : IsF64 x
  pub number : (is_nan x || is_infinite x) ≡ false
  pub not-minus-zero : (e : ℤ) → x ≢ fin true 0 e

-- all four numbers of a box are such numbers
pub record PlainBox (b : Box) : Type 0 where
  pub least-x : Plain b.least_x
  pub least-y : Plain b.least_y
  pub greatest-x : Plain b.greatest_x
  pub greatest-y : Plain b.greatest_y

-- all of a list are
abbrev pub AllPlain : List Float → Type 0
AllPlain [] = Unit {0}
AllPlain (x ∷ xs) = Plain x × AllPlain xs

-- every number of a path is an f64; so is the NaN that `number` answers behind its end
abbrev pub AllF64 : List Float → Type 0
AllF64 path = (k : ℕ) → IsF64 (number path k)

-- ---- the argument for a segment: a margin is above zero, so a coordinate less or plus a margin is never -0; and it is small
of-sum : (r : Float) → IsF64 r → Number r → Plain r
of-sum r fit n = record { f64 = fit; number = of_number r n.is_finite; not-minus-zero = n.not-minus-zero }

-- a coordinate: at most 2 ^ 20 in size, so at most 2 ^ 23
abbrev Coordinate : Float → Type 0
Coordinate x = Within binary64 (23 + low binary64) x

coordinate : (x : Float) → IsF64 x → fine.Within Limit.coordinate x → Coordinate x
coordinate x fit w =
    within-up binary64 (20 + low binary64) (23 + low binary64) x (lit≤ tt)
    (small-within binary64 20 x fit (coordinate-small x w))

margin-outward : (v1 v2 : PlineVertex) (epsilon : Float) → IsF64 epsilon → PointFine v1.x v1.y → PointFine v2.x v2.y
    → fine.Between Limit.epsilon_least Limit.epsilon_most epsilon
    → Outward binary64 (margin v1 v2 epsilon)
unfolding margin
margin-outward v1 v2 epsilon fit p q b =
    go (bulge_is_zero v1) (epsilon-outward epsilon fit b) (arc-outward _ epsilon (of-points v1 v2 p q) b)
  where
    go : {x y : Float} (z : Bool) → Outward binary64 x → Outward binary64 y → Outward binary64 (cond z x y)
    go true a b = a
    go false a b = b

module _ (x m : Float) (a : Coordinate x) (h : Outward binary64 m) where
  less : Plain (x ⊖ m)
  less =
      of-sum (x ⊖ m) (sub-fits binary64 x m)
      (sub_number binary64 x m (23 + low binary64) false h.count a h.value h.some h.le (lit≤ tt))

  more : Plain (x ⊕ m)
  more =
      of-sum (x ⊕ m) (add-fits binary64 x m)
      (add-number binary64 x m (23 + low binary64) false h.count a h.value h.some h.le (lit≤ tt))

-- the coordinates of a point are f64
abbrev PointF64 : PlineVertex → Type 0
PointF64 v = IsF64 v.x × IsF64 v.y

pub points-plain : (v1 v2 : PlineVertex) (epsilon : Float) → PointF64 v1 → PointF64 v2 → IsF64 epsilon
    → PointFine v1.x v1.y → PointFine v2.x v2.y → fine.Between Limit.epsilon_least Limit.epsilon_most epsilon
    → PlainBox (box_of v1 v2 epsilon)
unfolding box_of
points-plain v1 v2 epsilon (x1, y1) (x2, y2) fit p q b =
    let m = margin v1 v2 epsilon in
    let h = margin-outward v1 v2 epsilon fit p q b in
    let ax = coordinate v1.x x1 p.at_x in
    let ay = coordinate v1.y y1 p.at_y in
    let bx = coordinate v2.x x2 q.at_x in
    let by = coordinate v2.y y2 q.at_y in
    record {
      least-x = less _ m (min-has Coordinate v1.x v2.x ax bx) h;
      least-y = less _ m (min-has Coordinate v1.y v2.y ay by) h;
      greatest-x = more _ m (max-has Coordinate v1.x v2.x ax bx) h;
      greatest-y = more _ m (max-has Coordinate v1.y v2.y ay by) h;
    }

-- ---- one segment: if its four coordinates and the epsilon passed their checks, at any places, its box has such numbers
pub segment-plain : (v1 v2 : PlineVertex) (epsilon : Float) (p q r s : Place)
    → IsF64 v1.x → IsF64 v1.y → IsF64 v2.x → IsF64 v2.y → IsF64 epsilon
    → Each.coordinate v1.x p ≡ Ok tt → Each.coordinate v1.y q ≡ Ok tt
    → Each.coordinate v2.x r ≡ Ok tt → Each.coordinate v2.y s ≡ Ok tt
    → Each.epsilon epsilon ≡ Ok tt
    → PlainBox (box_of v1 v2 epsilon)
segment-plain v1 v2 epsilon p q r s x1 y1 x2 y2 fit ax ay bx by e =
    points-plain v1 v2 epsilon (x1, y1) (x2, y2) fit
    (record { at_x = (coordinate-fine v1.x p).0 ax; at_y = (coordinate-fine v1.y q).0 ay })
    (record { at_x = (coordinate-fine v2.x r).0 bx; at_y = (coordinate-fine v2.y s).0 by })
    ((epsilon-fine epsilon).0 e)

-- ---- two boxes together, and a group
pub join-plain : (a b : Box) → PlainBox a → PlainBox b → PlainBox (join a b)
unfolding join
join-plain a b p q =
    record {
      least-x = min-has Plain _ _ p.least-x q.least-x;
      least-y = min-has Plain _ _ p.least-y q.least-y;
      greatest-x = max-has Plain _ _ p.greatest-x q.greatest-x;
      greatest-y = max-has Plain _ _ p.greatest-y q.greatest-y;
    }

joined-plain : (box : ℕ → Box) (b : Box) (i count : ℕ) → PlainBox b
    → ((j : ℕ) → i ≤ j → j < i + count → PlainBox (box j))
    → PlainBox (join_from box b i count)
unfolding join_from
joined-plain box b i zero p each = p
joined-plain box b i (suc count) p each =
    joined-plain box (join b (box i)) (suc i) count (join-plain b (box i) p (each i (omega arith) (omega arith)))
    (λ j l h. each j (omega (arith, l)) (omega (arith, h)))

-- if the boxes of all n segments have such numbers, so have those of their groups
pub group-plain : (box : ℕ → Box) (n : ℕ) → ((i : ℕ) → i < n → PlainBox (box i))
    → (g : ℕ) → g < group_count n → PlainBox (group_box box n g)
unfolding group_box
group-plain box n each g l =
    joined-plain box (box (g * group_size)) (suc (g * group_size)) (members_of n g - 1) (each (g * group_size) (omega (arith, l)))
    (λ j h k. each j (omega (arith, h, k, l)))

-- ---- lists of boxes
abbrev BoxesPlain : List Box → Type 0
BoxesPlain [] = Unit {0}
BoxesPlain (b ∷ bs) = PlainBox b × BoxesPlain bs

along : (box : ℕ → Box) (i count : ℕ) → ((j : ℕ) → i ≤ j → j < i + count → PlainBox (box j))
    → BoxesPlain (boxes_from box i count)
along box i zero each = tt
along box i (suc count) each =
    (each i (omega arith) (omega arith), along box (suc i) count (λ j l h. each j (omega (arith, l)) (omega (arith, h))))

one-after : (bs cs : List Box) → BoxesPlain bs → BoxesPlain cs → BoxesPlain (bs ++ cs)
one-after [] cs p q = q
one-after (b ∷ bs) cs p q = (p.0, one-after bs cs p.1 q)

numbers : (bs : List Box) → BoxesPlain bs → AllPlain (floats_of_boxes bs)
numbers [] p = tt
numbers (b ∷ bs) p =
    (p.0.least-x, (p.0.least-y, (p.0.greatest-x, (p.0.greatest-y, numbers bs p.1))))

-- ---- a path: if no check found a fault, the box of each of its segments and of its groups has such numbers
module _ (f : Checked) (path : List Float) (closed : Bool) (owner : ℕ) (epsilon : Float)
    (all : AllF64 path) (fit : IsF64 epsilon)
    (checked : check_path f path closed owner ≡ Ok tt) (small : Each.epsilon epsilon ≡ Ok tt) where
  abbrev n : ℕ
  n = segment_count path closed

  vertex-f64 : (i : ℕ) → PointF64 (vertex path i)
  unfolding vertex vertices.new
  vertex-f64 i = (all _, all _)

  pub segments-plain : (i : ℕ) → i < n → PlainBox (segment_box path epsilon i)
  unfolding segment_box segment_from
  segments-plain i l =
      let s = segment-fine path closed ((path-fine f path closed owner).0 checked).1 i l in
      points-plain _ _ epsilon (vertex-f64 _) (vertex-f64 _) fit s.start.point s.end.point ((epsilon-fine epsilon).0 small)

  pub groups-plain : (g : ℕ) → g < group_count n → PlainBox (group_box (segment_box path epsilon) n g)
  groups-plain = group-plain (segment_box path epsilon) n segments-plain

  -- and so has its index
  pub index-plain : AllPlain (index path epsilon n)
  unfolding index
  index-plain =
      numbers (boxes_of (segment_box path epsilon) n)
      (one-after (boxes_from (segment_box path epsilon) 0 n) (boxes_from (group_box (segment_box path epsilon) n) 0 (group_count n))
      (along (segment_box path epsilon) 0 n (λ i l h. segments-plain i (omega (arith, h))))
      (along (group_box (segment_box path epsilon) n) 0 (group_count n) (λ g l h. groups-plain g (omega (arith, h)))))
