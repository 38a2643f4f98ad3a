-- Two grid lines that share a point have boxes that meet: so no pair of lines that touch is lost if only pairs whose boxes meet
-- are looked at. First the statement, then its proof. One end of each line is not beyond one end of the other, as whole numbers
-- (Plane/Ends), and a box holds the ends of its line, since what is moved outward by epsilon does not cross a whole number.
use Rattle.std.specs.Prelude.{◌≡◌, refl, ◌⊎◌, Bool, true, false, cond, List, ℕ, ◌+◌, ◌≤◌, T, ℤ, nat_abs, ◌≤ℤ◌, Float}
use Rattle.std.proofs.Common.{sym, subst, inl, inr, zero-lt-suc, arith}
use Rattle.std.specs.Float.{binary64}
use Rattle.std.specs.Float.Ieee.Bits.{is_true}
use Rattle.std.specs.Float.Ieee.Scale.{finite}
use Rattle.float_laws.specs.Signed.{Diff, diff-finite}
use Rattle.float_laws.specs.Order as order
use Rattle.float_laws.specs.Chains.{le_trans}
use Rattle.float_laws.specs.Whole.{whole_float}
use Rattle.floats.specs.Ops.{◌⊕◌, ◌⊖◌, ◌≼◌, f0}
use Rattle.floats.specs.F64.{min, max}
use Rattle.plane.specs.PlineVertex.{bulge_is_zero}
use Rattle.plane.specs.declared.pline_vertex.PlineVertex.{PlineVertex}
use Rattle.boxes.specs.Box.{margin, box_of, meet}
use Rattle.boxes.specs.Groups.{segment_box}
use Rattle.boxes.specs.Laws.Numbers.{zero_is}
use Rattle.boxes.specs.Laws.Extremes.{min-has, max-has, min-first, min-second, max-first, max-second}
use Rattle.boxes.specs.Laws.Joined.{they-meet}
use Rattle.boxes.specs.Laws.Moved.{down-below, up_above}
use Rattle.grid.specs.Promise.{Is, Epsilon, Spot, On, Share, GridLine}
use Rattle.grid.specs.Plane.Whole.{diff, whole, gain, loss, le-diff}
use Rattle.grid.proofs.Plane.Parts.{gain-loss}
use Rattle.grid.proofs.Plane.Spots.{flip, share-swapped, share-flipped}
use Rattle.grid.proofs.Plane.Ends.{ends}
use Rattle.grid.specs.Floats.Zero.{Eps}
use Rattle.grid.proofs.Joined.{whole-diff, eps}

-- ---- the statement
abbrev pub BoxesMeet : Type 0
BoxesMeet = (v1 v2 u1 u2 : PlineVertex) (p1 p2 q1 q2 : Spot) (e : Float) (num den : ℕ)
    → On v1 p1 → On v2 p2 → On u1 q1 → On u2 q2 → T (bulge_is_zero v1) → T (bulge_is_zero u1) → Epsilon e num den
    → Share p1 p2 q1 q2
    → meet (box_of v1 v2 e) (box_of u1 u2 e) ≡ true

-- the same of a segment of each of two paths
abbrev pub SegmentBoxesMeet : Type 0
SegmentBoxesMeet = (first second : List Float) (e : Float) (num den : ℕ) → Epsilon e num den
    → (i j : ℕ) (p1 p2 q1 q2 : Spot) → GridLine first i p1 p2 → GridLine second j q1 q2
    → Share p1 p2 q1 q2
    → meet (segment_box first e i) (segment_box second e j) ≡ true

-- ---- floats that are whole numbers of the grid
abbrev Whole : Float → ℤ → Type 0
Whole x a = Is x a 1 × (nat_abs a ≤ 1048576)

is_finite : (x : Float) (a : ℤ) → Whole x a → T (finite x)
is_finite x a h = diff-finite x (gain a) (loss a) 1 (whole-diff x a 1 h.0)

-- they are in the order of the whole numbers
in_order : (x y : Float) (p n q k : ℕ) → Diff x p n 1 → Diff y q k 1 → p + k ≤ q + n → T (x ≼ y)
in_order x y p n q k a b = (order.le-over x y p n q k 1 (zero-lt-suc 0) a b).1

parts-in-order : (a b : ℤ) → a ≤ℤ b → gain a + loss b ≤ gain b + loss a
parts-in-order a b h =
    (le-diff (gain a) (loss a) (gain b) (loss b)).0
    (subst (λ (z : ℤ). z ≤ℤ diff (gain b) (loss b)) (sym (whole a)) (subst (λ (z : ℤ). a ≤ℤ z) (sym (whole b)) h))

-- ---- along one axis: the first line from x1 to x2, the second from y1 to y2, each moved outward by e
module _ (e : Float) (number : T (finite e)) (least : T (f0 ≼ e)) (x1 x2 y1 y2 : Float) (p1 p2 q1 q2 : Spot)
    (A1 : Whole x1 p1.x) (A2 : Whole x2 p2.x) (B1 : Whole y1 q1.x) (B2 : Whole y2 q2.x) where
  low-finite : T (finite (min x1 x2))
  low-finite = min-has (λ (z : Float). T (finite z)) x1 x2 (is_finite x1 p1.x A1) (is_finite x2 p2.x A2)

  high-finite : T (finite (max y1 y2))
  high-finite = max-has (λ (z : Float). T (finite z)) y1 y2 (is_finite y1 q1.x B1) (is_finite y2 q2.x B2)

  -- an end x of the first is at most an end y of the second, and so is the f64 that is the whole number b
  through : (x y : Float) (a b : ℤ) → Whole x a → Whole y b → ((z : Float) → T (x ≼ z) → T (min x1 x2 ≼ z))
      → ((z : Float) → T (z ≼ y) → T (z ≼ max y1 y2)) → a ≤ℤ b → T ((min x1 x2 ⊖ e) ≼ (max y1 y2 ⊕ e))
  through x y a b A B low high l =
      let s = gain-loss b in
      let w = whole_float binary64 (gain b) (loss b) (omega (arith, s, B.1)) (omega (arith, s, B.1)) in
      let z = w.y in
      let Z = diff-finite z (gain b) (loss b) 1 w.is in
      let to-z = in_order x z (gain a) (loss a) (gain b) (loss b) (whole-diff x a 1 A.0) w.is (parts-in-order a b l) in
      let from-z = in_order z y (gain b) (loss b) (gain b) (loss b) w.is (whole-diff y b 1 B.0) (omega arith) in
      le_trans (min x1 x2 ⊖ e) z (max y1 y2 ⊕ e)
      (down-below (min x1 x2) e z low-finite number Z w.fit least (low z to-z))
      (up_above (max y1 y2) e z high-finite number Z w.fit least (high z from-z))

  axis-meets : Share p1 p2 q1 q2 → T ((min x1 x2 ⊖ e) ≼ (max y1 y2 ⊕ e))
  axis-meets share = go (ends p1 p2 q1 q2 share)
    where
      low1 : (z : Float) → T (x1 ≼ z) → T (min x1 x2 ≼ z)
      low1 z = min-first z x1 x2

      low2 : (z : Float) → T (x2 ≼ z) → T (min x1 x2 ≼ z)
      low2 z = min-second z x1 x2

      high1 : (z : Float) → T (z ≼ y1) → T (z ≼ max y1 y2)
      high1 z = max-first z y1 y2

      high2 : (z : Float) → T (z ≼ y2) → T (z ≼ max y1 y2)
      high2 z = max-second z y1 y2

      go : ((p1.x ≤ℤ q1.x) ⊎ (p1.x ≤ℤ q2.x)) ⊎ ((p2.x ≤ℤ q1.x) ⊎ (p2.x ≤ℤ q2.x))
          → T ((min x1 x2 ⊖ e) ≼ (max y1 y2 ⊕ e))
      go (inl (inl l)) = through x1 y1 p1.x q1.x A1 B1 low1 high1 l
      go (inl (inr l)) = through x1 y2 p1.x q2.x A1 B2 low1 high2 l
      go (inr (inl l)) = through x2 y1 p2.x q1.x A2 B1 low2 high1 l
      go (inr (inr l)) = through x2 y2 p2.x q2.x A2 B2 low2 high2 l

-- ---- the proof: along x and y, each line's least against the other's greatest
line-margin : (v1 v2 : PlineVertex) (e : Float) → T (bulge_is_zero v1) → margin v1 v2 e ≡ e
unfolding margin
line-margin v1 v2 e t = go (bulge_is_zero v1) _ t
  where
    go : (b : Bool) (x : Float) → T b → cond b e x ≡ e
    go true x t = refl
    go false x t = absurd t

at_x : (v : PlineVertex) (p : Spot) → On v p → Whole v.x p.x
at_x v p h = (h.0, h.1)

at_y : (v : PlineVertex) (p : Spot) → On v p → Whole v.y (flip p).x
at_y v p h = (h.2, h.3)

pub boxes-meet : BoxesMeet
unfolding box_of
boxes-meet v1 v2 u1 u2 p1 p2 q1 q2 e num den a1 a2 b1 b2 line-v line-u small share =
    let E : Eps e num den = eps e num den small in
    let number = diff-finite e num 0 den E.is in
    let least = (order.le-diff f0 e 0 0 1 num 0 den (zero-lt-suc 0) E.some zero_is E.is).1 (omega arith) in
    let back = (share-swapped p1 p2 q1 q2).0 share in
    rw (line-margin v1 v2 e line-v, line-margin u1 u2 e line-u)
    (is_true _ (they-meet _ _ (record {
      left = axis-meets e number least v1.x v2.x u1.x u2.x p1 p2 q1 q2 (at_x v1 p1 a1) (at_x v2 p2 a2) (at_x u1 q1 b1)
          (at_x u2 q2 b2) share;
      right = axis-meets e number least u1.x u2.x v1.x v2.x q1 q2 p1 p2 (at_x u1 q1 b1) (at_x u2 q2 b2)
          (at_x v1 p1 a1)
          (at_x v2 p2 a2) back;
      below = axis-meets e number least v1.y v2.y u1.y u2.y (flip p1) (flip p2) (flip q1) (flip q2) (at_y v1 p1 a1)
          (at_y v2 p2 a2) (at_y u1 q1 b1) (at_y u2 q2 b2) ((share-flipped p1 p2 q1 q2).0 share);
      above = axis-meets e number least u1.y u2.y v1.y v2.y (flip q1) (flip q2) (flip p1) (flip p2) (at_y u1 q1 b1)
          (at_y u2 q2 b2) (at_y v1 p1 a1) (at_y v2 p2 a2) ((share-flipped q1 q2 p1 p2).0 back);
    })))

pub segment-boxes-meet : SegmentBoxesMeet
unfolding segment_box
segment-boxes-meet first second e num den small i j p1 p2 q1 q2 (a1, a2, a) (b1, b2, b) share =
    boxes-meet _ _ _ _ p1 p2 q1 q2 e num den a1 a2 b1 b2 a b small share
