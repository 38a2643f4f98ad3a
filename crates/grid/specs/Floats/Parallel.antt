-- Parallel grid segments, in whole numbers: where a point lies along a segment and whether the range test finds it there, and how
-- two segments on one straight line overlap.
use Rattle.std.specs.Prelude.{◌≡◌, refl, ◌⊎◌, ◌↔◌, ℕ, zero, suc, ◌+◌, ◌*◌, ◌^◌, ◌≤◌, ◌<◌, Bool, cond, Float}
use Rattle.std.proofs.Common.{sym, subst, zero-lt-suc}
use Rattle.std.proofs.Math.Logic.{inl, inr}
use native.Mathlib.Omega.{arith}
use Rattle.std.proofs.Math.Bool.{true, false}
use Rattle.std.proofs.lemmas.Bool.{false≢true}
use Rattle.std.proofs.Math.Dec.{T, eqb, eqb→eq, T_not}
use Rattle.std.specs.Float.Ieee.{lt}
use Rattle.std.specs.Float.Ieee.Fits.{eq→eqb}
use Rattle.float_laws.specs.Signed.{Diff, own-diff, signed_of, SizeOf}
use Rattle.float_laws.specs.Order.{lt-over}
use Rattle.floats.specs.Ops.{◌⊖◌, ◌⊘◌}
use Rattle.floats.specs.F64
use Rattle.floats.specs.Laws.Leaves.{abs-value}
use Rattle.plane.specs.Vector2 as vector2
use Rattle.plane.specs.declared.vector2.Vector2.{Vector2}
use Rattle.plane.specs.Fuzzy.{fuzzy_eq_zero_eps}
use Rattle.plane.specs.BaseMath.{parametric_from_point}
use Rattle.ranges.specs.Range.{on_segment}
use Rattle.crossing.specs.LineLine.{overlap, span_of, rising}
use Rattle.crossing.specs.declared.line_line_intr.LineLineIntr.{LineLineIntr}
use Rattle.crossing.specs.declared.line_line_intr.LineLineIntr.TheVariants.{NoIntersect}
use Rattle.grid.specs.Floats.Small.{Small, Vec, vec-sub}
use Rattle.grid.specs.Floats.Zero.{Eps, near-zero}
use Rattle.grid.specs.Floats.Length.{gap, level, square, side-x, side-y, IsZero, Long, long}
use Rattle.grid.specs.Floats.Reach.{on-axis}
use Rattle.grid.specs.Floats.Range.{within-yes, within-says}
use Rattle.grid.specs.Floats.Ratio.{wider, Ratio, ratio}
use Rattle.grid.specs.Floats.Crossing.{Inside}
use Rattle.grid.specs.Floats.Span.{Risen, risen}
use Rattle.grid.specs.Floats.Overlap.{Overlapped, overlap-says}

pub gap-few : (p n : ℕ) → p ≤ 2 ^ 21 → n ≤ 2 ^ 21 → gap p n ≤ 2 ^ 21
gap-few p n a b = omega arith

-- ---- the axis along which a segment is longer
abs-gap : (i : ℕ) (x : Float) (A : Small i x) → Diff (F64.abs x) (gap A.p A.n) 0 1
abs-gap i x A =
    let w = signed_of x A.p A.n 1 A.is in
    subst (λ (z : ℕ). Diff (F64.abs x) z 0 1) (same w.s w.size w.is)
    (own-diff (F64.abs x) false w.size 1 (abs-value x w.s w.size 1 w.value))
  where
    same : (s : Bool) (X : ℕ) → SizeOf s X A.p A.n → X ≡ gap A.p A.n
    same true X k = omega arith
    same false X k = omega arith

-- where c lies on the straight line from a to b: from x or from y
module _ (e : Float) (a b c : Vector2) (A : Vec 20 a) (B : Vec 20 b) (C : Vec 20 c) where
  abbrev U : Vec 21 (vector2.sub b a)
  U = vec-sub b a B A

  abbrev W : Vec 21 (vector2.sub c a)
  W = vec-sub c a C A

  -- from one axis or from the other, if the kernel's place is t
  abbrev pub ByAxis : Float → Type 0
  ByAxis t = Ratio 21 t W.x.p W.x.n U.x.p U.x.n ⊎ Ratio 21 t W.y.p W.y.n U.y.p U.y.n

  longer : T (lt (F64.abs (b.x ⊖ a.x)) (F64.abs (b.y ⊖ a.y))) ↔ (gap U.x.p U.x.n + 0 < gap U.y.p U.y.n + 0)
  unfolding vector2.sub
  longer =
      lt-over (F64.abs (b.x ⊖ a.x)) (F64.abs (b.y ⊖ a.y)) (gap U.x.p U.x.n) 0 (gap U.y.p U.y.n) 0 1
      (zero-lt-suc 0)
      (abs-gap 21 (b.x ⊖ a.x) U.x) (abs-gap 21 (b.y ⊖ a.y) U.y)

  pub along : (IsZero (vector2.sub b a) U → ⊥) → ByAxis (parametric_from_point a b c e)
  unfolding parametric_from_point vector2.sub
  along h = go (lt (F64.abs (b.x ⊖ a.x)) (F64.abs (b.y ⊖ a.y))) (λ t. longer.0 t) (λ l. longer.1 l)
    where
      by-x : (gap U.x.p U.x.n + 0 < gap U.y.p U.y.n + 0 → ⊥) → U.x.p ≡ U.x.n → ⊥
      by-x k x =
          h (
            x,
            level U.y.p U.y.n (flat (gap U.x.p U.x.n) (gap U.y.p U.y.n)
                (none U.x.p U.x.n x) k),
          )
        where
          none : (p n : ℕ) → p ≡ n → gap p n ≡ 0
          none p n e = omega arith

          flat : (g k : ℕ) → g ≡ 0 → (g + 0 < k + 0 → ⊥) → k ≡ 0
          flat g zero e f = refl
          flat g (suc k) e f = absurd (f (omega arith))

      by-y : gap U.x.p U.x.n + 0 < gap U.y.p U.y.n + 0 → U.y.p ≡ U.y.n → ⊥
      by-y l y = omega arith

      go : (t : Bool) → (T t → gap U.x.p U.x.n + 0 < gap U.y.p U.y.n + 0)
          → (gap U.x.p U.x.n + 0 < gap U.y.p U.y.n + 0 → T t)
          → ByAxis (cond t ((c.y ⊖ a.y) ⊘ (b.y ⊖ a.y)) ((c.x ⊖ a.x) ⊘ (b.x ⊖ a.x)))
      go true l k = inr (ratio 21 (c.y ⊖ a.y) (b.y ⊖ a.y) W.y U.y (by-y (l tt)))
      go false l k = inl (ratio 21 (c.x ⊖ a.x) (b.x ⊖ a.x) W.x U.x (by-x k))

-- ---- a point and a segment: the range test is exact
pub record PointOn (r met : LineLineIntr) (P N D : ℕ) : Type 0 where
  pub answer : ((r ≡ met) × Inside P N D) ⊎ ((r ≡ NoIntersect) × (Inside P N D → ⊥))

module _ (e : Float) (num den : ℕ) (h : Eps e num den) (u : Vector2) (A : Vec 21 u) (long-u : IsZero u A → ⊥)
    (t : Float) (xp xn dp dn : ℕ) (a : Ratio 21 t xp xn dp dn) (side : gap dp dn * gap dp dn ≤ square u A) where
  abbrev side-d : ℕ
  side-d = gap dp dn

  length-is : Long u (square u A)
  length-is = long u A long-u

  -- the range test says yes exactly if the exact place is from 0 to 1
  pub point-test : (on_segment t u e ≡ true) ↔ Inside a.P a.N side-d
  point-test = (
    λ x. let r = within-says e num den h u (square u A) length-is t a.P a.N side-d (wider a.place) x in (
      on-axis e num den h (square u A) side-d a.place.some side a.P a.N r.start,
      on-axis e num den h (square u A) side-d a.place.some side (a.N + side-d) a.P r.end,
    ),
    λ x. within-yes e num den h u (square u A) length-is t a.P a.N side-d (wider a.place) x.0 x.1,
  )

  point-on : (met : LineLineIntr) → PointOn (cond (on_segment t u e) met NoIntersect) met a.P a.N (gap dp dn)
  point-on met = go (on_segment t u e) point-test.0 point-test.1
    where
      go : (b : Bool) → (b ≡ true → Inside a.P a.N side-d) → (Inside a.P a.N side-d → b ≡ true)
          → PointOn (cond b met NoIntersect) met a.P a.N side-d
      go true x y = record { answer = inl (refl, x refl) }
      go false x y = record { answer = inr (refl, λ z. false≢true (y z)) }

-- the place of a point c on the segment from a to b, from x or from y, and what the kernel answers
abbrev pub PointAt : (e : Float) (a b c : Vector2) → Vec 20 a → Vec 20 b → Vec 20 c → LineLineIntr → LineLineIntr → Type 0
PointAt e a b c A B C r met =
    let U = vec-sub b a B A in
    let W = vec-sub c a C A in
    ((k : Ratio 21 (parametric_from_point a b c e) W.x.p W.x.n U.x.p U.x.n)
    × PointOn r met k.P k.N (gap U.x.p U.x.n))
    ⊎ ((k : Ratio 21 (parametric_from_point a b c e) W.y.p W.y.n U.y.p U.y.n)
    × PointOn r met k.P k.N (gap U.y.p U.y.n))

pub point_at : (e : Float) (num den : ℕ) → Eps e num den → (a b c : Vector2) (A : Vec 20 a) (B : Vec 20 b) (C : Vec 20 c)
    → (IsZero (vector2.sub b a) (vec-sub b a B A) → ⊥) → (met : LineLineIntr)
    → PointAt e a b c A B C (cond (on_segment (parametric_from_point a b c e) (vector2.sub b a) e) met NoIntersect) met
point_at e num den h a b c A B C long-u met = go (along e a b c A B C long-u)
  where
    go : ByAxis e a b c A B C (parametric_from_point a b c e)
        → PointAt e a b c A B C (cond (on_segment (parametric_from_point a b c e) (vector2.sub b a) e) met NoIntersect) met
    go (inl k) = inl (k, point-on e num den h (vector2.sub b a) (vec-sub b a B A) long-u _ _ _ _ _ k (side-x _ _) met)
    go (inr k) = inr (k, point-on e num den h (vector2.sub b a) (vec-sub b a B A) long-u _ _ _ _ _ k (side-y _ _) met)

-- ---- two segments on one straight line: the ends of the first lie at x / d and z / d of the second
pub record Spanned (r : LineLineIntr) (xp xn zp zn dp dn : ℕ) : Type 0 where
  pub from : Float
  pub to : Float
  pub start : Ratio 21 from xp xn dp dn
  pub stop : Ratio 21 to zp zn dp dn
  -- the lower and the upper of the two
  pub few : gap dp dn ≤ 2 ^ 21
  pub ends : Risen (gap dp dn) few (rising from to) start.P start.N stop.P stop.N
  pub answer : Overlapped r ends.Pl ends.Nl ends.Ph ends.Nh (gap dp dn)

module _ (e : Float) (num den : ℕ) (h : Eps e num den) (v1 u1 u2 w w2 u : Vector2)
    (W : Vec 21 w) (Z : Vec 21 w2) (A : Vec 21 u) (long-u : IsZero u A → ⊥) where
  -- along an axis on which u has the side d, and its ends lie at x and z from u's start
  spanned-by : (x z d : Float) (X : Small 21 x) (K : Small 21 z) (B : Small 21 d) → (B.p ≡ B.n → ⊥)
      → gap B.p B.n * gap B.p B.n ≤ square u A
      → Spanned (overlap v1 u1 u2 u (rising (x ⊘ d) (z ⊘ d)) e) X.p X.n K.p K.n B.p B.n
  spanned-by x z d X K B wide side =
      let D = gap B.p B.n in
      let i = ratio 21 x d X B wide in
      let j = ratio 21 z d K B wide in
      let few = gap-few B.p B.n B.p-le B.n-le in
      let r = risen D few (x ⊘ d) (z ⊘ d) i.P i.N j.P j.N i.place j.place in
      record {
        from = x ⊘ d;
        to = z ⊘ d;
        start = i;
        stop = j;
        few = few;
        ends = r;
        answer = overlap-says e num den h v1 u1 u2 u (square u A) (long u A long-u) D i.place.some few side
            (rising (x ⊘ d) (z ⊘ d)) i.P i.N j.P j.N r;
      }

  -- along x if the second segment has a width, else along y
  pub overlap-spanned : Spanned (overlap v1 u1 u2 u (span_of w w2 u e) e) W.x.p W.x.n Z.x.p Z.x.n A.x.p
      A.x.n
      ⊎ Spanned (overlap v1 u1 u2 u (span_of w w2 u e) e) W.y.p W.y.n Z.y.p Z.y.n A.y.p A.y.n
  unfolding span_of
  overlap-spanned = go (fuzzy_eq_zero_eps u.x e) (near-zero e num den h 21 u.x A.x)
    where
      go : (t : Bool) → t ≡ eqb A.x.p A.x.n
          → Spanned (overlap v1 u1 u2 u (cond t (rising (w.y ⊘ u.y) (w2.y ⊘ u.y)) (rising (w.x ⊘ u.x) (w2.x ⊘ u.x))) e)
          W.x.p W.x.n Z.x.p Z.x.n A.x.p A.x.n
          ⊎ Spanned (overlap v1 u1 u2 u (cond t (rising (w.y ⊘ u.y) (w2.y ⊘ u.y)) (rising (w.x ⊘ u.x) (w2.x ⊘ u.x))) e)
          W.y.p W.y.n Z.y.p Z.y.n A.y.p A.y.n
      go true q =
          let flat : A.x.p ≡ A.x.n = eqb→eq A.x.p A.x.n (subst T q tt) in
          inr (spanned-by w.y w2.y u.y W.y Z.y A.y (λ y. long-u (flat, y)) (side-y _ _))
      go false q =
          inl (spanned-by w.x w2.x u.x W.x Z.x A.x (λ x. T_not false tt (subst T (sym q) (eq→eqb x)))
          (side-x _ _))
