-- Parallel grid segments: what the kernel's floats say in naturals (Floats/Parallel), stated for what the segments share
-- (Plane/Points, Plane/Overlap).
use Rattle.std.specs.Prelude.{◌≡◌, ◌⊎◌, ◌↔◌, ℕ, ◌+◌, ◌≤◌, ◌<◌, ℤ, pos, nat_abs, ◌-ℤ◌, ◌≤ℤ◌, ◌<ℤ◌, Float}
use Rattle.std.proofs.Common.{sym, ap, ◌∙◌, subst, inl, inr, arith}
use Rattle.plane.specs.Vector2 as vector2
use Rattle.plane.specs.declared.vector2.Vector2.{Vector2}
use Rattle.plane.specs.BaseMath.{point_from_parametric}
use Rattle.crossing.specs.PlineSeg.{line_line_of}
use Rattle.crossing.specs.declared.line_line_intr.LineLineIntr.{LineLineIntr}
use Rattle.crossing.specs.declared.line_line_intr.LineLineIntr.TheVariants.{TrueIntersect, NoIntersect}
use Rattle.grid.specs.Promise.{Spot}
use Rattle.grid.specs.Plane.Whole.{diff, same}
use Rattle.grid.specs.Plane.Order.{turned, turned_same}
use Rattle.grid.proofs.Plane.Sides.{way, cross}
use Rattle.grid.proofs.Plane.Cross.{Between}
use Rattle.grid.proofs.Plane.Points.{Collinear, cross-flipped}
use Rattle.grid.proofs.Plane.Spots.{Same, flip}
use Rattle.grid.proofs.Plane.Spans.{SpansShare, SpansShareMore}
use Rattle.grid.proofs.Plane.Overlap.{same-on-axis}
use Rattle.grid.proofs.Plane.Parts.{between-parts, least, most, above_zero, below-size}
use Rattle.grid.proofs.Plane.Suffices.{
  Matched,
  MatchedIf,
  MatchedBySpans,
  matched-flipped,
  point-matched,
  spans-matched,
}
use Rattle.grid.specs.Floats.Small.{Vec, vec-sub}
use Rattle.grid.specs.Floats.Length.{gap}
use Rattle.grid.specs.Floats.Ratio.{Ratio}
use Rattle.grid.specs.Floats.Span.{Which}
use Rattle.grid.specs.Floats.Overlap.{Overlapped}
use Rattle.grid.specs.Floats.Parallel.{PointOn, PointAt, Spanned}
use Rattle.grid.proofs.Joined.{At, zero-at, size-gap, place_at}

-- ---- a divisor with a size is not 0
not-zero : (z : ℤ) (p n : ℕ) → z ≡ diff p n → 0 < gap p n → z ≡ pos 0 → ⊥
not-zero z p n e h f = let s : p ≡ n = (zero-at z p n e).0 f in omega arith

-- ---- spans, in naturals
module _ (a b : ℤ) (P0 N0 P1 N1 D : ℕ) (e : a ≡ diff P0 N0) (f : b ≡ diff P1 N1) where
  -- a fact on one of the two, stated for its parts
  ends : (R : ℤ → Type 0) (Q : ℕ → ℕ → Type 0) → ((P N : ℕ) → R (diff P N) ↔ Q P N) → (R a ⊎ R b) ↔ (Q P0 N0 ⊎ Q P1 N1)
  ends R Q is = (to, back)
    where
      to : R a ⊎ R b → Q P0 N0 ⊎ Q P1 N1
      to (inl h) = inl ((is P0 N0).0 (subst R e h))
      to (inr h) = inr ((is P1 N1).0 (subst R f h))

      back : Q P0 N0 ⊎ Q P1 N1 → R a ⊎ R b
      back (inl h) = inl (subst R (sym e) ((is P0 N0).1 h))
      back (inr h) = inr (subst R (sym f) ((is P1 N1).1 h))

  lows : ((a ≤ℤ pos D) ⊎ (b ≤ℤ pos D)) ↔ ((P0 ≤ N0 + D) ⊎ (P1 ≤ N1 + D))
  lows = ends (λ (z : ℤ). z ≤ℤ pos D) (λ (P N : ℕ). P ≤ N + D) (λ P N. most P N D)

  highs : ((pos 0 ≤ℤ a) ⊎ (pos 0 ≤ℤ b)) ↔ ((N0 ≤ P0) ⊎ (N1 ≤ P1))
  highs = ends (λ (z : ℤ). pos 0 ≤ℤ z) (λ (P N : ℕ). N ≤ P) least

  more-lows : ((a <ℤ pos D) ⊎ (b <ℤ pos D)) ↔ ((P0 < N0 + D) ⊎ (P1 < N1 + D))
  more-lows = ends (λ (z : ℤ). z <ℤ pos D) (λ (P N : ℕ). P < N + D) (λ P N. below-size P N D)

  more-highs : ((pos 0 <ℤ a) ⊎ (pos 0 <ℤ b)) ↔ ((N0 < P0) ⊎ (N1 < P1))
  more-highs = ends (λ (z : ℤ). pos 0 <ℤ z) (λ (P N : ℕ). N < P) above_zero

  -- the lower and the upper of the two
  module _ (Pl Nl Ph Nh : ℕ) (rises : Pl + Nh ≤ Ph + Nl) (which : Which P0 N0 P1 N1 Pl Nl Ph Nh) where
    between : (Pl + N0 ≤ P0 + Nl) × (Pl + N1 ≤ P1 + Nl) × (P0 + Nh ≤ Ph + N0) × (P1 + Nh ≤ Ph + N1)
    between = go which
      where
        go : Which P0 N0 P1 N1 Pl Nl Ph Nh
            → (Pl + N0 ≤ P0 + Nl) × (Pl + N1 ≤ P1 + Nl) × (P0 + Nh ≤ Ph + N0) × (P1 + Nh ≤ Ph + N1)
        go (inl (i, j, k, l)) = (omega arith, omega arith, omega arith, omega arith)
        go (inr (i, j, k, l)) = (omega arith, omega arith, omega arith, omega arith)

    low-is : (P0 ≤ N0 + D) ⊎ (P1 ≤ N1 + D) → Pl ≤ Nl + D
    low-is (inl h) = omega (arith, between.0)
    low-is (inr h) = omega (arith, between.1)

    high_is : (N0 ≤ P0) ⊎ (N1 ≤ P1) → Nh ≤ Ph
    high_is (inl h) = omega (arith, between.2)
    high_is (inr h) = omega (arith, between.3)

    more-low-is : (P0 < N0 + D) ⊎ (P1 < N1 + D) → Pl < Nl + D
    more-low-is (inl h) = omega (arith, between.0)
    more-low-is (inr h) = omega (arith, between.1)

    more-high-is : (N0 < P0) ⊎ (N1 < P1) → Nh < Ph
    more-high-is (inl h) = omega (arith, between.2)
    more-high-is (inr h) = omega (arith, between.3)

    -- the lower is one of the two, and so is the upper
    lower_of : (Q : ℕ → ℕ → Type 0) → Q Pl Nl → Q P0 N0 ⊎ Q P1 N1
    lower_of Q h = go which
      where
        go : Which P0 N0 P1 N1 Pl Nl Ph Nh → Q P0 N0 ⊎ Q P1 N1
        go (inl (i, j, k, l)) = inl (rw (← i, ← j) h)
        go (inr (i, j, k, l)) = inr (rw (← i, ← j) h)

    upper_of : (Q : ℕ → ℕ → Type 0) → Q Ph Nh → Q P0 N0 ⊎ Q P1 N1
    upper_of Q h = go which
      where
        go : Which P0 N0 P1 N1 Pl Nl Ph Nh → Q P0 N0 ⊎ Q P1 N1
        go (inl (i, j, k, l)) = inr (rw (← k, ← l) h)
        go (inr (i, j, k, l)) = inl (rw (← k, ← l) h)

    share-of : Pl ≤ Nl + D → Nh ≤ Ph → SpansShare a b D
    share-of l k = (lows.1 (lower_of (λ (P N : ℕ). P ≤ N + D) l), highs.1 (upper_of (λ (P N : ℕ). N ≤ P) k))

    more_of : Pl < Nl + D → Nh < Ph → SpansShareMore a b D
    more_of l k = (more-lows.1 (lower_of (λ (P N : ℕ). P < N + D) l), more-highs.1 (upper_of (λ (P N : ℕ). N < P) k))

    differ : (a ≡ b → ⊥) → Pl + Nh ≡ Ph + Nl → ⊥
    differ n x = let s : P0 + N1 ≡ P1 + N0 = omega (arith, between) in n (e ∙ (same P0 N0 P1 N1).1 s ∙ sym f)

    -- what the overlap answers
    spans-answer : (v1 v2 u1 u2 : Vector2) (r : LineLineIntr) → (a ≡ b → ⊥) → Overlapped r Pl Nl Ph Nh D
        → MatchedBySpans a b D (line_line_of r v1 v2 u1 u2)
    spans-answer v1 v2 u1 u2 r n (inl c) = inl (ap (λ (z : LineLineIntr). line_line_of z v1 v2 u1 u2) c.is, none c.why)
      where
        none : (Nl + D < Pl) ⊎ (Ph < Nh) → ¬ SpansShare a b D
        none (inl k) (l, m) = let x = low-is (lows.0 l) in omega arith
        none (inr k) (l, m) = let x = high_is (highs.0 m) in omega arith
    spans-answer v1 v2 u1 u2 r n (inr (inl c)) =
        inr (inl (
          point_from_parametric v1 v2 c.t1,
          ap (λ (z : LineLineIntr). line_line_of z v1 v2 u1 u2) c.is,
          share-of c.lower c.upper,
          one c.why,
        ))
      where
        one : (Pl ≡ Nl + D) ⊎ ((Ph ≡ Nh) ⊎ (Pl + Nh ≡ Ph + Nl)) → ¬ SpansShareMore a b D
        one (inl k) (l, m) = let x = more-low-is (more-lows.0 l) in omega arith
        one (inr (inl k)) (l, m) = let x = more-high-is (more-highs.0 m) in omega arith
        one (inr (inr k)) (l, m) = differ n k
    spans-answer v1 v2 u1 u2 r n (inr (inr c)) =
        inr (inr (
          point_from_parametric u1 u2 c.t0,
          point_from_parametric u1 u2 c.t1,
          ap (λ (z : LineLineIntr). line_line_of z v1 v2 u1 u2) c.is,
          more_of c.lower c.upper,
        ))

-- ---- a grid point beside a segment: it lies on it exactly if its place is from 0 to 1
module _ (v1 v2 u1 u2 : Vector2) (r : LineLineIntr) (s t : Float) where
  point-answer : (m : ℤ) (k P N D : ℕ) → m ≡ diff P N → k ≡ D → PointOn r (TrueIntersect s t) P N D
      → MatchedIf (Between m k) (line_line_of r v1 v2 u1 u2)
  point-answer m k P N D e f h = go h.answer
    where
      there : Between m k ↔ ((N ≤ P) × (P ≤ N + D))
      there = (
        λ x. (between-parts P N D).0 (subst (λ (z : ℤ). Between z D) e (subst (λ (z : ℕ). Between m z) f x)),
        λ x. subst (λ (z : ℕ). Between m z) (sym f) (subst (λ (z : ℤ). Between z D) (sym e) ((between-parts P N D).1 x)),
      )

      go : ((r ≡ TrueIntersect s t) × ((N ≤ P) × (P ≤ N + D))) ⊎ ((r ≡ NoIntersect) × (((N ≤ P) × (P ≤ N + D)) → ⊥))
          → MatchedIf (Between m k) (line_line_of r v1 v2 u1 u2)
      go (inl (x, y)) =
          inr (point_from_parametric v1 v2 s, ap (λ (z : LineLineIntr). line_line_of z v1 v2 u1 u2) x, there.1 y)
      go (inr (x, y)) = inl (ap (λ (z : LineLineIntr). line_line_of z v1 v2 u1 u2) x, λ z. y (there.0 z))

  -- along x: p1 lies at o from the start of a segment of the width d
  beside-matched : (p1 p2 q1 q2 : Spot) → Same p1 p2 → cross (way q1 q2) (way q1 p1) ≡ pos 0
      → (dp dn op on : ℕ) → q2.x -ℤ q1.x ≡ diff dp dn → p1.x -ℤ q1.x ≡ diff op on
      → (place : Float) (k : Ratio 21 place op on dp dn)
      → PointOn r (TrueIntersect s t) k.P k.N (gap dp dn)
      → Matched p1 p2 q1 q2 (line_line_of r v1 v2 u1 u2)
  beside-matched p1 p2 q1 q2 still line dp dn op on e f place k h =
      let d = q2.x -ℤ q1.x in
      let o = p1.x -ℤ q1.x in
      point-matched p1 p2 q1 q2 (line_line_of r v1 v2 u1 u2) still (not-zero d dp dn e k.place.some) line
      (point-answer (turned d o) (nat_abs d) k.P k.N (gap dp dn)
      (place_at d o dp dn op on k.P k.N e f k.place.some k.turned) (size-gap d dp dn e) h)

  -- from x, or from y with the axes exchanged
  pub at-matched : (e : Float) (a b c : Vector2) (A : Vec 20 a) (B : Vec 20 b) (C : Vec 20 c) (p1 p2 q1 q2 : Spot)
      → At 21 (vector2.sub b a) (vec-sub b a B A) (way q1 q2) → At 21 (vector2.sub c a) (vec-sub c a C A) (way q1 p1)
      → Same p1 p2 → cross (way q1 q2) (way q1 p1) ≡ pos 0 → PointAt e a b c A B C r (TrueIntersect s t)
      → Matched p1 p2 q1 q2 (line_line_of r v1 v2 u1 u2)
  at-matched e a b c A B C p1 p2 q1 q2 way-is off-is still line (inl (k, on)) =
      beside-matched p1 p2 q1 q2 still line _ _ _ _ way-is.at_x off-is.at_x _ k on
  at-matched e a b c A B C p1 p2 q1 q2 way-is off-is still line (inr (k, on)) =
      matched-flipped p1 p2 q1 q2 (line_line_of r v1 v2 u1 u2)
      (beside-matched (flip p1) (flip p2) (flip q1) (flip q2) (still.1, still.0) (cross-flipped (way q1 q2) (way q1 p1) line)
      _ _ _ _ way-is.at_y off-is.at_y _ k on)

-- along x: a segment from p1 to p2, along one from q1 to q2
pub along-matched : (v1 v2 u1 u2 : Vector2) (r : LineLineIntr) (p1 p2 q1 q2 : Spot) → Collinear p1 p2 q1 q2 → ¬ Same p1 p2
    → (xp xn zp zn dp dn : ℕ) → q2.x -ℤ q1.x ≡ diff dp dn → p1.x -ℤ q1.x ≡ diff xp xn → p2.x -ℤ q1.x ≡ diff zp zn
    → Spanned r xp xn zp zn dp dn
    → Matched p1 p2 q1 q2 (line_line_of r v1 v2 u1 u2)
along-matched v1 v2 u1 u2 r p1 p2 q1 q2 c long xp xn zp zn dp dn e f g s =
    let d = q2.x -ℤ q1.x in
    let x = p1.x -ℤ q1.x in
    let z = p2.x -ℤ q1.x in
    let i = s.start in
    let j = s.stop in
    let k = s.ends in
    let slant = not-zero d dp dn e i.place.some in
    spans-matched p1 p2 q1 q2 (line_line_of r v1 v2 u1 u2) c long slant
    (subst (λ (k : ℕ). MatchedBySpans (turned d x) (turned d z) k (line_line_of r v1 v2 u1 u2)) (sym (size-gap d dp dn e))
    (spans-answer (turned d x) (turned d z) i.P i.N j.P j.N (gap dp dn)
    (place_at d x dp dn xp xn i.P i.N e f i.place.some i.turned)
    (place_at d z dp dn zp zn j.P j.N e g j.place.some j.turned)
    k.Pl k.Nl k.Ph k.Nh k.rises k.which v1 v2 u1 u2 r
    (λ h. long (same-on-axis p1 p2 q1 q2 c.parallel slant (turned_same d p1.x p2.x q1.x h))) s.answer))
