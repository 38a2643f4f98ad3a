-- The line kernel's answer on grid segments is as promised: for lines that cross by the crossing point (Crossed), for parallel
-- ones by what they share (Level). v is the way from v1 to v2, u that from u1 to u2 and w that from u1 to v1; F, G and H are
-- their numbers.
use Rattle.std.specs.Prelude.{◌≡◌, ◌⊎◌, ◌↔◌, ℕ, pos, ◌-ℤ◌, Float}
use Rattle.std.proofs.Common.{sym, ap, subst, inl, inr, arith}
use Rattle.std.proofs.Math.Decide.{ℕ_discrete}
use Rattle.floats.specs.Ops.{◌⊘◌, f0}
use Rattle.plane.specs.Vector2 as vector2
use Rattle.plane.specs.declared.vector2.Vector2.{Vector2}
use Rattle.plane.specs.BaseMath.{point_from_parametric, parametric_from_point}
use Rattle.crossing.specs.LineLine.{crossing, parallel}
use Rattle.crossing.specs.PlineSeg.{line_line_of}
use Rattle.arcs.specs.declared.pline_seg_intr.PlineSegIntr.{PlineSegIntr}
use Rattle.crossing.specs.declared.line_line_intr.LineLineIntr.{LineLineIntr}
use Rattle.crossing.specs.declared.line_line_intr.LineLineIntr.TheVariants.{TrueIntersect, FalseIntersect, NoIntersect}
use Rattle.grid.specs.Promise.{Spot, Parallel, Promised}
use Rattle.grid.specs.Plane.Whole.{diff}
use Rattle.grid.proofs.Plane.Sides.{way, across, first, second, parallel-across, across-parallel}
use Rattle.grid.proofs.Plane.Cross.{base, steps-v, steps-u, crossing-point, crossing-point-v, crossing-point-u}
use Rattle.grid.proofs.Plane.Spots.{Same, flip}
use Rattle.grid.proofs.Plane.Points.{Collinear, swapped, flipped}
use Rattle.grid.proofs.Plane.Suffices.{
  slanted-none,
  slanted-one,
  Matched,
  MatchedIf,
  matched-swapped,
  matched-flipped,
  parallel-promised,
  apart-matched,
  both-matched,
}
use Rattle.grid.specs.Floats.Small.{Vec, vec-sub, perp}
use Rattle.grid.specs.Floats.Zero.{Eps}
use Rattle.grid.specs.Floats.Length.{gap, square, IsZero}
use Rattle.grid.specs.Floats.Reach.{Reaches}
use Rattle.grid.specs.Floats.Ratio.{Ratio}
use Rattle.grid.specs.Floats.Point.{point}
use Rattle.grid.specs.Floats.Crossing as crossed
use Rattle.grid.specs.Floats.Crossing.{Inside, Crossed, crossing-says}
use Rattle.grid.specs.Floats.Parallel.{Spanned}
use Rattle.grid.specs.Floats.Ways as kernel
use Rattle.grid.specs.Floats.Ways.{point-or-not}
use Rattle.grid.proofs.Joined.{At, way_at, cross_at, zero-at, size-gap, place_at, point_at}
use Rattle.grid.proofs.Crossed.{square-long, reach, coordinate, inside}
use Rattle.grid.proofs.Level.{at-matched, along-matched}

module _ (e : Float) (num den : ℕ) (h : Eps e num den)
    (v1 v2 u1 u2 : Vector2) (A1 : Vec 20 v1) (A2 : Vec 20 v2) (B1 : Vec 20 u1) (B2 : Vec 20 u2)
    (p1 p2 q1 q2 : Spot) (a1 : At 20 v1 A1 p1) (a2 : At 20 v2 A2 p2) (b1 : At 20 u1 B1 q1) (b2 : At 20 u2 B2 q2) where
  abbrev v : Vector2
  v = vector2.sub v2 v1

  abbrev u : Vector2
  u = vector2.sub u2 u1

  abbrev w : Vector2
  w = vector2.sub v1 u1

  abbrev F : Vec 21 v
  F = vec-sub v2 v1 A2 A1

  abbrev G : Vec 21 u
  G = vec-sub u2 u1 B2 B1

  abbrev H : Vec 21 w
  H = vec-sub v1 u1 A1 B1

  v-at : At 21 v F (way p1 p2)
  v-at = way_at v1 v2 A1 A2 p1 p2 a1 a2

  u-at : At 21 u G (way q1 q2)
  u-at = way_at u1 u2 B1 B2 q1 q2 b1 b2

  w_at : At 21 w H (way q1 p1)
  w_at = way_at u1 v1 B1 A1 q1 p1 b1 a1

  across-is : across p1 p2 q1 q2 ≡ diff (perp v u F G).p (perp v u F G).n
  across-is = cross_at v u F G (way p1 p2) (way q1 q2) v-at u-at

  first-is : first p1 p2 q1 q2 ≡ diff (perp u w G H).p (perp u w G H).n
  first-is = cross_at u w G H (way q1 q2) (way q1 p1) u-at w_at

  second_is : second p1 p2 q1 q2 ≡ diff (perp v w F H).p (perp v w F H).n
  second_is = cross_at v w F H (way p1 p2) (way q1 p1) v-at w_at

  -- what the kernel tests: the two are parallel, and each lies on the other's straight line
  abbrev Level : Type 0
  Level = (perp v u F G).p ≡ (perp v u F G).n

  abbrev OnU : Type 0
  OnU = (perp u w G H).p ≡ (perp u w G H).n

  abbrev OnV : Type 0
  OnV = (perp v w F H).p ≡ (perp v w F H).n

  level-is : (across p1 p2 q1 q2 ≡ pos 0) ↔ Level
  level-is = zero-at (across p1 p2 q1 q2) (perp v u F G).p (perp v u F G).n across-is

  on-u-is : (first p1 p2 q1 q2 ≡ pos 0) ↔ OnU
  on-u-is = zero-at (first p1 p2 q1 q2) (perp u w G H).p (perp u w G H).n first-is

  on-v-is : (second p1 p2 q1 q2 ≡ pos 0) ↔ OnV
  on-v-is = zero-at (second p1 p2 q1 q2) (perp v w F H).p (perp v w F H).n second_is

  -- ---- lines that cross
  abbrev t1 : Float
  t1 = vector2.perp_dot u w ⊘ vector2.perp_dot v u

  abbrev t2 : Float
  t2 = vector2.perp_dot v w ⊘ vector2.perp_dot v u

  module _ (not-level : Level → ⊥) where
    pub slant : ¬ Parallel p1 p2 q1 q2
    slant par = not-level (level-is.0 (parallel-across p1 p2 q1 q2 par))

    R1 : Ratio 44 t1 (perp u w G H).p (perp u w G H).n (perp v u F G).p (perp v u F G).n
    R1 = crossed.first e num den h v u w F G H not-level

    R2 : Ratio 44 t2 (perp v w F H).p (perp v w F H).n (perp v u F G).p (perp v u F G).n
    R2 = crossed.second e num den h v u w F G H not-level

    abbrev D : ℕ
    D = gap (perp v u F G).p (perp v u F G).n

    base-is : base p1 p2 q1 q2 ≡ D
    base-is = size-gap (across p1 p2 q1 q2) (perp v u F G).p (perp v u F G).n across-is

    place-v : steps-v p1 p2 q1 q2 ≡ diff R1.P R1.N
    place-v =
        place_at (across p1 p2 q1 q2) (first p1 p2 q1 q2) (perp v u F G).p (perp v u F G).n (perp u w G H).p (perp u w G H).n
        R1.P R1.N across-is first-is R1.place.some R1.turned

    place-u : steps-u p1 p2 q1 q2 ≡ diff R2.P R2.N
    place-u =
        place_at (across p1 p2 q1 q2) (second p1 p2 q1 q2) (perp v u F G).p (perp v u F G).n (perp v w F H).p (perp v w F H).n
        R2.P R2.N across-is second_is R2.place.some R2.turned

    says : Crossed (crossing v u w (vector2.perp_dot v u) e) (square v F) (square u G) num den
        R1.P R1.N D R2.P R2.N D t1 t2
    unfolding R1 R2
    says = crossing-says e num den h v u w F G H not-level

    pub crossed-promised : Promised p1 p2 q1 q2 num den (line_line_of (crossing v u w (vector2.perp_dot v u) e) v1 v2 u1 u2)
    crossed-promised = go (crossing v u w (vector2.perp_dot v u) e) says.answer says.inside
      where
        not-both : (r : LineLineIntr) → r ≡ FalseIntersect t1 t2 → r ≡ TrueIntersect t1 t2 → ⊥
        not-both r x y = let z : ◌≡◌ {A = ℕ} 0 1 = cc in omega arith

        go : (r : LineLineIntr)
            → ((r ≡ TrueIntersect t1 t2) × Reaches (square v F) num den R1.P R1.N D
            × Reaches (square u G) num den R2.P R2.N D)
            ⊎ (r ≡ FalseIntersect t1 t2)
            → (Inside R1.P R1.N D → Inside R2.P R2.N D → r ≡ TrueIntersect t1 t2)
            → Promised p1 p2 q1 q2 num den (line_line_of r v1 v2 u1 u2)
        go r (inr x) y =
            subst (λ (z : LineLineIntr). Promised p1 p2 q1 q2 num den (line_line_of z v1 v2 u1 u2)) (sym x)
            (slanted-none p1 p2 q1 q2 slant num den
            (λ a b. not-both r x (y
            (inside (steps-v p1 p2 q1 q2) (base p1 p2 q1 q2) R1.P R1.N D base-is place-v a)
            (inside (steps-u p1 p2 q1 q2) (base p1 p2 q1 q2) R2.P R2.N D base-is place-u b))))
        go r (inl (x, r1, r2)) y =
            let near = point e num den h v1 v2 A1 A2 (crossed.long-v e num den h v u w F G H not-level).some
            t1 R1.P R1.N D R1.place r1 in
            subst (λ (z : LineLineIntr). Promised p1 p2 q1 q2 num den (line_line_of z v1 v2 u1 u2)) (sym x)
            (slanted-one p1 p2 q1 q2 slant num den (point_from_parametric v1 v2 t1)
            (reach (crossing-point p1 p2 q1 q2 slant) p1 p2 (steps-v p1 p2 q1 q2) (square v F) R1.P R1.N D num den
            (crossing-point-v p1 p2 q1 q2 slant) place-v base-is (square-long v F p1 p2 v-at) r1)
            (reach (crossing-point p1 p2 q1 q2 slant) q1 q2 (steps-u p1 p2 q1 q2) (square u G) R2.P R2.N D num den
            (crossing-point-u p1 p2 q1 q2 slant) place-u base-is (square-long u G q1 q2 u-at) r2)
            (coordinate (point_from_parametric v1 v2 t1).x p1.x (p2.x -ℤ p1.x) (steps-v p1 p2 q1 q2) (base p1 p2 q1 q2)
            A1.x.p A1.x.n F.x.p F.x.n R1.P R1.N D a1.at_x v-at.at_x place-v base-is
            near.0)
            (coordinate (point_from_parametric v1 v2 t1).y p1.y (p2.y -ℤ p1.y) (steps-v p1 p2 q1 q2) (base p1 p2 q1 q2)
            A1.y.p A1.y.n F.y.p F.y.n R1.P R1.N D a1.at_y v-at.at_y place-v base-is
            near.1))

  -- ---- parallel lines
  abbrev answer : LineLineIntr
  answer = parallel v1 v2 u1 u2 v u w e

  abbrev said : PlineSegIntr
  said = line_line_of answer v1 v2 u1 u2

  w2-at : At 21 (vector2.sub v2 u1) (vec-sub v2 u1 A2 B1) (way q1 p2)
  w2-at = way_at u1 v2 B1 A2 q1 p2 b1 a2

  back_at : At 21 (vector2.sub u1 v1) (vec-sub u1 v1 B1 A1) (way p1 q1)
  back_at = way_at v1 u1 A1 B1 p1 q1 a1 b1

  turned-over : {x y : Spot} → Same x y → Same y x
  turned-over (x, y) = (sym x, sym y)

  -- neither is a point: from x, or from y with the axes exchanged
  segments-matched : Collinear p1 p2 q1 q2 → ¬ Same p1 p2
      → Spanned answer H.x.p H.x.n (vec-sub v2 u1 A2 B1).x.p (vec-sub v2 u1 A2 B1).x.n G.x.p G.x.n
      ⊎ Spanned answer H.y.p H.y.n (vec-sub v2 u1 A2 B1).y.p (vec-sub v2 u1 A2 B1).y.n G.y.p G.y.n
      → Matched p1 p2 q1 q2 said
  segments-matched c long (inl s) =
      along-matched v1 v2 u1 u2 answer p1 p2 q1 q2 c long _ _ _ _ _ _ u-at.at_x w_at.at_x w2-at.at_x s
  segments-matched c long (inr s) =
      matched-flipped p1 p2 q1 q2 said
      (along-matched v1 v2 u1 u2 answer (flip p1) (flip p2) (flip q1) (flip q2) (flipped p1 p2 q1 q2 c) (λ h. long (h.1, h.0))
      _ _ _ _ _ _ u-at.at_y w_at.at_y w2-at.at_y s)

  par : Level → Parallel p1 p2 q1 q2
  par flat = across-parallel p1 p2 q1 q2 (level-is.1 flat)

  -- all five ways
  level-matched : Level → Matched p1 p2 q1 q2 said
  level-matched flat = ways (ℕ_discrete (perp v w F H).p (perp v w F H).n) (ℕ_discrete (perp u w G H).p (perp u w G H).n)
    where
      no_line : (OnV → ⊥) ⊎ (OnU → ⊥) → ¬ Collinear p1 p2 q1 q2
      no_line (inl n) c = n (on-v-is.0 c.from-v)
      no_line (inr n) c = n (on-u-is.0 c.from-u)

      aside : (OnV → ⊥) ⊎ (OnU → ⊥) → Matched p1 p2 q1 q2 said
      aside n =
          apart-matched p1 p2 q1 q2 said (par flat) (no_line n)
          (ap (λ (z : LineLineIntr). line_line_of z v1 v2 u1 u2) (kernel.beside e num den h v1 v2 u1 u2 A1 A2 B1 B2 n))

      on_line : OnV → OnU → IsZero v F ⊎ (IsZero v F → ⊥) → IsZero u G ⊎ (IsZero u G → ⊥) → Matched p1 p2 q1 q2 said
      on_line x y i j =
          go (record { parallel = level-is.1 flat; from-u = on-u-is.1 y; from-v = on-v-is.1 x }) i j
        where
          same-v : IsZero v F ↔ Same p1 p2
          same-v = point_at v1 v2 A1 A2 p1 p2 a1 a2

          same-u : IsZero u G ↔ Same q1 q2
          same-u = point_at u1 u2 B1 B2 q1 q2 b1 b2

          same_w : IsZero w H ↔ Same q1 p1
          same_w = point_at u1 v1 B1 A1 q1 p1 b1 a1

          both : ((answer ≡ TrueIntersect f0 f0) × IsZero w H) ⊎ ((answer ≡ NoIntersect) × (IsZero w H → ⊥))
              → MatchedIf (Same p1 q1) said
          both (inl (k, z)) =
              inr (point_from_parametric v1 v2 f0, ap (λ (z : LineLineIntr). line_line_of z v1 v2 u1 u2) k, turned-over (same_w.0 z))
          both (inr (k, z)) =
              inl (ap (λ (z : LineLineIntr). line_line_of z v1 v2 u1 u2) k, λ o. z (same_w.1 (turned-over o)))

          go : Collinear p1 p2 q1 q2 → IsZero v F ⊎ (IsZero v F → ⊥) → IsZero u G ⊎ (IsZero u G → ⊥) → Matched p1 p2 q1 q2 said
          go c (inl i) (inl j) =
              both-matched p1 p2 q1 q2 said (same-v.0 i) (same-u.0 j)
              (both (kernel.points e num den h v1 v2 u1 u2 A1 A2 B1 B2 x y i j))
          go c (inl i) (inr j) =
              at-matched v1 v2 u1 u2 answer f0 (parametric_from_point u1 u2 v1 e) e u1 u2 v1 B1 B2 A1 p1 p2 q1 q2 u-at w_at
              (same-v.0 i) c.from-u (kernel.first-point e num den h v1 v2 u1 u2 A1 A2 B1 B2 x y i j)
          go c (inr i) (inl j) =
              matched-swapped p1 p2 q1 q2 said
              (at-matched v1 v2 u1 u2 answer (parametric_from_point v1 v2 u1 e) f0 e v1 v2 u1 A1 A2 B1 q1 q2 p1 p2 v-at back_at
              (same-u.0 j) (swapped p1 p2 q1 q2 c).from-u (kernel.second-point e num den h v1 v2 u1 u2 A1 A2 B1 B2 x y i j))
          go c (inr i) (inr j) =
              segments-matched c (λ o. i (same-v.1 o)) (kernel.segments e num den h v1 v2 u1 u2 A1 A2 B1 B2 x y i j)

      ways : Dec OnV → Dec OnU → Matched p1 p2 q1 q2 said
      ways (no n) d = aside (inl n)
      ways (yes x) (no n) = aside (inr n)
      ways (yes x) (yes y) = on_line x y (point-or-not v F) (point-or-not u G)

  pub level-promised : Level → Promised p1 p2 q1 q2 num den said
  level-promised flat = parallel-promised p1 p2 q1 q2 num den said (par flat) (level-matched flat)
