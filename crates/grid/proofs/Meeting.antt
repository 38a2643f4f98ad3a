-- Parallel grid segments of which an end of the one is an end of the other: if the kernel answers a point, it is such an end of
-- the first. It is given by its parameter there: 0 is the start, 1 the end. v is the way from v1 to v2, u that from u1 to u2 and
-- w that from u1 to v1; F, G and H are their numbers.
use Rattle.std.specs.Prelude.{◌≡◌, ◌⊎◌, ◌↔◌, ℕ, ◌+◌, Float}
use Rattle.std.proofs.Common.{sym, ◌∙◌, subst, inl, inr, arith}
use Rattle.std.proofs.Math.Decide.{ℕ_discrete}
use Rattle.float_laws.specs.Signed.{Diff}
use Rattle.floats.specs.Ops.{f0, f1}
use Rattle.plane.specs.Vector2 as vector2
use Rattle.plane.specs.declared.vector2.Vector2.{Vector2}
use Rattle.plane.specs.BaseMath.{parametric_from_point}
use Rattle.crossing.specs.LineLine.{parallel, span_of, touching_end}
use Rattle.crossing.specs.declared.line_line_intr.LineLineIntr.{LineLineIntr}
use Rattle.crossing.specs.declared.line_line_intr.LineLineIntr.TheVariants.{NoIntersect, TrueIntersect}
use Rattle.grid.specs.Promise.{Spot}
use Rattle.grid.proofs.Plane.Spots.{Same}
use Rattle.grid.proofs.Plane.Joints.{AnEnd, back, through}
use Rattle.grid.specs.Floats.Small.{Vec, vec-sub, perp}
use Rattle.grid.specs.Floats.Zero.{Eps}
use Rattle.grid.specs.Floats.Length.{IsZero}
use Rattle.grid.specs.Floats.Ratio.{Ratio}
use Rattle.grid.specs.Floats.Crossing.{Inside}
use Rattle.grid.specs.Floats.Parallel.{PointOn, PointAt}
use Rattle.grid.specs.Floats.Ways as kernel
use Rattle.grid.specs.Floats.Ways.{point-or-not}
use Rattle.grid.specs.Floats.Joint.{zero_is, one-is, ratio-zero, ratio-one, overlap-end, touching}
use Rattle.grid.proofs.Joined.{At, point_at}

-- ---- the same grid point

-- the ends b and c are one
the_end : (a b c : Spot) → Same b c → AnEnd a b c → Same a b
the_end a b c e (inl h) = h
the_end a b c e (inr h) = through h (back e)

moved-end : (a a' b c : Spot) → Same a a' → AnEnd a' b c → AnEnd a b c
moved-end a a' b c e (inl h) = inl (through e h)
moved-end a a' b c e (inr h) = inr (through e h)

-- ---- different answers are not equal
not_none : (r : LineLineIntr) (t t' : Float) → r ≡ TrueIntersect t t' → r ≡ NoIntersect → ⊥
not_none r t t' e f = let z : ◌≡◌ {A = ℕ} 0 1 = cc in omega arith

same_first : (r : LineLineIntr) (t t' s s' : Float) → r ≡ TrueIntersect s s' → r ≡ TrueIntersect t t' → s ≡ t
same_first r t t' s s' e f = cc

-- a point beside a segment: if the answer is not none, it is the point
told : (r met : LineLineIntr) (P N D : ℕ) → PointOn r met P N D → (r ≡ NoIntersect → ⊥) → r ≡ met
told r met P N D on some = go on.answer
  where
    go : ((r ≡ met) × Inside P N D) ⊎ ((r ≡ NoIntersect) × (Inside P N D → ⊥)) → r ≡ met
    go (inl (k, z)) = k
    go (inr (k, z)) = absurd (some k)

-- from a to b and from a to c is one way, if b is c
all-way : (a1 a2 b1 b2 c1 c2 : ℕ) → b1 + c2 ≡ b2 + c1 → b1 + a2 + (c2 + a1) ≡ c1 + a2 + (b2 + a1)
all-way a1 a2 b1 b2 c1 c2 e = omega arith

module _ (e : Float) (num den : ℕ) (h : Eps e num den)
    (v1 v2 u1 u2 : Vector2) (A1 : Vec 20 v1) (A2 : Vec 20 v2) (B1 : Vec 20 u1) (B2 : Vec 20 u2)
    (p1 p2 q1 q2 : Spot) (a1 : At 20 v1 A1 p1) (a2 : At 20 v2 A2 p2) (b1 : At 20 u1 B1 q1) (b2 : At 20 u2 B2 q2) where
  abbrev v : Vector2
  v = vector2.sub v2 v1

  abbrev u : Vector2
  u = vector2.sub u2 u1

  abbrev w : Vector2
  w = vector2.sub v1 u1

  abbrev w2 : Vector2
  w2 = vector2.sub v2 u1

  abbrev F : Vec 21 v
  F = vec-sub v2 v1 A2 A1

  abbrev G : Vec 21 u
  G = vec-sub u2 u1 B2 B1

  abbrev H : Vec 21 w
  H = vec-sub v1 u1 A1 B1

  abbrev D : Vec 21 (vector2.sub u1 v1)
  D = vec-sub u1 v1 B1 A1

  abbrev answer : LineLineIntr
  answer = parallel v1 v2 u1 u2 v u w e

  -- the parameter of an end of the first that is an end of the second
  abbrev pub AtEnd : Float → Type 0
  AtEnd t = (AnEnd p1 q1 q2 × Diff t 0 0 1) ⊎ (AnEnd p2 q1 q2 × Diff t 1 0 1)

  pub meets_at : AnEnd p1 q1 q2 ⊎ AnEnd p2 q1 q2 → (t t' : Float) → answer ≡ TrueIntersect t t' → AtEnd t
  meets_at joint t t' is = ways (ℕ_discrete (perp v w F H).p (perp v w F H).n) (ℕ_discrete (perp u w G H).p (perp u w G H).n)
    where
      some : answer ≡ NoIntersect → ⊥
      some = not_none answer t t' is

      -- the parameter is 0, or 1
      at_zero : (s : Float) → s ≡ t → Diff s 0 0 1 → AnEnd p1 q1 q2 → AtEnd t
      at_zero s z d k = inl (k, subst (λ (x : Float). Diff x 0 0 1) z d)

      at_one : (s : Float) → s ≡ t → Diff s 1 0 1 → AnEnd p2 q1 q2 → AtEnd t
      at_one s z d k = inr (k, subst (λ (x : Float). Diff x 1 0 1) z d)

      same-v : IsZero v F → Same p1 p2
      same-v = (point_at v1 v2 A1 A2 p1 p2 a1 a2).0

      same-u : IsZero u G → Same q1 q2
      same-u = (point_at u1 u2 B1 B2 q1 q2 b1 b2).0

      -- the first is a point
      from_start : Same p1 p2 → f0 ≡ t → AtEnd t
      from_start s z = at_zero f0 z zero_is (go joint)
        where
          go : AnEnd p1 q1 q2 ⊎ AnEnd p2 q1 q2 → AnEnd p1 q1 q2
          go (inl k) = k
          go (inr k) = moved-end p1 p2 q1 q2 s k

      -- the second is a point: the start of the first, or its end
      by_place : Same q1 q2 → (place : Float) → place ≡ t
          → Ratio 21 place D.x.p D.x.n F.x.p F.x.n ⊎ Ratio 21 place D.y.p D.y.n F.y.p F.y.n
          → AtEnd t
      by_place s place z k = go joint k
        where
          start : AnEnd p1 q1 q2 → IsZero (vector2.sub u1 v1) D
          start j = (point_at v1 u1 A1 B1 p1 q1 a1 b1).1 (the_end p1 q1 q2 s j)

          end : AnEnd p2 q1 q2 → IsZero (vector2.sub u1 v2) (vec-sub u1 v2 B1 A2)
          end j = (point_at v2 u1 A2 B1 p2 q1 a2 b1).1 (the_end p2 q1 q2 s j)

          go : AnEnd p1 q1 q2 ⊎ AnEnd p2 q1 q2
              → Ratio 21 place D.x.p D.x.n F.x.p F.x.n ⊎ Ratio 21 place D.y.p D.y.n F.y.p F.y.n
              → AtEnd t
          go (inl j) (inl k) = at_zero place z (ratio-zero place _ _ _ _ k (start j).0) j
          go (inl j) (inr k) = at_zero place z (ratio-zero place _ _ _ _ k (start j).1) j
          go (inr j) (inl k) = at_one place z (ratio-one place _ _ _ _ k (all-way _ _ _ _ _ _ (end j).0)) j
          go (inr j) (inr k) = at_one place z (ratio-one place _ _ _ _ k (all-way _ _ _ _ _ _ (end j).1)) j

      second-point : Same q1 q2 → PointAt e v1 v2 u1 A1 A2 B1 answer (TrueIntersect (parametric_from_point v1 v2 u1 e) f0) → AtEnd t
      second-point s (inl (k, on)) =
          by_place s (parametric_from_point v1 v2 u1 e) (same_first answer t t' _ _ (told answer _ _ _ _ on some) is) (inl k)
      second-point s (inr (k, on)) =
          by_place s (parametric_from_point v1 v2 u1 e) (same_first answer t t' _ _ (told answer _ _ _ _ on some) is) (inr k)

      first-point : Same p1 p2 → PointAt e u1 u2 v1 B1 B2 A1 answer (TrueIntersect f0 (parametric_from_point u1 u2 v1 e)) → AtEnd t
      first-point s (inl (k, on)) = from_start s (same_first answer t t' _ _ (told answer _ _ _ _ on some) is)
      first-point s (inr (k, on)) = from_start s (same_first answer t t' _ _ (told answer _ _ _ _ on some) is)

      both-points : Same p1 p2 → ((answer ≡ TrueIntersect f0 f0) × IsZero w H) ⊎ ((answer ≡ NoIntersect) × (IsZero w H → ⊥))
          → AtEnd t
      both-points s (inl (k, z)) = from_start s (same_first answer t t' f0 f0 k is)
      both-points s (inr (k, z)) = absurd (some k)

      -- neither is a point
      at-u1 : IsZero w H ↔ Same q1 p1
      at-u1 = point_at u1 v1 B1 A1 q1 p1 b1 a1

      at-u2 : IsZero (vector2.sub v1 u2) (vec-sub v1 u2 A1 B2) ↔ Same q2 p1
      at-u2 = point_at u2 v1 B2 A1 q2 p1 b2 a1

      touched : touching_end v1 u1 u2 e ≡ t → AtEnd t
      touched z = go (touching e num den h v1 u1 u2 A1 B1 B2) joint
        where
          X : Type 0
          X = IsZero w H

          Y : Type 0
          Y = IsZero (vector2.sub v1 u2) (vec-sub v1 u2 A1 B2)

          there : X ⊎ Y → AnEnd p1 q1 q2
          there (inl x) = inl (back (at-u1.0 x))
          there (inr y) = inr (back (at-u2.0 y))

          here : AnEnd p1 q1 q2 → X ⊎ Y
          here (inl x) = inl (at-u1.1 (back x))
          here (inr y) = inr (at-u2.1 (back y))

          go : ((X ⊎ Y) × (touching_end v1 u1 u2 e ≡ f0)) ⊎ ((X ⊎ Y → ⊥) × (touching_end v1 u1 u2 e ≡ f1))
              → AnEnd p1 q1 q2 ⊎ AnEnd p2 q1 q2
              → AtEnd t
          go (inl (k, s)) j = at_zero f0 (sym s ∙ z) zero_is (there k)
          go (inr (k, s)) (inl j) = absurd (k (here j))
          go (inr (k, s)) (inr j) = at_one f1 (sym s ∙ z) one-is j

      on_line : (perp v w F H).p ≡ (perp v w F H).n → (perp u w G H).p ≡ (perp u w G H).n → IsZero v F ⊎ (IsZero v F → ⊥)
          → IsZero u G ⊎ (IsZero u G → ⊥)
          → AtEnd t
      on_line x y (inl i) (inl j) = both-points (same-v i) (kernel.points e num den h v1 v2 u1 u2 A1 A2 B1 B2 x y i j)
      on_line x y (inl i) (inr j) = first-point (same-v i) (kernel.first-point e num den h v1 v2 u1 u2 A1 A2 B1 B2 x y i j)
      on_line x y (inr i) (inl j) = second-point (same-u j) (kernel.second-point e num den h v1 v2 u1 u2 A1 A2 B1 B2 x y i j)
      on_line x y (inr i) (inr j) =
          touched (sym (overlap-end v1 u1 u2 u (span_of w w2 u e) e t t'
          (sym (kernel.goes-overlap e num den h v1 v2 u1 u2 A1 A2 B1 B2 x y i j) ∙ is)))

      ways : Dec ((perp v w F H).p ≡ (perp v w F H).n) → Dec ((perp u w G H).p ≡ (perp u w G H).n) → AtEnd t
      ways (no n) d = absurd (some (kernel.beside e num den h v1 v2 u1 u2 A1 A2 B1 B2 (inl n)))
      ways (yes x) (no n) = absurd (some (kernel.beside e num den h v1 v2 u1 u2 A1 A2 B1 B2 (inr n)))
      ways (yes x) (yes y) = on_line x y (point-or-not v F) (point-or-not u G)
