-- Parallel segments that share a point lie on one straight line, also if the segments or the axes are exchanged. If the first has
-- no length, or neither has, to share a point means that one grid point lies on the other segment. Then they never share more
-- than that point.
use Rattle.std.specs.Prelude.{◌≡◌, ◌↔◌, [], ◌∷◌, ℕ, ◌<◌, ℤ, pos, ◌-ℤ◌, ◌*ℤ◌}
use Rattle.std.proofs.Common.{sym, ◌∙◌}
use Rattle.grid.specs.Promise.{Spot, Parallel, Share, ShareMore}
use Rattle.grid.specs.Plane.Ring.{solve, combine, combine2, var, num, neg, ◌⊟◌, ◌⊠◌}
use Rattle.grid.specs.Plane.Order.{cancel}
use Rattle.grid.proofs.Plane.Sides.{
  way,
  cross,
  across,
  first,
  second,
  parallel-across,
  start-v,
  end-v,
  start-u,
  end-u,
  leg,
  wedge,
  corners,
  place-v,
  place-u,
}
use Rattle.grid.proofs.Plane.Cross.{Between}
use Rattle.grid.proofs.Plane.Spots.{
  spot,
  start-on,
  Same,
  IsSpot,
  only-spot,
  spot-lies,
  spot-once,
  level-on,
  on-level,
  flip,
}
use Rattle.grid.proofs.Plane.Spans.{size, mark}

-- ---- on one straight line
pub record Collinear (v1 v2 u1 u2 : Spot) : Type 0 where
  pub parallel : across v1 v2 u1 u2 ≡ pos 0
  pub from-u : first v1 v2 u1 u2 ≡ pos 0
  pub from-v : second v1 v2 u1 u2 ≡ pos 0

-- s * 0 is n * t
none_left : (s d n : ℤ) (t : ℕ) → 0 < t → s *ℤ d ≡ n *ℤ pos t → d ≡ pos 0 → n ≡ pos 0
none_left s d n t H h e =
    let S = var 0 in let D = var 1 in let N = var 2 in let R = var 3 in
    cancel n (pos 0) t H
    (combine2 (s ∷ d ∷ n ∷ pos t ∷ []) (N ⊠ R) (num 0 ⊠ R) (neg (num 1)) (S ⊠ D) (N ⊠ R) S D (num 0) h e tt)

pub share-collinear : (v1 v2 u1 u2 : Spot) → Parallel v1 v2 u1 u2 → Share v1 v2 u1 u2 → Collinear v1 v2 u1 u2
share-collinear v1 v2 u1 u2 par (P, ((s, t, l, on-v), (s', t', l', on-u))) =
    let flat = parallel-across v1 v2 u1 u2 par in
    record {
      parallel = flat;
      from-u = none_left (pos s) (across v1 v2 u1 u2) (first v1 v2 u1 u2) t on-v.some
          (place-v v1 v2 u1 u2 P (pos s) (pos s') t t' on-v on-u) flat;
      from-v = none_left (pos s') (across v1 v2 u1 u2) (second v1 v2 u1 u2) t' on-u.some
          (place-u v1 v2 u1 u2 P (pos s) (pos s') t t' on-v on-u) flat;
    }

-- ---- v has no length and lies on u's straight line, which is not upright: they share v exactly if its place along x is 0 to 1
module _ (v1 v2 u1 u2 : Spot) (still : Same v1 v2) where
  pub point-share : ((u2.x -ℤ u1.x) ≡ pos 0 → ⊥) → cross (way u1 u2) (way u1 v1) ≡ pos 0
      → Share v1 v2 u1 u2 ↔ Between (mark u1 u2 v1) (size u1 u2)
  point-share slant line = (
    λ h. (on-level u1 u2 v1 (spot-lies h.0 v1 u1 u2 (only-spot h.0 v1 v2 still h.1.0) h.1.1)).on-axis,
    λ h. (spot v1, (start-on v1 v2, level-on u1 u2 v1 slant (record { on_line = line; on-axis = h }))),
  )

  pub point-once : ¬ ShareMore v1 v2 u1 u2
  point-once (P, Q, differ, (p, p'), (q, q')) = spot-once P Q v1 (only-spot P v1 v2 still p) (only-spot Q v1 v2 still q) differ

-- ---- neither has length: one and the same grid point
pub both-points : (v1 v2 u1 u2 : Spot) → Same v1 v2 → Same u1 u2 → Share v1 v2 u1 u2 ↔ Same v1 u1
both-points v1 v2 u1 u2 sv su = (equal, λ e. (spot v1, (start-on v1 v2, spot-lies (spot u1) v1 u1 u2 (is e) (start-on u1 u2))))
  where
    one : (a : ℤ) → a ≡ a *ℤ pos 1
    one a = solve (a ∷ []) (var 0) (var 0 ⊠ num 1) tt

    is : Same v1 u1 → IsSpot (spot u1) v1
    is (ex, ey) = (sym ex ∙ one v1.x, sym ey ∙ one v1.y)

    equal : Share v1 v2 u1 u2 → Same v1 u1
    equal (P, (p, q)) =
        let v = only-spot P v1 v2 sv p in
        let u = only-spot P u1 u2 su q in (
          cancel v1.x u1.x P.over P.positive (sym v.0 ∙ u.0),
          cancel v1.y u1.y P.over P.positive (sym v.1 ∙ u.1),
        )

-- ---- u and v are exchanged, and the axes are
-- a product that is 0 stays 0 if its factors are exchanged, and if one of them is turned round
turned-cross : (p q : Spot) → cross p q ≡ pos 0 → cross q p ≡ pos 0
turned-cross p q h =
    combine (corners p q p q []) (wedge end-v start-v) (num 0) (neg (num 1)) (wedge start-v end-v) (num 0) h tt

turned-way : (p a b : Spot) → cross p (way a b) ≡ pos 0 → cross p (way b a) ≡ pos 0
turned-way p a b h =
    combine (corners p p a b []) (wedge start-v (leg end-u start-u)) (num 0) (neg (num 1)) (wedge start-v (leg start-u end-u))
    (num 0) h tt

pub swapped : (v1 v2 u1 u2 : Spot) → Collinear v1 v2 u1 u2 → Collinear u1 u2 v1 v2
swapped v1 v2 u1 u2 c =
    record {
      parallel = turned-cross (way v1 v2) (way u1 u2) c.parallel;
      from-u = turned-way (way v1 v2) u1 v1 c.from-v;
      from-v = turned-way (way u1 u2) u1 v1 c.from-u;
    }

pub cross-flipped : (p q : Spot) → cross p q ≡ pos 0 → cross (flip p) (flip q) ≡ pos 0
cross-flipped p q h =
    combine (corners p q p q []) (start-v.y ⊠ end-v.x ⊟ start-v.x ⊠ end-v.y) (num 0)
    (neg (num 1)) (wedge start-v end-v) (num 0) h tt

pub flipped : (v1 v2 u1 u2 : Spot) → Collinear v1 v2 u1 u2 → Collinear (flip v1) (flip v2) (flip u1) (flip u2)
flipped v1 v2 u1 u2 c =
    record {
      parallel = cross-flipped (way v1 v2) (way u1 u2) c.parallel;
      from-u = cross-flipped (way u1 u2) (way u1 v1) c.from-u;
      from-v = cross-flipped (way v1 v2) (way u1 v1) c.from-v;
    }
