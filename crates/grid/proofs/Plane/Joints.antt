-- Segments between grid points, one of which has an end that is an end of the other: that end lies on both. If they share no
-- more than one point, a grid point on both is that end. If they are not parallel, their straight lines cross there.
use Rattle.std.specs.Prelude.{◌≡◌, ◌⊎◌, ◌≢◌, ◌↔◌, [], ◌∷◌, ℤ, pos, ◌*ℤ◌, ◌≤ℤ◌, ◌<ℤ◌}
use Rattle.std.proofs.Common.{sym, ◌∙◌, inl, inr, arith}
use Rattle.grid.specs.Promise.{Spot, Point, OnSegment, Differ, Parallel, Shared, ShareMore, Crossing}
use Rattle.grid.specs.Plane.Whole.{whole, naturals}
use Rattle.grid.specs.Plane.Ring.{solve, var, num, ◌⊠◌}
use Rattle.grid.specs.Plane.Order.{le_antisym, lt-or-le}
use Rattle.grid.proofs.Plane.Cross.{on_line, crossing-same}
use Rattle.grid.proofs.Plane.Spots.{spot, start-on, end_on, Same, IsSpot, spot-lies}
use Rattle.grid.proofs.Plane.Points.{point-once}

-- ---- the same grid point
pub back : {a b : Spot} → Same a b → Same b a
back (x, y) = (sym x, sym y)

pub through : {a b c : Spot} → Same a b → Same b c → Same a c
through (x, y) (z, w) = (x ∙ z, y ∙ w)

one : (a : ℤ) → a *ℤ pos 1 ≡ a
one a = solve (a ∷ []) (var 0 ⊠ num 1) (var 0) tt

-- ---- a is one of the ends b and c
abbrev pub AnEnd : Spot → Spot → Spot → Type 0
AnEnd a b c = Same a b ⊎ Same a c

as-spot : {a b : Spot} → Same b a → IsSpot (spot b) a
as-spot {a} (x, y) = (x ∙ sym (one a.x), y ∙ sym (one a.y))

-- so it lies on the segment from b to c
pub end-lies : (a b c : Spot) → AnEnd a b c → OnSegment (spot a) b c
end-lies a b c (inl e) = spot-lies (spot b) a b c (as-spot (back e)) (start-on b c)
end-lies a b c (inr e) = spot-lies (spot c) a b c (as-spot (back e)) (end_on b c)

-- an end of the first, its start or its end, is an end of the second
pub start-shared : (v1 v2 u1 u2 : Spot) → AnEnd v1 u1 u2 → Shared v1 v2 u1 u2 (spot v1)
start-shared v1 v2 u1 u2 h = (start-on v1 v2, end-lies v1 u1 u2 h)

pub end-shared : (v1 v2 u1 u2 : Spot) → AnEnd v2 u1 u2 → Shared v1 v2 u1 u2 (spot v2)
end-shared v1 v2 u1 u2 h = (end_on v1 v2, end-lies v2 u1 u2 h)

-- ---- two grid points are one, or they differ
decided : (a b : ℤ) → (a ≡ b) ⊎ (a ≢ b)
decided a b = go (lt-or-le a b) (lt-or-le b a)
  where
    never : (a b : ℤ) → a <ℤ b → a ≡ b → ⊥
    never a b = rw (← whole a, ← whole b) (simp naturals (omega arith))

    go : (a <ℤ b) ⊎ (b ≤ℤ a) → (b <ℤ a) ⊎ (a ≤ℤ b) → (a ≡ b) ⊎ (a ≢ b)
    go (inl l) k = inr (never a b l)
    go (inr l) (inl k) = inr (λ e. never b a k (sym e))
    go (inr l) (inr k) = inl (le_antisym a b k l)

same-or-differ : (a b : Spot) → Same a b ⊎ Differ (spot a) (spot b)
same-or-differ a b = go (decided (a.x *ℤ pos 1) (b.x *ℤ pos 1)) (decided (a.y *ℤ pos 1) (b.y *ℤ pos 1))
  where
    go : (a.x *ℤ pos 1 ≡ b.x *ℤ pos 1) ⊎ (a.x *ℤ pos 1 ≢ b.x *ℤ pos 1)
        → (a.y *ℤ pos 1 ≡ b.y *ℤ pos 1) ⊎ (a.y *ℤ pos 1 ≢ b.y *ℤ pos 1)
        → Same a b ⊎ Differ (spot a) (spot b)
    go (inl x) (inl y) = inl (sym (one a.x) ∙ x ∙ one b.x, sym (one a.y) ∙ y ∙ one b.y)
    go (inl x) (inr y) = inr (inr y)
    go (inr x) y = inr (inl x)

-- ---- two segments
module _ (v1 v2 u1 u2 : Spot) where
  -- that share no more than one point: grid points on both are one
  pub only_one : ¬ ShareMore v1 v2 u1 u2 → (a b : Spot) → Shared v1 v2 u1 u2 (spot a) → Shared v1 v2 u1 u2 (spot b) → Same a b
  only_one n a b h k = go (same-or-differ a b)
    where
      go : Same a b ⊎ Differ (spot a) (spot b) → Same a b
      go (inl e) = e
      go (inr d) = absurd (n (spot a, spot b, d, h, k))

  -- that are not parallel: their straight lines cross at a grid point on both
  pub cross-there : ¬ Parallel v1 v2 u1 u2 → (P : Point) → Crossing v1 v2 u1 u2 P → (a : Spot) → Shared v1 v2 u1 u2 (spot a)
      → IsSpot P a
  cross-there slant P h a (k, l) =
      let s = crossing-same v1 v2 u1 u2 slant P (spot a) h (on_line (spot a) v1 v2 k, on_line (spot a) u1 u2 l) in
      (sym (one P.x) ∙ s.0, sym (one P.y) ∙ s.1)

-- ---- there and back: they share more than one point unless the ends are one
pub there_and_back : (a b : Spot) → ShareMore a b b a ↔ (¬ Same a b)
there_and_back a b = (λ s e. point-once a b b a e s, λ n. go n (same-or-differ a b))
  where
    go : ¬ Same a b → Same a b ⊎ Differ (spot a) (spot b) → ShareMore a b b a
    go n (inl e) = absurd (n e)
    go n (inr d) = (spot a, spot b, d, (start-on a b, end_on b a), (end_on a b, start-on b a))
