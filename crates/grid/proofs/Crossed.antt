-- Grid segments that are not parallel: what the kernel's floats say in naturals (Floats/Crossing), stated for the crossing point
-- (Plane/Cross).
use Rattle.std.specs.Prelude.{◌≡◌, ℕ, ◌+◌, ◌*◌, ◌^◌, ◌≤◌, ◌<◌, ℤ, pos, nat_abs, ◌+ℤ◌, ◌-ℤ◌, ◌*ℤ◌, Float}
use Rattle.std.proofs.Common.{sym, ap, ◌∙◌, subst, arith}
use Rattle.float_laws.specs.Binary64.{unit, unit-pos}
use Rattle.plane.specs.declared.vector2.Vector2.{Vector2}
use Rattle.grid.specs.Promise.{Spot, Point, Reached, NearExact}
use Rattle.grid.specs.Plane.Whole.{diff, naturals}
use Rattle.grid.proofs.Plane.Sides.{way}
use Rattle.grid.proofs.Plane.Cross.{Between, Placed}
use Rattle.grid.proofs.Plane.Beyond.{long}
use Rattle.grid.proofs.Plane.Parts.{between-parts, reached-parts, within-parts}
use Rattle.grid.specs.Floats.Small.{Vec}
use Rattle.grid.specs.Floats.Length.{gap, square}
use Rattle.grid.specs.Floats.Reach.{Reaches}
use Rattle.grid.specs.Floats.Point.{Beside}
use Rattle.grid.specs.Floats.Crossing.{Inside}
use Rattle.grid.proofs.Joined.{At, size-gap, is-diff}

-- ---- equal naturals
nearer : (j S S' D D' num den : ℕ) → S ≡ S' → D ≡ D' → j * j * S * (den * den) < 4 * (num * num * (D * D))
    → j * j * S' * (den * den) < 4 * (num * num * (D' * D'))
nearer j S S' D D' num den e f h =
    subst (λ (z : ℕ). j * j * S' * (den * den) < 4 * (num * num * (z * z))) f
    (subst (λ (z : ℕ). j * j * z * (den * den) < 4 * (num * num * (D * D))) e h)

-- the square of a way's length
pub square-long : (v : Vector2) (A : Vec 21 v) (p q : Spot) → At 21 v A (way p q) → square v A ≡ long p q
square-long v A p q h =
    let x = size-gap (q.x -ℤ p.x) A.x.p A.x.n h.at_x in
    let y = size-gap (q.y -ℤ p.y) A.y.p A.y.n h.at_y in
    sym (ap (λ (z : ℕ). z * z + nat_abs (q.y -ℤ p.y) * nat_abs (q.y -ℤ p.y)) x
    ∙ ap (λ (z : ℕ). gap A.x.p A.x.n * gap A.x.p A.x.n + z * z) y)

-- a place in reach
pub reach : (P : Point) (a b : Spot) (m : ℤ) (S p n D num den : ℕ) → Placed P a b m → m ≡ diff p n → P.over ≡ D → S ≡ long a b
    → Reaches S num den p n D
    → Reached P a b num den
reach P a b m S p n D num den h e f g r =
    reached-parts P a b p n num den (subst (λ (z : ℤ). Placed P a b z) e h)
    (λ j k. nearer j S (long a b) D P.over num den g (sym f) (r.start j k))
    (λ j k. nearer j S (long a b) D P.over num den g (sym f) (r.end j (subst (λ (z : ℕ). j + (n + z) ≡ p) f k)))

-- a coordinate close to x + way * m / base
pub coordinate : (c : Float) (x w m : ℤ) (k a b wp wn p n D : ℕ) → x ≡ diff a b → w ≡ diff wp wn → m ≡ diff p n → k ≡ D
    → Beside c a b wp wn p n D
    → NearExact c (x *ℤ pos k +ℤ w *ℤ m) k
coordinate c x w m k a b wp wn p n D e f g h r =
    subst (λ (z : ℕ). NearExact c (x *ℤ pos z +ℤ w *ℤ m) z) (sym h)
    (within-parts c (x *ℤ pos D +ℤ w *ℤ m) D r.p r.n unit (a * D + (wp * p + wn * n)) (b * D + (wp * n + wn * p))
    ((is-diff c r.p r.n unit).1 r.is) unit-pos (is x w m e f g)
    (turn _ _ unit r.most) (turn _ _ unit r.least))
  where
    is : (x w m : ℤ) → x ≡ diff a b → w ≡ diff wp wn → m ≡ diff p n
        → x *ℤ pos D +ℤ w *ℤ m ≡ diff (a * D + (wp * p + wn * n)) (b * D + (wp * n + wn * p))
    is x w m e f g = rw (e, f, g) (simp naturals (omega arith))

    turn : (x y L : ℕ) → 2 ^ 30 * x ≤ 2 ^ 30 * y + 1 * (D * L) → 1073741824 * x ≤ 1073741824 * y + L * D
    turn x y L h = omega arith

-- a place from 0 to 1
pub inside : (m : ℤ) (k p n D : ℕ) → k ≡ D → m ≡ diff p n → Between m k → Inside p n D
inside m k p n D f g x = (between-parts p n D).0 (subst (λ (z : ℤ). Between z D) g (subst (λ (z : ℕ). Between m z) f x))
