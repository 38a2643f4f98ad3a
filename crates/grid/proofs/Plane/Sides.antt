-- What holds of the products that the kernel divides (Plane/Sides of specs/): which of them are 0 for parallel ways, and where a
-- point of two straight lines lies.
use Rattle.std.specs.Prelude.{◌≡◌, List, [], ◌∷◌, ℕ, ◌<◌, ℤ, pos, ◌+ℤ◌, ◌-ℤ◌, ◌*ℤ◌}
use Rattle.grid.specs.Promise.{Spot, Point, Along, Parallel}
use Rattle.grid.specs.Plane.Ring.{Expr, combine, combine2, sub-of-equal, equal-of-sub, var, num, neg, ◌⊞◌, ◌⊟◌, ◌⊠◌}
use Rattle.grid.specs.Plane.Order.{cancel}
pub use Rattle.grid.specs.Plane.Sides.{way, cross, across, first, second}

-- parallel means that the product of the ways is 0
pub parallel-across : (v1 v2 u1 u2 : Spot) → Parallel v1 v2 u1 u2 → across v1 v2 u1 u2 ≡ pos 0
parallel-across v1 v2 u1 u2 = sub-of-equal _ _

pub across-parallel : (v1 v2 u1 u2 : Spot) → across v1 v2 u1 u2 ≡ pos 0 → Parallel v1 v2 u1 u2
across-parallel v1 v2 u1 u2 = equal-of-sub _ _

-- ---- the same as expressions, for equations between such products: `leg` stands for a way, `wedge` for a product, and the four
-- ends for the first eight numbers
pub record Corner : Type 0 where
  pub x : Expr
  pub y : Expr

abbrev pub start-v : Corner
start-v = record { x = var 0; y = var 1 }

abbrev pub end-v : Corner
end-v = record { x = var 2; y = var 3 }

abbrev pub start-u : Corner
start-u = record { x = var 4; y = var 5 }

abbrev pub end-u : Corner
end-u = record { x = var 6; y = var 7 }

abbrev pub leg : Corner → Corner → Corner
leg a b = record { x = b.x ⊟ a.x; y = b.y ⊟ a.y }

abbrev pub wedge : Corner → Corner → Expr
wedge p q = p.x ⊠ q.y ⊟ p.y ⊠ q.x

abbrev pub corners : Spot → Spot → Spot → Spot → List ℤ → List ℤ
corners v1 v2 u1 u2 more = v1.x ∷ v1.y ∷ v2.x ∷ v2.y ∷ u1.x ∷ u1.y ∷ u2.x ∷ u2.y ∷ more

-- ---- one point on two straight lines

-- a coordinate c that lies s / t of the way from x to x2, and s' / t' of the way from a to a2
one_value : (c x x2 a a2 s s' : ℤ) (q t t' : ℕ) → 0 < q
    → c *ℤ pos t ≡ pos q *ℤ (x *ℤ pos t +ℤ (x2 -ℤ x) *ℤ s)
    → c *ℤ pos t' ≡ pos q *ℤ (a *ℤ pos t' +ℤ (a2 -ℤ a) *ℤ s')
    → (x *ℤ pos t +ℤ (x2 -ℤ x) *ℤ s) *ℤ pos t' ≡ (a *ℤ pos t' +ℤ (a2 -ℤ a) *ℤ s') *ℤ pos t
one_value c x x2 a a2 s s' q t t' Q h k =
    go (x *ℤ pos t +ℤ (x2 -ℤ x) *ℤ s) (a *ℤ pos t' +ℤ (a2 -ℤ a) *ℤ s') h k
  where
    go : (l r : ℤ) → c *ℤ pos t ≡ pos q *ℤ l → c *ℤ pos t' ≡ pos q *ℤ r → l *ℤ pos t' ≡ r *ℤ pos t
    go l r h k =
        let C = var 0 in let L = var 1 in let R = var 2 in let O = var 3 in let A = var 4 in let B = var 5 in
        cancel (l *ℤ pos t') (r *ℤ pos t) q Q
        (combine2 (c ∷ l ∷ r ∷ pos q ∷ pos t ∷ pos t' ∷ []) (L ⊠ B ⊠ O) (R ⊠ A ⊠ O)
        (neg B) (C ⊠ A) (O ⊠ L) A (C ⊠ B) (O ⊠ R) h k tt)

-- s / t on the straight line from (x, y) by (vx, vy) and s' / t' on that from (a, b) by (ux, uy), multiplied out by u's way
by-u : (x y vx vy a b ux uy s t s' t' : ℤ)
    → (x *ℤ t +ℤ vx *ℤ s) *ℤ t' ≡ (a *ℤ t' +ℤ ux *ℤ s') *ℤ t
    → (y *ℤ t +ℤ vy *ℤ s) *ℤ t' ≡ (b *ℤ t' +ℤ uy *ℤ s') *ℤ t
    → s *ℤ (vx *ℤ uy -ℤ vy *ℤ ux) *ℤ t' ≡ (ux *ℤ (y -ℤ b) -ℤ uy *ℤ (x -ℤ a)) *ℤ t *ℤ t'
by-u x y vx vy a b ux uy s t s' t' at_x at_y =
    let X = var 0 in let Y = var 1 in let VX = var 2 in let VY = var 3 in
    let A = var 4 in let B = var 5 in let UX = var 6 in let UY = var 7 in
    let S = var 8 in let R = var 9 in let S' = var 10 in let R' = var 11 in
    combine2 (x ∷ y ∷ vx ∷ vy ∷ a ∷ b ∷ ux ∷ uy ∷ s ∷ t ∷ s' ∷ t' ∷ [])
    (S ⊠ (VX ⊠ UY ⊟ VY ⊠ UX) ⊠ R') ((UX ⊠ (Y ⊟ B) ⊟ UY ⊠ (X ⊟ A)) ⊠ R ⊠ R')
    UY ((X ⊠ R ⊞ VX ⊠ S) ⊠ R') ((A ⊠ R' ⊞ UX ⊠ S') ⊠ R)
    (neg UX) ((Y ⊠ R ⊞ VY ⊠ S) ⊠ R') ((B ⊠ R' ⊞ UY ⊠ S') ⊠ R) at_x at_y tt

-- what lies s / t along v and s' / t' along u: s / t is the first product over across
module _ (v1 v2 u1 u2 : Spot) (P : Point) (s s' : ℤ) (t t' : ℕ) (on-v : Along P v1 v2 s t) (on-u : Along P u1 u2 s' t') where
  pub same-x : (v1.x *ℤ pos t +ℤ (v2.x -ℤ v1.x) *ℤ s) *ℤ pos t' ≡ (u1.x *ℤ pos t' +ℤ (u2.x -ℤ u1.x) *ℤ s') *ℤ pos t
  same-x =
      one_value P.x v1.x v2.x u1.x u2.x s s' P.over t t' P.positive on-v.at_x on-u.at_x

  pub same-y : (v1.y *ℤ pos t +ℤ (v2.y -ℤ v1.y) *ℤ s) *ℤ pos t' ≡ (u1.y *ℤ pos t' +ℤ (u2.y -ℤ u1.y) *ℤ s') *ℤ pos t
  same-y =
      one_value P.y v1.y v2.y u1.y u2.y s s' P.over t t' P.positive on-v.at_y on-u.at_y

  pub place-v : s *ℤ across v1 v2 u1 u2 ≡ first v1 v2 u1 u2 *ℤ pos t
  place-v =
      cancel (s *ℤ across v1 v2 u1 u2) (first v1 v2 u1 u2 *ℤ pos t) t' on-u.some
      (by-u v1.x v1.y (v2.x -ℤ v1.x) (v2.y -ℤ v1.y) u1.x u1.y (u2.x -ℤ u1.x) (u2.y -ℤ u1.y)
      s (pos t) s' (pos t') same-x same-y)

-- and s' / t' is the second: the same with v and u exchanged, both products turned
pub place-u : (v1 v2 u1 u2 : Spot) (P : Point) (s s' : ℤ) (t t' : ℕ) → Along P v1 v2 s t → Along P u1 u2 s' t'
    → s' *ℤ across v1 v2 u1 u2 ≡ second v1 v2 u1 u2 *ℤ pos t'
place-u v1 v2 u1 u2 P s s' t t' on-v on-u =
    combine (corners v1 v2 u1 u2 (s' ∷ pos t' ∷ []))
    (var 8 ⊠ wedge (leg start-v end-v) (leg start-u end-u)) (wedge (leg start-v end-v) (leg start-u start-v) ⊠ var 9)
    (neg (num 1)) (var 8 ⊠ wedge (leg start-u end-u) (leg start-v end-v))
    (wedge (leg start-v end-v) (leg start-v start-u) ⊠ var 9)
    (place-v u1 u2 v1 v2 P s' s t' t on-u on-v) tt
