-- Two segments that are not parallel: their straight lines cross at one point, the crossing point, which lies steps-v / base of
-- the way along v and steps-u / base of the way along u. They share a point exactly if both places are from 0 to 1, and never
-- more than one.
use Rattle.std.specs.Prelude.{◌≡◌, refl, [], ◌∷◌, ℕ, ◌*◌, ◌≤◌, ◌<◌, ℤ, pos, negsuc, neg_ℤ, nat_abs, ◌+ℤ◌, ◌-ℤ◌, ◌*ℤ◌, ◌≤ℤ◌}
use Rattle.std.proofs.Common.{ap, ◌∙◌, subst, inl, inr, mul-le-mul_left, arith}
use Rattle.std.proofs.Math.IntN.{*ℤ_comm}
use Rattle.grid.specs.Promise.{Spot, Point, Along, OnLine, OnSegment, Differ, Parallel, Share, ShareMore, Crossing}
use Rattle.grid.specs.Plane.Ring.{solve, combine, combine2, var, neg, num, ◌⊞◌, ◌⊟◌, ◌⊠◌}
use Rattle.grid.specs.Plane.Order.{cancel, cancel-le, pos-le, natural, turned, turned-eq, size-pos}
use Rattle.grid.proofs.Plane.Sides.{across, across-parallel, first, second, place-v, place-u}

-- m / k is from 0 to 1
abbrev pub Between : ℤ → ℕ → Type 0
Between m k = (pos 0 ≤ℤ m) × (m ≤ℤ pos k)

-- s / t is from 0 to 1 and equals m / k
pub between : (m : ℤ) (k s t : ℕ) → 0 < t → s ≤ t → pos s *ℤ pos k ≡ m *ℤ pos t → Between m k
between m k s t T l h =
    let least : (pos 0 *ℤ pos t) ≤ℤ (pos s *ℤ pos k) = (pos-le (0 * t) (s * k)).1 (omega arith) in
    let more : k * s ≤ k * t = mul-le-mul_left k l in
    let most : (pos s *ℤ pos k) ≤ℤ (pos k *ℤ pos t) = (pos-le (s * k) (k * t)).1 (omega arith) in (
      cancel-le (pos 0) m t T (subst (λ (z : ℤ). (pos 0 *ℤ pos t) ≤ℤ z) h least),
      cancel-le m (pos k) t T (subst (λ (z : ℤ). z ≤ℤ (pos k *ℤ pos t)) h most),
    )

-- one place from either start, with the sign of d moved to the numerator
turned-sum : (d x p n a q m : ℤ) → x *ℤ d +ℤ p *ℤ n ≡ a *ℤ d +ℤ q *ℤ m
    → x *ℤ pos (nat_abs d) +ℤ p *ℤ turned d n ≡ a *ℤ pos (nat_abs d) +ℤ q *ℤ turned d m
turned-sum (pos k) x p n a q m h = h
turned-sum (negsuc k) x p n a q m h = go (negsuc k) h
  where
    go : (d : ℤ) → x *ℤ d +ℤ p *ℤ n ≡ a *ℤ d +ℤ q *ℤ m → x *ℤ neg_ℤ d +ℤ p *ℤ neg_ℤ n ≡ a *ℤ neg_ℤ d +ℤ q *ℤ neg_ℤ m
    go d h =
        let D = var 0 in let X = var 1 in let P = var 2 in let N = var 3 in let A = var 4 in let Q = var 5 in let M = var 6 in
        combine (d ∷ x ∷ p ∷ n ∷ a ∷ q ∷ m ∷ []) (X ⊠ neg D ⊞ P ⊠ neg N) (A ⊠ neg D ⊞ Q ⊠ neg M)
        (neg (num 1)) (X ⊠ D ⊞ P ⊠ N) (A ⊠ D ⊞ Q ⊠ M) h tt

-- the two products lead to one place
cramer : (x y vx vy a b ux uy : ℤ)
    → (x *ℤ (vx *ℤ uy -ℤ vy *ℤ ux) +ℤ vx *ℤ (ux *ℤ (y -ℤ b) -ℤ uy *ℤ (x -ℤ a))
    ≡ a *ℤ (vx *ℤ uy -ℤ vy *ℤ ux) +ℤ ux *ℤ (vx *ℤ (y -ℤ b) -ℤ vy *ℤ (x -ℤ a)))
    × (y *ℤ (vx *ℤ uy -ℤ vy *ℤ ux) +ℤ vy *ℤ (ux *ℤ (y -ℤ b) -ℤ uy *ℤ (x -ℤ a))
    ≡ b *ℤ (vx *ℤ uy -ℤ vy *ℤ ux) +ℤ uy *ℤ (vx *ℤ (y -ℤ b) -ℤ vy *ℤ (x -ℤ a)))
cramer x y vx vy a b ux uy =
    let X = var 0 in let Y = var 1 in let VX = var 2 in let VY = var 3 in
    let A = var 4 in let B = var 5 in let UX = var 6 in let UY = var 7 in
    let D = VX ⊠ UY ⊟ VY ⊠ UX in
    let N = UX ⊠ (Y ⊟ B) ⊟ UY ⊠ (X ⊟ A) in
    let M = VX ⊠ (Y ⊟ B) ⊟ VY ⊠ (X ⊟ A) in
    let all = x ∷ y ∷ vx ∷ vy ∷ a ∷ b ∷ ux ∷ uy ∷ [] in
    (solve all (X ⊠ D ⊞ VX ⊠ N) (A ⊠ D ⊞ UX ⊠ M) tt, solve all (Y ⊠ D ⊞ VY ⊠ N) (B ⊠ D ⊞ UY ⊠ M) tt)

-- a coordinate c / q that is s / t of the way p from x, if s / t is m / k
same_place : (c x p s m : ℤ) (q t k : ℕ) → 0 < t → c *ℤ pos t ≡ pos q *ℤ (x *ℤ pos t +ℤ p *ℤ s) → s *ℤ pos k ≡ m *ℤ pos t
    → c *ℤ pos k ≡ (x *ℤ pos k +ℤ p *ℤ m) *ℤ pos q
same_place c x p s m q t k H h e =
    let C = var 0 in let X = var 1 in let P = var 2 in let S = var 3 in let M = var 4 in
    let Q = var 5 in let R = var 6 in let K = var 7 in
    cancel (c *ℤ pos k) ((x *ℤ pos k +ℤ p *ℤ m) *ℤ pos q) t H
    (combine2 (c ∷ x ∷ p ∷ s ∷ m ∷ pos q ∷ pos t ∷ pos k ∷ []) (C ⊠ K ⊠ R) ((X ⊠ K ⊞ P ⊠ M) ⊠ Q ⊠ R)
    K (C ⊠ R) (Q ⊠ (X ⊠ R ⊞ P ⊠ S)) (Q ⊠ P) (S ⊠ K) (M ⊠ R) h e tt)

-- two ratios that equal a third are equal
same-ratio : (a b c : ℤ) (p q k : ℕ) → 0 < k → a *ℤ pos k ≡ c *ℤ pos p → b *ℤ pos k ≡ c *ℤ pos q → a *ℤ pos q ≡ b *ℤ pos p
same-ratio a b c p q k H h e =
    let A = var 0 in let B = var 1 in let C = var 2 in let P = var 3 in let Q = var 4 in let K = var 5 in
    cancel (a *ℤ pos q) (b *ℤ pos p) k H
    (combine2 (a ∷ b ∷ c ∷ pos p ∷ pos q ∷ pos k ∷ []) (A ⊠ Q ⊠ K) (B ⊠ P ⊠ K)
    Q (A ⊠ K) (C ⊠ P) (neg P) (B ⊠ K) (C ⊠ Q) h e tt)

pub on_line : (P : Point) (a b : Spot) → OnSegment P a b → OnLine P a b
on_line P a b (s, t, l, h) = (pos s, t, h)

-- ---- the place of the crossing point
abbrev pub base : Spot → Spot → Spot → Spot → ℕ
base v1 v2 u1 u2 = nat_abs (across v1 v2 u1 u2)

abbrev pub steps-v : Spot → Spot → Spot → Spot → ℤ
steps-v v1 v2 u1 u2 = turned (across v1 v2 u1 u2) (first v1 v2 u1 u2)

abbrev pub steps-u : Spot → Spot → Spot → Spot → ℤ
steps-u v1 v2 u1 u2 = turned (across v1 v2 u1 u2) (second v1 v2 u1 u2)

-- P is m / over of the way from a to b
pub record Placed (P : Point) (a b : Spot) (m : ℤ) : Type 0 where
  pub at_x : P.x ≡ a.x *ℤ pos P.over +ℤ (b.x -ℤ a.x) *ℤ m
  pub at_y : P.y ≡ a.y *ℤ pos P.over +ℤ (b.y -ℤ a.y) *ℤ m

pub placed-along : (P : Point) (a b : Spot) (m : ℤ) → Placed P a b m → Along P a b m P.over
placed-along P a b m h =
    record {
      some = P.positive;
      at_x = *ℤ_comm P.x (pos P.over) ∙ ap (λ (z : ℤ). pos P.over *ℤ z) h.at_x;
      at_y = *ℤ_comm P.y (pos P.over) ∙ ap (λ (z : ℤ). pos P.over *ℤ z) h.at_y;
    }

pub placed-segment : (P : Point) (a b : Spot) (m : ℤ) → Placed P a b m → Between m P.over → OnSegment P a b
placed-segment P a b m h (l, k) =
    let n = natural m l in
    let least = subst (λ (z : ℤ). z ≤ℤ pos P.over) n.1 k in (
      n.0,
      P.over,
      (pos-le n.0 P.over).0 least,
      subst (λ (z : ℤ). Along P a b z P.over) n.1 (placed-along P a b m h),
    )

module _ (v1 v2 u1 u2 : Spot) (slant : ¬ Parallel v1 v2 u1 u2) where
  pub base-pos : 0 < base v1 v2 u1 u2
  base-pos = size-pos (across v1 v2 u1 u2) (λ h. slant (across-parallel v1 v2 u1 u2 h))

  abbrev pub crossing-point : Point
  crossing-point =
      record {
        x = v1.x *ℤ pos (base v1 v2 u1 u2) +ℤ (v2.x -ℤ v1.x) *ℤ steps-v v1 v2 u1 u2;
        y = v1.y *ℤ pos (base v1 v2 u1 u2) +ℤ (v2.y -ℤ v1.y) *ℤ steps-v v1 v2 u1 u2;
        over = base v1 v2 u1 u2;
        positive = base-pos;
      }

  pub crossing-point-v : Placed crossing-point v1 v2 (steps-v v1 v2 u1 u2)
  crossing-point-v = record { at_x = refl; at_y = refl }

  pub crossing-point-u : Placed crossing-point u1 u2 (steps-u v1 v2 u1 u2)
  crossing-point-u =
      let same = cramer v1.x v1.y (v2.x -ℤ v1.x) (v2.y -ℤ v1.y) u1.x u1.y (u2.x -ℤ u1.x) (u2.y -ℤ u1.y) in
      let turn = turned-sum (across v1 v2 u1 u2) in
      record {
        at_x = turn v1.x (v2.x -ℤ v1.x) (first v1 v2 u1 u2) u1.x (u2.x -ℤ u1.x) (second v1 v2 u1 u2) same.0;
        at_y = turn v1.y (v2.y -ℤ v1.y) (first v1 v2 u1 u2) u1.y (u2.y -ℤ u1.y) (second v1 v2 u1 u2) same.1;
      }

  pub crossing-point-crosses : Crossing v1 v2 u1 u2 crossing-point
  crossing-point-crosses = (
    (steps-v v1 v2 u1 u2, base v1 v2 u1 u2, placed-along crossing-point v1 v2 _ crossing-point-v),
    (steps-u v1 v2 u1 u2, base v1 v2 u1 u2, placed-along crossing-point u1 u2 _ crossing-point-u),
  )

  -- ---- they share a point exactly if both places are from 0 to 1
  pub shared-between : Share v1 v2 u1 u2
      → Between (steps-v v1 v2 u1 u2) (base v1 v2 u1 u2) × Between (steps-u v1 v2 u1 u2) (base v1 v2 u1 u2)
  shared-between (P, ((s, t, l, on-v), (s', t', l', on-u))) = (
    between (steps-v v1 v2 u1 u2) (base v1 v2 u1 u2) s t on-v.some l
        (turned-eq (across v1 v2 u1 u2) (first v1 v2 u1 u2) (pos s) (pos t)
        (place-v v1 v2 u1 u2 P (pos s) (pos s') t t' on-v on-u)),
    between (steps-u v1 v2 u1 u2) (base v1 v2 u1 u2) s' t' on-u.some l'
        (turned-eq (across v1 v2 u1 u2) (second v1 v2 u1 u2) (pos s') (pos t')
        (place-u v1 v2 u1 u2 P (pos s) (pos s') t t' on-v on-u)),
  )

  -- ---- the straight lines cross at no other point
  pub crossing_is : (P : Point) → Crossing v1 v2 u1 u2 P
      → (P.x *ℤ pos (base v1 v2 u1 u2) ≡ crossing-point.x *ℤ pos P.over)
      × (P.y *ℤ pos (base v1 v2 u1 u2) ≡ crossing-point.y *ℤ pos P.over)
  crossing_is P ((s, t, on-v), (s', t', on-u)) =
      let place = turned-eq (across v1 v2 u1 u2) (first v1 v2 u1 u2) s (pos t) (place-v v1 v2 u1 u2 P s s' t t' on-v on-u) in (
        same_place P.x v1.x (v2.x -ℤ v1.x) s (steps-v v1 v2 u1 u2) P.over t (base v1 v2 u1 u2) on-v.some
            on-v.at_x place,
        same_place P.y v1.y (v2.y -ℤ v1.y) s (steps-v v1 v2 u1 u2) P.over t (base v1 v2 u1 u2) on-v.some
            on-v.at_y place,
      )

  pub crossing-same : (P Q : Point) → Crossing v1 v2 u1 u2 P → Crossing v1 v2 u1 u2 Q
      → (P.x *ℤ pos Q.over ≡ Q.x *ℤ pos P.over) × (P.y *ℤ pos Q.over ≡ Q.y *ℤ pos P.over)
  crossing-same P Q h k = (
    same-ratio P.x Q.x crossing-point.x P.over Q.over (base v1 v2 u1 u2) base-pos (crossing_is P h).0
        (crossing_is Q k).0,
    same-ratio P.y Q.y crossing-point.y P.over Q.over (base v1 v2 u1 u2) base-pos (crossing_is P h).1
        (crossing_is Q k).1,
  )

  pub crossing-once : (P Q : Point) → Crossing v1 v2 u1 u2 P → Crossing v1 v2 u1 u2 Q → ¬ Differ P Q
  crossing-once P Q h k (inl a) = a (crossing-same P Q h k).0
  crossing-once P Q h k (inr a) = a (crossing-same P Q h k).1

  pub share-once : ¬ ShareMore v1 v2 u1 u2
  share-once (P, Q, differ, (p, p'), (q, q')) =
      crossing-once P Q (on_line P v1 v2 p, on_line P u1 u2 p') (on_line Q v1 v2 q, on_line Q u1 u2 q') differ
