-- Two segments on one straight line, measured on u along the x axis: u runs from 0 to size, v from start to stop. They share a
-- point exactly if these spans do, and more than one exactly if they do.
use Rattle.std.specs.Prelude.{◌≡◌, refl, ◌⊎◌, [], ◌∷◌, ℕ, suc, ◌+◌, ◌-◌, ◌*◌, ◌≤◌, ◌<◌, ℤ, pos, negsuc, neg_ℤ, nat_abs, ◌+ℤ◌, ◌-ℤ◌, ◌*ℤ◌, ◌≤ℤ◌, ◌<ℤ◌}
use Rattle.std.proofs.Common.{sym, ap, ◌∙◌, subst, inl, inr, mul-le-mul_right, le_of_mul-le-mul_right, mul-pos, arith, ltb→lt, leb→le}
use Rattle.grid.specs.Promise.{Spot, Point, Along, OnSegment}
use Rattle.grid.specs.Plane.Whole.{whole, naturals}
use Rattle.grid.specs.Plane.Ring.{combine, combine2, var, num, neg, ◌⊞◌, ◌⊟◌, ◌⊠◌}
use Rattle.grid.specs.Plane.Order.{turned, lt-or-le, either, other}
use Rattle.grid.proofs.Plane.Sides.{same-x}
use Rattle.grid.proofs.Plane.Spots.{IsSpot, along-back, is-end}

-- ---- spans: from a to b, in either order, against 0 to k
abbrev pub SpansShare : ℤ → ℤ → ℕ → Type 0
SpansShare a b k = ((a ≤ℤ pos k) ⊎ (b ≤ℤ pos k)) × ((pos 0 ≤ℤ a) ⊎ (pos 0 ≤ℤ b))

abbrev pub SpansShareMore : ℤ → ℤ → ℕ → Type 0
SpansShareMore a b k = ((a <ℤ pos k) ⊎ (b <ℤ pos k)) × ((pos 0 <ℤ a) ⊎ (pos 0 <ℤ b))

-- ---- what a point s / t along v and s' / t' along u says of the spans; r is the rest of s to t
-- with the sign of d moved
turned-place : (d w w2 r s t' m : ℤ) → (w *ℤ r +ℤ w2 *ℤ s) *ℤ t' ≡ d *ℤ m
    → (turned d w *ℤ r +ℤ turned d w2 *ℤ s) *ℤ t' ≡ pos (nat_abs d) *ℤ m
turned-place (pos k) w w2 r s t' m h = h
turned-place (negsuc k) w w2 r s t' m h = go (negsuc k) h
  where
    go : (d : ℤ) → (w *ℤ r +ℤ w2 *ℤ s) *ℤ t' ≡ d *ℤ m → (neg_ℤ w *ℤ r +ℤ neg_ℤ w2 *ℤ s) *ℤ t' ≡ neg_ℤ d *ℤ m
    go d h =
        let D = var 0 in let W = var 1 in let W2 = var 2 in let R = var 3 in let S = var 4 in let T' = var 5 in let M = var 6 in
        combine (d ∷ w ∷ w2 ∷ r ∷ s ∷ t' ∷ m ∷ []) ((neg W ⊠ R ⊞ neg W2 ⊠ S) ⊠ T') (neg D ⊠ M)
        (neg (num 1)) ((W ⊠ R ⊞ W2 ⊠ S) ⊠ T') (D ⊠ M) h tt

-- from the one coordinate
placed : (x x2 a a2 s r t s' t' : ℤ) → (x *ℤ t +ℤ (x2 -ℤ x) *ℤ s) *ℤ t' ≡ (a *ℤ t' +ℤ (a2 -ℤ a) *ℤ s') *ℤ t → t ≡ s +ℤ r
    → ((x -ℤ a) *ℤ r +ℤ (x2 -ℤ a) *ℤ s) *ℤ t' ≡ (a2 -ℤ a) *ℤ (s' *ℤ t)
placed x x2 a a2 s r t s' t' h e =
    let X = var 0 in let X2 = var 1 in let A = var 2 in let A2 = var 3 in
    let S = var 4 in let R = var 5 in let T' = var 6 in let S' = var 7 in let U = var 8 in
    combine2 (x ∷ x2 ∷ a ∷ a2 ∷ s ∷ r ∷ t ∷ s' ∷ t' ∷ []) (((X ⊟ A) ⊠ R ⊞ (X2 ⊟ A) ⊠ S) ⊠ U) ((A2 ⊟ A) ⊠ (S' ⊠ T'))
    (num 1) ((X ⊠ T' ⊞ (X2 ⊟ X) ⊠ S) ⊠ U) ((A ⊠ U ⊞ (A2 ⊟ A) ⊠ S') ⊠ T')
    (neg ((X ⊟ A) ⊠ U)) T' (S ⊞ R) h e tt

-- both ends of v at k or beyond: then the point is u's end
all_past : (a b k r s s' t' : ℕ) → (a * r + b * s) * t' ≡ k * (s' * (s + r)) → k ≤ a → k ≤ b → 0 < k → 0 < s + r → t' ≤ s'
all_past a b k r s s' t' e ka kb K T' =
    let l : k * r ≤ a * r = mul-le-mul_right r ka in
    let m : k * s ≤ b * s = mul-le-mul_right s kb in
    let both : k * r + k * s ≤ a * r + b * s = omega arith in
    let times : (k * r + k * s) * t' ≤ (a * r + b * s) * t' = mul-le-mul_right t' both in
    let less : t' * (k * (s + r)) ≤ s' * (k * (s + r)) = omega arith in
    le_of_mul-le-mul_right less (mul-pos K T')

-- both beyond k: there is no such point
none-past : (a b k r s s' t' : ℕ) → (a * r + b * s) * t' ≡ k * (s' * (s + r)) → k < a → k < b → s' ≤ t' → 0 < t' → 0 < s + r → ⊥
none-past a b k r s s' t' e ka kb l T' H =
    let p : suc k * r ≤ a * r = mul-le-mul_right r ka in
    let q : suc k * s ≤ b * s = mul-le-mul_right s kb in
    let both : suc k * r + suc k * s ≤ a * r + b * s = omega arith in
    let times : (suc k * r + suc k * s) * t' ≤ (a * r + b * s) * t' = mul-le-mul_right t' both in
    let most : s' * (k * (s + r)) ≤ t' * (k * (s + r)) = mul-le-mul_right (k * (s + r)) l in
    let some : 0 < (s + r) * t' = mul-pos H T' in
    omega arith

-- ---- signs and naturals
above : (k : ℕ) (a : ℤ) → pos k <ℤ a → (n : ℕ) × (a ≡ pos n) × (k < n)
above k (pos n) h = (n, refl, ltb→lt k n h.lt)
above k (negsuc n) h = absurd h.lt

from : (k : ℕ) (a : ℤ) → pos k ≤ℤ a → (n : ℕ) × (a ≡ pos n) × (k ≤ n)
from k (pos n) h = (n, refl, leb→le k n h.le)
from k (negsuc n) h = absurd h.le

-- ---- places on u: a grid point p, as a multiple of u's way along x
abbrev pub size : Spot → Spot → ℕ
size u1 u2 = nat_abs (u2.x -ℤ u1.x)

abbrev pub mark : Spot → Spot → Spot → ℤ
mark u1 u2 p = turned (u2.x -ℤ u1.x) (p.x -ℤ u1.x)

-- a point P of u, and of v from a to b
pub record Seen (u1 u2 : Spot) (P : Point) (a b : ℤ) (k : ℕ) : Type 0 where
  pub s : ℕ
  pub r : ℕ
  pub s' : ℕ
  pub t' : ℕ
  pub some : 0 < s + r
  pub within : s' ≤ t'
  pub on-u : Along P u1 u2 (pos s') t'
  pub place : (a *ℤ pos r +ℤ b *ℤ pos s) *ℤ pos t' ≡ pos k *ℤ (pos s' *ℤ pos (s + r))

pub seen : (v1 v2 u1 u2 : Spot) (P : Point) → OnSegment P v1 v2 → OnSegment P u1 u2
    → Seen u1 u2 P (mark u1 u2 v1) (mark u1 u2 v2) (size u1 u2)
seen v1 v2 u1 u2 P (s, t, l, on-v) (s', t', l', on-u) =
    let rest : t ≡ s + (t - s) = omega arith in
    let H = on-v.some in
    let one = same-x v1 v2 u1 u2 P (pos s) (pos s') t t' on-v on-u in
    let flat = placed v1.x v2.x u1.x u2.x (pos s) (pos (t - s)) (pos t) (pos s') (pos t') one (ap pos rest) in
    let turn =
    turned-place (u2.x -ℤ u1.x) (v1.x -ℤ u1.x) (v2.x -ℤ u1.x) (pos (t - s)) (pos s) (pos t') (pos s' *ℤ pos t) flat in
    record {
      s = s;
      r = t - s;
      s' = s';
      t' = t';
      some = omega arith;
      within = l';
      on-u = on-u;
      place = turn ∙ ap (λ (z : ℕ). pos (size u1 u2) *ℤ (pos s' *ℤ pos z)) rest;
    }

-- u from its other end
seen_back : (u1 u2 : Spot) (P : Point) (a b : ℤ) (k : ℕ) → Seen u1 u2 P a b k → Seen u2 u1 P (pos k -ℤ a) (pos k -ℤ b) k
seen_back u1 u2 P a b k h =
    let w = h.within in
    let rest : h.t' ≡ h.s' + (h.t' - h.s') = omega arith in
    record {
      s = h.s;
      r = h.r;
      s' = h.t' - h.s';
      t' = h.t';
      some = h.some;
      within = omega arith;
      on-u = along-back P u1 u2 h.s' (h.t' - h.s') h.t' rest h.on-u;
      place = back a b (pos k) (pos h.r) (pos h.s) (pos h.s') (pos (h.t' - h.s')) (pos h.t') h.place
          (ap pos rest);
    }
  where
    back : (a b k r s s' q t' : ℤ) → (a *ℤ r +ℤ b *ℤ s) *ℤ t' ≡ k *ℤ (s' *ℤ (s +ℤ r)) → t' ≡ s' +ℤ q
        → ((k -ℤ a) *ℤ r +ℤ (k -ℤ b) *ℤ s) *ℤ t' ≡ k *ℤ (q *ℤ (s +ℤ r))
    back a b k r s s' q t' h e =
        let A = var 0 in let B = var 1 in let K = var 2 in let R = var 3 in
        let S = var 4 in let S' = var 5 in let Q = var 6 in let T' = var 7 in
        combine2 (a ∷ b ∷ k ∷ r ∷ s ∷ s' ∷ q ∷ t' ∷ []) (((K ⊟ A) ⊠ R ⊞ (K ⊟ B) ⊠ S) ⊠ T') (K ⊠ (Q ⊠ (S ⊞ R)))
        (neg (num 1)) ((A ⊠ R ⊞ B ⊠ S) ⊠ T') (K ⊠ (S' ⊠ (S ⊞ R))) (K ⊠ (R ⊞ S)) T' (S' ⊞ Q) h e tt

module _ (u1 u2 : Spot) (P : Point) (a b : ℤ) (k : ℕ) (h : Seen u1 u2 P a b k) where
  -- the place in naturals
  up-place : (m n : ℕ) → a ≡ pos m → b ≡ pos n → (m * h.r + n * h.s) * h.t' ≡ k * (h.s' * (h.s + h.r))
  up-place m n e f =
      ap nat_abs
      (ap (λ (z : ℤ). (z *ℤ pos h.r +ℤ pos n *ℤ pos h.s) *ℤ pos h.t') (sym e)
      ∙ ap (λ (z : ℤ). (a *ℤ pos h.r +ℤ z *ℤ pos h.s) *ℤ pos h.t') (sym f)
      ∙ h.place)

  -- the spans share a point
  pub not-past : (a ≤ℤ pos k) ⊎ (b ≤ℤ pos k)
  not-past = either (other (lt-or-le (pos k) a)) (other (lt-or-le (pos k) b)) both
    where
      both : pos k <ℤ a → pos k <ℤ b → ⊥
      both l m =
          let x = above k a l in
          let y = above k b m in
          none-past x.0 y.0 k h.r h.s h.s' h.t' (up-place x.0 y.0 x.1 y.1) x.2 y.2
          h.within h.on-u.some h.some

  -- if they share at most u's end, the point is that end
  pub past_end : 0 < k → pos k ≤ℤ a → pos k ≤ℤ b → IsSpot P u2
  past_end K l m =
      let x = from k a l in
      let y = from k b m in
      let all =
      all_past x.0 y.0 k h.r h.s h.s' h.t' (up-place x.0 y.0 x.1 y.1)
      x.2 y.2 K h.some in
      let w = h.within in
      let same : h.s' ≡ h.t' = omega arith in
      is-end P u1 u2 h.t' (subst (λ (z : ℕ). Along P u1 u2 (pos z) h.t') same h.on-u)

-- the same at u's start, which is its end from the other side
module _ (u1 u2 : Spot) (P : Point) (a b : ℤ) (k : ℕ) (h : Seen u1 u2 P a b k) where
  pub not-before : (pos 0 ≤ℤ a) ⊎ (pos 0 ≤ℤ b)
  not-before = go (not-past u2 u1 P (pos k -ℤ a) (pos k -ℤ b) k (seen_back u1 u2 P a b k h))
    where
      least : (a k : ℤ) → (k -ℤ a) ≤ℤ k → pos 0 ≤ℤ a
      least a k = rw (← whole a, ← whole k) (simp naturals (omega arith))

      go : ((pos k -ℤ a) ≤ℤ pos k) ⊎ ((pos k -ℤ b) ≤ℤ pos k) → (pos 0 ≤ℤ a) ⊎ (pos 0 ≤ℤ b)
      go (inl l) = inl (least a (pos k) l)
      go (inr l) = inr (least b (pos k) l)

  pub before-start : 0 < k → a ≤ℤ pos 0 → b ≤ℤ pos 0 → IsSpot P u1
  before-start K l m =
      past_end u2 u1 P (pos k -ℤ a) (pos k -ℤ b) k (seen_back u1 u2 P a b k h) K (most a (pos k) l) (most b (pos k) m)
    where
      most : (a k : ℤ) → a ≤ℤ pos 0 → k ≤ℤ (k -ℤ a)
      most a k = rw (← whole a, ← whole k) (simp naturals (omega arith))
