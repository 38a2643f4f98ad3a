-- How far a point of a segment's straight line lies from the segment's ends, by squares: m / over of the way from a to b, it is
-- m / over times the length from a, and (m - over) / over times the length from b.
use Rattle.std.specs.Prelude.{◌≡◌, refl, ◌⊎◌, [], ◌∷◌, ℕ, ◌+◌, ◌*◌, ◌<◌, ℤ, pos, negsuc, nat_abs, ◌+ℤ◌, ◌-ℤ◌, ◌*ℤ◌, ◌≤ℤ◌, ◌<ℤ◌}
use Rattle.std.proofs.Common.{sym, ap, ◌∙◌, subst, inl, inr, arith}
use Rattle.grid.specs.Promise.{Spot, Point, Close, Reached}
use Rattle.grid.specs.Plane.Whole.{naturals}
use Rattle.grid.specs.Plane.Ring.{solve, combine, var, num, ◌⊞◌, ◌⊟◌, ◌⊠◌}
use Rattle.grid.specs.Plane.Order.{lt-or-le}
use Rattle.grid.proofs.Plane.Cross.{Placed, placed-segment}

-- the square of the length, a natural
abbrev pub long : Spot → Spot → ℕ
long a b = nat_abs (b.x -ℤ a.x) * nat_abs (b.x -ℤ a.x) + nat_abs (b.y -ℤ a.y) * nat_abs (b.y -ℤ a.y)

pub square : (z : ℤ) → z *ℤ z ≡ pos (nat_abs z * nat_abs z)
square (pos k) = refl
square (negsuc k) = refl

-- (p * m)² + (q * m)² in naturals
squares : (p q m dx dy : ℤ) → dx ≡ p *ℤ m → dy ≡ q *ℤ m
    → dx *ℤ dx +ℤ dy *ℤ dy ≡ pos ((nat_abs p * nat_abs p + nat_abs q * nat_abs q) * (nat_abs m * nat_abs m))
squares p q m dx dy h k =
    let P = var 0 in let Q = var 1 in let M = var 2 in
    ap (λ (z : ℤ). z *ℤ z +ℤ dy *ℤ dy) h
    ∙ ap (λ (z : ℤ). p *ℤ m *ℤ (p *ℤ m) +ℤ z *ℤ z) k
    ∙ solve (p ∷ q ∷ m ∷ []) (P ⊠ M ⊠ (P ⊠ M) ⊞ Q ⊠ M ⊠ (Q ⊠ M)) ((P ⊠ P ⊞ Q ⊠ Q) ⊠ (M ⊠ M)) tt
    ∙ ap (λ (z : ℤ). (z +ℤ q *ℤ q) *ℤ (m *ℤ m)) (square p)
    ∙ ap (λ (z : ℤ). (pos (nat_abs p * nat_abs p) +ℤ z) *ℤ (m *ℤ m)) (square q)
    ∙ ap (λ (z : ℤ). pos (nat_abs p * nat_abs p + nat_abs q * nat_abs q) *ℤ z) (square m)

below : (a b : ℕ) → a < b → pos a <ℤ pos b
below a b h = simp naturals (omega arith)

-- a coordinate m / over of the way from a to b, seen from a and from b
from_start : (c a b o m : ℤ) → c ≡ a *ℤ o +ℤ (b -ℤ a) *ℤ m → c -ℤ a *ℤ o ≡ (b -ℤ a) *ℤ m
from_start c a b o m h =
    let C = var 0 in let A = var 1 in let B = var 2 in let O = var 3 in let M = var 4 in
    combine (c ∷ a ∷ b ∷ o ∷ m ∷ []) (C ⊟ A ⊠ O) ((B ⊟ A) ⊠ M) (num 1) C (A ⊠ O ⊞ (B ⊟ A) ⊠ M) h tt

from_end : (c a b o m : ℤ) → c ≡ a *ℤ o +ℤ (b -ℤ a) *ℤ m → c -ℤ b *ℤ o ≡ (b -ℤ a) *ℤ (m -ℤ o)
from_end c a b o m h =
    let C = var 0 in let A = var 1 in let B = var 2 in let O = var 3 in let M = var 4 in
    combine (c ∷ a ∷ b ∷ o ∷ m ∷ []) (C ⊟ B ⊠ O) ((B ⊟ A) ⊠ (M ⊟ O)) (num 1) C (A ⊠ O ⊞ (B ⊟ A) ⊠ M) h tt

module _ (P : Point) (a b : Spot) (m : ℤ) (num den : ℕ) (h : Placed P a b m) where
  -- c is an end of the segment, and n / over of the way leads from c to P
  close : (c : Spot) (n : ℤ) → P.x -ℤ c.x *ℤ pos P.over ≡ (b.x -ℤ a.x) *ℤ n
      → P.y -ℤ c.y *ℤ pos P.over ≡ (b.y -ℤ a.y) *ℤ n
      → long a b * (nat_abs n * nat_abs n) * (den * den) < 2 * num * P.over * (2 * num * P.over)
      → Close P c num den
  close c n at_x at_y l =
      let o = pos P.over in
      subst (λ (z : ℤ). (z *ℤ pos (den * den)) <ℤ pos (2 * num * P.over * (2 * num * P.over)))
      (sym (squares (b.x -ℤ a.x) (b.y -ℤ a.y) n (P.x -ℤ c.x *ℤ o) (P.y -ℤ c.y *ℤ o) at_x at_y)) (below _ _ l)

  -- on the segment, or before its start, or past its end: then the distance from that end remains to be shown
  pub reached : (m <ℤ pos 0 → long a b * (nat_abs m * nat_abs m) * (den * den) < 2 * num * P.over * (2 * num * P.over))
      → (pos P.over <ℤ m → long a b * (nat_abs (m -ℤ pos P.over) * nat_abs (m -ℤ pos P.over)) * (den * den)
      < 2 * num * P.over * (2 * num * P.over))
      → Reached P a b num den
  reached before past = go (lt-or-le m (pos 0)) (lt-or-le (pos P.over) m)
    where
      o : ℤ
      o = pos P.over

      go : (m <ℤ pos 0) ⊎ (pos 0 ≤ℤ m) → (pos P.over <ℤ m) ⊎ (m ≤ℤ pos P.over) → Reached P a b num den
      go (inl l) k =
          inr (inl (close a m (from_start P.x a.x b.x o m h.at_x) (from_start P.y a.y b.y o m h.at_y)
          (before l)))
      go (inr l) (inl k) =
          inr (inr (close b (m -ℤ o) (from_end P.x a.x b.x o m h.at_x) (from_end P.y a.y b.y o m h.at_y)
          (past k)))
      go (inr l) (inr k) = inl (placed-segment P a b m h (l, k))
