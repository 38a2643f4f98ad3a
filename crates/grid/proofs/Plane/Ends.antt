-- If two segments between grid points share a point, some end of the first is not right of some end of the second: the point is
-- not left of both ends of the first, and not right of both ends of the second.
use Rattle.std.specs.Prelude.{◌≡◌, ◌⊎◌, [], ◌∷◌, ℕ, ◌+◌, ◌-◌, ◌*◌, ◌≤◌, ◌<◌, ℤ, pos, ◌+ℤ◌, ◌-ℤ◌, ◌*ℤ◌, ◌≤ℤ◌, ◌<ℤ◌}
use Rattle.std.proofs.Common.{ap, inl, inr, mul-le-mul_right, arith}
use Rattle.grid.specs.Promise.{Spot, Point, OnSegment, Share}
use Rattle.grid.specs.Plane.Whole.{whole, naturals, gain, loss}
use Rattle.grid.specs.Plane.Order.{cancel-le, lt-or-le, either, other}
use Rattle.grid.specs.Plane.Ring.{combine2, var, num, ◌⊞◌, ◌⊟◌, ◌⊠◌}

-- ---- a mean is not below both numbers and not above both

-- t parts of x - y are u parts of a - b and s parts of c - d
no-mean : (x y a b c d u s t : ℕ) → t ≡ u + s → 0 < t → x * t + b * u + d * s ≡ a * u + c * s + y * t
    → x + b < a + y → x + d < c + y
    → ⊥
no-mean x y a b c d u s t e H h i j =
    let k : (x + b + 1) * u ≤ (a + y) * u = mul-le-mul_right u (omega arith) in
    let l : (x + d + 1) * s ≤ (c + y) * s = mul-le-mul_right s (omega arith) in
    let m : x * t ≡ x * (u + s) = ap (λ (z : ℕ). x * z) e in
    let n : y * t ≡ y * (u + s) = ap (λ (z : ℕ). y * z) e in
    omega arith

module _ (X A B : ℤ) (u s t : ℕ) (e : t ≡ u + s) (H : 0 < t) where
  not-below : X *ℤ pos t ≡ A *ℤ pos u +ℤ B *ℤ pos s → X <ℤ A → X <ℤ B → ⊥
  not-below =
      rw (← whole X, ← whole A, ← whole B)
      (simp naturals (go (gain X) (loss X) (gain A) (loss A) (gain B) (loss B)))
    where
      go : (x y a b c d : ℕ)
          → x * t + y * 0 + (a * 0 + b * u + (c * 0 + d * s)) ≡ a * u + b * 0 + (c * s + d * 0) + (x * 0 + y * t)
          → x + b < a + y
          → x + d < c + y
          → ⊥
      go x y a b c d h i j = no-mean x y a b c d u s t e H (omega arith) i j

  not-above : X *ℤ pos t ≡ A *ℤ pos u +ℤ B *ℤ pos s → A <ℤ X → B <ℤ X → ⊥
  not-above =
      rw (← whole X, ← whole A, ← whole B)
      (simp naturals (go (gain X) (loss X) (gain A) (loss A) (gain B) (loss B)))
    where
      go : (x y a b c d : ℕ)
          → x * t + y * 0 + (a * 0 + b * u + (c * 0 + d * s)) ≡ a * u + b * 0 + (c * s + d * 0) + (x * 0 + y * t)
          → a + y < x + b
          → c + y < x + d
          → ⊥
      go x y a b c d h i j = no-mean y x b a d c u s t e H (omega arith) (omega arith) (omega arith)

-- ---- a point of the segment from a to b, along x
record Amid (P : Point) (a b : Spot) : Type 0 where
  pub from : ((a.x *ℤ pos P.over) ≤ℤ P.x) ⊎ ((b.x *ℤ pos P.over) ≤ℤ P.x)
  pub to : (P.x ≤ℤ (a.x *ℤ pos P.over)) ⊎ (P.x ≤ℤ (b.x *ℤ pos P.over))

amid : (P : Point) (a b : Spot) → OnSegment P a b → Amid P a b
amid P a b (s, t, l, h) =
    let u = t - s in
    let e : t ≡ u + s = omega arith in
    let A = a.x *ℤ pos P.over in
    let B = b.x *ℤ pos P.over in
    let mean = split P.x a.x b.x (pos P.over) (pos s) (pos u) (pos t) h.at_x (ap pos e) in
    record {
      from = either (other (lt-or-le P.x A)) (other (lt-or-le P.x B)) (not-below P.x A B u s t e h.some mean);
      to = either (other (lt-or-le A P.x)) (other (lt-or-le B P.x)) (not-above P.x A B u s t e h.some mean);
    }
  where
    split : (x a b q s u t : ℤ) → x *ℤ t ≡ q *ℤ (a *ℤ t +ℤ (b -ℤ a) *ℤ s) → t ≡ u +ℤ s → x *ℤ t ≡ a *ℤ q *ℤ u +ℤ b *ℤ q *ℤ s
    split x a b q s u t h e =
        let X = var 0 in let A = var 1 in let B = var 2 in let Q = var 3 in let S = var 4 in let U = var 5 in let T' = var 6 in
        combine2 (x ∷ a ∷ b ∷ q ∷ s ∷ u ∷ t ∷ []) (X ⊠ T') (A ⊠ Q ⊠ U ⊞ B ⊠ Q ⊠ S)
        (num 1) (X ⊠ T') (Q ⊠ (A ⊠ T' ⊞ (B ⊟ A) ⊠ S)) (Q ⊠ A) T' (U ⊞ S) h e tt

-- ---- the ends of two segments
pub ends : (v1 v2 u1 u2 : Spot) → Share v1 v2 u1 u2
    → ((v1.x ≤ℤ u1.x) ⊎ (v1.x ≤ℤ u2.x)) ⊎ ((v2.x ≤ℤ u1.x) ⊎ (v2.x ≤ℤ u2.x))
ends v1 v2 u1 u2 (P, (v, u)) = go (amid P v1 v2 v).from (amid P u1 u2 u).to
  where
    chain : (a b c : ℤ) → a ≤ℤ b → b ≤ℤ c → a ≤ℤ c
    chain a b c = rw (← whole a, ← whole b, ← whole c) (simp naturals (omega arith))

    le : (a b : ℤ) → (a *ℤ pos P.over) ≤ℤ P.x → P.x ≤ℤ (b *ℤ pos P.over) → a ≤ℤ b
    le a b i j =
        cancel-le a b P.over P.positive (chain (a *ℤ pos P.over) P.x (b *ℤ pos P.over) i j)

    go : ((v1.x *ℤ pos P.over) ≤ℤ P.x) ⊎ ((v2.x *ℤ pos P.over) ≤ℤ P.x)
        → (P.x ≤ℤ (u1.x *ℤ pos P.over)) ⊎ (P.x ≤ℤ (u2.x *ℤ pos P.over))
        → ((v1.x ≤ℤ u1.x) ⊎ (v1.x ≤ℤ u2.x)) ⊎ ((v2.x ≤ℤ u1.x) ⊎ (v2.x ≤ℤ u2.x))
    go (inl i) (inl j) = inl (inl (le v1.x u1.x i j))
    go (inl i) (inr j) = inl (inr (le v1.x u2.x i j))
    go (inr i) (inl j) = inr (inl (le v2.x u1.x i j))
    go (inr i) (inr j) = inr (inr (le v2.x u2.x i j))
