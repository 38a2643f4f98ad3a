-- A quotient of two whole numbers of the grid, as one rounding of (P - N) / D with D above zero: D is the divisor's size, and if
-- the divisor is below zero the numerator's sign is turned.
use Rattle.std.specs.Prelude.{◌≡◌, refl, ◌⊎◌, ℕ, ◌+◌, ◌-◌, ◌*◌, ◌^◌, ◌≤◌, ◌<◌, Bool, true, false, not, T, leb, Float}
use Rattle.std.proofs.Common.{sym, subst, inl, inr, mul-le-mul_left, le_of_lt, arith, leb→le}
use Rattle.std.proofs.Math.Dec.{nleb→lt}
use Rattle.std.proofs.Math.Arith.{lt_of_le-ne}
use Rattle.std.specs.Float.{binary64}
use Rattle.float_laws.specs.Rounded.{Rounded}
use Rattle.float_laws.specs.Quotients.{div-above, div_below}
use Rattle.floats.specs.Ops.{◌⊘◌}
use Rattle.grid.specs.Floats.Small.{Small}
use Rattle.grid.specs.Floats.Length.{gap}

-- t is one rounding of (P - N) / D, both at most 2 ^ i
pub record Place (i : ℕ) (t : Float) (P N D : ℕ) : Type 0 where
  pub rounded : Rounded binary64 t P N D
  pub some : 0 < D
  pub P-le : P ≤ 2 ^ i
  pub N-le : N ≤ 2 ^ i

-- so the exact one is at most 2 ^ i in size
pub at-most-lem : (k P N D : ℕ) → P ≤ k → 0 < D → P ≤ N + k * D
at-most-lem k P N D l d = omega (arith, mul-le-mul_left k d)

-- at most 2 ^ 21 is at most 2 ^ 44
pub wider : {t : Float} {P N D : ℕ} → Place 21 t P N D → Place 44 t P N D
wider a = record { rounded = a.rounded; some = a.some; P-le = omega (arith, a.P-le); N-le = omega (arith, a.N-le) }

-- P - N is x, with its sign turned if d is below zero
abbrev pub Turned : ℕ → ℕ → ℕ → ℕ → ℕ → ℕ → Type 0
Turned P N xp xn dp dn = ((dn ≤ dp) × (P ≡ xp) × (N ≡ xn)) ⊎ ((dp ≤ dn) × (P ≡ xn) × (N ≡ xp))

-- t is (xp - xn) / (dp - dn), rounded once
pub record Ratio (i : ℕ) (t : Float) (xp xn dp dn : ℕ) : Type 0 where
  pub P : ℕ
  pub N : ℕ
  pub place : Place i t P N (gap dp dn)
  pub turned : Turned P N xp xn dp dn

pub ratio : (i : ℕ) (x d : Float) (A : Small i x) (B : Small i d) → (B.p ≡ B.n → ⊥)
    → Ratio i (x ⊘ d) A.p A.n B.p B.n
ratio i x d A B h = go (leb B.p B.n) (leb→le B.p B.n) (nleb→lt B.p B.n)
  where
    -- over the divisor's size
    over : (P N D : ℕ) → Rounded binary64 (x ⊘ d) P N D → 0 < D → gap B.p B.n ≡ D → P ≤ 2 ^ i → N ≤ 2 ^ i
        → Turned P N A.p A.n B.p B.n
        → Ratio i (x ⊘ d) A.p A.n B.p B.n
    over P N D r s e u l t =
        let at : Place i (x ⊘ d) P N D = record { rounded = r; some = s; P-le = u; N-le = l } in
        record { P = P; N = N; place = subst (Place i (x ⊘ d) P N) (sym e) at; turned = t }

    go : (b : Bool) → (T b → B.p ≤ B.n) → (T (not b) → B.n < B.p) → Ratio i (x ⊘ d) A.p A.n B.p B.n
    go true under above =
        let l : B.p < B.n = lt_of_le-ne (under tt) h in
        over A.n A.p (B.n - B.p) (div_below binary64 x d A.p A.n B.p B.n A.is B.is l)
        (omega arith) (omega arith) A.n-le A.p-le (inr (under tt, refl, refl))
    go false under above =
        let l : B.n < B.p = above tt in
        over A.p A.n (B.p - B.n) (div-above binary64 x d A.p A.n B.p B.n A.is B.is l)
        (omega arith) (omega arith) A.p-le A.n-le (inl (le_of_lt l, refl, refl))
