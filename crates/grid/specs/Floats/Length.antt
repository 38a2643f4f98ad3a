-- The length of a grid vector that is no point: the correctly rounded root of its exact dot product with itself, S. It is at
-- least every whole number whose square is at most S, at most 2 ^ 22, and its square is at least half of S.
use Rattle.std.specs.Prelude.{◌≡◌, refl, ℕ, zero, suc, ◌+◌, ◌-◌, ◌*◌, ◌^◌, ◌≤◌, ◌<◌, Bool, true, false, not, T, leb, Float}
use Rattle.std.proofs.Common.{sym, ap, subst, zero-lt-suc, mul-le-mul_left, mul-le-mul_right, arith, leb→le, lit<, lit≤}
use Rattle.std.proofs.Math.Nat.{le_of_mul-le-mul_left}
use Rattle.std.proofs.Math.Dec.{nleb→lt}
use Rattle.std.specs.Float.{binary64}
use Rattle.std.specs.Float.Ieee.{low, fits}
use Rattle.std.specs.Float.Ieee.Exact.{HasValue}
use Rattle.std.specs.Float.Ieee.Fits.{add-fits}
use Rattle.float_laws.specs.Best.{Held}
use Rattle.float_laws.specs.Signed.{Diff, own-diff, size_above}
use Rattle.float_laws.specs.Binary64.{unit, unit-is}
use Rattle.floats.specs.Ops.{◌⊗◌}
use Rattle.floats.specs.F64
use Rattle.floats.specs.Laws.Root.{root_of-fits}
use Rattle.floats.specs.Laws.Sqrt.{Root, root-of}
use Rattle.plane.specs.Vector2 as vector2
use Rattle.plane.specs.declared.vector2.Vector2.{Vector2}
use Rattle.grid.specs.Floats.Small.{Vec, dots}

-- ---- the dot product with itself is the sum of two squares
abbrev pub gap : ℕ → ℕ → ℕ
gap p n = (p - n) + (n - p)

pub level : (p n : ℕ) → gap p n ≡ 0 → p ≡ n
level p n e = omega arith

gap-square : (p n : ℕ) → gap p n * gap p n + (p * n + n * p) ≡ p * p + n * n
gap-square p n = go (leb n p) (leb→le n p) (nleb→lt n p)
  where
    square : (p n d g : ℕ) → p ≡ n + d → g ≡ d → g * g + (p * n + n * p) ≡ p * p + n * n
    square p n d g e f =
        let e1 : p * p ≡ (n + d) * (n + d) = ap (λ (z : ℕ). z * z) e in
        let e2 : p * n ≡ (n + d) * n = ap (λ (z : ℕ). z * n) e in
        let f1 : g * g ≡ d * d = ap (λ (z : ℕ). z * z) f in
        omega arith

    go : (b : Bool) → (T b → n ≤ p) → (T (not b) → p < n) → gap p n * gap p n + (p * n + n * p) ≡ p * p + n * n
    go true over under = let l = over tt in square p n (p - n) (gap p n) (omega arith) (omega arith)
    go false over under = let l = under tt in let w = square n p (n - p) (gap p n) (omega arith) (omega arith) in omega arith

abbrev pub square : (v : Vector2) → Vec 21 v → ℕ
square v A = gap A.x.p A.x.n * gap A.x.p A.x.n + gap A.y.p A.y.n * gap A.y.p A.y.n

square-is : (v : Vector2) (A : Vec 21 v) → square v A + (dots v v A A).n ≡ (dots v v A A).p
square-is v A = omega (arith, gap-square A.x.p A.x.n, gap-square A.y.p A.y.n)

-- no side is longer than the vector
pub side-x : (x y : ℕ) → x * x ≤ x * x + y * y
side-x x y = omega arith

pub side-y : (x y : ℕ) → y * y ≤ x * x + y * y
side-y x y = omega arith

-- a vector that is a point, and one that is not
abbrev pub IsZero : (v : Vector2) → Vec 21 v → Type 0
IsZero v A = (A.x.p ≡ A.x.n) × (A.y.p ≡ A.y.n)

pub some-square : (v : Vector2) (A : Vec 21 v) → (IsZero v A → ⊥) → 0 < square v A
some-square v A h = go (gap A.x.p A.x.n) (gap A.y.p A.y.n) (λ x y. h (level _ _ x, level _ _ y))
  where
    go : (x y : ℕ) → (x ≡ 0 → y ≡ 0 → ⊥) → 0 < x * x + y * y
    go zero zero k = absurd (k refl refl)
    go zero (suc y) k = omega arith
    go (suc x) y k = omega arith

-- ---- the length
pub record Long (v : Vector2) (S : ℕ) : Type 0 where
  pub R : ℕ
  pub some : 0 < S
  pub fit : T (fits binary64 (vector2.length v))
  pub is : Diff (vector2.length v) R 0 unit
  pub most : R ≤ 2 ^ 22 * unit
  pub least : (D : ℕ) → D ≤ 2 ^ 22 → D * D ≤ S → D * unit ≤ R
  pub near : S * (unit * unit) ≤ 2 * (R * R)

held_whole : (D : ℕ) → D ≤ 2 ^ 22 → Held 53 (D * unit)
held_whole D l = record { y = D; j = low binary64; few = omega arith; is = ap (λ (z : ℕ). D * z) unit-is }

-- the root of the dot product with itself, in units
root-at : (x : Float) (S : ℕ) → T (fits binary64 x) → 0 < S → HasValue x false S 1 → Root 53 unit S 1 (F64.root_of binary64 x)
root-at x S t P v =
    subst (λ (L : ℕ). Root 53 L S 1 (F64.root_of binary64 x)) (sym unit-is) (root-of binary64 x S 1 t P (zero-lt-suc 0) v)

top : (S L : ℕ) → S ≤ 2 ^ 44 → S * (L * L) ≤ 2 ^ 22 * L * (2 ^ 22 * L) * 1
top S L l = omega (arith, mul-le-mul_right (L * L) l)

under : (S D L : ℕ) → D * D ≤ S → D * L * (D * L) * 1 ≤ S * (L * L)
under S D L h = omega (arith, mul-le-mul_right (L * L) h)

half : (K J M Q : ℕ) → 0 < K → J ≤ 2 * K → K * M ≤ Q * 1 * J → M ≤ 2 * Q
half K J M Q P l h = le_of_mul-le-mul_left {m = M} {n = 2 * Q} {k = K} (omega (arith, mul-le-mul_left Q l)) P

long-at : (x : Float) (S : ℕ) → S ≤ 2 ^ 44 → (r : Root 53 unit S 1 (F64.root_of binary64 x))
    → (r.R ≤ 2 ^ 22 * unit) × ((D : ℕ) → D ≤ 2 ^ 22 → D * D ≤ S → D * unit ≤ r.R) × (S * (unit * unit) ≤ 2 * (r.R * r.R))
long-at x S l r = (
  r.most (2 ^ 22 * unit) (held_whole (2 ^ 22) (omega arith)) (top S unit l),
  λ D d h. r.least (D * unit) (held_whole D d) (under S D unit h),
  half (2 ^ 53 * 2 ^ 53) ((2 ^ 53 + 1) * (2 ^ 53 + 1)) (S * (unit * unit)) (r.R * r.R) (lit< tt) (lit≤ tt) r.above,
)

root-long : (v : Vector2) (A : Vec 21 v) (S : ℕ) → S + (dots v v A A).n ≡ (dots v v A A).p → 0 < S → Long v S
unfolding vector2.length F64.sqrt
root-long v A S e P =
    let x = vector2.dot v v in
    let B = dots v v A A in
    let t : T (fits binary64 x) = add-fits binary64 (v.x ⊗ v.x) (v.y ⊗ v.y) in
    let below : B.n < B.p = omega arith in
    let same : B.p - B.n ≡ S = omega arith in
    let value : HasValue x false S 1 =
    subst (λ (z : ℕ). HasValue x false z 1) same (size_above x B.p B.n 1 below B.is) in
    let r = root-at x S t P value in
    let l : S ≤ 2 ^ 44 = omega (arith, B.p-le) in
    let k = long-at x S l r in
    record {
      R = r.R;
      some = P;
      fit = root_of-fits binary64 x t;
      is = own-diff (F64.root_of binary64 x) false r.R unit r.value;
      most = k.0;
      least = k.1;
      near = k.2;
    }

pub long : (v : Vector2) (A : Vec 21 v) → (IsZero v A → ⊥) → Long v (square v A)
long v A h = root-long v A (square v A) (square-is v A) (some-square v A h)
