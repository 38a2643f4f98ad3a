-- Whole numbers of the grid in floats: the vectors between grid points, their dot and their perp dot are exact. A coordinate is
-- at most 2 ^ 20 in size, a vector's 2 ^ 21, a dot or perp dot 2 ^ 44: all far below 2 ^ 53.
use Rattle.std.proofs.Common.{sym, mul-le-mul, le_trans, le_of_eq, arith, pow-add, pow_mono}
use Rattle.std.specs.Prelude.{ℕ, suc, ◌+◌, ◌*◌, ◌^◌, ◌≤◌, Float}
use Rattle.std.proofs.Math.Nat.{pow-succ'}
use Rattle.std.specs.Float.{binary64}
use Rattle.float_laws.specs.Signed.{Diff}
use Rattle.float_laws.specs.Whole.{add-whole, sub-whole, mul-whole}
use Rattle.floats.specs.Ops.{◌⊕◌, ◌⊖◌, ◌⊗◌}
use Rattle.plane.specs.Vector2 as vector2
use Rattle.plane.specs.declared.vector2.Vector2.{Vector2}

-- x is the whole number p - n, and neither is above 2 ^ i
pub record Small (i : ℕ) (x : Float) : Type 0 where
  pub p : ℕ
  pub n : ℕ
  pub is : Diff x p n 1
  pub p-le : p ≤ 2 ^ i
  pub n-le : n ≤ 2 ^ i

-- ---- one operation
pub sum-le : (i a b : ℕ) → a ≤ 2 ^ i → b ≤ 2 ^ i → a + b ≤ 2 ^ suc i
sum-le i a b h k = omega (arith, pow-succ' 2 i)

pub exact : (i a b : ℕ) → suc i ≤ 53 → a ≤ 2 ^ suc i → a ≤ b + 2 ^ 53
exact i a b h k = let w : 2 ^ suc i ≤ 2 ^ 53 = pow_mono h in omega arith

-- a number is exact if its parts differ by at most 2 ^ 53: one part is a + c, the other b + d
abbrev exactly : (i : ℕ) (r : Float) (a b c d : ℕ) → suc i ≤ 53 → a ≤ 2 ^ i → b ≤ 2 ^ i → c ≤ 2 ^ i → d ≤ 2 ^ i
    → (a + c ≤ b + d + 2 ^ 53 → b + d ≤ a + c + 2 ^ 53 → Diff r (a + c) (b + d) 1)
    → Small (suc i) r
exactly i r a b c d h al bl cl dl is =
    let u = sum-le i a c al cl in
    let l = sum-le i b d bl dl in
    record { p = a + c; n = b + d; is = is (exact i _ _ h u) (exact i _ _ h l); p-le = u; n-le = l }

abbrev pub small-add : (i : ℕ) (x y : Float) → suc i ≤ 53 → Small i x → Small i y → Small (suc i) (x ⊕ y)
small-add i x y h A B =
    exactly i (x ⊕ y) A.p A.n B.p B.n h A.p-le A.n-le B.p-le B.n-le
    (add-whole binary64 x y A.p A.n B.p B.n A.is B.is)

abbrev pub small-sub : (i : ℕ) (x y : Float) → suc i ≤ 53 → Small i x → Small i y → Small (suc i) (x ⊖ y)
small-sub i x y h A B =
    exactly i (x ⊖ y) A.p A.n B.n B.p h A.p-le A.n-le B.n-le B.p-le
    (sub-whole binary64 x y A.p A.n B.p B.n A.is B.is)

pub product_le : (i a b : ℕ) → a ≤ 2 ^ i → b ≤ 2 ^ i → a * b ≤ 2 ^ (i + i)
product_le i a b h k = le_trans (mul-le-mul h k) (le_of_eq (sym (pow-add 2 i i)))

abbrev pub small_mul : (i : ℕ) (x y : Float) → suc (i + i) ≤ 53 → Small i x → Small i y → Small (suc (i + i)) (x ⊗ y)
small_mul i x y h A B =
    exactly (i + i) (x ⊗ y) (A.p * B.p) (A.p * B.n) (A.n * B.n) (A.n * B.p) h
    (product_le i A.p B.p A.p-le B.p-le) (product_le i A.p B.n A.p-le B.n-le)
    (product_le i A.n B.n A.n-le B.n-le) (product_le i A.n B.p A.n-le B.p-le)
    (mul-whole binary64 x y A.p A.n B.p B.n A.is B.is)

-- ---- vectors
pub record Vec (i : ℕ) (v : Vector2) : Type 0 where
  pub x : Small i v.x
  pub y : Small i v.y

module _ (a b : Vector2) (A : Vec 20 a) (B : Vec 20 b) where
  pub sub-x : Diff (vector2.sub a b).x (A.x.p + B.x.n) (A.x.n + B.x.p) 1
  unfolding vector2.sub
  sub-x = (small-sub 20 a.x b.x (omega arith) A.x B.x).is

  pub sub-y : Diff (vector2.sub a b).y (A.y.p + B.y.n) (A.y.n + B.y.p) 1
  unfolding vector2.sub
  sub-y = (small-sub 20 a.y b.y (omega arith) A.y B.y).is

-- along an axis
abbrev side : {c d u : Float} (A : Small 20 c) (B : Small 20 d) → Diff u (A.p + B.n) (A.n + B.p) 1 → Small 21 u
side {u} A B e =
    exactly 20 u A.p A.n B.n B.p (omega arith) A.p-le A.n-le B.n-le B.p-le (λ l m. e)

-- from the grid point b to the grid point a
abbrev pub vec-sub : (a b : Vector2) → Vec 20 a → Vec 20 b → Vec 21 (vector2.sub a b)
vec-sub a b A B = record { x = side A.x B.x (sub-x a b A B); y = side A.y B.y (sub-y a b A B) }

module _ (v u : Vector2) (A : Vec 21 v) (B : Vec 21 u) where
  abbrev pub perp : Small 44 (vector2.perp_dot v u)
  perp =
      small-sub 43 (v.x ⊗ u.y) (v.y ⊗ u.x) (omega arith)
      (small_mul 21 v.x u.y (omega arith) A.x B.y)
      (small_mul 21 v.y u.x (omega arith) A.y B.x)

  abbrev pub dots : Small 44 (vector2.dot v u)
  dots =
      small-add 43 (v.x ⊗ u.x) (v.y ⊗ u.y) (omega arith)
      (small_mul 21 v.x u.x (omega arith) A.x B.x)
      (small_mul 21 v.y u.y (omega arith) A.y B.y)
