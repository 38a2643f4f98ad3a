-- What the square root means, for a reader who knows whole numbers and squares.
--
-- A finite value of the format f is a count of the format's smallest value, 2 ^ -low f (2 ^ -1074 for binary64): HasValue x false
-- X (2 ^ low f) says that x is +X / 2 ^ low f, and T (fits f x) that x is a value of the format. Let x be X such units, r be R
-- units, and N = X * 2 ^ low f. Then r is the exact root of x if R * R ≡ N. The point halfway between r and another value y of Y
-- units is (Y + R) / 2 units. It lies below the exact root if (Y + R) * (Y + R) < 4 * N, and above it if 4 * N < (Y + R) * (Y +
-- R). So r is nearer to the exact root than y if that point lies on y's side of the root.
use Rattle.std.specs.Prelude.{◌≡◌, ℕ, ◌+◌, ◌*◌, ◌^◌, ◌<◌, ◌≤◌, false, T, Float}
use Rattle.std.proofs.Common.{subst, add_comm, le_antisymm, le_of_suc-le-suc, lt_irrefl, lt_of_not-le, lt_trans}
use Rattle.std.specs.Float.{Format, binary64}
use Rattle.std.specs.Float.Ieee.{low, fits}
use Rattle.std.specs.Float.Ieee.Exact.{HasValue}
use Rattle.float_laws.specs.Count.{count-unique, held_of}
use Rattle.floats.specs.F64
use Rattle.floats.specs.Laws.Root.{found, root_of-fits}

-- r is a value of the format, and every other value y that is not below zero is farther from the root of x; so there is no tie
pub record NearestRoot (f : Format) (X : ℕ) (r : Float) : Type 0 where
  pub fit : T (fits f r)
  pub R : ℕ
  pub value : HasValue r false R (2 ^ low f)
  pub below : (y : Float) (Y : ℕ) → T (fits f y) → HasValue y false Y (2 ^ low f) → Y < R
      → (Y + R) * (Y + R) < 4 * (X * 2 ^ low f)
  pub above : (y : Float) (Y : ℕ) → T (fits f y) → HasValue y false Y (2 ^ low f) → R < Y
      → 4 * (X * 2 ^ low f) < (Y + R) * (Y + R)

-- for a float x above zero, `sqrt x` is nearest
pub sqrt-nearest : (x : Float) (X : ℕ) → T (fits binary64 x) → HasValue x false X (2 ^ low binary64) → 0 < X
    → NearestRoot binary64 X (F64.sqrt x)
unfolding F64.sqrt
sqrt-nearest x X t v P = go binary64 t v
  where
    go : (f : Format) → T (fits f x) → HasValue x false X (2 ^ low f) → NearestRoot f X (F64.root_of f x)
    go f t v =
        let k = held_of f x false X t v in
        let r = found f x X P k.1 k.0 v in
        record {
          fit = root_of-fits f x t;
          R = r.R;
          value = r.value;
          below = λ y Y t w l. r.below Y (held_of f y false Y t w).0 l;
          above = λ y Y t w l. r.above Y (held_of f y false Y t w).0 l;
        }

-- there is only one nearest value
pub nearest-unique : (f : Format) (X : ℕ) (r q : Float) → NearestRoot f X r → NearestRoot f X q → r ≡ q
nearest-unique f X r q a b =
    let same : a.R ≡ b.R = le_antisymm (not-above a b) (not-above b a) in
    count-unique f r q false b.R a.fit b.fit (subst (λ (z : ℕ). HasValue r false z (2 ^ low f)) same a.value)
    b.value
  where
    clash : {x y : Float} (a : NearestRoot f X x) (b : NearestRoot f X y) → b.R < a.R → ⊥
    clash {x} {y} a b l =
        let from-a = a.below y b.R b.fit b.value l in
        let from-b = b.above x a.R a.fit a.value l in
        lt_irrefl (4 * (X * 2 ^ low f)) (lt_trans from-b (subst (λ (z : ℕ). z * z < 4 * (X * 2 ^ low f)) (add_comm b.R a.R)
        from-a))

    not-above : {x y : Float} (a : NearestRoot f X x) (b : NearestRoot f X y) → a.R ≤ b.R
    not-above a b = le_of_suc-le-suc (lt_of_not-le (clash a b))
