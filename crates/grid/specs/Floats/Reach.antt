-- A parameter in reach of a segment: (P - N) / D lies less than two epsilons beyond the end or before the start, by squares. Then
-- it is less than 1 away along each side. If D is a side of the segment, it moves in whole numbers, so it is on the segment.
use Rattle.std.specs.Prelude.{◌≡◌, refl, ℕ, zero, suc, ◌+◌, ◌-◌, ◌*◌, ◌≤◌, ◌<◌, Bool, true, false, not, T, leb, Float}
use Rattle.std.proofs.Common.{ap, mul-le-mul, mul-le-mul_left, mul-le-mul_right, lt_of_mul-lt-mul_right, arith, leb→le}
use Rattle.std.proofs.Math.Dec.{nleb→lt}
use Rattle.floats.specs.Laws.Isqrt.{sq-lt}
use Rattle.grid.specs.Floats.Zero.{Eps}

-- a / D of the way along a vector whose dot product with itself is S is less than 2 * num / den
abbrev pub Less : ℕ → ℕ → ℕ → ℕ → ℕ → Type 0
Less S num den D a = a * a * S * (den * den) < 4 * (num * num * (D * D))

-- p / D lies less than that beyond q / D
abbrev pub Beyond : ℕ → ℕ → ℕ → ℕ → ℕ → ℕ → Type 0
Beyond S num den D q p = (a : ℕ) → a + q ≡ p → Less S num den D a

-- the parameter (P - N) / D lies less than that beyond the end and before the start
pub record Reaches (S num den P N D : ℕ) : Type 0 where
  pub end : Beyond S num den D (N + D) P
  pub start : Beyond S num den D P N

-- ---- how far a parameter in reach of q goes
module _ (e : Float) (num den : ℕ) (h : Eps e num den) (S D : ℕ) (C : 0 < D) where
  -- times a side of the segment, it is less than 1 beyond
  pub short : (g : ℕ) → g * g ≤ S → (q p : ℕ) → Beyond S num den D q p → g * (p - q) < D
  short g l q p x = go (leb p q) (leb→le p q) (nleb→lt p q)
    where
      step : (a : ℕ) → Less S num den D a → g * a < D
      step a x =
          let half = mul-le-mul h.most h.most in
          let y = mul-le-mul_right (D * D) half in
          let z : a * a * S * (den * den) < D * D * (den * den) = omega arith in
          let w : a * a * S < D * D = lt_of_mul-lt-mul_right (den * den) z in
          let m = mul-le-mul_left (a * a) l in
          sq-lt (g * a) D (omega arith)

      none : (a : ℕ) → a ≡ 0 → g * a < D
      none a e = omega (arith, ap (λ (z : ℕ). g * z) e)

      go : (b : Bool) → (T b → p ≤ q) → (T (not b) → q < p) → g * (p - q) < D
      go true lo hi = let w = lo tt in none (p - q) (omega arith)
      go false lo hi = let w = hi tt in let k : p - q + q ≡ p = omega arith in step (p - q) (x (p - q) k)

  -- over a side of the segment the parameter moves in whole numbers, so it is on the segment: at most q
  pub on-axis : D * D ≤ S → (q p : ℕ) → Beyond S num den D q p → p ≤ q
  on-axis side q p x = let e : p - q ≡ 0 = none (p - q) (short D side q p x) in omega arith
    where
      none : (a : ℕ) → D * a < D → a ≡ 0
      none zero l = refl
      none (suc a) l = absurd (omega arith)

  -- the segment is at least 1 long, so the parameter is less than 1 beyond
  pub near_by : 0 < S → (q p : ℕ) → Beyond S num den D q p → p ≤ q + D
  near_by some q p x = let s = short 1 some q p x in omega arith
