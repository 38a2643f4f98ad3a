-- The absolute value, minimum and maximum of finite floats as fractions, for other proofs.
use Rattle.std.specs.Prelude.{◌≡◌, ℕ, ◌+◌, ◌*◌, ◌^◌, ◌<◌, Bool, true, false, cond, T, ◌↔◌, refl, Float}
use Rattle.std.proofs.Common.{ap, arith}
use Rattle.std.specs.Float.{nan, inf, fin, Format, binary64}
use Rattle.std.specs.Float.Ieee.{low, fits, lt, is_nan}
use Rattle.std.specs.Float.Ieee.Exact.{HasValue}
use Rattle.float_laws.specs.Signed.{Diff, SizeOf, signed_of, diff-of}
use Rattle.float_laws.specs.Order.{lt-diff}
use Rattle.float_laws.specs.Roundings.{Within}
use Rattle.floats.specs.F64

-- ---- the absolute value has the same size, without the sign
pub abs-value : (x : Float) (s : Bool) (X c : ℕ) → HasValue x s X c → HasValue (F64.abs x) false X c
unfolding F64.abs
abs-value nan s X c h = absurd h
abs-value (inf t) s X c h = absurd h
abs-value (fin t m e) s X c h = (refl, h.1)

pub abs-fits : (x : Float) → T (fits binary64 x) → T (fits binary64 (F64.abs x))
unfolding F64.abs fits
abs-fits nan h = h
abs-fits (inf t) h = tt
abs-fits (fin t m e) h = h

pub abs-within : (f : Format) (K : ℕ) (x : Float) → Within f K x → Within f K (F64.abs x)
abs-within f K x w =
    record { s = false; count = w.count; value = abs-value x w.s w.count (2 ^ low f) w.value; le = w.le }

-- it is below y exactly if x is below y and above -y: x is (p - n) / c and y is (q - k) / d
pub abs-lt : (x y : Float) (p n c q k d : ℕ) → 0 < c → 0 < d → Diff x p n c → Diff y q k d
    → T (lt (F64.abs x) y) ↔ ((p * d + k * c < q * c + n * d) × (n * d + k * c < q * c + p * d))
abs-lt x y p n c q k d C D a b = let w = signed_of x p n c a in go w.s w.size w.value w.is
  where
    go : (s : Bool) (X : ℕ) → HasValue x s X c → SizeOf s X p n
        → T (lt (F64.abs x) y) ↔ ((p * d + k * c < q * c + n * d) × (n * d + k * c < q * c + p * d))
    go true X v e =
        let i : Diff (F64.abs x) n p c = diff-of (F64.abs x) false X n p c (abs-value x true X c v) e in
        let r = lt-diff (F64.abs x) y n p c q k d C D i b in
        let wide : (X + p) * d ≡ n * d = ap (λ (z : ℕ). z * d) e in
        (λ t. let l = r.0 t in (omega arith, l), λ l. r.1 l.1)
    go false X v e =
        let i : Diff (F64.abs x) p n c = diff-of (F64.abs x) false X p n c (abs-value x false X c v) e in
        let r = lt-diff (F64.abs x) y p n c q k d C D i b in
        let wide : (X + n) * d ≡ p * d = ap (λ (z : ℕ). z * d) e in
        (λ t. let l = r.0 t in (l, omega arith), λ l. r.1 l.0)

-- ---- of two numbers, the one that the comparison picks
chosen : (first : Bool) (x y : Float) (p n c q k d : ℕ) → Diff x p n c → Diff y q k d → F64.choose first x y ≡ cond first x y
unfolding is_nan
chosen first nan y p n c q k d a b = absurd a
chosen first (inf s) y p n c q k d a b = absurd a
chosen first (fin s m e) nan p n c q k d a b = absurd b
chosen first (fin s m e) (inf t) p n c q k d a b = absurd b
chosen first (fin s m e) (fin t l g) p n c q k d a b = refl

module _ (x y : Float) (p n c q k d : ℕ) (a : Diff x p n c) (b : Diff y q k d) where
  pub min-is : F64.min x y ≡ cond (lt x y) x y
  unfolding F64.min
  min-is = chosen (lt x y) x y p n c q k d a b

  pub max-is : F64.max x y ≡ cond (lt y x) x y
  unfolding F64.max
  max-is = chosen (lt y x) x y p n c q k d a b
