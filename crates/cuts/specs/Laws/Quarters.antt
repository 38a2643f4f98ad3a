-- Bounds by quarters of whole numbers: m / 4 is a float for every m of few digits, so a rounding, and a root, does not cross it.
-- `Within r lo hi` says that the float r lies from lo / 4 to hi / 4.
use Rattle.std.specs.Prelude.{◌≡◌, refl, ℕ, suc, ◌+◌, ◌-◌, ◌*◌, ◌^◌, ◌≤◌, ◌<◌, false, T, Float}
use Rattle.std.proofs.Common.{sym, ap, ◌∙◌, mul-pos, mul-le-mul_right, le_antisymm, le_of_eq, lt_trans, lt_of_le_of_lt, arith, lit<, pow-add, pow_pos, shl_lt}
use Rattle.std.proofs.Math.Pow.{pow-lt}
use Rattle.std.specs.Float.{binary64}
use Rattle.std.specs.Float.Ieee.{low, emax, round, fits}
use Rattle.std.specs.Float.Ieee.Exact.{HasValue}
use Rattle.std.specs.Float.Ieee.Fits.{round-fits}
use Rattle.std.specs.Float.Ieee.Scale.{grid, overflow}
use Rattle.float_laws.specs.Best.{Held, grid-le, grid-ge}
use Rattle.float_laws.specs.Count.{round-count}
use Rattle.float_laws.specs.Signed.{Diff, own-diff, diff-at, diff-finite, size_above}
use Rattle.float_laws.specs.Order.{le-diff}
use Rattle.float_laws.specs.Chains.{between-finite}
use Rattle.float_laws.specs.Rounded.{Rounded}
use Rattle.float_laws.specs.Roundings.{rounded-le, rounded-ge, rounded-fits}
use Rattle.float_laws.specs.Binary64.{unit, unit-is, unit-pos, units64}
use Rattle.floats.specs.F64
use Rattle.floats.specs.Laws.RootPowers.{root64}
use Rattle.floats.specs.Laws.RootBeside.{root-fits}

-- a quarter in units; a shut name, since it has 323 digits
quarter : ℕ
quarter = 2 ^ 1072

quarter-is : quarter ≡ 2 ^ 1072
unfolding quarter
quarter-is = refl

four : unit ≡ quarter * 4
four = unit-is ∙ pow-add 2 1072 2 ∙ ap (λ (z : ℕ). z * 4) (sym quarter-is)

held : (m : ℕ) → m < 2 ^ 53 → Held 53 (m * quarter)
held m few = record { y = m; j = 1072; few = few; is = ap (λ (z : ℕ). m * z) quarter-is }

-- ---- the float m / 4
pub record Quarters (m : ℕ) : Type 0 where
  pub y : Float
  pub fit : T (fits binary64 y)
  pub is : Diff y m 0 4

pub quarters : (m : ℕ) → m < 2 ^ 53 → Quarters m
quarters m few =
    let y = round binary64 false m 4 in
    let made : grid binary64 m 4 ≡ m * quarter =
    le_antisymm
    (grid-le binary64 m 4 (m * quarter) (lit< tt) (held m few) (le_of_eq (over (2 ^ low binary64) (sym unit-is ∙ four))))
    (grid-ge binary64 m 4 (m * quarter) (lit< tt) (held m few) (le_of_eq (sym (over (2 ^ low binary64) (sym unit-is ∙ four)))))
    in
    let under : grid binary64 m 4 < overflow binary64 =
    lt_of_le_of_lt (le_of_eq (made ∙ ap (λ (z : ℕ). m * z) quarter-is))
    (lt_trans (shl_lt 53 1072 few) (pow-lt {i = 53 + 1072} {j = low binary64 + suc (emax binary64)} (lit< tt))) in
    let value = round-count binary64 false m 4 under in
    let counted = own-diff y false (grid binary64 m 4) (2 ^ low binary64) value in
    record {
      y = y;
      fit = round-fits binary64 false m 4;
      is = diff-at y (grid binary64 m 4) 0 (2 ^ low binary64) m 0 4 (pow_pos (low binary64)) counted
          (equal (grid binary64 m 4) (2 ^ low binary64) made (sym unit-is ∙ four));
    }
  where
    over : (L : ℕ) → L ≡ quarter * 4 → m * L ≡ m * quarter * 4
    over L e = ap (λ (z : ℕ). m * z) e ∙ plain quarter
      where
        plain : (q : ℕ) → m * (q * 4) ≡ m * q * 4
        plain q = omega arith

    equal : (G L : ℕ) → G ≡ m * quarter → L ≡ quarter * 4 → G * 4 + 0 * L ≡ m * L + 0 * 4
    equal G L g e = plain quarter G L g (ap (λ (z : ℕ). m * z) e)
      where
        plain : (q G L : ℕ) → G ≡ m * q → m * L ≡ m * (q * 4) → G * 4 + 0 * L ≡ m * L + 0 * 4
        plain q G L g e = omega arith

-- ---- between two of them
pub record Within (r : Float) (lo hi : ℕ) : Type 0 where
  pub X : ℕ
  pub value : HasValue r false X unit
  pub fit : T (fits binary64 r)
  pub some : 0 < X
  pub least : lo * unit ≤ X * 4
  pub most : X * 4 ≤ hi * unit

pub rounded-within : (r : Float) (P N c lo hi : ℕ) → Rounded binary64 r P N c → 0 < c → 0 < lo → lo < 2 ^ 53 → hi < 2 ^ 53
    → lo * c + N * 4 ≤ P * 4 → P * 4 ≤ hi * c + N * 4
    → Within r lo hi
rounded-within r P N c lo hi h C some few-lo few-hi l m =
    let a = quarters lo few-lo in
    let b = quarters hi few-hi in
    let four-pos = lit< tt in
    let under = rounded-ge binary64 r P N c h C a.y lo 0 4 four-pos a.fit a.is (omega arith) in
    let over = rounded-le binary64 r P N c h C b.y hi 0 4 four-pos b.fit b.is (omega arith) in
    let fit = rounded-fits binary64 r P N c h in
    let finite =
    between-finite a.y r b.y (diff-finite a.y lo 0 4 a.is) (diff-finite b.y hi 0 4 b.is) under over in
    let u = units64 r finite fit in
    let lower = (le-diff a.y r lo 0 4 u.p u.n unit four-pos unit-pos a.is u.is).0 under in
    let upper = (le-diff r b.y u.p u.n unit hi 0 4 unit-pos four-pos u.is b.is).0 over in
    let s = plain u.p u.n unit unit-pos lower upper in
    record {
      X = u.p - u.n;
      value = size_above r u.p u.n unit s.0 u.is;
      fit = fit;
      some = s.1;
      least = s.2;
      most = s.3;
    }
  where
    plain : (p n L : ℕ) → 0 < L → lo * L + n * 4 ≤ p * 4 + 0 * L → p * 4 + 0 * L ≤ hi * L + n * 4
        → (n < p) × (0 < p - n) × (lo * L ≤ (p - n) * 4) × ((p - n) * 4 ≤ hi * L)
    plain p n L Q x y =
        let wide : 0 < lo * L = mul-pos some Q in
        (omega arith, omega arith, omega arith, omega arith)

-- ---- the root: if x is from 2 to ((h+1)^2 + 4) / 4, its root is from 5 / 4 to (h+2) / 2
pub root-within : (x : Float) (h : ℕ) → 1 ≤ h → 2 * (h + 2) < 2 ^ 53 → Within x 8 ((h + 1) * (h + 1) + 4)
    → Within (F64.sqrt x) 5 (2 * (h + 2))
root-within x h some few w =
    let r = root64 x w.X w.fit w.some w.value in
    let lo = r.least (5 * quarter) (held 5 (lit< tt)) (lower w.X unit quarter four w.least) in
    let hi = r.most (2 * (h + 2) * quarter) (held (2 * (h + 2)) few) (upper w.X unit quarter four w.most) in
    record {
      X = r.R;
      value = r.value;
      fit = root-fits x w.fit;
      some = positive r.R quarter unit four unit-pos lo;
      least = back 5 r.R unit quarter four lo;
      most = forth (2 * (h + 2)) r.R unit quarter four hi;
    }
  where
    lower : (X L q : ℕ) → L ≡ q * 4 → 8 * L ≤ X * 4 → 5 * q * (5 * q) * L ≤ X * (L * L)
    lower X L q e l = rw e (go (rw e at l))
      where
        go : 8 * (q * 4) ≤ X * 4 → 5 * q * (5 * q) * (q * 4) ≤ X * (q * 4 * (q * 4))
        go l = let w = mul-le-mul_right (q * q) l in omega arith

    upper : (X L q : ℕ) → L ≡ q * 4 → X * 4 ≤ ((h + 1) * (h + 1) + 4) * L
        → X * (L * L) ≤ 2 * (h + 2) * q * (2 * (h + 2) * q) * L
    upper X L q e l = rw e (go (rw e at l))
      where
        go : X * 4 ≤ ((h + 1) * (h + 1) + 4) * (q * 4) → X * (q * 4 * (q * 4)) ≤ 2 * (h + 2) * q * (2 * (h + 2) * q) * (q * 4)
        go l =
            let w = mul-le-mul_right (q * q) l in
            let v = mul-le-mul_right (q * q * q) some in
            omega arith

    positive : (R q L : ℕ) → L ≡ q * 4 → 0 < L → 5 * q ≤ R → 0 < R
    positive R q L e Q l = omega arith

    back : (m R L q : ℕ) → L ≡ q * 4 → m * q ≤ R → m * L ≤ R * 4
    back m R L q e l = let w = ap (λ (z : ℕ). m * z) e in omega arith

    forth : (m R L q : ℕ) → L ≡ q * 4 → R ≤ m * q → R * 4 ≤ m * L
    forth m R L q e l = let w = ap (λ (z : ℕ). m * z) e in omega arith
