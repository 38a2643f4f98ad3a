-- The root of a value above zero, by its count: `root_at` rounds the root of X units, and of all counts that fit the format's
-- digits none is nearer or as near. There is no tie. It would be a count M, halfway between two values, whose square is X * 2 ^
-- low. But X has few digits, so its root has few digits too: M itself would fit the format, and it would be nearer than both.
use Rattle.std.specs.Prelude.{◌≡◌, ℕ, zero, suc, ◌+◌, ◌*◌, ◌/◌, ◌%◌, ◌^◌, ◌<◌, ◌≤◌, Bool, true, false, cond, T, ◌==◌, ◌≢◌, Float}
use Rattle.std.proofs.Common.{sym, ap, ◌∙◌, subst, mul-pos, mul-one, zero-mul, mul_assoc, mul_right_comm, mul-div_cancel, mul-le-mul, mul-le-mul_right, mul-lt-mul_of_pos_right, le_of_mul-le-mul_right, le_trans, le_of_eq, le_of_lt, lt_of_le_of_lt, lt_of_lt_of_le, arith, true≢false, eqb→eq, pow-add, pow_pos, pow_mono}
use Rattle.std.proofs.Math.Nat.{pow-succ'}
use Rattle.std.proofs.Math.Arith.{lt_of_le-ne}
use Rattle.std.proofs.Math.Pow.{pow-lt}
use Rattle.std.specs.Float.{nan, inf, fin, Format, binary32, binary64}
use Rattle.std.specs.Float.Ieee.{prec, emax, low, up, down, fits, round}
use Rattle.std.specs.Float.Ieee.Exact.{HasValue}
use Rattle.std.specs.Float.Ieee.Fits.{down_pos, round-fits, nan-fits, inf-fits}
use Rattle.std.specs.Float.Ieee.Scale.{grid, overflow}
use Rattle.float_laws.specs.Best.{Held, Best, held-pow, round-best, grid-le}
use Rattle.float_laws.specs.Count.{round-count}
use Rattle.floats.specs.F64.{isqrt, sticky, root_at, root_of}
use Rattle.floats.specs.Laws.Isqrt.{IsRoot, isqrt-is, sq-lt, sq-le}
use Rattle.floats.specs.Laws.RootAt.{root_at-is, sticky-le}

-- ---- the root by the count
pub root_of-count : (f : Format) (x : Float) (X : ℕ) → 0 < X → HasValue x false X (2 ^ low f)
    → root_of f x ≡ root_at f (X * 2 ^ (low f + 2))
unfolding root_of
root_of-count f nan X P h = absurd h
root_of-count f (inf t) X P h = absurd h
root_of-count f (fin true m e) X P h = absurd (true≢false h.0)
root_of-count f (fin false zero e) X P h =
    absurd (none (down e) (down_pos e) (ap (λ (z : ℕ). z * 2 ^ low f) (sym (zero-mul (up e))) ∙ h.1))
  where
    none : (d : ℕ) → 0 < d → 0 * 2 ^ low f ≢ X * d
    none d p e = let q : 0 < X * d = mul-pos P p in omega arith
root_of-count f (fin false (suc m) e) X P h =
    let M = suc m * up e in
    let L = 2 ^ low f in
    let K = 2 ^ (low f + 2) in
    let split : 2 ^ (2 * (low f + 1)) ≡ L * K = ap (λ (z : ℕ). 2 ^ z) (twice (low f)) ∙ pow-add 2 (low f) (low f + 2) in
    let moved : M * 2 ^ (2 * (low f + 1)) ≡ X * K * down e =
    ap (λ (z : ℕ). M * z) split ∙ sym (mul_assoc M L K) ∙ ap (λ (z : ℕ). z * K) h.1 ∙ mul_right_comm X (down e) K in
    ap (root_at f) (ap (λ (z : ℕ). z / down e) moved ∙ mul-div_cancel (X * K) (down_pos e))
  where
    twice : (l : ℕ) → 2 * (l + 1) ≡ l + (l + 2)
    twice l = omega arith

pub root_of-fits : (f : Format) (x : Float) → T (fits f x) → T (fits f (root_of f x))
unfolding root_of
root_of-fits f nan h = nan-fits f
root_of-fits f (inf true) h = nan-fits f
root_of-fits f (inf false) h = inf-fits f false
root_of-fits f (fin s zero e) h = h
root_of-fits f (fin true (suc m) e) h = nan-fits f
root_of-fits f (fin false (suc m) e) h =
    let n = suc m * up e * 2 ^ (2 * (low f + 1)) / down e in
    subst (λ (v : Float). T (fits f v)) (sym (root_at-is f n)) (round-fits f false _ _)

-- ---- R is nearest to the root of N / 4, ties allowed
record Close (p N R : ℕ) : Type 0 where
  pub below : (Y : ℕ) → Held p Y → Y < R → (Y + R) * (Y + R) ≤ N
  pub above : (Y : ℕ) → Held p Y → R < Y → N ≤ (Y + R) * (Y + R)

-- the count that `root_at` answers for N
abbrev pub made : Format → ℕ → ℕ
made f N = grid f (2 * isqrt N + sticky N (isqrt N)) (2 ^ (low f + 2))

module _ (p N q l d R : ℕ) (r : IsRoot N q) (L : 0 < l) (e : d ≡ l * 4) (b : Best p ((2 * q + sticky N q) * l) d R) where
  sum-under : (S : ℕ) → S * d ≤ 2 * ((2 * q + sticky N q) * l) → S * S ≤ N
  sum-under S h =
      let scaled : S * 2 * l ≤ (2 * q + sticky N q) * l = omega (arith, ap (λ (z : ℕ). S * z) e) in
      let halves : S * 2 ≤ 2 * q + sticky N q = le_of_mul-le-mul_right scaled L in
      let whole : S ≤ q = omega (arith, sticky-le N q) in
      le_trans (mul-le-mul whole whole) r.low

  sum_over : (S : ℕ) (t : Bool) → (T t → q * q ≡ N) → 2 * ((2 * q + cond t 0 1) * l) ≤ S * d → N ≤ S * S
  sum_over S true is h =
      let scaled : q * l ≤ S * l = omega (arith, ap (λ (z : ℕ). S * z) e) in
      let whole : q ≤ S = le_of_mul-le-mul_right scaled L in
      le_trans (le_of_eq (sym (is tt))) (mul-le-mul whole whole)
  sum_over S false is h =
      let scaled : (2 * q + 1) * l ≤ 2 * S * l = omega (arith, ap (λ (z : ℕ). S * z) e) in
      let halves : 2 * q + 1 ≤ 2 * S = le_of_mul-le-mul_right scaled L in
      let whole : q + 1 ≤ S = omega arith in
      le_trans (le_of_lt r.high) (mul-le-mul whole whole)

  close_at : Close p N R
  close_at = record {
    below = λ Y h k. sum-under (Y + R) (b.below Y h k);
    above = λ Y h k. sum_over (Y + R) (q * q == N) (eqb→eq (q * q) N) (b.above Y h k);
  }

close : (f : Format) (N : ℕ) → Close (prec f) N (made f N)
close f N =
    let a = 2 * isqrt N + sticky N (isqrt N) in
    let d = 2 ^ (low f + 2) in
    close_at (prec f) N (isqrt N) (2 ^ low f) d (made f N) (isqrt-is N) (pow_pos (low f)) (pow-add 2 (low f) 2)
    (round-best f a d (pow_pos (low f + 2)))

-- ---- no tie

-- the root of an even square is even
even-root : (S K : ℕ) → S * S ≡ 2 * K → (S ≡ 2 * (S / 2)) × (2 * (S / 2 * (S / 2)) ≡ K)
even-root S K h = go (S / 2) (S % 2) (omega arith) (omega arith)
  where
    go : (k t : ℕ) → S ≡ 2 * k + t → t < 2 → (S ≡ 2 * k) × (2 * (k * k) ≡ K)
    go k zero e l = let s : S * S ≡ (2 * k + 0) * (2 * k + 0) = ap (λ (x : ℕ). x * x) e in (omega arith, omega arith)
    go k (suc zero) e l = let s : S * S ≡ (2 * k + 1) * (2 * k + 1) = ap (λ (x : ℕ). x * x) e in absurd (omega arith)
    go k (suc (suc t)) e l = absurd (omega arith)

-- the root of a number with few digits, shifted up, has few digits
held-root : (p k x S : ℕ) → x < 2 ^ p → S * S ≡ x * 2 ^ k → Held p S
held-root p zero x S X h = record { y = S; j = 0; few = few S X (h ∙ mul-one x); is = sym (mul-one S) }
  where
    few : (S : ℕ) → x < 2 ^ p → S * S ≡ x → S < 2 ^ p
    few zero l e = pow_pos p
    few (suc s) l e = omega arith
held-root p (suc zero) x S X h =
    let half = even-root S x (omega arith) in
    record { y = S / 2; j = 1; few = few (S / 2) half.1; is = omega (arith, half.0) }
  where
    few : (s : ℕ) → 2 * (s * s) ≡ x → s < 2 ^ p
    few zero e = pow_pos p
    few (suc s) e = omega arith
held-root p (suc (suc k)) x S X h =
    let half =
    even-root S (2 * (x * 2 ^ k)) (h ∙ quarter (2 ^ k) (2 ^ suc k) (2 ^ suc (suc k)) (pow-succ' 2 k) (pow-succ' 2 (suc k))) in
    let less = held-root p k x (S / 2) X (omega (arith, half.1)) in
    let next = pow-succ' 2 less.j in
    record {
      y = less.y;
      j = suc less.j;
      few = less.few;
      is = up less.y (2 ^ less.j) (2 ^ suc less.j) next less.is half.0;
    }
  where
    quarter : (a b c : ℕ) → b ≡ 2 * a → c ≡ 2 * b → x * c ≡ 2 * (2 * (x * a))
    quarter a b c p q = let r : x * c ≡ x * (2 * (2 * a)) = ap (λ (z : ℕ). x * z) (q ∙ ap (λ (z : ℕ). 2 * z) p) in omega arith

    up : (y a b : ℕ) → b ≡ 2 * a → S / 2 ≡ y * a → S ≡ 2 * (S / 2) → S ≡ y * b
    up y a b e h s = let r : y * b ≡ y * (2 * a) = ap (λ (z : ℕ). y * z) e in omega arith

-- no point halfway between R and another value is the root of a number that fits
module _ (p l X R : ℕ) (h : Held p X) (c : Close p (4 * (X * 2 ^ l)) R) where
  tie-held : (S : ℕ) → S * S ≡ 4 * (X * 2 ^ l) → (S ≡ 2 * (S / 2)) × Held p (S / 2)
  tie-held S e =
      let half = even-root S (2 * (X * 2 ^ l)) (e ∙ omega arith) in
      let few : X * 2 ^ l ≡ h.y * 2 ^ (h.j + l) =
      ap (λ (z : ℕ). z * 2 ^ l) h.is ∙ mul_assoc h.y (2 ^ h.j) (2 ^ l)
      ∙ ap (λ (z : ℕ). h.y * z) (sym (pow-add 2 h.j l)) in
      (half.0, held-root p (h.j + l) h.y (S / 2) h.few (omega (arith, half.1)))

  -- the halfway point M fits: it lies strictly between the two, and its square is the number, so R is not the nearest
  halfway : (S : ℕ) → S * S ≡ 4 * (X * 2 ^ l)
      → (S ≡ 2 * (S / 2)) × Held p (S / 2) × (2 * (S / 2) * (2 * (S / 2)) ≡ 4 * (X * 2 ^ l))
  halfway S e = let t = tie-held S e in (t.0, t.1, sym (ap (λ (z : ℕ). z * z) t.0) ∙ e)

  no-tie-below : (Y : ℕ) → Y < R → (Y + R) * (Y + R) ≢ 4 * (X * 2 ^ l)
  no-tie-below Y k e =
      let t = halfway (Y + R) e in
      let M = (Y + R) / 2 in
      let less : M < R = omega (arith, t.0) in
      let m = sq-le (M + R) (2 * M) (le_trans (c.below M t.1 less) (le_of_eq (sym t.2))) in
      omega arith

  no-tie-above : (Y : ℕ) → R < Y → (Y + R) * (Y + R) ≢ 4 * (X * 2 ^ l)
  no-tie-above Y k e =
      let t = halfway (Y + R) e in
      let M = (Y + R) / 2 in
      let more : R < M = omega (arith, t.0) in
      let m = sq-le (2 * M) (M + R) (le_trans (le_of_eq t.2) (c.above M t.1 more)) in
      omega arith

  -- R is nearer than every other value
  below-strict : (Y : ℕ) → Held p Y → Y < R → (Y + R) * (Y + R) < 4 * (X * 2 ^ l)
  below-strict Y y k = lt_of_le-ne (c.below Y y k) (no-tie-below Y k)

  above-strict : (Y : ℕ) → Held p Y → R < Y → 4 * (X * 2 ^ l) < (Y + R) * (Y + R)
  above-strict Y y k = lt_of_le-ne (c.above Y y k) (λ e. no-tie-above Y k (sym e))

-- ---- the root is below the format's greatest value
root-under : (f : Format) (X : ℕ) → X < overflow f → made f (X * 2 ^ (low f + 2)) < overflow f
root-under f X h =
    let N = X * 2 ^ (low f + 2) in
    let Q = isqrt N in
    let s = sticky N Q in
    let k = low f + emax f in
    let K = 2 ^ suc k in
    let places : 2 ^ (low f + suc (emax f)) * 2 ^ (low f + 2) ≤ K * K =
    le_trans (le_of_eq (sym (pow-add 2 (low f + suc (emax f)) (low f + 2))))
    (le_trans (pow_mono (room (low f) (emax f) (one f))) (le_of_eq (pow-add 2 (suc k) (suc k)))) in
    let big : N < K * K = lt_of_lt_of_le (mul-lt-mul_of_pos_right h (pow_pos (low f + 2))) places in
    let q : Q < K = sq-lt Q K (lt_of_le_of_lt (isqrt-is N).low big) in
    let most = fit Q s (2 ^ k) K (2 ^ low f) (2 ^ (low f + 2)) (pow-succ' 2 k) (pow-add 2 (low f) 2) q (sticky-le N Q) in
    lt_of_le_of_lt (grid-le f (2 * Q + s) (2 ^ (low f + 2)) (2 ^ k) (pow_pos (low f + 2)) (held-pow f k) most)
    (pow-lt (last (low f) (emax f)))
  where
    one : (f : Format) → 1 ≤ emax f
    one binary32 = omega arith
    one binary64 = omega arith

    room : (l e : ℕ) → 1 ≤ e → l + suc e + (l + 2) ≤ suc (l + e) + suc (l + e)
    room l e h = omega arith

    last : (l e : ℕ) → l + e < l + suc e
    last l e = omega arith

    fit : (Q s K K' L D : ℕ) → K' ≡ 2 * K → D ≡ L * 4 → Q < K' → s ≤ 1 → (2 * Q + s) * L ≤ K * D
    fit Q s K K' L D e d q t =
        let a : 2 * Q + s ≤ 4 * K = omega arith in
        let b : K * D ≡ K * (L * 4) = ap (λ (z : ℕ). K * z) d in
        omega (arith, mul-le-mul_right L a)

-- ---- together: what is known of the root of X units
pub record Found (f : Format) (X : ℕ) (r : Float) : Type 0 where
  pub R : ℕ
  pub value : HasValue r false R (2 ^ low f)
  pub below : (Y : ℕ) → Held (prec f) Y → Y < R → (Y + R) * (Y + R) < 4 * (X * 2 ^ low f)
  pub above : (Y : ℕ) → Held (prec f) Y → R < Y → 4 * (X * 2 ^ low f) < (Y + R) * (Y + R)

pub found : (f : Format) (x : Float) (X : ℕ) → 0 < X → X < overflow f → Held (prec f) X → HasValue x false X (2 ^ low f)
    → Found f X (root_of f x)
found f x X P h held v =
    let N = X * 2 ^ (low f + 2) in
    let four : N ≡ 4 * (X * 2 ^ low f) = ap (λ (z : ℕ). X * z) (pow-add 2 (low f) 2) ∙ quad X (2 ^ low f) in
    let c = subst (λ (z : ℕ). Close (prec f) z (made f N)) four (close f N) in
    let is : root_of f x ≡ round f false (2 * isqrt N + sticky N (isqrt N)) (2 ^ (low f + 2)) =
    root_of-count f x X P v ∙ root_at-is f N in
    record {
      R = made f N;
      value =
          subst (λ (r : Float). HasValue r false (made f N) (2 ^ low f)) (sym is) (round-count f false _ _ (root-under f X h));
      below = below-strict (prec f) (low f) X (made f N) held c;
      above = above-strict (prec f) (low f) X (made f N) held c;
    }
  where
    quad : (X L : ℕ) → X * (L * 4) ≡ 4 * (X * L)
    quad X L = omega arith
