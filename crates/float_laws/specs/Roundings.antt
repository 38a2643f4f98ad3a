-- What is known of a value r that is (P - N) / c, rounded once, and so of every result of + - * / (Rounded.antt). It is a value
-- of its format and no NaN. It does not cross a float: if the exact value is at most a float y, so is r. It is exact if the exact
-- value is a whole number of at most 2 ^ prec in size. It is finite below the format's greatest value; then its error is at most
-- half the last place of the power of two that bounds the exact value, and at most one part in 2 ^ prec of the exact value plus
-- half a unit.
use Rattle.std.specs.Prelude.{◌≡◌, refl, ℕ, zero, suc, ◌+◌, ◌-◌, ◌*◌, ◌^◌, ◌≤◌, ◌<◌, Bool, true, false, not, cond, T, ltb, Float}
use Rattle.std.proofs.Common.{sym, ap, ◌∙◌, subst, mul-pos, mul-le-mul_left, mul-le-mul_right, le_of_mul-le-mul_right, zero-lt-suc, zero-mul, le_trans, le_of_eq, lt_of_le_of_lt, not-le_of_lt, lt_of_not-le, arith, true≢false, ltb→lt, nltb→le, lit≤, pow-add, pow_pos}
use Rattle.std.proofs.Math.Nat.{pow-succ'}
use Rattle.std.proofs.Math.Pow.{pow-lt}
use Rattle.std.specs.Float.{nan, inf, fin, Format, binary32, binary64}
use Rattle.std.specs.Float.Ieee.{prec, emax, low, round, units, odd, fits, neg, lt, le}
use Rattle.std.specs.Float.Ieee.Digits.{back}
use Rattle.std.proofs.Math.Arith.{le→nltb}
use Rattle.std.specs.Float.Ieee.Bits.{cond_no}
use Rattle.std.specs.Float.Ieee.Exact.{HasValue}
use Rattle.std.specs.Float.Ieee.Back.{round_whole}
use Rattle.std.specs.Float.Ieee.Fits.{round_is, round-fits, neg-fits}
use Rattle.std.specs.Float.Ieee.Scale.{grid, overflow, finite, round_same}
use Rattle.float_laws.specs.Best.{Held, held-pow, grid-le, grid-ge}
use Rattle.float_laws.specs.Count.{Counted, counted, round-count}
use Rattle.float_laws.specs.Signed.{Diff, SizeOf, ups, downs, diff-of, own-diff, diff-same, diff-finite, neg-diff}
use Rattle.float_laws.specs.Patterns.{odd-neg}
use Rattle.float_laws.specs.Order.{le-diff}
use Rattle.float_laws.specs.Chains.{not-both, le-neg}
use Rattle.float_laws.specs.Near as off
use Rattle.float_laws.specs.Rounded.{Rounded}

-- ---- from one fraction of the exact value to another
pub rounded-at : (f : Format) (r : Float) (P N c P' N' c' : ℕ) → 0 < c → 0 < c' → P * c' + N' * c ≡ P' * c + N * c'
    → Rounded f r P N c → Rounded f r P' N' c'
rounded-at f r P N c P' N' c' C C' e h = go h.s h.size h.is h.exact
  where
    part : (X P N P' N' : ℕ) → X + N ≡ P → P * c' + N' * c ≡ P' * c + N * c' → (X * c' ≡ (P' - N') * c) × (P' - N' + N' ≡ P')
    part X P N P' N' x e =
        let wide : (X + N) * c' ≡ P * c' = ap (λ (z : ℕ). z * c') x in
        let over : N' * c ≤ P' * c = omega arith in
        let l : N' ≤ P' = le_of_mul-le-mul_right over C in
        let split : (P' - N' + N') * c ≡ P' * c = ap (λ (z : ℕ). z * c) (back P' N' l) in
        (omega arith, back P' N' l)

    go : (s : Bool) (X : ℕ) → r ≡ round f s X c → SizeOf s X P N → Rounded f r P' N' c'
    go false X i x =
        let k = part X P N P' N' x e in
        record { s = false; size = P' - N'; is = i ∙ round_same f false X c (P' - N') c' C C' k.0; exact = k.1 }
    go true X i x =
        let k = part X N P N' P' x (omega arith) in
        record { s = true; size = N' - P'; is = i ∙ round_same f true X c (N' - P') c' C C' k.0; exact = k.1 }

-- ---- a value of the format, and no NaN
pub rounded-fits : (f : Format) (r : Float) (P N c : ℕ) → Rounded f r P N c → T (fits f r)
rounded-fits f r P N c h = subst (λ (v : Float). T (fits f v)) (sym h.is) (round-fits f h.s h.size c)

-- in units, if it is not beyond the format's greatest value
in-units : (f : Format) (r : Float) (P N c : ℕ) (h : Rounded f r P N c) → grid f h.size c < overflow f
    → HasValue r h.s (grid f h.size c) (2 ^ low f)
in-units f r P N c h l =
    subst (λ (v : Float). HasValue v h.s (grid f h.size c) (2 ^ low f)) (sym h.is) (round-count f h.s h.size c l)

-- ---- magnitudes

-- x is finite, and at most 2 ^ K units in size
pub record Within (f : Format) (K : ℕ) (x : Float) : Type 0 where
  pub s : Bool
  pub count : ℕ
  pub value : HasValue x s count (2 ^ low f)
  pub le : count ≤ 2 ^ K

-- the size of the exact value
size-le : (s : Bool) (X P N B : ℕ) → SizeOf s X P N → P ≤ N + B → N ≤ P + B → X ≤ B
size-le true X P N B e u l = omega arith
size-le false X P N B e u l = omega arith

grid-within : (f : Format) (r : Float) (P N c K : ℕ) (h : Rounded f r P N c) → 0 < c
    → P * 2 ^ low f ≤ N * 2 ^ low f + 2 ^ K * c → N * 2 ^ low f ≤ P * 2 ^ low f + 2 ^ K * c
    → grid f h.size c ≤ 2 ^ K
grid-within f r P N c K h C u l =
    grid-le f h.size c (2 ^ K) C (held-pow f K) (go h.s h.size (2 ^ low f) (2 ^ K * c) h.exact u l)
  where
    go : (s : Bool) (X L B : ℕ) → SizeOf s X P N → P * L ≤ N * L + B → N * L ≤ P * L + B → X * L ≤ B
    go true X L B e u l = omega (arith, ap (λ (z : ℕ). z * L) e)
    go false X L B e u l = omega (arith, ap (λ (z : ℕ). z * L) e)

pub rounded-within : (f : Format) (r : Float) (P N c K : ℕ) → Rounded f r P N c → 0 < c
    → P * 2 ^ low f ≤ N * 2 ^ low f + 2 ^ K * c → N * 2 ^ low f ≤ P * 2 ^ low f + 2 ^ K * c → K < low f + suc (emax f)
    → Within f K r
rounded-within f r P N c K h C u l fine =
    let most = grid-within f r P N c K h C u l in
    record { s = h.s; count = grid f h.size c; value = in-units f r P N c h (lt_of_le_of_lt most (pow-lt fine)); le = most }

-- ---- order: a rounding does not cross a value of the format

-- beyond the format's greatest value it is an infinity
units-end : (f : Format) (s : Bool) (q k : ℕ) → T (not (ltb (q * 2 ^ k) (overflow f))) → units f s q k ≡ inf s
unfolding units
units-end f s q k t = cond_no (ltb (q * 2 ^ k) (overflow f)) (odd (suc (prec f)) s q k (low f)) (inf s) t

past_end : (f : Format) (s : Bool) (X c : ℕ) → overflow f ≤ grid f X c → round f s X c ≡ inf s
past_end f s X c h = round_is f s X c ∙ units-end f s _ _ (le→nltb (grid f X c) (overflow f) h)

inf-le : (y : Float) → T (finite y) → T (le (inf true) y)
unfolding le
inf-le nan t = absurd t
inf-le (inf s) t = absurd t
inf-le (fin s m e) t = tt

module _ (f : Format) (r : Float) (P N c : ℕ) (h : Rounded f r P N c) (C : 0 < c)
    (y : Float) (q k d : ℕ) (D : 0 < d) (fit : T (fits f y)) (v : Diff y q k d) where
  abbrev unit : ℕ
  unit = 2 ^ low f

  abbrev exact-size : ℕ
  exact-size = h.size

  abbrev made : ℕ
  made = grid f h.size c

  of-y : Counted f y
  of-y = counted f y (diff-finite y q k d v) fit

  y-is : Diff y (ups of-y.s of-y.count) (downs of-y.s of-y.count) unit
  y-is = own-diff y of-y.s of-y.count unit of-y.value

  -- the exact value compared with y, in units
  y-le : P * d + k * c ≤ q * c + N * d → P * unit + downs of-y.s of-y.count * c ≤ ups of-y.s of-y.count * c + N * unit
  y-le l = move unit (ups of-y.s of-y.count) (downs of-y.s of-y.count) (diff-same y q k d _ _ unit D v y-is)
    where
      move : (L u w : ℕ) → q * L + w * d ≡ u * d + k * L → P * L + w * c ≤ u * c + N * L
      move L u w e =
          let x : (q * L + w * d) * c ≡ (u * d + k * L) * c = ap (λ (z : ℕ). z * c) e in
          le_of_mul-le-mul_right {m = P * L + w * c} {n = u * c + N * L} {k = d} (omega (arith, mul-le-mul_right L l)) D

  none : (B : ℕ) → B * c ≤ 0 → B ≡ 0
  none zero l = refl
  none (suc B) l = let w : 0 < suc B * c = mul-pos (zero-lt-suc B) C in absurd (omega arith)

  -- rounding does not cross y, by signs
  under : (s t : Bool) (Z : ℕ) → Held (prec f) Z → SizeOf s exact-size P N → P * unit + downs t Z * c ≤ ups t Z * c + N * unit
      → (ups s made + downs t Z ≤ ups t Z + downs s made) × (s ≡ false → made ≤ Z)
  under false false Z z e l =
      let m : made ≤ Z = grid-le f exact-size c Z C z (omega (arith, ap (λ (w : ℕ). w * unit) e)) in
      (omega arith, λ u. m)
  under false true Z z e l =
      let wide : (exact-size + N) * unit ≡ P * unit = ap (λ (w : ℕ). w * unit) e in
      let zero-count : Z ≡ 0 = none Z (omega arith) in
      let m : made ≤ Z = grid-le f exact-size c Z C z (omega arith) in
      (omega arith, λ u. m)
  under true false Z z e l = (omega arith, λ u. absurd (true≢false u))
  under true true Z z e l =
      let m : Z ≤ made = grid-ge f exact-size c Z C z (omega (arith, ap (λ (w : ℕ). w * unit) e)) in
      (omega arith, λ u. absurd (true≢false u))

  r-is : made < overflow f → Diff r (ups h.s made) (downs h.s made) unit
  r-is l = own-diff r h.s made unit (in-units f r P N c h l)

  r-past : overflow f ≤ made → r ≡ inf h.s
  r-past l = h.is ∙ past_end f h.s exact-size c l

  wide : (a b c d L : ℕ) → a + b ≤ c + d → a * L + b * L ≤ c * L + d * L
  wide a b c d L m = omega (arith, mul-le-mul_right L m)

  -- if the exact value is at most y, so is r
  pub rounded-le : P * d + k * c ≤ q * c + N * d → T (le r y)
  rounded-le l =
      go (ltb made (overflow f)) (ltb→lt made (overflow f)) (nltb→le made (overflow f))
      (under h.s of-y.s of-y.count of-y.held h.exact (y-le l))
    where
      past : (s : Bool) → (s ≡ false → made ≤ of-y.count) → r ≡ inf s → overflow f ≤ made → T (le r y)
      past true m e g = subst (λ (z : Float). T (le z y)) (sym e) (inf-le y (diff-finite y q k d v))
      past false m e g = absurd (not-le_of_lt of-y.under (le_trans g (m refl)))

      go : (b : Bool) → (T b → made < overflow f) → (T (not b) → overflow f ≤ made)
          → (ups h.s made + downs of-y.s of-y.count ≤ ups of-y.s of-y.count + downs h.s made)
          × (h.s ≡ false → made ≤ of-y.count)
          → T (le r y)
      go true fine end side =
          (le-diff r y _ _ unit _ _ unit (pow_pos (low f)) (pow_pos (low f)) (r-is (fine tt)) y-is).1
          (wide (ups h.s made) (downs of-y.s of-y.count) (ups of-y.s of-y.count) (downs h.s made) unit
          side.0)
      go false fine end side = past h.s side.1 (r-past (end tt)) (end tt)

-- the same with the other sign
units-neg : (f : Format) (s : Bool) (q k : ℕ) → neg (units f s q k) ≡ units f (not s) q k
unfolding units neg
units-neg f s q k = go (ltb (q * 2 ^ k) (overflow f)) _ _ (odd-neg (suc (prec f)) s q k (low f))
  where
    go : (b : Bool) (x y : Float) → neg x ≡ y → neg (cond b x (inf s)) ≡ cond b y (inf (not s))
    go true x y e = e
    go false x y e = refl

pub rounded-neg : (f : Format) (r : Float) (P N c : ℕ) → Rounded f r P N c → Rounded f (neg r) N P c
rounded-neg f r P N c h =
    let turned = ap neg (round_is f h.s h.size c) ∙ units-neg f h.s _ _ ∙ sym (round_is f (not h.s) h.size c) in
    record { s = not h.s; size = h.size; is = ap neg h.is ∙ turned; exact = size h.s h.size h.exact }
  where
    size : (s : Bool) (X : ℕ) → SizeOf s X P N → SizeOf (not s) X N P
    size true X e = e
    size false X e = e

module _ (f : Format) (r : Float) (P N c : ℕ) (h : Rounded f r P N c) (C : 0 < c)
    (y : Float) (q k d : ℕ) (D : 0 < d) (fit : T (fits f y)) (v : Diff y q k d) where
  -- if the exact value is at least y, so is r
  pub rounded-ge : q * c + N * d ≤ P * d + k * c → T (le y r)
  rounded-ge l =
      le-neg r y (rounded-le f (neg r) N P c (rounded-neg f r P N c h) C (neg y) k q d D (neg-fits f y fit) (neg-diff y q k d v)
      (omega arith))

  -- and r is below y, or above it, only if the exact value is
  pub rounded-below : T (lt r y) → P * d + k * c < q * c + N * d
  rounded-below t = lt_of_not-le (λ (l : q * c + N * d ≤ P * d + k * c). not-both y r (rounded-ge l) t)

  pub rounded-above : T (lt y r) → q * c + N * d < P * d + k * c
  rounded-above t =
      lt_of_not-le (λ (l : P * d + k * c ≤ q * c + N * d). not-both r y (rounded-le f r P N c h C y q k d D fit v l) t)

-- ---- whole numbers are exact

-- the exact value is the whole number q - k, of a size up to 2 ^ prec
pub rounded-whole : (f : Format) (r : Float) (P N c q k : ℕ) → Rounded f r P N c → 0 < c → P + k * c ≡ q * c + N
    → q ≤ k + 2 ^ prec f → k ≤ q + 2 ^ prec f → Diff r q k 1
rounded-whole f r P N c q k h C e u l =
    let w = rounded-at f r P N c q k 1 C (zero-lt-suc 0) (omega arith) h in
    let small = size-le w.s w.size q k (2 ^ prec f) w.exact u l in
    let value = subst (λ (v : Float). HasValue v w.s w.size 1) (sym w.is) (round_whole f w.s w.size small) in
    diff-of r w.s w.size q k 1 value w.exact

-- ---- the error of a rounding

-- r is finite, and within e / g of (P - N) / c; its fraction is over L, the format's units
pub record Near (L : ℕ) (r : Float) (P N c e g : ℕ) : Type 0 where
  pub p : ℕ
  pub n : ℕ
  pub is : Diff r p n L
  pub most : g * (p * c + N * L) ≤ g * (P * L + n * c) + e * (c * L)
  pub least : g * (P * L + n * c) ≤ g * (p * c + N * L) + e * (c * L)

-- the rounded count, compared with the exact size X / c, at most 2 ^ k
record Made (f : Format) (X c k : ℕ) : Type 0 where
  pub under : grid f X c < overflow f
  pub least : 2 ^ suc (prec f) * (X * 2 ^ low f) ≤ 2 ^ suc (prec f) * (grid f X c * c) + 2 ^ k * (c * 2 ^ low f)
  pub most : 2 ^ suc (prec f) * (grid f X c * c) ≤ 2 ^ suc (prec f) * (X * 2 ^ low f) + 2 ^ k * (c * 2 ^ low f)

made-near : (f : Format) (X c k : ℕ) → 0 < c → X ≤ 2 ^ k * c → k ≤ emax f → Made f X c k
made-near f X c k C l fine =
    let K = k + low f in
    let L = 2 ^ low f in
    let G = grid f X c in
    let in-K : X * L ≤ 2 ^ K * c = scale L (2 ^ k) (2 ^ K) (pow-add 2 k (low f)) l in
    let end : G < overflow f = lt_of_le_of_lt (grid-le f X c (2 ^ K) C (held-pow f K) in-K) (pow-lt last) in
    let o = off.round-absolute f X c K C (enough f) in-K in
    let place : 2 ^ prec f * 2 ^ (K - prec f) ≡ 2 ^ k * L =
    sym (pow-add 2 (prec f) (K - prec f)) ∙ ap (λ (z : ℕ). 2 ^ z) (whole f) ∙ pow-add 2 k (low f) in
    let g = pow-succ' 2 (prec f) in
    record {
      under = end;
      least = by (2 ^ suc (prec f)) (2 ^ prec f) (2 ^ (K - prec f)) (2 ^ k) L (X * L) (G * c) g place o.above;
      most = by (2 ^ suc (prec f)) (2 ^ prec f) (2 ^ (K - prec f)) (2 ^ k) L (G * c) (X * L) g place o.below;
    }
  where
    scale : (L B K : ℕ) → K ≡ B * L → X ≤ B * c → X * L ≤ K * c
    scale L B K e h = omega (arith, mul-le-mul_right L h, ap (λ (z : ℕ). z * c) e)

    last : k + low f < low f + suc (emax f)
    last = omega arith

    few : (f : Format) → prec f ≤ low f
    few binary32 = lit≤ tt
    few binary64 = lit≤ tt

    enough : (f : Format) → prec f ≤ k + low f
    enough f = let w = few f in omega arith

    whole : (f : Format) → prec f + (k + low f - prec f) ≡ k + low f
    whole f = let w = enough f in omega arith

    by : (g p u B L a b : ℕ) → g ≡ 2 * p → p * u ≡ B * L → 2 * a ≤ 2 * b + u * c → g * a ≤ g * b + B * (c * L)
    by g p u B L a b e w h =
        let x : p * u * c ≡ B * L * c = ap (λ (z : ℕ). z * c) w in
        omega (arith, mul-le-mul_left p h, ap (λ (z : ℕ). z * a) e, ap (λ (z : ℕ). z * b) e)

-- up to 2 ^ k in size: within 2 ^ k / 2 ^ (prec + 1), half the last place
pub rounded-near : (f : Format) (r : Float) (P N c k : ℕ) → Rounded f r P N c → 0 < c → P ≤ N + 2 ^ k * c → N ≤ P + 2 ^ k * c
    → k ≤ emax f → Near (2 ^ low f) r P N c (2 ^ k) (2 ^ suc (prec f))
rounded-near f r P N c k h C u l fine =
    let L = 2 ^ low f in
    let G = grid f h.size c in
    let m = made-near f h.size c k C (size-le h.s h.size P N (2 ^ k * c) h.exact u l) fine in
    let b = both h.s h.size G L (2 ^ suc (prec f)) (2 ^ k * (c * L)) h.exact m.least m.most in
    record {
      p = ups h.s G;
      n = downs h.s G;
      is = own-diff r h.s G L (in-units f r P N c h m.under);
      most = b.0;
      least = b.1;
    }
  where
    both : (s : Bool) (X G L g B : ℕ) → SizeOf s X P N → g * (X * L) ≤ g * (G * c) + B → g * (G * c) ≤ g * (X * L) + B
        → (g * (ups s G * c + N * L) ≤ g * (P * L + downs s G * c) + B)
        × (g * (P * L + downs s G * c) ≤ g * (ups s G * c + N * L) + B)
    both true X G L g B x a b =
        let y : g * ((X + P) * L) ≡ g * (N * L) = ap (λ (z : ℕ). g * (z * L)) x in (omega arith, omega arith)
    both false X G L g B x a b =
        let y : g * ((X + N) * L) ≡ g * (P * L) = ap (λ (z : ℕ). g * (z * L)) x in (omega arith, omega arith)

-- the same by sign and size: the exact value has the sign s and the size A / c
pub record Sized (L : ℕ) (r : Float) (s : Bool) (A c e g : ℕ) : Type 0 where
  pub count : ℕ
  pub is : Diff r (ups s count) (downs s count) L
  pub most : g * (count * c) ≤ g * (A * L) + e * (c * L)
  pub least : g * (A * L) ≤ g * (count * c) + e * (c * L)

pub rounded-size : (f : Format) (r : Float) (P N c : ℕ) (s : Bool) (A k : ℕ) → Rounded f r P N c → 0 < c → SizeOf s A P N
    → A ≤ 2 ^ k * c → k ≤ emax f → Sized (2 ^ low f) r s A c (2 ^ k) (2 ^ suc (prec f))
rounded-size f r P N c s A k h C e l fine =
    let same : h.size ≡ A = one_size h.s s h.size A h.exact e in
    let m = made-near f A c k C l fine in
    let under : grid f h.size c < overflow f = subst (λ (z : ℕ). grid f z c < overflow f) (sym same) m.under in
    let in-A : HasValue r h.s (grid f A c) (2 ^ low f) =
    subst (λ (z : ℕ). HasValue r h.s (grid f z c) (2 ^ low f)) same (in-units f r P N c h under) in
    record {
      count = grid f A c;
      is = turned h.s s A h.exact e same (own-diff r h.s (grid f A c) (2 ^ low f) in-A);
      most = m.most;
      least = m.least;
    }
  where
    one_size : (s t : Bool) (X A : ℕ) → SizeOf s X P N → SizeOf t A P N → X ≡ A
    one_size true true X A x a = omega arith
    one_size true false X A x a = omega arith
    one_size false true X A x a = omega arith
    one_size false false X A x a = omega arith

    -- if the signs differ the value is zero
    none : (A : ℕ) → A ≡ 0 → grid f A c ≡ 0
    none A e =
        let held : Held (prec f) 0 = record { y = 0; j = 0; few = pow_pos (prec f); is = refl } in
        let exact : A * 2 ^ low f ≡ 0 * c = ap (λ (z : ℕ). z * 2 ^ low f) e ∙ zero-mul (2 ^ low f) ∙ sym (zero-mul c) in
        let most : grid f A c ≤ 0 = grid-le f A c 0 C held (le_of_eq exact) in
        omega arith

    turned : (s t : Bool) (A : ℕ) → SizeOf s h.size P N → SizeOf t A P N → h.size ≡ A
        → Diff r (ups s (grid f A c)) (downs s (grid f A c)) (2 ^ low f)
        → Diff r (ups t (grid f A c)) (downs t (grid f A c)) (2 ^ low f)
    turned true true A x a i d = d
    turned false false A x a i d = d
    turned true false A x a i d =
        let z : grid f A c ≡ 0 = none A (omega arith) in
        subst (λ (g : ℕ). Diff r g 0 (2 ^ low f)) (sym z) (subst (λ (g : ℕ). Diff r 0 g (2 ^ low f)) z d)
    turned false true A x a i d =
        let z : grid f A c ≡ 0 = none A (omega arith) in
        subst (λ (g : ℕ). Diff r 0 g (2 ^ low f)) (sym z) (subst (λ (g : ℕ). Diff r g 0 (2 ^ low f)) z d)

-- for any size up to B / c below the format's greatest value: within B / c / 2 ^ prec plus half a unit
pub record NearBy (digits L : ℕ) (r : Float) (P N c B : ℕ) : Type 0 where
  pub p : ℕ
  pub n : ℕ
  pub is : Diff r p n L
  pub most : 2 ^ digits * (2 * (p * c + N * L)) ≤ 2 ^ digits * (2 * (P * L + n * c)) + 2 * (B * L) + 2 ^ digits * c
  pub least : 2 ^ digits * (2 * (P * L + n * c)) ≤ 2 ^ digits * (2 * (p * c + N * L)) + 2 * (B * L) + 2 ^ digits * c
