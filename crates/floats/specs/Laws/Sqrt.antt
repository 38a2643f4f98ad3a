-- The correctly rounded root, for other proofs: the root of A / c is a count R of the format's units, and R * R is compared with
-- A / c times the square of the units, multiplied out. Two facts: it does not cross a value of the format, and its error is about
-- one part in 2 ^ prec. The argument for the second: the values next above and next below R are in the format too, one last place
-- away. The halfway point to each lies beyond the exact root, and the last place is at most one part in 2 ^ (prec - 1) of R.
use Rattle.std.specs.Prelude.{◌≡◌, ℕ, zero, suc, ◌+◌, ◌-◌, ◌*◌, ◌^◌, ◌<◌, ◌≤◌, Bool, true, false, not, T, ◌⊎◌, ◌≢◌, nat_le, refl, Float}
use Rattle.std.proofs.Common.{sym, ap, ◌∙◌, subst, inl, inr, mul-pos, mul-one, le_of_mul-le-mul_right, lt_of_mul-lt-mul_right, zero-lt-suc, mul-le-mul, mul-le-mul_left, mul-le-mul_right, mul-lt-mul_of_pos_right, mul_assoc, one-mul, eq-or-lt_of_le, le_trans, le_of_eq, le_of_lt, le_of_suc-le-suc, lt_irrefl, lt_of_le_of_lt, lt_of_lt_of_le, lt_of_not-le, arith, leb→le, lit≤, pow-add, pow_pos, pow_mono}
use Rattle.std.proofs.Math.Dec.{nleb→lt}
use Rattle.std.proofs.Math.Pow.{pow-lt}
use Rattle.std.specs.Float.{nan, inf, fin, Format, binary32, binary64}
use Rattle.std.specs.Float.Ieee.{prec, low, up, down, size, fits}
use Rattle.std.specs.Float.Ieee.Digits.{back, size-lt, size_reaches}
use Rattle.std.specs.Float.Ieee.Exact.{HasValue}
use Rattle.std.specs.Float.Ieee.Fits.{two, up_pos}
use Rattle.float_laws.specs.Powers.{twice}
use Rattle.float_laws.specs.Best.{Held, held-pow}
use Rattle.float_laws.specs.Count.{counted, held_of}
use Rattle.float_laws.specs.Signed.{own-diff, diff-same}
use Rattle.float_laws.specs.Roundings.{Within}
use Rattle.floats.specs.F64.{root_of, sqrt}
use Rattle.floats.specs.Laws.Root.{Found, found, root_of-fits}

-- ---- a root does not cross a value of the format
module _ (f : Format) (X : ℕ) (r : Float) (h : Found f X r) where
  least_at : (Y : ℕ) → Held (prec f) Y → Y * Y ≤ X * 2 ^ low f → Y ≤ h.R
  least_at Y y l = le_of_suc-le-suc (lt_of_not-le (λ (g : suc h.R ≤ Y). clash h.R (X * 2 ^ low f) l (h.above Y y g) g))
    where
      clash : (R N : ℕ) → Y * Y ≤ N → 4 * N < (Y + R) * (Y + R) → R < Y → ⊥
      clash R N l m g =
          let sum : Y + R ≤ 2 * Y = omega arith in
          omega (arith, mul-le-mul sum sum)

  most-at : (Y : ℕ) → Held (prec f) Y → X * 2 ^ low f ≤ Y * Y → h.R ≤ Y
  most-at Y y l = le_of_suc-le-suc (lt_of_not-le (λ (g : suc Y ≤ h.R). clash h.R (X * 2 ^ low f) l (h.below Y y g) g))
    where
      clash : (R N : ℕ) → N ≤ Y * Y → (Y + R) * (Y + R) < 4 * N → Y < R → ⊥
      clash R N l m g =
          let sum : 2 * Y ≤ Y + R = omega arith in
          omega (arith, mul-le-mul sum sum)

-- ---- the last place of a value of at least 2 ^ (p - 1) units
record Placed (p R : ℕ) : Type 0 where
  pub w : ℕ
  pub j : ℕ
  pub is : R ≡ w * 2 ^ j
  pub least : 2 ^ (p - 1) ≤ w
  pub few : w < 2 ^ p

placed : (p R : ℕ) → 2 ≤ p → Held p R → 2 ^ (p - 1) ≤ R → Placed p R
placed p R P h l = go (nat_le (size R) p) (leb→le (size R) p) (nleb→lt (size R) p)
  where
    -- all its digits fit
    small : size R ≤ p → Placed p R
    small g = record { w = R; j = 0; is = sym (mul-one R); least = l; few = lt_of_lt_of_le (size-lt R) (pow_mono g) }

    -- its last place is that of the digits beyond p
    large : p < size R → Placed p R
    large g =
        let j = size R - p in
        let wide : 2 ^ (p - 1 + j) ≤ R = size_reaches R (p - 1 + j) (shift (size R) g) in
        let top : R < 2 ^ (p + j) = subst (λ (z : ℕ). R < 2 ^ z) (rest (size R) g) (size-lt R) in
        let digits : h.y * 2 ^ h.j < 2 ^ p * 2 ^ h.j = mul-lt-mul_of_pos_right h.few (pow_pos h.j) in
        let own : R < 2 ^ (p + h.j) =
        lt_of_le_of_lt (le_of_eq h.is) (lt_of_lt_of_le digits (le_of_eq (sym (pow-add 2 p h.j)))) in
        let far : j ≤ h.j =
        le_of_suc-le-suc (lt_of_not-le (λ (s : suc h.j ≤ j).
        lt_irrefl R (lt_of_lt_of_le own (le_trans (pow_mono (up_to p h.j j s P)) wide)))) in
        let w = h.y * 2 ^ (h.j - j) in
        let power : 2 ^ (h.j - j) * 2 ^ j ≡ 2 ^ h.j =
        sym (pow-add 2 (h.j - j) j) ∙ ap (λ (z : ℕ). 2 ^ z) (back h.j j far) in
        let split : w * 2 ^ j ≡ R =
        mul_assoc h.y (2 ^ (h.j - j)) (2 ^ j) ∙ ap (λ (z : ℕ). h.y * z) power ∙ sym h.is in
        let wide' : 2 ^ (p - 1) * 2 ^ j ≤ w * 2 ^ j =
        le_trans (le_of_eq (sym (pow-add 2 (p - 1) j))) (le_trans wide (le_of_eq (sym split))) in
        let top' : w * 2 ^ j < 2 ^ p * 2 ^ j = lt_of_le_of_lt (le_of_eq split) (lt_of_lt_of_le top (le_of_eq (pow-add 2 p j))) in
        record {
          w = w;
          j = j;
          is = sym split;
          least = le_of_mul-le-mul_right wide' (pow_pos j);
          few = lt_of_mul-lt-mul_right (2 ^ j) top';
        }
      where
        shift : (z : ℕ) → p < z → p - 1 + (z - p) < z
        shift z g = omega arith

        rest : (z : ℕ) → p < z → z ≡ p + (z - p)
        rest z g = omega arith

        up_to : (p i j : ℕ) → suc i ≤ j → 2 ≤ p → p + i ≤ p - 1 + j
        up_to p i j s P = omega arith

    go : (b : Bool) → (T b → size R ≤ p) → (T (not b) → p < size R) → Placed p R
    go true under over = small (under tt)
    go false under over = large (over tt)

-- the values next above and next below it
held_next : (p w j : ℕ) → 2 ≤ p → w < 2 ^ p → Held p ((w + 1) * 2 ^ j)
held_next p w j P l = go (eq-or-lt_of_le {n = w + 1} {m = 2 ^ p} (omega arith))
  where
    some : (p : ℕ) → 2 ≤ p → 0 < p
    some p h = omega arith

    go : (w + 1 ≡ 2 ^ p) ⊎ (w + 1 < 2 ^ p) → Held p ((w + 1) * 2 ^ j)
    go (inl e) = record {
      y = 1;
      j = p + j;
      few = pow-lt {i = 0} {j = p} (some p P);
      is = ap (λ (z : ℕ). z * 2 ^ j) e ∙ sym (pow-add 2 p j) ∙ sym (one-mul (2 ^ (p + j)));
    }
    go (inr l) = record { y = w + 1; j = j; few = l; is = refl }

held-last : (p w j : ℕ) → w < 2 ^ p → Held p ((w - 1) * 2 ^ j)
held-last p w j l = record { y = w - 1; j = j; few = omega arith; is = refl }

-- ---- an error of about one part in 2 ^ p: a root R whose last place is u, compared with the number N
near-above : (P H R u N : ℕ) → P ≡ 2 * H → H * u ≤ R → 4 * N < (R + u + R) * (R + u + R) → P * P * N ≤ R * R * ((P + 1) * (P + 1))
near-above P H R u N e l h =
    let place : P * u ≡ 2 * H * u = ap (λ (z : ℕ). z * u) e in
    let sum : P * (R + u + R) ≤ 2 * R * (P + 1) = omega arith in
    let squares = mul-le-mul sum sum in
    let scaled : P * P * (4 * N) ≤ P * P * ((R + u + R) * (R + u + R)) = mul-le-mul_left (P * P) (le_of_lt h) in
    omega arith

near-below : (P H R u N W : ℕ) → P ≡ 2 * H → 1 ≤ H → H * u ≤ R → W + u ≡ R → (W + R) * (W + R) < 4 * N
    → P * P * (R * R) ≤ N * ((P + 2) * (P + 2))
near-below P H R u N W e one l v h =
    let place : P * u ≡ 2 * H * u = ap (λ (z : ℕ). z * u) e in
    let more : 1 * u ≤ H * u = mul-le-mul_right u one in
    let split : P * (W + u) ≡ P * R = ap (λ (z : ℕ). P * z) v in
    let sum : P * (2 * R) ≤ (W + R) * (P + 2) = omega arith in
    let squares = mul-le-mul sum sum in
    let scaled = mul-le-mul_right ((P + 2) * (P + 2)) (le_of_lt h) in
    omega arith

module _ (f : Format) (X : ℕ) (some : 0 < X) (r : Float) (fit : T (fits f r)) (h : Found f X r) where
  held : Held (prec f) h.R
  held = (held_of f r false h.R fit h.value).0

  -- the root of one unit has more digits than the format has
  enough : 2 ^ (prec f - 1) ≤ h.R
  enough =
      least_at f X r h (2 ^ (prec f - 1)) (held-pow f (prec f - 1))
      (le_trans (le_of_eq (sym (pow-add 2 (prec f - 1) (prec f - 1))))
      (le_trans (pow_mono (room f)) (le_trans (le_of_eq (sym (one-mul (2 ^ low f)))) (mul-le-mul_right (2 ^ low f) some))))
    where
      room : (f : Format) → prec f - 1 + (prec f - 1) ≤ low f
      room binary32 = lit≤ tt
      room binary64 = lit≤ tt

  near-at : (2 ^ prec f * 2 ^ prec f * (X * 2 ^ low f) ≤ h.R * h.R * ((2 ^ prec f + 1) * (2 ^ prec f + 1)))
      × (2 ^ prec f * 2 ^ prec f * (h.R * h.R) ≤ X * 2 ^ low f * ((2 ^ prec f + 2) * (2 ^ prec f + 2)))
  near-at =
      let d = placed (prec f) h.R (two f) held enough in
      let u = 2 ^ d.j in
      let H = 2 ^ (prec f - 1) in
      let N = X * 2 ^ low f in
      let U : 0 < u = pow_pos d.j in
      let next-is : (d.w + 1) * u ≡ h.R + u = next d.w u h.R d.is in
      let last-is : (d.w - 1) * u + u ≡ h.R = last d.w u h.R (lt_of_lt_of_le (pow_pos (prec f - 1)) d.least) d.is in
      let place : H * u ≤ h.R = le_trans (mul-le-mul_right u d.least) (le_of_eq (sym d.is)) in
      let upper = h.above ((d.w + 1) * u) (held_next (prec f) d.w d.j (two f) d.few)
      (more ((d.w + 1) * u) u h.R U next-is) in
      let lower =
      h.below ((d.w - 1) * u) (held-last (prec f) d.w d.j d.few) (less ((d.w - 1) * u) u h.R U last-is) in
      let beyond : 4 * N < (h.R + u + h.R) * (h.R + u + h.R) =
      subst (λ (z : ℕ). 4 * N < (z + h.R) * (z + h.R)) next-is upper in (
        near-above (2 ^ prec f) H h.R u N (twice f) place beyond,
        near-below (2 ^ prec f) H h.R u N ((d.w - 1) * u) (twice f) (pow_pos (prec f - 1)) place last-is lower,
      )
    where
      next : (w u R : ℕ) → R ≡ w * u → (w + 1) * u ≡ R + u
      next w u R e = omega arith

      last : (w u R : ℕ) → 0 < w → R ≡ w * u → (w - 1) * u + u ≡ R
      last zero u R l e = absurd (lt_irrefl 0 l)
      last (suc w) u R l e = let z : suc w - 1 ≡ w = omega arith in ap (λ (t : ℕ). t * u + u) z ∙ omega arith

      more : (Y u R : ℕ) → 0 < u → Y ≡ R + u → R < Y
      more Y u R U e = omega arith

      less : (Y u R : ℕ) → 0 < u → Y + u ≡ R → Y < R
      less Y u R U e = omega arith

-- ---- together: r is the root of A / c, rounded, in units
pub record Root (p L A c : ℕ) (r : Float) : Type 0 where
  pub R : ℕ
  pub value : HasValue r false R L
  -- the point halfway to another value of the format lies beyond the exact root
  pub before : (Y : ℕ) → Held p Y → Y < R → (Y + R) * (Y + R) * c < 4 * (A * (L * L))
  pub after : (Y : ℕ) → Held p Y → R < Y → 4 * (A * (L * L)) < (Y + R) * (Y + R) * c
  -- it does not cross a value of the format
  pub least : (Y : ℕ) → Held p Y → Y * Y * c ≤ A * (L * L) → Y ≤ R
  pub most : (Y : ℕ) → Held p Y → A * (L * L) ≤ Y * Y * c → R ≤ Y
  -- its square is close to A / c
  pub above : 2 ^ p * 2 ^ p * (A * (L * L)) ≤ R * R * c * ((2 ^ p + 1) * (2 ^ p + 1))
  pub below : 2 ^ p * 2 ^ p * (R * R * c) ≤ A * (L * L) * ((2 ^ p + 2) * (2 ^ p + 2))

-- a positive number's count of units
record Positive (f : Format) (x : Float) (A c : ℕ) : Type 0 where
  pub X : ℕ
  pub some : 0 < X
  pub value : HasValue x false X (2 ^ low f)
  pub is : A * 2 ^ low f ≡ X * c

positive : (f : Format) (x : Float) (A c : ℕ) → T (fits f x) → 0 < A → 0 < c → HasValue x false A c → Positive f x A c
positive f nan A c t P C v = absurd v
positive f (inf s) A c t P C v = absurd v
positive f (fin s m e) A c t P C v =
    let k = counted f (fin s m e) tt t in
    let w : HasValue (fin s m e) false k.count (2 ^ low f) = (v.0, k.value.1) in
    let is = diff-same (fin s m e) A 0 c k.count 0 (2 ^ low f) C
    (own-diff (fin s m e) false A c v) (own-diff (fin s m e) false k.count (2 ^ low f) w) in
    let same : A * 2 ^ low f ≡ k.count * c = plain A c k.count (2 ^ low f) is in
    record {
      X = k.count;
      some = factor k.count (subst (λ (z : ℕ). 0 < z) same (mul-pos P (pow_pos (low f))));
      value = w;
      is = same;
    }
  where
    plain : (A c X L : ℕ) → A * L + 0 * c ≡ X * c + 0 * L → A * L ≡ X * c
    plain A c X L e = omega arith

    factor : (X : ℕ) → 0 < X * c → 0 < X
    factor zero l = omega arith
    factor (suc X) l = zero-lt-suc X

pub root-of : (f : Format) (x : Float) (A c : ℕ) → T (fits f x) → 0 < A → 0 < c → HasValue x false A c
    → Root (prec f) (2 ^ low f) A c (root_of f x)
root-of f x A c t P C v =
    let k = positive f x A c t P C v in
    let L = 2 ^ low f in
    let own = held_of f x false k.X t k.value in
    let h = found f x k.X k.some own.1 own.0 k.value in
    let fit = root_of-fits f x t in
    let near = near-at f k.X k.some (root_of f x) fit h in
    let N : A * (L * L) ≡ k.X * L * c = over A k.X L k.is in
    record {
      R = h.R;
      value = h.value;
      before = λ Y y l. under ((Y + h.R) * (Y + h.R)) (A * (L * L)) (k.X * L) N (h.below Y y l);
      after = λ Y y l. beyond ((Y + h.R) * (Y + h.R)) (A * (L * L)) (k.X * L) N (h.above Y y l);
      least = λ Y y l. least_at f k.X (root_of f x) h Y y (cut (Y * Y) (k.X * L) (le_trans l (le_of_eq N)));
      most = λ Y y l. most-at f k.X (root_of f x) h Y y (cut (k.X * L) (Y * Y) (le_trans (le_of_eq (sym N)) l));
      above =
          up (2 ^ prec f * 2 ^ prec f) ((2 ^ prec f + 1) * (2 ^ prec f + 1)) (A * (L * L)) (k.X * L) (h.R * h.R) N near.0;
      below =
          dn (2 ^ prec f * 2 ^ prec f) ((2 ^ prec f + 2) * (2 ^ prec f + 2)) (A * (L * L)) (k.X * L) (h.R * h.R) N near.1;
    }
  where
    over : (A X L : ℕ) → A * L ≡ X * c → A * (L * L) ≡ X * L * c
    over A X L e = let w : A * L * L ≡ X * c * L = ap (λ (z : ℕ). z * L) e in omega arith

    cut : (a b : ℕ) → a * c ≤ b * c → a ≤ b
    cut a b l = le_of_mul-le-mul_right l C

    under : (S M N : ℕ) → M ≡ N * c → S < 4 * N → S * c < 4 * M
    under S M N e l = omega (arith, mul-lt-mul_of_pos_right l C)

    beyond : (S M N : ℕ) → M ≡ N * c → 4 * N < S → 4 * M < S * c
    beyond S M N e l = omega (arith, mul-lt-mul_of_pos_right l C)

    up : (P Q M N R : ℕ) → M ≡ N * c → P * N ≤ R * Q → P * M ≤ R * c * Q
    up P Q M N R e l = omega (arith, mul-le-mul_right c l, ap (λ (z : ℕ). P * z) e)

    dn : (P Q M N R : ℕ) → M ≡ N * c → P * R ≤ N * Q → P * (R * c) ≤ M * Q
    dn P Q M N R e l = omega (arith, mul-le-mul_right c l, ap (λ (z : ℕ). z * Q) e)

-- ---- f64's root is this one; the root of a zero is that zero
pub sqrt-is : (x : Float) → sqrt x ≡ root_of binary64 x
unfolding sqrt
sqrt-is x = refl

pub root-zero : (f : Format) (x : Float) (s : Bool) (c d : ℕ) → 0 < c → HasValue x s 0 c → HasValue (root_of f x) s 0 d
unfolding root_of
root-zero f nan s c d C h = absurd h
root-zero f (inf t) s c d C h = absurd h
root-zero f (fin t zero e) s c d C h = (h.0, none (up e) (down e))
  where
    none : (u w : ℕ) → 0 * u * d ≡ 0 * w
    none u w = omega arith
root-zero f (fin t (suc m) e) s c d C h =
    absurd (never (suc m * up e * c) (down e) (mul-pos (mul-pos (zero-lt-suc m) (up_pos e)) C) h.1)
  where
    never : (a w : ℕ) → 0 < a → a ≢ 0 * w
    never a w l e = omega arith

-- ---- magnitudes: a number of at most 2 ^ K units has a root of at most 2 ^ J, if K + low is at most twice J
pub root-within : (f : Format) (x : Float) (X K J : ℕ) → T (fits f x) → HasValue x false X (2 ^ low f) → X ≤ 2 ^ K
    → K + low f ≤ J + J
    → Within f J (root_of f x)
root-within f x X K J t v l m = go X v l
  where
    go : (X : ℕ) → HasValue x false X (2 ^ low f) → X ≤ 2 ^ K → Within f J (root_of f x)
    go zero v l = record {
      s = false;
      count = 0;
      value = root-zero f x false (2 ^ low f) (2 ^ low f) (pow_pos (low f)) v;
      le = le_of_lt (pow_pos J);
    }
    go (suc X) v l =
        let r = root-of f x (suc X) (2 ^ low f) t (zero-lt-suc X) (pow_pos (low f)) v in
        let powers : 2 ^ K * 2 ^ low f ≤ 2 ^ J * 2 ^ J =
        le_trans (le_of_eq (sym (pow-add 2 K (low f)))) (le_trans (pow_mono m) (le_of_eq (pow-add 2 J J))) in
        record {
          s = false;
          count = r.R;
          value = r.value;
          le = r.most (2 ^ J) (held-pow f J) (over (suc X) (2 ^ low f) (2 ^ K) (2 ^ J) l powers);
        }
      where
        over : (X L k j : ℕ) → X ≤ k → k * L ≤ j * j → X * (L * L) ≤ j * j * L
        over X L k j a b = omega (arith, mul-le-mul_right (L * L) a, mul-le-mul_right L b)
