-- Sizes that survive every operation, for a format f. Small k x says that x is finite and at most 2 ^ k in size; Sizable j x,
-- that it is finite and at least 1 / 2 ^ j in size. Both hold of any fraction that has the float's value, so no operand need be a
-- value of the format. The rounded results keep the bounds of the exact ones, since rounding does not cross a power of two.
use Rattle.std.specs.Prelude.{◌≡◌, ℕ, zero, suc, ◌+◌, ◌-◌, ◌*◌, ◌^◌, ◌≤◌, ◌<◌, Bool, true, false, not, T, Float}
use Rattle.std.proofs.Common.{sym, ap, ◌∙◌, subst, mul-pos, mul-le-mul, mul-le-mul_right, mul-le-mul_left, le_trans, le_of_eq, le_of_mul-le-mul_right, zero-lt-suc, lt_of_le_of_lt, arith, pow-add, pow_pos, pow_mono}
use Rattle.std.proofs.Math.Nat.{eq_of_mul-eq-mul_right, pow-succ'}
use Rattle.std.proofs.Math.Pow.{pow-lt}
use Rattle.std.specs.Float.{nan, inf, fin, Format}
use Rattle.std.specs.Float.Ieee.{emax, low, up, down, unlike, round, neg, add, sub, mul, div}
use Rattle.std.specs.Float.Ieee.Exact.{HasValue}
use Rattle.std.specs.Float.Ieee.Fits.{down_pos}
use Rattle.std.specs.Float.Ieee.Scale.{finite, grid, overflow}
use Rattle.float_laws.specs.Best.{held-pow, grid-le, grid-ge}
use Rattle.float_laws.specs.Count.{round-count}
use Rattle.float_laws.specs.Signed.{Diff, SizeOf, ups, downs, own-diff, neg_value, diff-finite}
use Rattle.float_laws.specs.Rounded.{Rounded, add-rounded, sub-rounded, mul-rounded, mul-count, div-rounded, signed_by}
use Rattle.float_laws.specs.Roundings.{rounded-within, rounded-at}

-- x is a fraction, at most 2 ^ k in size
pub record Small (k : ℕ) (x : Float) : Type 0 where
  pub s : Bool
  pub size : ℕ
  pub over : ℕ
  pub some : 0 < over
  pub value : HasValue x s size over
  pub le : size ≤ 2 ^ k * over

-- x is a fraction, at least 1 / 2 ^ j in size
pub record Sizable (j : ℕ) (x : Float) : Type 0 where
  pub s : Bool
  pub size : ℕ
  pub over : ℕ
  pub some : 0 < over
  pub value : HasValue x s size over
  pub ge : over ≤ 2 ^ j * size

-- ---- finite, and under a wider bound
pub small-diff : (k : ℕ) (x : Float) (w : Small k x) → Diff x (ups w.s w.size) (downs w.s w.size) w.over
small-diff k x w = own-diff x w.s w.size w.over w.value

pub small-finite : (k : ℕ) (x : Float) → Small k x → T (finite x)
small-finite k x w = diff-finite x _ _ _ (small-diff k x w)

pub small-up : (i k : ℕ) (x : Float) → i ≤ k → Small i x → Small k x
small-up i k x l w =
    record {
      s = w.s;
      size = w.size;
      over = w.over;
      some = w.some;
      value = w.value;
      le = le_trans w.le (mul-le-mul_right w.over (pow_mono l));
    }

pub neg_small : (k : ℕ) (x : Float) → Small k x → Small k (neg x)
neg_small k x w =
    record {
      s = not w.s;
      size = w.size;
      over = w.over;
      some = w.some;
      value = neg_value x w.s w.size w.over w.value;
      le = w.le;
    }

-- ---- a rounding
pub rounded-small : (f : Format) (r : Float) (P N c k : ℕ) → Rounded f r P N c → 0 < c → P ≤ N + 2 ^ k * c → N ≤ P + 2 ^ k * c
    → k ≤ emax f → Small k r
rounded-small f r P N c k h C u l fine =
    let L = 2 ^ low f in
    let power = pow-add 2 k (low f) in
    let w = rounded-within f r P N c (k + low f) h C (scaled P N (2 ^ k) (2 ^ (k + low f)) L power u)
    (scaled N P (2 ^ k) (2 ^ (k + low f)) L power l) last in
    record {
      s = w.s;
      size = w.count;
      over = L;
      some = pow_pos (low f);
      value = w.value;
      le = le_trans w.le (le_of_eq power);
    }
  where
    scaled : (P N B K L : ℕ) → K ≡ B * L → P ≤ N + B * c → P * L ≤ N * L + K * c
    scaled P N B K L e h = omega (arith, mul-le-mul_right L h, ap (λ (z : ℕ). z * c) e)

    last : k + low f < low f + suc (emax f)
    last = omega arith

-- ---- sums and differences: both operands below 2 ^ (k - 1)
sum-in : (s t : Bool) (X Y c d B K : ℕ) → K ≡ 2 * B → X ≤ B * c → Y ≤ B * d
    → (ups s X * d + ups t Y * c ≤ downs s X * d + downs t Y * c + K * (c * d))
    × (downs s X * d + downs t Y * c ≤ ups s X * d + ups t Y * c + K * (c * d))
sum-in s t X Y c d B K e a b = go s t (mul-le-mul_right d a) (mul-le-mul_right c b) (ap (λ (z : ℕ). z * (c * d)) e)
  where
    go : (s t : Bool) → X * d ≤ B * c * d → Y * c ≤ B * d * c → K * (c * d) ≡ 2 * B * (c * d)
        → (ups s X * d + ups t Y * c ≤ downs s X * d + downs t Y * c + K * (c * d))
        × (downs s X * d + downs t Y * c ≤ ups s X * d + ups t Y * c + K * (c * d))
    go true true x y z = (omega arith, omega arith)
    go true false x y z = (omega arith, omega arith)
    go false true x y z = (omega arith, omega arith)
    go false false x y z = (omega arith, omega arith)

difference-in : (s t : Bool) (X Y c d k : ℕ) → X ≤ 2 ^ k * c → Y ≤ 2 ^ k * d
    → (ups s X * d + downs t Y * c ≤ downs s X * d + ups t Y * c + 2 ^ suc k * (c * d))
    × (downs s X * d + ups t Y * c ≤ ups s X * d + downs t Y * c + 2 ^ suc k * (c * d))
difference-in s true X Y c d k a b = sum-in s false X Y c d (2 ^ k) (2 ^ suc k) (pow-succ' 2 k) a b
difference-in s false X Y c d k a b = sum-in s true X Y c d (2 ^ k) (2 ^ suc k) (pow-succ' 2 k) a b

module _ (f : Format) (x y : Float) (k : ℕ) (A : Small k x) (B : Small k y) (fine : suc k ≤ emax f) where
  pub add_small : Small (suc k) (add f x y)
  add_small =
      let r = add-rounded f x y _ _ _ _ A.over B.over A.some B.some (small-diff k x A) (small-diff k y B) in
      let m = sum-in A.s B.s A.size B.size A.over B.over (2 ^ k) (2 ^ suc k) (pow-succ' 2 k) A.le B.le in
      rounded-small f (add f x y) _ _ (A.over * B.over) (suc k) r (mul-pos A.some B.some) m.0 m.1 fine

  pub sub_small : Small (suc k) (sub f x y)
  sub_small =
      let r = sub-rounded f x y _ _ _ _ A.over B.over A.some B.some (small-diff k x A) (small-diff k y B) in
      let m = difference-in A.s B.s A.size B.size A.over B.over k A.le B.le in
      rounded-small f (sub f x y) _ _ (A.over * B.over) (suc k) r (mul-pos A.some B.some) m.0 m.1 fine

-- ---- products
product-in : (s t : Bool) (X Y K : ℕ) → X * Y ≤ K
    → (ups s X * ups t Y + downs s X * downs t Y ≤ ups s X * downs t Y + downs s X * ups t Y + K)
    × (ups s X * downs t Y + downs s X * ups t Y ≤ ups s X * ups t Y + downs s X * downs t Y + K)
product-in true true X Y K h = (omega arith, omega arith)
product-in true false X Y K h = (omega arith, omega arith)
product-in false true X Y K h = (omega arith, omega arith)
product-in false false X Y K h = (omega arith, omega arith)

crossed : (a c b d : ℕ) → a * c * (b * d) ≡ a * b * (c * d)
crossed a c b d = omega arith

pub mul_small : (f : Format) (x y : Float) (i j : ℕ) → Small i x → Small j y → i + j ≤ emax f → Small (i + j) (mul f x y)
mul_small f x y i j A B fine =
    let r = mul-rounded f x y _ _ _ _ A.over B.over A.some B.some (small-diff i x A) (small-diff j y B) in
    let powers = crossed (2 ^ i) A.over (2 ^ j) B.over ∙ ap (λ (z : ℕ). z * (A.over * B.over)) (sym (pow-add 2 i j)) in
    let m = product-in A.s B.s A.size B.size (2 ^ (i + j) * (A.over * B.over))
    (le_trans (mul-le-mul A.le B.le) (le_of_eq powers)) in
    rounded-small f (mul f x y) _ _ (A.over * B.over) (i + j) r (mul-pos A.some B.some) m.0 m.1 fine

-- ---- quotients: the divisor is at least 1 / 2 ^ j
quotient-in : (s t : Bool) (X Y c d K : ℕ) → X * d ≤ K * (Y * c)
    → (signed_by t (ups s X) (downs s X) * d ≤ signed_by t (downs s X) (ups s X) * d + K * (Y * c))
    × (signed_by t (downs s X) (ups s X) * d ≤ signed_by t (ups s X) (downs s X) * d + K * (Y * c))
quotient-in true true X Y c d K h = (omega arith, omega arith)
quotient-in true false X Y c d K h = (omega arith, omega arith)
quotient-in false true X Y c d K h = (omega arith, omega arith)
quotient-in false false X Y c d K h = (omega arith, omega arith)

-- what is sizable is not zero
pub size-some : (j : ℕ) (x : Float) (w : Sizable j x) → 0 < w.size
size-some j x w = go w.size w.ge
  where
    go : (X : ℕ) → w.over ≤ 2 ^ j * X → 0 < X
    go zero l = absurd (never w.over (2 ^ j) w.some l)
      where
        never : (c p : ℕ) → 0 < c → c ≤ p * 0 → ⊥
        never c p C l = omega arith
    go (suc X) l = zero-lt-suc X

pub div-small : (f : Format) (x y : Float) (i j : ℕ) → Small i x → Sizable j y → i + j ≤ emax f → Small (i + j) (div f x y)
div-small f x y i j A B fine =
    let some = size-some j y B in
    let r = div-rounded f x y _ _ A.over B.s B.size B.over A.some B.some some (small-diff i x A) B.value in
    let top = over A.size B.size A.over B.over (2 ^ i) (2 ^ j) (2 ^ (i + j)) (pow-add 2 i j) A.le B.ge in
    let m = quotient-in A.s B.s A.size B.size A.over B.over (2 ^ (i + j)) top in
    rounded-small f (div f x y) _ _ (B.size * A.over) (i + j) r (mul-pos some A.some) m.0 m.1 fine
  where
    over : (X Y c d p q K : ℕ) → K ≡ p * q → X ≤ p * c → d ≤ q * Y → X * d ≤ K * (Y * c)
    over X Y c d p q K e a b =
        let l = mul-le-mul a b in
        let z : K * (Y * c) ≡ p * q * (Y * c) = ap (λ (n : ℕ). n * (Y * c)) e in
        omega arith

-- ---- two fractions of one float
pub same_over : (x : Float) (s t : Bool) (X c Y d : ℕ) → HasValue x s X c → HasValue x t Y d → X * d ≡ Y * c
same_over nan s t X c Y d h k = absurd h
same_over (inf u) s t X c Y d h k = absurd h
same_over (fin u m e) s t X c Y d h k =
    eq_of_mul-eq-mul_right (down e) (down_pos e) (X * d) (Y * c) (plain (m * up e) (down e) h.1 k.1)
  where
    plain : (a g : ℕ) → a * c ≡ X * g → a * d ≡ Y * g → X * d * g ≡ Y * c * g
    plain a g p q =
        let v : a * c * d ≡ X * g * d = ap (λ (z : ℕ). z * d) p in
        let w : a * d * c ≡ Y * g * c = ap (λ (z : ℕ). z * c) q in
        omega arith

-- what is sizable is so by every fraction
sizable-at : (j : ℕ) (x : Float) (w : Sizable j x) (s : Bool) (X c : ℕ) → HasValue x s X c → c ≤ 2 ^ j * X
sizable-at j x w s X c v =
    go w.size w.over (2 ^ j) w.some w.ge (same_over x w.s s w.size w.over X c w.value v)
  where
    go : (Y d p : ℕ) → 0 < d → d ≤ p * Y → Y * c ≡ X * d → c ≤ p * X
    go Y d p D l e =
        let a = mul-le-mul_right c l in
        let b : p * (Y * c) ≡ p * (X * d) = ap (λ (z : ℕ). p * z) e in
        le_of_mul-le-mul_right {m = c} {n = p * X} {k = d} (omega arith) D

-- ---- products of sizable numbers, whose sizes are bounded above too
pub mul-sizable : (f : Format) (x y : Float) (i j k l : ℕ) → Sizable i x → Small k x → Sizable j y → Small l y → i + j ≤ low f
    → k + l ≤ emax f
    → Sizable (i + j) (mul f x y)
mul-sizable f x y i j k l a A b B room fine =
    let L = 2 ^ low f in
    let c = A.over * B.over in
    let C = mul-pos A.some B.some in
    let X = A.size * B.size in
    let K = k + l + low f in
    let under : grid f X c < overflow f =
    lt_of_le_of_lt
    (grid-le f X c (2 ^ K) C (held-pow f K)
    (most A.size B.size A.over B.over (2 ^ k) (2 ^ l) L (2 ^ K) powers A.le B.le))
    (pow-lt last) in
    let is = mul-count f x y A.s B.s A.size B.size A.over B.over A.some B.some A.value B.value in
    let v = round-count f (unlike A.s B.s) X c under in
    let least = grid-ge f X c (2 ^ m) C (held-pow f m)
    (above A.size B.size A.over B.over (2 ^ i) (2 ^ j) L (2 ^ m) below (sizable-at i x a _ _ _ A.value)
    (sizable-at j y b _ _ _ B.value)) in
    record {
      s = unlike A.s B.s;
      size = grid f X c;
      over = L;
      some = pow_pos (low f);
      value = subst (λ (z : Float). HasValue z (unlike A.s B.s) (grid f X c) L) (sym is) v;
      ge = le_trans (le_of_eq whole) (mul-le-mul_left (2 ^ (i + j)) least);
    }
  where
    m : ℕ
    m = low f - (i + j)

    split : i + j + m ≡ low f
    split = omega arith

    whole : 2 ^ low f ≡ 2 ^ (i + j) * 2 ^ m
    whole = ap (λ (z : ℕ). 2 ^ z) (sym split) ∙ pow-add 2 (i + j) m

    below : 2 ^ low f ≡ 2 ^ i * 2 ^ j * 2 ^ m
    below = whole ∙ ap (λ (z : ℕ). z * 2 ^ m) (pow-add 2 i j)

    powers : 2 ^ (k + l + low f) ≡ 2 ^ k * 2 ^ l * 2 ^ low f
    powers = pow-add 2 (k + l) (low f) ∙ ap (λ (z : ℕ). z * 2 ^ low f) (pow-add 2 k l)

    last : k + l + low f < low f + suc (emax f)
    last = omega arith

    most : (X Y c d p q L K : ℕ) → K ≡ p * q * L → X ≤ p * c → Y ≤ q * d → X * Y * L ≤ K * (c * d)
    most X Y c d p q L K e u w =
        let z : K * (c * d) ≡ p * q * L * (c * d) = ap (λ (n : ℕ). n * (c * d)) e in
        omega (arith, mul-le-mul_right L (mul-le-mul u w))

    above : (X Y c d p q L M : ℕ) → L ≡ p * q * M → c ≤ p * X → d ≤ q * Y → M * (c * d) ≤ X * Y * L
    above X Y c d p q L M e u w =
        let z : X * Y * L ≡ X * Y * (p * q * M) = ap (λ (n : ℕ). X * Y * n) e in
        omega (arith, mul-le-mul_left M (mul-le-mul u w))

-- ---- the difference of two numbers has the same size either way round
pub record Apart (x y : Float) : Type 0 where
  pub s : Bool
  pub t : Bool
  pub size : ℕ
  pub over : ℕ
  pub some : 0 < over
  pub left : HasValue x s size over
  pub right : HasValue y t size over

-- a rounding of (P - N) / c and one of (N - P) / c
turned_apart : (f : Format) (r q : Float) (P N c k : ℕ) → 0 < c → Rounded f r P N c → Rounded f q N P c → P ≤ N + 2 ^ k * c
    → N ≤ P + 2 ^ k * c → k ≤ emax f
    → Apart r q
turned_apart f r q P N c k C a b u l fine =
    let same : a.size ≡ b.size = sizes a.s b.s a.size b.size a.exact b.exact in
    let K = k + low f in
    let most = exact a.s a.size (2 ^ k) (2 ^ low f) (2 ^ K) (pow-add 2 k (low f)) a.exact u l in
    let under : grid f a.size c < overflow f =
    lt_of_le_of_lt (grid-le f a.size c (2 ^ K) C (held-pow f K) most) (pow-lt last) in
    record {
      s = a.s;
      t = b.s;
      size = grid f a.size c;
      over = 2 ^ low f;
      some = pow_pos (low f);
      left = subst (λ (z : Float). HasValue z a.s (grid f a.size c) (2 ^ low f)) (sym a.is)
          (round-count f a.s a.size c under);
      right = subst (λ (z : Float). HasValue z b.s (grid f a.size c) (2 ^ low f))
          (sym (b.is ∙ ap (λ (z : ℕ). round f b.s z c) (sym same))) (round-count f b.s a.size c under);
    }
  where
    last : k + low f < low f + suc (emax f)
    last = omega arith

    sizes : (s t : Bool) (X Y : ℕ) → SizeOf s X P N → SizeOf t Y N P → X ≡ Y
    sizes true true X Y a b = omega arith
    sizes true false X Y a b = omega arith
    sizes false true X Y a b = omega arith
    sizes false false X Y a b = omega arith

    exact : (s : Bool) (X B L K : ℕ) → K ≡ B * L → SizeOf s X P N → P ≤ N + B * c → N ≤ P + B * c → X * L ≤ K * c
    exact true X B L K e h u l =
        let w : X ≤ B * c = omega arith in
        omega (arith, mul-le-mul_right L w, ap (λ (z : ℕ). z * c) e)
    exact false X B L K e h u l =
        let w : X ≤ B * c = omega arith in
        omega (arith, mul-le-mul_right L w, ap (λ (z : ℕ). z * c) e)

pub sub-apart : (f : Format) (x y : Float) (k : ℕ) → Small k x → Small k y → suc k ≤ emax f → Apart (sub f x y) (sub f y x)
sub-apart f x y k A B fine =
    let c = A.over in
    let d = B.over in
    let C = mul-pos A.some B.some in
    let p = ups A.s A.size in
    let n = downs A.s A.size in
    let q = ups B.s B.size in
    let m = downs B.s B.size in
    let a = sub-rounded f x y p n q m c d A.some B.some (small-diff k x A) (small-diff k y B) in
    let b = sub-rounded f y x q m p n d c B.some A.some (small-diff k y B) (small-diff k x A) in
    let other : Rounded f (sub f y x) (n * d + q * c) (p * d + m * c) (c * d) =
    rounded-at f (sub f y x) (q * c + n * d) (m * c + p * d) (d * c) (n * d + q * c) (p * d + m * c) (c * d)
    (mul-pos B.some A.some) C (turned p n q m c d) b in
    let w = difference-in A.s B.s A.size B.size c d k A.le B.le in
    turned_apart f (sub f x y) (sub f y x) (p * d + m * c) (n * d + q * c) (c * d) (suc k) C a other w.0 w.1 fine
  where
    turned : (p n q m c d : ℕ)
        → (q * c + n * d) * (c * d) + (p * d + m * c) * (d * c) ≡ (n * d + q * c) * (d * c) + (m * c + p * d) * (c * d)
    turned p n q m c d = omega arith
