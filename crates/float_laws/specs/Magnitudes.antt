-- Magnitudes that survive rounding: if |x| ≤ 2 ^ i and |y| ≤ 2 ^ j units, then the rounded x * y, x + y, x - y and x / y are
-- finite and within the bound of the exact result, since rounding does not cross a power of two. Within f K x counts in units of
-- the format's smallest value: a bound of 2 ^ a itself is Within f (a + low f).
use Rattle.std.specs.Prelude.{◌≡◌, ℕ, suc, ◌+◌, ◌*◌, ◌^◌, ◌≤◌, ◌<◌, Bool, true, false, not, T, pos, Float}
use Rattle.std.proofs.Common.{sym, ap, ◌∙◌, mul-pos, mul-le-mul, mul-le-mul_right, le_trans, le_of_eq, zero-lt-suc, arith, pow-add, pow_pos, pow_mono}
use Rattle.std.proofs.Math.Nat.{pow-succ'}
use Rattle.std.specs.Float.{nan, inf, fin, Format}
use Rattle.std.specs.Float.Ieee.{emax, low, neg, add, sub, mul, div, le, fits}
use Rattle.std.specs.Float.Ieee.Exact.{HasValue}
use Rattle.std.specs.Float.Ieee.Scale.{finite}
use Rattle.float_laws.specs.Count.{counted}
use Rattle.float_laws.specs.Signed.{Diff, ups, downs, own-diff, neg_value, diff-finite}
use Rattle.float_laws.specs.Order.{le-diff}
use Rattle.float_laws.specs.Rounded.{add-rounded, sub-rounded, mul-rounded, div-rounded, signed_by}
use Rattle.float_laws.specs.Roundings.{Within, rounded-within}

in-diff : (f : Format) (K : ℕ) (x : Float) (w : Within f K x)
    → Diff x (ups w.s w.count) (downs w.s w.count) (2 ^ low f)
in-diff f K x w = own-diff x w.s w.count (2 ^ low f) w.value

pub within-finite : (f : Format) (K : ℕ) (x : Float) → Within f K x → T (finite x)
within-finite f K x w = diff-finite x _ _ (2 ^ low f) (in-diff f K x w)

-- a wider bound
pub within-up : (f : Format) (i j : ℕ) (x : Float) → i ≤ j → Within f i x → Within f j x
within-up f i j x l w = record { s = w.s; count = w.count; value = w.value; le = le_trans w.le (pow_mono l) }

-- unchanged, except for the sign
pub neg-within : (f : Format) (K : ℕ) (x : Float) → Within f K x → Within f K (neg x)
neg-within f K x w =
    record { s = not w.s; count = w.count; value = neg_value x w.s w.count (2 ^ low f) w.value; le = w.le }

-- ---- sums: 2 ^ k and 2 ^ k make 2 ^ (k + 1)
sum-in : (s t : Bool) (X Y B K L : ℕ) → K ≡ 2 * B → X ≤ B → Y ≤ B
    → ((ups s X * L + ups t Y * L) * L ≤ (downs s X * L + downs t Y * L) * L + K * (L * L))
    × ((downs s X * L + downs t Y * L) * L ≤ (ups s X * L + ups t Y * L) * L + K * (L * L))
sum-in s t X Y B K L e a b =
    go s t (mul-le-mul_right (L * L) a) (mul-le-mul_right (L * L) b) (ap (λ (z : ℕ). z * (L * L)) e)
  where
    go : (s t : Bool) → X * (L * L) ≤ B * (L * L) → Y * (L * L) ≤ B * (L * L) → K * (L * L) ≡ 2 * B * (L * L)
        → ((ups s X * L + ups t Y * L) * L ≤ (downs s X * L + downs t Y * L) * L + K * (L * L))
        × ((downs s X * L + downs t Y * L) * L ≤ (ups s X * L + ups t Y * L) * L + K * (L * L))
    go true true x y z = (omega arith, omega arith)
    go true false x y z = (omega arith, omega arith)
    go false true x y z = (omega arith, omega arith)
    go false false x y z = (omega arith, omega arith)

module _ (f : Format) (x y : Float) (k : ℕ) (A : Within f k x) (B : Within f k y) (fine : suc k < low f + suc (emax f)) where
  pub add-within : Within f (suc k) (add f x y)
  add-within =
      let L = 2 ^ low f in
      let P = pow_pos (low f) in
      let r = add-rounded f x y _ _ _ _ L L P P (in-diff f k x A) (in-diff f k y B) in
      let m = sum-in A.s B.s A.count B.count (2 ^ k) (2 ^ suc k) L (pow-succ' 2 k) A.le B.le in
      rounded-within f (add f x y) _ _ (L * L) (suc k) r (mul-pos P P) m.0 m.1 fine

  pub sub_within : Within f (suc k) (sub f x y)
  sub_within =
      let L = 2 ^ low f in
      let P = pow_pos (low f) in
      let r = sub-rounded f x y _ _ _ _ L L P P (in-diff f k x A) (in-diff f k y B) in
      let m = turned A.s B.s A.count B.count L A.le B.le in
      rounded-within f (sub f x y) _ _ (L * L) (suc k) r (mul-pos P P) m.0 m.1 fine
    where
      turned : (s t : Bool) (X Y L : ℕ) → X ≤ 2 ^ k → Y ≤ 2 ^ k
          → ((ups s X * L + downs t Y * L) * L ≤ (downs s X * L + ups t Y * L) * L + 2 ^ suc k * (L * L))
          × ((downs s X * L + ups t Y * L) * L ≤ (ups s X * L + downs t Y * L) * L + 2 ^ suc k * (L * L))
      turned s true X Y L a b = sum-in s false X Y (2 ^ k) (2 ^ suc k) L (pow-succ' 2 k) a b
      turned s false X Y L a b = sum-in s true X Y (2 ^ k) (2 ^ suc k) L (pow-succ' 2 k) a b

-- ---- products: 2 ^ i and 2 ^ j units make 2 ^ k, where i + j is low + k
product-in : (s t : Bool) (X Y L K : ℕ) → X * Y ≤ L * K
    → ((ups s X * ups t Y + downs s X * downs t Y) * L ≤ (ups s X * downs t Y + downs s X * ups t Y) * L + K * (L * L))
    × ((ups s X * downs t Y + downs s X * ups t Y) * L ≤ (ups s X * ups t Y + downs s X * downs t Y) * L + K * (L * L))
product-in true true X Y L K h = let w = mul-le-mul_right L h in (omega arith, omega arith)
product-in true false X Y L K h = let w = mul-le-mul_right L h in (omega arith, omega arith)
product-in false true X Y L K h = let w = mul-le-mul_right L h in (omega arith, omega arith)
product-in false false X Y L K h = let w = mul-le-mul_right L h in (omega arith, omega arith)

pub mul-within : (f : Format) (x y : Float) (i j k : ℕ) → Within f i x → Within f j y → i + j ≡ low f + k
    → k < low f + suc (emax f)
    → Within f k (mul f x y)
mul-within f x y i j k A B e fine =
    let L = 2 ^ low f in
    let P = pow_pos (low f) in
    let r = mul-rounded f x y _ _ _ _ L L P P (in-diff f i x A) (in-diff f j y B) in
    let powers : 2 ^ i * 2 ^ j ≡ L * 2 ^ k = sym (pow-add 2 i j) ∙ ap (λ (z : ℕ). 2 ^ z) e ∙ pow-add 2 (low f) k in
    let m = product-in A.s B.s A.count B.count L (2 ^ k) (le_trans (mul-le-mul A.le B.le) (le_of_eq powers)) in
    rounded-within f (mul f x y) _ _ (L * L) k r (mul-pos P P) m.0 m.1 fine

-- ---- quotients: 2 ^ i units by at least 2 ^ j make 2 ^ k, where i + low is j + k
quotient-in : (s t : Bool) (X Y L K : ℕ) → X * L ≤ Y * K
    → (signed_by t (ups s X) (downs s X) * L * L ≤ signed_by t (downs s X) (ups s X) * L * L + K * (Y * L))
    × (signed_by t (downs s X) (ups s X) * L * L ≤ signed_by t (ups s X) (downs s X) * L * L + K * (Y * L))
quotient-in true true X Y L K h = let w = mul-le-mul_right L h in (omega arith, omega arith)
quotient-in true false X Y L K h = let w = mul-le-mul_right L h in (omega arith, omega arith)
quotient-in false true X Y L K h = let w = mul-le-mul_right L h in (omega arith, omega arith)
quotient-in false false X Y L K h = let w = mul-le-mul_right L h in (omega arith, omega arith)

pub div-within : (f : Format) (x y : Float) (t : Bool) (Y i j k : ℕ) → Within f i x → HasValue y t Y (2 ^ low f) → 2 ^ j ≤ Y
    → i + low f ≡ j + k → k < low f + suc (emax f) → Within f k (div f x y)
div-within f x y t Y i j k A v l e fine =
    let L = 2 ^ low f in
    let P = pow_pos (low f) in
    let some : 0 < Y = le_trans (pow_pos j) l in
    let r = div-rounded f x y _ _ L t Y L P P some (in-diff f i x A) v in
    let powers : 2 ^ i * L ≡ 2 ^ j * 2 ^ k = sym (pow-add 2 i (low f)) ∙ ap (λ (z : ℕ). 2 ^ z) e ∙ pow-add 2 j k in
    let top : A.count * L ≤ Y * 2 ^ k =
    le_trans (mul-le-mul_right L A.le) (le_trans (le_of_eq powers) (mul-le-mul_right (2 ^ k) l)) in
    let m = quotient-in A.s t A.count Y L (2 ^ k) top in
    rounded-within f (div f x y) _ _ (Y * L) k r (mul-pos some P) m.0 m.1 fine

-- ---- from comparisons, as contracts write them: -(2 ^ a) ≤ x ≤ 2 ^ a
between : (x : Float) (a : ℕ) → T (le (fin true 1 (pos a)) x) → T (le x (fin false 1 (pos a))) → T (finite x)
unfolding le
between nan a h k = absurd h
between (inf true) a h k = absurd h
between (inf false) a h k = absurd k
between (fin s m e) a h k = tt

pub within-of-le : (f : Format) (x : Float) (a : ℕ) → T (fits f x) → T (le (fin true 1 (pos a)) x)
    → T (le x (fin false 1 (pos a)))
    → Within f (a + low f) x
within-of-le f x a t h k =
    let c = counted f x (between x a h k) t in
    let L = 2 ^ low f in
    let v = own-diff x c.s c.count L c.value in
    let P = pow_pos (low f) in
    let one = zero-lt-suc 0 in
    let least = (le-diff (fin true 1 (pos a)) x 0 (2 ^ a) 1 _ _ L one P (omega arith) v).0 h in
    let most = (le-diff x (fin false 1 (pos a)) _ _ L (2 ^ a) 0 1 P one v (omega arith)).0 k in
    record {
      s = c.s;
      count = c.count;
      value = c.value;
      le = le_trans (size c.s c.count L (2 ^ a) least most) (le_of_eq (sym (pow-add 2 a (low f))));
    }
  where
    size : (s : Bool) (X L A : ℕ) → 0 * L + downs s X * 1 ≤ ups s X * 1 + A * L → ups s X * 1 + 0 * L ≤ A * L + downs s X * 1
        → X ≤ A * L
    size true X L A u w = omega arith
    size false X L A u w = omega arith
