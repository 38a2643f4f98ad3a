-- Every operation + - * / on finite floats is one rounding of the exact result: Rounded f r P N c says that r is (P - N) / c,
-- rounded once. So what is known of a rounding (Roundings.antt) is known of all four operations, from their exact results.
use Rattle.std.specs.Prelude.{◌≡◌, refl, ℕ, zero, suc, ◌+◌, ◌-◌, ◌*◌, ◌≤◌, ◌<◌, Bool, true, false, not, cond, ◌&&◌, T, ltb, eqb, Float}
use Rattle.std.proofs.Common.{sym, ap, ◌∙◌, subst, mul-pos, mul_comm, mul_assoc, mul_right_comm, zero-lt-suc, arith, ltb→lt, nltb→le, eqb→eq}
use Rattle.std.proofs.Math.Nat.{mul-mul-mul_comm}
use Rattle.std.specs.Bool.{beq}
use Rattle.std.proofs.Math.Dec.{not_T}
use Rattle.std.specs.Float.{nan, inf, fin, Format}
use Rattle.std.specs.Float.Ieee.{up, down, unlike, round, sum, add, sub, mul, div, neg}
use Rattle.std.specs.Float.Ieee.Exact.{HasValue}
use Rattle.std.specs.Float.Ieee.Fits.{down_pos}
use Rattle.std.specs.Float.Ieee.Bits.{cond_no}
use Rattle.std.specs.Float.Ieee.Scale.{round_same}
use Rattle.float_laws.specs.Signed.{Diff, SizeOf, signed_of, diff-mul, minus-mul, neg-diff}
use Rattle.float_laws.specs.Order.{same-ltb}

pub record Rounded (f : Format) (r : Float) (P N c : ℕ) : Type 0 where
  pub s : Bool
  pub size : ℕ
  pub is : r ≡ round f s size c
  pub exact : SizeOf s size P N

-- ---- the sum
sum_same : (f : Format) (s t : Bool) (a b c a' b' c' : ℕ) → 0 < c → 0 < c' → a * c' ≡ a' * c → b * c' ≡ b' * c
    → sum f s a t b c ≡ sum f s a' t b' c'
unfolding sum
sum_same f s t a b c a' b' c' C C' p q =
    let both = round_same f s (a + b) c (a' + b') c' C C' (omega arith) in
    let right = round_same f t (b - a) c (b' - a') c' C C' (less b a b' a' q p) in
    let left = round_same f (s && ltb b a) (a - b) c (a' - b') c' C C' (less a b a' b' p q) in
    let tests = same-ltb a b c a' b' c' C C' p q in
    let tests' = same-ltb b a c b' a' c' C C' q p in
    ap (λ (v : Float). pick v (ltb a b) (round f t (b - a) c) (round f (s && ltb b a) (a - b) c)) both
    ∙ ap (λ (v : Float). pick (round f s (a' + b') c') (ltb a b) v (round f (s && ltb b a) (a - b) c)) right
    ∙ ap (λ (v : Float). pick (round f s (a' + b') c') (ltb a b) (round f t (b' - a') c') v) left
    ∙ ap (λ (u : Bool). pick (round f s (a' + b') c') u (round f t (b' - a') c') (round f (s && ltb b a) (a' - b') c')) tests
    ∙ ap (λ (u : Bool). pick (round f s (a' + b') c') (ltb a' b') (round f t (b' - a') c') (round f (s && u) (a' - b') c')) tests'
  where
    pick : Float → Bool → Float → Float → Float
    pick x u y z = cond (beq s t) x (cond u y z)

    less : (b a b' a' : ℕ) → b * c' ≡ b' * c → a * c' ≡ a' * c → (b - a) * c' ≡ (b' - a') * c
    less b a b' a' q p =
        minus-mul b a c' ∙ ap (λ (z : ℕ). z - a * c') q ∙ ap (λ (z : ℕ). b' * c - z) p ∙ sym (minus-mul b' a' c)

pub add-count : (f : Format) (x y : Float) (s t : Bool) (X Y c : ℕ) → 0 < c → HasValue x s X c → HasValue y t Y c
    → add f x y ≡ sum f s X t Y c
unfolding add
add-count f nan y s t X Y c C h k = absurd h
add-count f (inf u) y s t X Y c C h k = absurd h
add-count f (fin u m e) nan s t X Y c C h k = absurd k
add-count f (fin u m e) (inf v) s t X Y c C h k = absurd k
add-count f (fin u m e) (fin v n g) s t X Y c C (p, h) (q, k) =
    let a = m * up e in
    let b = n * up g in
    ap (λ (z : Bool). sum f z (a * down g) v (b * down e) (down e * down g)) p
    ∙ ap (λ (z : Bool). sum f s (a * down g) z (b * down e) (down e * down g)) q
    ∙ sum_same f s t (a * down g) (b * down e) (down e * down g) X Y c (mul-pos (down_pos e) (down_pos g)) C
    (mul_right_comm a (down g) c ∙ ap (λ (z : ℕ). z * down g) h ∙ mul_assoc X (down e) (down g))
    (mul_right_comm b (down e) c ∙ ap (λ (z : ℕ). z * down e) k ∙ swap Y (down g) (down e))
  where
    swap : (Y d e : ℕ) → Y * d * e ≡ Y * (e * d)
    swap Y d e = omega arith

sum-rounded : (f : Format) (s t : Bool) (X Y c p n q k : ℕ) → SizeOf s X p n → SizeOf t Y q k
    → Rounded f (sum f s X t Y c) (p + q) (n + k) c
unfolding sum
sum-rounded f true true X Y c p n q k a b = record { s = true; size = X + Y; is = refl; exact = omega arith }
sum-rounded f false false X Y c p n q k a b = record { s = false; size = X + Y; is = refl; exact = omega arith }
sum-rounded f false true X Y c p n q k a b = go (ltb X Y) (ltb→lt X Y) (nltb→le X Y)
  where
    go : (z : Bool) → (T z → X < Y) → (T (not z) → Y ≤ X)
        → Rounded f (cond z (round f true (Y - X) c) (round f false (X - Y) c)) (p + q) (n + k) c
    go true x y = let w = x tt in record { s = true; size = Y - X; is = refl; exact = omega arith }
    go false x y = let w = y tt in record { s = false; size = X - Y; is = refl; exact = omega arith }
sum-rounded f true false X Y c p n q k a b = go (ltb X Y) (ltb→lt X Y) (nltb→le X Y) (ltb Y X) (nltb→le Y X)
  where
    go : (z : Bool) → (T z → X < Y) → (T (not z) → Y ≤ X) → (v : Bool) → (T (not v) → X ≤ Y)
        → Rounded f (cond z (round f false (Y - X) c) (round f v (X - Y) c)) (p + q) (n + k) c
    go true x y v o = let w = x tt in record { s = false; size = Y - X; is = refl; exact = omega arith }
    go false x y true o = let w = y tt in record { s = true; size = X - Y; is = refl; exact = omega arith }
    go false x y false o =
        let w = y tt in
        let w' = o tt in
        record { s = false; size = X - Y; is = refl; exact = omega arith }

-- ---- the product and the quotient, by sign and size
pub mul-count : (f : Format) (x y : Float) (s t : Bool) (X Y c d : ℕ) → 0 < c → 0 < d → HasValue x s X c → HasValue y t Y d
    → mul f x y ≡ round f (unlike s t) (X * Y) (c * d)
unfolding mul
mul-count f nan y s t X Y c d C D h k = absurd h
mul-count f (inf u) y s t X Y c d C D h k = absurd h
mul-count f (fin u m e) nan s t X Y c d C D h k = absurd k
mul-count f (fin u m e) (inf v) s t X Y c d C D h k = absurd k
mul-count f (fin u m e) (fin v n g) s t X Y c d C D (p, h) (q, k) =
    let a = m * up e in
    let b = n * up g in
    ap (λ (z : Bool). round f (unlike z v) (a * b) (down e * down g)) p
    ∙ ap (λ (z : Bool). round f (unlike s z) (a * b) (down e * down g)) q
    ∙ round_same f (unlike s t) (a * b) (down e * down g) (X * Y) (c * d) (mul-pos (down_pos e) (down_pos g)) (mul-pos C D)
    (mul-mul-mul_comm a b c d
    ∙ ap (λ (z : ℕ). z * (b * d)) h
    ∙ ap (λ (z : ℕ). X * down e * z) k
    ∙ mul-mul-mul_comm X (down e) Y (down g))

pub div-count : (f : Format) (x y : Float) (s t : Bool) (X Y c d : ℕ) → 0 < c → 0 < d → 0 < Y → HasValue x s X c
    → HasValue y t Y d
    → div f x y ≡ round f (unlike s t) (X * d) (Y * c)
unfolding div
div-count f nan y s t X Y c d C D P h k = absurd h
div-count f (inf u) y s t X Y c d C D P h k = absurd h
div-count f (fin u m e) nan s t X Y c d C D P h k = absurd k
div-count f (fin u m e) (inf v) s t X Y c d C D P h k = absurd k
div-count f (fin u m e) (fin v n g) s t X Y c d C D P (p, h) (q, k) =
    let a = m * up e in
    let b = n * up g in
    let some : 0 < b * d = subst (λ (z : ℕ). 0 < z) (sym k) (mul-pos P (down_pos g)) in
    let nonzero = not_T (eqb n 0) (λ z. no_zero n (up g) (eqb→eq n 0 z) some) in
    cond_no (eqb n 0) (cond (eqb m 0) nan (inf (unlike u v))) (round f (unlike u v) (a * down g) (b * down e)) nonzero
    ∙ ap (λ (z : Bool). round f (unlike z v) (a * down g) (b * down e)) p
    ∙ ap (λ (z : Bool). round f (unlike s z) (a * down g) (b * down e)) q
    ∙ round_same f (unlike s t) (a * down g) (b * down e) (X * d) (Y * c) (mul-pos (factor b some) (down_pos e)) (mul-pos P C)
    (cross a b (down e) (down g) h k)
  where
    no_zero : (n u : ℕ) → n ≡ 0 → 0 < n * u * d → ⊥
    no_zero n u e l = let z : n * u * d ≡ 0 * u * d = ap (λ (w : ℕ). w * u * d) e in omega arith

    factor : (b : ℕ) → 0 < b * d → 0 < b
    factor zero l = omega arith
    factor (suc b) l = zero-lt-suc b

    cross : (a b e g : ℕ) → a * c ≡ X * e → b * d ≡ Y * g → a * g * (Y * c) ≡ X * d * (b * e)
    cross a b e g h k =
        let l : a * c * (Y * g) ≡ X * e * (Y * g) = ap (λ (z : ℕ). z * (Y * g)) h in
        let r : X * e * (b * d) ≡ X * e * (Y * g) = ap (λ (z : ℕ). X * e * z) k in
        omega arith

-- b is X above a, and d is Y above c: the product of the two differences
multiplied : (X Y a b c d : ℕ) → X + a ≡ b → Y + c ≡ d → X * Y + (a * d + b * c) ≡ b * d + a * c
multiplied X Y a b c d x y =
    let b-is = sym x in
    let d-is = sym y in
    let e : b * d ≡ (X + a) * (Y + c) = ap (λ (z : ℕ). z * d) b-is ∙ ap (λ (z : ℕ). (X + a) * z) d-is in
    omega (arith, e, ap (λ (z : ℕ). z * c) b-is, ap (λ (z : ℕ). a * z) d-is)

-- (p - n) * (q - k), by sign and size
product-size : (s t : Bool) (X Y p n q k : ℕ) → SizeOf s X p n → SizeOf t Y q k
    → SizeOf (unlike s t) (X * Y) (p * q + n * k) (p * k + n * q)
product-size true true X Y p n q k a b = omega (arith, multiplied X Y p n q k a b)
product-size true false X Y p n q k a b = omega (arith, multiplied X Y p n k q a b)
product-size false true X Y p n q k a b = omega (arith, multiplied X Y n p q k a b)
product-size false false X Y p n q k a b = omega (arith, multiplied X Y n p k q a b)

-- ---- the four operations, by fractions: sums over one denominator, and over any two
pub add-over : (f : Format) (x y : Float) (p n q k c : ℕ) → 0 < c → Diff x p n c → Diff y q k c
    → Rounded f (add f x y) (p + q) (n + k) c
add-over f x y p n q k c C a b =
    let A = signed_of x p n c a in
    let B = signed_of y q k c b in
    let is = add-count f x y A.s B.s A.size B.size c C A.value B.value in
    subst (λ (v : Float). Rounded f v (p + q) (n + k) c) (sym is)
    (sum-rounded f A.s B.s A.size B.size c p n q k A.is B.is)

-- x - y is x + (- y)
pub sub-over : (f : Format) (x y : Float) (p n q k c : ℕ) → 0 < c → Diff x p n c → Diff y q k c
    → Rounded f (sub f x y) (p + k) (n + q) c
unfolding sub
sub-over f x y p n q k c C a b = add-over f x (neg y) p n k q c C a (neg-diff y q k c b)

module _ (f : Format) (x y : Float) (p n q k c d : ℕ) (C : 0 < c) (D : 0 < d) (a : Diff x p n c) (b : Diff y q k d) where
  x-over : Diff x (p * d) (n * d) (c * d)
  x-over = diff-mul x p n c d C a

  y-over : Diff y (q * c) (k * c) (c * d)
  y-over = subst (λ (z : ℕ). Diff y (q * c) (k * c) z) (mul_comm d c) (diff-mul y q k d c D b)

  pub add-rounded : Rounded f (add f x y) (p * d + q * c) (n * d + k * c) (c * d)
  add-rounded = add-over f x y (p * d) (n * d) (q * c) (k * c) (c * d) (mul-pos C D) x-over y-over

  pub sub-rounded : Rounded f (sub f x y) (p * d + k * c) (n * d + q * c) (c * d)
  sub-rounded = sub-over f x y (p * d) (n * d) (q * c) (k * c) (c * d) (mul-pos C D) x-over y-over

  pub mul-rounded : Rounded f (mul f x y) (p * q + n * k) (p * k + n * q) (c * d)
  mul-rounded =
      let A = signed_of x p n c a in
      let B = signed_of y q k d b in
      record {
        s = unlike A.s B.s;
        size = A.size * B.size;
        is = mul-count f x y A.s B.s A.size B.size c d C D A.value B.value;
        exact = product-size A.s B.s A.size B.size p n q k A.is B.is;
      }

-- x / y, if y has the size Y / d and the sign t: the sign goes to the numerator
abbrev pub signed_by : Bool → ℕ → ℕ → ℕ
signed_by true p n = n
signed_by false p n = p

pub div-rounded : (f : Format) (x y : Float) (p n c : ℕ) (t : Bool) (Y d : ℕ) → 0 < c → 0 < d → 0 < Y
    → Diff x p n c → HasValue y t Y d
    → Rounded f (div f x y) (signed_by t p n * d) (signed_by t n p * d) (Y * c)
div-rounded f x y p n c t Y d C D P a b =
    let A = signed_of x p n c a in
    record {
      s = unlike A.s t;
      size = A.size * d;
      is = div-count f x y A.s t A.size Y c d C D P A.value b;
      exact = quotient A.s t A.size A.is;
    }
  where
    quotient : (s t : Bool) (X : ℕ) → SizeOf s X p n → SizeOf (unlike s t) (X * d) (signed_by t p n * d) (signed_by t n p * d)
    quotient true true X e = omega (arith, ap (λ (z : ℕ). z * d) e)
    quotient true false X e = omega (arith, ap (λ (z : ℕ). z * d) e)
    quotient false true X e = omega (arith, ap (λ (z : ℕ). z * d) e)
    quotient false false X e = omega (arith, ap (λ (z : ℕ). z * d) e)
