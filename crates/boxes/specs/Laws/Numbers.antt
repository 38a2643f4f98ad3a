-- The sum or the difference of two f64 of which the second is not zero is never -0: the exact value is not zero or has no sign,
-- and it is a whole number of units, so it does not round to zero. The coordinates and the margin of a segment that passed its
-- checks are such numbers, and small.
use Rattle.std.specs.Prelude.{◌≡◌, refl, ◌≢◌, Bool, true, false, not, cond, ℕ, suc, ◌+◌, ◌-◌, ◌*◌, ◌^◌, ◌≤◌, ◌<◌, T, ltb, ℤ, Float}
use Rattle.std.proofs.Common.{sym, ap, ◌∙◌, subst, le_trans, le_of_eq, lt_of_le_of_lt, mul-le-mul_right, mul-pos, le_of_mul-le-mul_right, zero-lt-suc, arith, ltb→lt, lit≤, pow-add, pow_pos}
use Rattle.std.proofs.lemmas.Bool.{false≢true}
use Rattle.std.proofs.Math.Nat.{eq_of_mul-eq-mul_right, pow-succ'}
use Rattle.std.proofs.Math.Pow.{pow-lt}
use Rattle.std.specs.Float.{nan, inf, fin, Format, binary64}
use Rattle.std.specs.Float.Ieee.{emax, low, up, down, round, sum, add, sub, neg, fits, is_nan, of_bits}
use Rattle.std.specs.Float.Ieee.Bits.{of_bits-fits}
use Rattle.std.specs.Float.Ieee.Exact.{HasValue}
use Rattle.std.specs.Float.Ieee.Fits.{add-fits, down_pos}
use Rattle.std.specs.Float.Ieee.Scale.{grid, finite}
use Rattle.float_laws.specs.Best.{held-pow, grid-le, grid-ge}
use Rattle.float_laws.specs.Count.{counted, round-count, round-real}
use Rattle.float_laws.specs.Signed.{Diff, ups, downs, own-diff, diff-finite, neg_value}
use Rattle.float_laws.specs.Order.{le-diff}
use Rattle.float_laws.specs.Chains.{written-diff, between-finite}
use Rattle.float_laws.specs.Rounded.{Rounded, add-count, add-rounded, sub-rounded}
use Rattle.float_laws.specs.Roundings.{Within, rounded-le, rounded-ge}
use Rattle.float_laws.specs.Binary64.{unit, unit-is, between64}
use Rattle.floats.specs.Ops.{◌⊕◌, ◌⊖◌, ◌≼◌, f0}
use Rattle.checks.specs.Limit
use Rattle.checks.specs.Chord.{Length, chord_most}
use Rattle.checks.specs.Laws.Fine as fine
use Rattle.float_laws.specs.Sizes.{Small}

-- ---- a sum whose second operand is not zero: one rounding, of a size above zero if it has a minus
record Made (f : Format) (r : Float) (c most : ℕ) : Type 0 where
  pub s : Bool
  pub size : ℕ
  pub is : r ≡ round f s size c
  pub some : s ≡ true → 0 < size
  pub le : size ≤ most

sum-made : (f : Format) (s t : Bool) (X Y c : ℕ) → 0 < Y → Made f (sum f s X t Y c) c (X + Y)
unfolding sum
sum-made f true true X Y c h = record { s = true; size = X + Y; is = refl; some = λ e. omega arith; le = omega arith }
sum-made f false false X Y c h = record { s = false; size = X + Y; is = refl; some = λ e. omega arith; le = omega arith }
sum-made f false true X Y c h = go (ltb X Y) (ltb→lt X Y)
  where
    go : (z : Bool) → (T z → X < Y) → Made f (cond z (round f true (Y - X) c) (round f false (X - Y) c)) c (X + Y)
    go true l =
        let w = l tt in
        record { s = true; size = Y - X; is = refl; some = λ e. omega arith; le = omega arith }
    go false l = record { s = false; size = X - Y; is = refl; some = λ e. absurd (false≢true e); le = omega arith }
sum-made f true false X Y c h = go (ltb X Y) (ltb Y X) (ltb→lt Y X)
  where
    go : (z w : Bool) → (T w → Y < X) → Made f (cond z (round f false (Y - X) c) (round f w (X - Y) c)) c (X + Y)
    go true w l = record { s = false; size = Y - X; is = refl; some = λ e. absurd (false≢true e); le = omega arith }
    go false true l =
        let w = l tt in
        record { s = true; size = X - Y; is = refl; some = λ e. omega arith; le = omega arith }
    go false false l = record { s = false; size = X - Y; is = refl; some = λ e. absurd (false≢true e); le = omega arith }

-- ---- so it is a number and not -0, if it is small
pub record Number (r : Float) : Type 0 where
  pub is_finite : T (finite r)
  pub not-minus-zero : (e : ℤ) → r ≢ fin true 0 e

made-number : (f : Format) (r : Float) (K : ℕ) → Made f r (2 ^ low f) (2 ^ K) → K < low f + suc (emax f) → Number r
made-number f r K m room =
    let L = 2 ^ low f in
    let P = pow_pos (low f) in
    let G = grid f m.size L in
    let most : G ≤ 2 ^ K = grid-le f m.size L (2 ^ K) P (held-pow f K) (mul-le-mul_right L m.le) in
    let value : HasValue r m.s G L =
    subst (λ (z : Float). HasValue z m.s G L) (sym m.is)
    (round-count f m.s m.size L (lt_of_le_of_lt most (pow-lt room))) in
    record {
      is_finite = diff-finite r _ _ L (own-diff r m.s G L value);
      not-minus-zero = λ e same.
          let v : HasValue (fin true 0 e) m.s G L = subst (λ (z : Float). HasValue z m.s G L) same value in
          let one : 2 ^ 0 ≤ G = grid-ge f m.size L (2 ^ 0) P (held-pow f 0) (mul-le-mul_right L (m.some (sym v.0))) in
          never (up e) L G (down e) v.1 (mul-pos one (down_pos e));
    }
  where
    never : (u L G d : ℕ) → 0 * u * L ≡ G * d → 0 < G * d → ⊥
    never u L G d e l = omega arith

module _ (f : Format) (x y : Float) (K : ℕ) (t : Bool) (Y : ℕ) (A : Within f K x) (v : HasValue y t Y (2 ^ low f))
    (some : 0 < Y) (le : Y ≤ 2 ^ K) (room : suc K < low f + suc (emax f)) where
  pub add-number : Number (add f x y)
  add-number =
      let L = 2 ^ low f in
      let m = sum-made f A.s t A.count Y L some in
      made-number f (add f x y) (suc K)
      (record {
        s = m.s;
        size = m.size;
        is = add-count f x y A.s t A.count Y L (pow_pos (low f)) A.value v ∙ m.is;
        some = m.some;
        le = le_trans m.le (twice A.count A.le);
      })
      room
    where
      twice : (X : ℕ) → X ≤ 2 ^ K → X + Y ≤ 2 ^ suc K
      twice X l = omega (arith, pow-succ' 2 K)

pub sub_number : (f : Format) (x y : Float) (K : ℕ) (t : Bool) (Y : ℕ) → Within f K x → HasValue y t Y (2 ^ low f) → 0 < Y
    → Y ≤ 2 ^ K → suc K < low f + suc (emax f) → Number (sub f x y)
unfolding sub
sub_number f x y K t Y A v some le room =
    add-number f x (neg y) K (not t) Y A (neg_value y t Y (2 ^ low f) v) some le room

-- ---- a coordinate, in units
value_same : (x : Float) (s t : Bool) (X Y c d : ℕ) → HasValue x s X c → HasValue x t Y d → X * d ≡ Y * c
value_same nan s t X Y c d h k = absurd h
value_same (inf u) s t X Y c d h k = absurd h
value_same (fin u m e) s t X Y c d h k =
    eq_of_mul-eq-mul_right (down e) (down_pos e) (X * d) (Y * c) (go (m * up e) (down e) h.1 k.1)
  where
    go : (a g : ℕ) → a * c ≡ X * g → a * d ≡ Y * g → X * d * g ≡ Y * c * g
    go a g p q =
        let l : a * c * d ≡ X * g * d = ap (λ (z : ℕ). z * d) p in
        let r : a * d * c ≡ Y * g * c = ap (λ (z : ℕ). z * c) q in
        omega arith

pub small-within : (f : Format) (k : ℕ) (x : Float) → T (fits f x) → Small k x → Within f (k + low f) x
small-within f k x fit a =
    let L = 2 ^ low f in
    let number = diff-finite x _ _ a.over (own-diff x a.s a.size a.over a.value) in
    let n = counted f x number fit in
    let same = value_same x n.s a.s n.count a.size L a.over n.value a.value in
    record {
      s = n.s;
      count = n.count;
      value = n.value;
      le = le_trans (go n.count a.size a.over L (2 ^ k) a.some same a.le) (le_of_eq (sym (pow-add 2 k (low f))));
    }
  where
    go : (X S c L B : ℕ) → 0 < c → X * c ≡ S * L → S ≤ B * c → X ≤ B * L
    go X S c L B C e l =
        let w = mul-le-mul_right L l in
        le_of_mul-le-mul_right {m = X} {n = B * L} {k = c} (omega arith) C

-- ---- the margin, in units: above zero, and at most 2 ^ 23
pub record Outward (f : Format) (m : Float) : Type 0 where
  pub count : ℕ
  pub value : HasValue m false count (2 ^ low f)
  pub some : 0 < count
  pub le : count ≤ 2 ^ (23 + low f)

pub outward-finite : (m : Float) → Outward binary64 m → T (finite m)
outward-finite m h = diff-finite m _ _ (2 ^ low binary64) (own-diff m false h.count (2 ^ low binary64) h.value)

one : 0 < 1
one = zero-lt-suc 0

-- 2^23
most : Float
most = of_bits binary64 0x4160_0000_0000_0000

most-is : Diff most (2 ^ 23) 0 1
unfolding most of_bits
most-is = omega arith

most-fits : T (fits binary64 most)
unfolding most
most-fits = of_bits-fits binary64 0x4160_0000_0000_0000

least-is : Diff Limit.epsilon_least 1 0 (2 ^ 40)
unfolding of_bits
least-is = omega arith

half_is : Diff Limit.epsilon_most 1 0 2
unfolding of_bits
half_is = omega arith

pub zero_is : Diff f0 0 0 1
unfolding of_bits
zero_is = omega arith

chord-most-is : Diff chord_most (2 ^ 22) 0 1
unfolding of_bits
chord-most-is = omega arith

outward : (m : Float) → T (fits binary64 m) → T (Limit.epsilon_least ≼ m) → T (m ≼ most) → Outward binary64 m
outward m fit least over =
    let b = between64 m Limit.epsilon_least most (2 ^ 40) (2 ^ 23) 1 fit least-is most-is (lit≤ tt) (lit≤ tt) least over in
    record {
      count = b.X;
      value = subst (λ (L : ℕ). HasValue m false b.X L) unit-is b.value;
      some = b.some;
      le = le_trans (plain b.X unit b.most) (le_trans (le_of_eq (ap (λ (L : ℕ). 2 ^ 23 * L) unit-is))
          (le_of_eq (sym (pow-add 2 23 (low binary64)))));
    }
  where
    plain : (X L : ℕ) → X * 1 ≤ 2 ^ 23 * L → X ≤ 2 ^ 23 * L
    plain X L h = omega arith

-- a finite float as some fraction
pub record Fraction (x : Float) : Type 0 where
  pub p : ℕ
  pub n : ℕ
  pub over : ℕ
  pub positive : 0 < over
  pub is : Diff x p n over

pub fraction : (x : Float) → T (finite x) → Fraction x
fraction nan t = absurd t
fraction (inf s) t = absurd t
fraction (fin s m e) t =
    record { p = ups s (m * up e); n = downs s (m * up e); over = down e; positive = down_pos e; is = written-diff s m e }

-- ---- the sum and the difference of finite floats are no NaN
module _ (x y : Float) (A : T (finite x)) (B : T (finite y)) where
  a : Fraction x
  a = fraction x A

  b : Fraction y
  b = fraction y B

  rounded-real : (r : Float) (P N c : ℕ) → Rounded binary64 r P N c → is_nan r ≡ false
  rounded-real r P N c h = ap is_nan h.is ∙ round-real binary64 h.s h.size c

  pub add-real : is_nan (x ⊕ y) ≡ false
  add-real =
      rounded-real (x ⊕ y) _ _ _
      (add-rounded binary64 x y a.p a.n b.p b.n a.over b.over a.positive b.positive a.is b.is)

  pub sub-real : is_nan (x ⊖ y) ≡ false
  sub-real =
      rounded-real (x ⊖ y) _ _ _
      (sub-rounded binary64 x y a.p a.n b.p b.n a.over b.over a.positive b.positive a.is b.is)

-- ---- the margin of a line, and of an arc
pub epsilon-outward : (e : Float) → T (fits binary64 e) → fine.Between Limit.epsilon_least Limit.epsilon_most e → Outward binary64 e
epsilon-outward e fit b =
    let x = fraction e b.number in
    let h = (le-diff e Limit.epsilon_most x.p x.n x.over 1 0 2 x.positive (lit≤ tt) x.is half_is).0 b.below in
    outward e fit b.above
    ((le-diff e most x.p x.n x.over (2 ^ 23) 0 1 x.positive (lit≤ tt) x.is most-is).1
    (plain x.p x.n x.over h))
  where
    plain : (p n d : ℕ) → p * 2 + 0 * d ≤ 1 * d + n * 2 → p * 1 + 0 * d ≤ 2 ^ 23 * d + n * 1
    plain p n d h = omega arith

-- the chord is from 0 to 2 ^ 22, and epsilon from 2 ^ -40 to 1/2: so is the exact sum from 2 ^ -40 to 2 ^ 23
module _ (c e : Float) (l : Length c) (b : fine.Between Limit.epsilon_least Limit.epsilon_most e) where
  from_zero : T (f0 ≼ c)
  from_zero = subst T (sym l.least) tt

  to-most : T (c ≼ chord_most)
  to-most = subst T (sym l.most) tt

  x : Fraction c
  x =
      fraction c
      (between-finite f0 c chord_most (diff-finite f0 0 0 1 zero_is) (diff-finite chord_most (2 ^ 22) 0 1 chord-most-is) from_zero
      to-most)

  y : Fraction e
  y = fraction e b.number

  sum_is : Rounded binary64 (c ⊕ e) (x.p * y.over + y.p * x.over) (x.n * y.over + y.n * x.over) (x.over * y.over)
  sum_is = add-rounded binary64 c e x.p x.n y.p y.n x.over y.over x.positive y.positive x.is y.is

  at_least : T (Limit.epsilon_least ≼ (c ⊕ e))
  at_least =
      let i = (le-diff f0 c 0 0 1 x.p x.n x.over one x.positive zero_is x.is).0 from_zero in
      let j = (le-diff Limit.epsilon_least e 1 0 (2 ^ 40) y.p y.n y.over (lit≤ tt) y.positive least-is y.is).0
      b.above in
      rounded-ge binary64 (c ⊕ e) _ _ _ sum_is (mul-pos x.positive y.positive) Limit.epsilon_least 1 0 (2 ^ 40) (lit≤ tt)
      (of_bits-fits binary64 0x3d70_0000_0000_0000)
      least-is
      (plain x.p x.n x.over y.p y.n y.over i j)
    where
      plain : (p n d q k g : ℕ) → 0 * d + n * 1 ≤ p * 1 + 0 * d → 1 * g + k * 2 ^ 40 ≤ q * 2 ^ 40 + 0 * g
          → 1 * (d * g) + (n * g + k * d) * 2 ^ 40 ≤ (p * g + q * d) * 2 ^ 40 + 0 * (d * g)
      plain p n d q k g i j = omega (arith, mul-le-mul_right g i, mul-le-mul_right d j)

  at-most-lem : T ((c ⊕ e) ≼ most)
  at-most-lem =
      let i = (le-diff c chord_most x.p x.n x.over (2 ^ 22) 0 1 x.positive one x.is chord-most-is).0 to-most in
      let j = (le-diff e Limit.epsilon_most y.p y.n y.over 1 0 2 y.positive (lit≤ tt) y.is half_is).0 b.below in
      rounded-le binary64 (c ⊕ e) _ _ _ sum_is (mul-pos x.positive y.positive) most (2 ^ 23) 0 1 one most-fits most-is
      (plain x.p x.n x.over y.p y.n y.over i j)
    where
      plain : (p n d q k g : ℕ) → p * 1 + 0 * d ≤ 2 ^ 22 * d + n * 1 → q * 2 + 0 * g ≤ 1 * g + k * 2
          → (p * g + q * d) * 1 + 0 * (d * g) ≤ 2 ^ 23 * (d * g) + (n * g + k * d) * 1
      plain p n d q k g i j = omega (arith, mul-le-mul_right g i, mul-le-mul_right d j)

  pub arc-outward : Outward binary64 (c ⊕ e)
  arc-outward = outward (c ⊕ e) (add-fits binary64 c e) at_least at-most-lem
