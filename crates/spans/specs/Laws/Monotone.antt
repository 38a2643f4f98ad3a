-- Rounding keeps the order, so each operation with one operand fixed keeps or turns it: for finite floats, whether or not the
-- result is finite.
use Rattle.std.specs.Prelude.{◌≡◌, refl, ℕ, ◌+◌, ◌-◌, ◌*◌, ◌≤◌, ◌<◌, Bool, true, false, T, Float}
use Rattle.std.proofs.Common.{sym, ap, subst, mul-pos, mul-le-mul, mul-le-mul_left, mul-le-mul_right, le_of_mul-le-mul_right, arith, lit<}
use Rattle.std.specs.Float.{nan, inf, fin, binary64}
use Rattle.std.specs.Float.Ieee.{of_bits, up, down, neg, round, le, lt}
use Rattle.std.specs.Float.Ieee.Bits.{of_bits-fits}
use Rattle.std.specs.Float.Ieee.Exact.{HasValue}
use Rattle.std.specs.Float.Ieee.Fits.{down_pos}
use Rattle.std.specs.Float.Ieee.Order.{round_mono}
use Rattle.std.specs.Float.Ieee.Scale.{finite}
use Rattle.float_laws.specs.Signed.{Diff, SizeOf, ups, downs, diff-mul, diff-at, size_above, size_below}
use Rattle.float_laws.specs.Chains.{written-diff, le-neg, le_trans}
use Rattle.float_laws.specs.Order.{le-over, lt-over}
use Rattle.float_laws.specs.Rounded.{Rounded, add-over, sub-over, mul-rounded, div-rounded}
use Rattle.float_laws.specs.Roundings.{rounded-le, rounded-ge, rounded-neg}
use Rattle.floats.specs.Ops.{◌⊕◌, ◌⊖◌, ◌⊗◌, ◌⊘◌, f0}

zero_is : Diff f0 0 0 1
unfolding of_bits
zero_is = omega arith

-- zero over any denominator
zero-over : (L : ℕ) → Diff f0 0 0 L
zero-over L = diff-at f0 0 0 1 0 0 L (lit< tt) zero_is (none L)
  where
    none : (L : ℕ) → 0 * L + 0 * 1 ≡ 0 * 1 + 0 * L
    none L = omega arith

-- ---- two roundings are in the order of what was rounded
module _ (r r' : Float) (P N c P' N' c' : ℕ) (h : Rounded binary64 r P N c) (h' : Rounded binary64 r' P' N' c')
    (C : 0 < c) (C' : 0 < c') where
  -- on the two sides of zero
  beside-zero : P ≤ N → N' ≤ P' → T (le r r')
  beside-zero a b =
      le_trans r f0 r'
      (rounded-le binary64 r P N c h C f0 0 0 1 (lit< tt) (of_bits-fits binary64 0) zero_is (low P N c a))
      (rounded-ge binary64 r' P' N' c' h' C' f0 0 0 1 (lit< tt) (of_bits-fits binary64 0) zero_is (high P' N' c' b))
    where
      low : (P N c : ℕ) → P ≤ N → P * 1 + 0 * c ≤ 0 * c + N * 1
      low P N c a = omega arith

      high : (P N c : ℕ) → N ≤ P → 0 * c + N * 1 ≤ P * 1 + 0 * c
      high P N c b = omega arith

  -- both at least zero
  above_zero : N ≤ P → N' ≤ P' → P * c' + N' * c ≤ P' * c + N * c' → T (le r r')
  above_zero a a' l = go h.s h'.s h.size h'.size h.is h'.is h.exact h'.exact
    where
      sizes : (X X' : ℕ) → X + N ≡ P → X' + N' ≡ P' → X * c' ≤ X' * c
      sizes X X' e e' =
          let i : (X + N) * c' ≡ P * c' = ap (λ (z : ℕ). z * c') e in
          let j : (X' + N') * c ≡ P' * c = ap (λ (z : ℕ). z * c) e' in
          omega arith

      least : P' ≡ N' → P ≤ N
      least e =
          let j : P' * c ≡ N' * c = ap (λ (z : ℕ). z * c) e in
          le_of_mul-le-mul_right {m = P} {n = N} {k = c'} (omega arith) C'

      go : (s s' : Bool) (X X' : ℕ) → r ≡ round binary64 s X c → r' ≡ round binary64 s' X' c' → SizeOf s X P N
          → SizeOf s' X' P' N' → T (le r r')
      go false false X X' e e' x x' =
          subst (λ (z : Float). T (le z r')) (sym e)
          (subst (λ (z : Float). T (le (round binary64 false X c) z)) (sym e')
          (round_mono binary64 X c X' c' C C' (sizes X X' x x')))
      go true s' X X' e e' x x' = beside-zero (omega arith) a'
      go false true X X' e e' x x' = let z : P' ≡ N' = omega arith in beside-zero (least z) a'

module _ (r r' : Float) (P N c P' N' c' : ℕ) (h : Rounded binary64 r P N c) (h' : Rounded binary64 r' P' N' c')
    (C : 0 < c) (C' : 0 < c') where
  pub rounded-mono : P * c' + N' * c ≤ P' * c + N * c' → T (le r r')
  rounded-mono l = go h.s h'.s h.size h'.size h.exact h'.exact
    where
      none : (X X' : ℕ) → X + N ≡ P → X' + P' ≡ N' → P ≤ N
      none X X' e e' =
          let a : (X + N) * c' ≡ P * c' = ap (λ (z : ℕ). z * c') e in
          let b : (X' + P') * c ≡ N' * c = ap (λ (z : ℕ). z * c) e' in
          let z : X ≤ 0 = le_of_mul-le-mul_right {m = X} {n = 0} {k = c'} (omega arith) C' in
          omega arith

      last : (X X' : ℕ) → X + N ≡ P → X' + P' ≡ N' → N' ≤ P'
      last X X' e e' =
          let a : (X + N) * c' ≡ P * c' = ap (λ (z : ℕ). z * c') e in
          let b : (X' + P') * c ≡ N' * c = ap (λ (z : ℕ). z * c) e' in
          let z : X' ≤ 0 = le_of_mul-le-mul_right {m = X'} {n = 0} {k = c} (omega arith) C in
          omega arith

      go : (s s' : Bool) (X X' : ℕ) → SizeOf s X P N → SizeOf s' X' P' N' → T (le r r')
      go false false X X' x x' = above_zero r r' P N c P' N' c' h h' C C' (omega arith) (omega arith) l
      go true false X X' x x' = beside-zero r r' P N c P' N' c' h h' C C' (omega arith) (omega arith)
      go false true X X' x x' = beside-zero r r' P N c P' N' c' h h' C C' (none X X' x x') (last X X' x x')
      go true true X X' x x' =
          le-neg r' r
          (above_zero (neg r') (neg r) N' P' c' N P c (rounded-neg binary64 r' P' N' c' h') (rounded-neg binary64 r P N c h) C' C
          (omega arith) (omega arith) (omega arith))

-- ---- three finite floats over one denominator
record Three (x y z : Float) : Type 0 where
  L : ℕ
  some : 0 < L
  p : ℕ
  n : ℕ
  q : ℕ
  k : ℕ
  u : ℕ
  v : ℕ
  x-is : Diff x p n L
  y-is : Diff y q k L
  z-is : Diff z u v L

over-that : (x : Float) (p n c t L : ℕ) → 0 < c → c * t ≡ L → Diff x p n c → Diff x (p * t) (n * t) L
over-that x p n c t L C e d = subst (λ (z : ℕ). Diff x (p * t) (n * t) z) e (diff-mul x p n c t C d)

three : (x y z : Float) → T (finite x) → T (finite y) → T (finite z) → Three x y z
three nan y z X Y Z = absurd X
three (inf s) y z X Y Z = absurd X
three (fin s m e) nan z X Y Z = absurd Y
three (fin s m e) (inf t) z X Y Z = absurd Y
three (fin s m e) (fin t n g) nan X Y Z = absurd Z
three (fin s m e) (fin t n g) (inf w) X Y Z = absurd Z
three (fin s m e) (fin t n g) (fin w o i) X Y Z =
    let a = down e in
    let b = down g in
    let d = down i in
    let A = down_pos e in
    let B = down_pos g in
    let D = down_pos i in
    record {
      L = a * (b * d);
      some = mul-pos A (mul-pos B D);
      p = ups s (m * up e) * (b * d);
      n = downs s (m * up e) * (b * d);
      q = ups t (n * up g) * (a * d);
      k = downs t (n * up g) * (a * d);
      u = ups w (o * up i) * (a * b);
      v = downs w (o * up i) * (a * b);
      x-is = over-that (fin s m e) _ _ a (b * d) _ A refl (written-diff s m e);
      y-is = over-that (fin t n g) _ _ b (a * d) _ B (second a b d) (written-diff t n g);
      z-is = over-that (fin w o i) _ _ d (a * b) _ D (third a b d) (written-diff w o i);
    }
  where
    second : (a b d : ℕ) → b * (a * d) ≡ a * (b * d)
    second a b d = omega arith

    third : (a b d : ℕ) → d * (a * b) ≡ a * (b * d)
    third a b d = omega arith

-- ---- x up to y, and a third float c
module _ (c x y : Float) (fc : T (finite c)) (fx : T (finite x)) (fy : T (finite y)) (h : T (le x y)) where
  all : Three c x y
  all = three c x y fc fx fy

  order : all.q + all.v ≤ all.u + all.k
  order = (le-over x y all.q all.k all.u all.v all.L all.some all.y-is all.z-is).0 h

  pub add-mono : T (le (c ⊕ x) (c ⊕ y))
  add-mono =
      rounded-mono (c ⊕ x) (c ⊕ y) _ _ _ _ _ _
      (add-over binary64 c x all.p all.n all.q all.k all.L all.some all.x-is all.y-is)
      (add-over binary64 c y all.p all.n all.u all.v all.L all.some all.x-is all.z-is)
      all.some all.some
      (wide all.p all.n all.q all.k all.u all.v all.L order)
    where
      wide : (p n q k u v L : ℕ) → q + v ≤ u + k → (p + q) * L + (n + v) * L ≤ (p + u) * L + (n + k) * L
      wide p n q k u v L h = omega (arith, mul-le-mul_right L h)

  -- the same with the other operand fixed
  pub add_turned : T (le (x ⊕ c) (y ⊕ c))
  add_turned =
      rounded-mono (x ⊕ c) (y ⊕ c) _ _ _ _ _ _
      (add-over binary64 x c all.q all.k all.p all.n all.L all.some all.y-is all.x-is)
      (add-over binary64 y c all.u all.v all.p all.n all.L all.some all.z-is all.x-is)
      all.some all.some
      (wide all.p all.n all.q all.k all.u all.v all.L order)
    where
      wide : (p n q k u v L : ℕ) → q + v ≤ u + k → (q + p) * L + (v + n) * L ≤ (u + p) * L + (k + n) * L
      wide p n q k u v L h = omega (arith, mul-le-mul_right L h)

  pub sub-mono : T (le (x ⊖ c) (y ⊖ c))
  sub-mono =
      rounded-mono (x ⊖ c) (y ⊖ c) _ _ _ _ _ _
      (sub-over binary64 x c all.q all.k all.p all.n all.L all.some all.y-is all.x-is)
      (sub-over binary64 y c all.u all.v all.p all.n all.L all.some all.z-is all.x-is)
      all.some all.some
      (wide all.p all.n all.q all.k all.u all.v all.L order)
    where
      wide : (p n q k u v L : ℕ) → q + v ≤ u + k → (q + n) * L + (v + p) * L ≤ (u + n) * L + (k + p) * L
      wide p n q k u v L h = omega (arith, mul-le-mul_right L h)

  pub sub-turn : T (le (c ⊖ y) (c ⊖ x))
  sub-turn =
      rounded-mono (c ⊖ y) (c ⊖ x) _ _ _ _ _ _
      (sub-over binary64 c y all.p all.n all.u all.v all.L all.some all.x-is all.z-is)
      (sub-over binary64 c x all.p all.n all.q all.k all.L all.some all.x-is all.y-is)
      all.some all.some
      (wide all.p all.n all.q all.k all.u all.v all.L order)
    where
      wide : (p n q k u v L : ℕ) → q + v ≤ u + k → (p + v) * L + (n + q) * L ≤ (p + k) * L + (n + u) * L
      wide p n q k u v L h = omega (arith, mul-le-mul_right L h)

  zero : Diff f0 0 0 all.L
  zero = zero-over all.L

  by-x : Rounded binary64 (c ⊗ x) (all.p * all.q + all.n * all.k) (all.p * all.k + all.n * all.q) (all.L * all.L)
  by-x =
      mul-rounded binary64 c x all.p all.n all.q all.k all.L all.L all.some all.some all.x-is
      all.y-is

  by-y : Rounded binary64 (c ⊗ y) (all.p * all.u + all.n * all.v) (all.p * all.v + all.n * all.u) (all.L * all.L)
  by-y =
      mul-rounded binary64 c y all.p all.n all.u all.v all.L all.L all.some all.some all.x-is
      all.z-is

  -- a product of differences: (p - n) (q - k) is at most (p - n) (u - v)
  grown : (p n q k u v : ℕ) → n ≤ p → q + v ≤ u + k → p * q + n * k + (p * v + n * u) ≤ p * u + n * v + (p * k + n * q)
  grown p n q k u v s h =
      let g = p - n in
      let e : p ≡ n + g = omega arith in
      let w : g * (q + v) ≤ g * (u + k) = mul-le-mul_left g h in
      subst (λ (z : ℕ). z * q + n * k + (z * v + n * u) ≤ z * u + n * v + (z * k + n * q)) (sym e) (plain g n q k u v w)
    where
      plain : (g n q k u v : ℕ) → g * (q + v) ≤ g * (u + k)
          → (n + g) * q + n * k + ((n + g) * v + n * u) ≤ (n + g) * u + n * v + ((n + g) * k + n * q)
      plain g n q k u v w = omega arith

  wider : (a b c d L : ℕ) → a + b ≤ c + d → a * L + b * L ≤ c * L + d * L
  wider a b c d L h = omega (arith, mul-le-mul_right L h)

  pub mul-keep : T (le f0 c) → T (le (c ⊗ x) (c ⊗ y))
  mul-keep s =
      rounded-mono (c ⊗ x) (c ⊗ y) _ _ _ _ _ _ by-x by-y (mul-pos all.some all.some) (mul-pos all.some all.some)
      (wider _ _ _ _ (all.L * all.L)
      (grown all.p all.n all.q all.k all.u all.v
      (plain all.p all.n ((le-over f0 c 0 0 all.p all.n all.L all.some zero all.x-is).0 s)) order))
    where
      plain : (p n : ℕ) → 0 + n ≤ p + 0 → n ≤ p
      plain p n h = omega arith

  pub mul-turn : T (le c f0) → T (le (c ⊗ y) (c ⊗ x))
  mul-turn s =
      rounded-mono (c ⊗ y) (c ⊗ x) _ _ _ _ _ _ by-y by-x (mul-pos all.some all.some) (mul-pos all.some all.some)
      (wider _ _ _ _ (all.L * all.L)
      (turned all.p all.n all.q all.k all.u all.v
      (grown all.n all.p all.q all.k all.u all.v
      (plain all.p all.n ((le-over c f0 all.p all.n 0 0 all.L all.some all.x-is zero).0 s)) order)))
    where
      plain : (p n : ℕ) → p + 0 ≤ 0 + n → p ≤ n
      plain p n h = omega arith

      turned : (p n q k u v : ℕ) → n * q + p * k + (n * v + p * u) ≤ n * u + p * v + (n * k + p * q)
          → p * u + n * v + (p * k + n * q) ≤ p * q + n * k + (p * v + n * u)
      turned p n q k u v h = omega arith

  pub div-keep : T (lt f0 c) → T (le (x ⊘ c) (y ⊘ c))
  div-keep s =
      rounded-mono (x ⊘ c) (y ⊘ c) _ _ _ _ _ _
      (div-rounded binary64 x c all.q all.k all.L false (all.p - all.n) all.L all.some all.some some all.y-is
      size)
      (div-rounded binary64 y c all.u all.v all.L false (all.p - all.n) all.L all.some all.some some all.z-is
      size)
      (mul-pos some all.some) (mul-pos some all.some)
      (wider _ _ _ _ ((all.p - all.n) * all.L) (wide all.q all.k all.u all.v all.L order))
    where
      above : all.n < all.p
      above = plain all.p all.n ((lt-over f0 c 0 0 all.p all.n all.L all.some zero all.x-is).0 s)
        where
          plain : (p n : ℕ) → 0 + n < p + 0 → n < p
          plain p n h = omega arith

      some : 0 < all.p - all.n
      some = omega (arith, above)

      size : HasValue c false (all.p - all.n) all.L
      size = size_above c all.p all.n all.L above all.x-is

      wide : (q k u v L : ℕ) → q + v ≤ u + k → q * L + v * L ≤ u * L + k * L
      wide q k u v L h = omega (arith, mul-le-mul_right L h)

  pub div-turn : T (lt c f0) → T (le (y ⊘ c) (x ⊘ c))
  div-turn s =
      rounded-mono (y ⊘ c) (x ⊘ c) _ _ _ _ _ _
      (div-rounded binary64 y c all.u all.v all.L true (all.n - all.p) all.L all.some all.some some all.z-is
      size)
      (div-rounded binary64 x c all.q all.k all.L true (all.n - all.p) all.L all.some all.some some all.y-is
      size)
      (mul-pos some all.some) (mul-pos some all.some)
      (wider _ _ _ _ ((all.n - all.p) * all.L) (wide all.q all.k all.u all.v all.L order))
    where
      below : all.p < all.n
      below = plain all.p all.n ((lt-over c f0 all.p all.n 0 0 all.L all.some all.x-is zero).0 s)
        where
          plain : (p n : ℕ) → p + 0 < 0 + n → p < n
          plain p n h = omega arith

      some : 0 < all.n - all.p
      some = omega (arith, below)

      size : HasValue c true (all.n - all.p) all.L
      size = size_below c all.p all.n all.L below all.x-is

      wide : (q k u v L : ℕ) → q + v ≤ u + k → v * L + q * L ≤ k * L + u * L
      wide q k u v L h = omega (arith, mul-le-mul_right L h)

-- ---- squares
module _ (x y : Float) (fx : T (finite x)) (fy : T (finite y)) (h : T (le x y)) where
  both : Three x y y
  both = three x y y fx fy fy

  sooner : both.p + both.k ≤ both.q + both.n
  sooner = (le-over x y both.p both.n both.q both.k both.L both.some both.x-is both.y-is).0 h

  naught : Diff f0 0 0 both.L
  naught = zero-over both.L

  of-x : Rounded binary64 (x ⊗ x) (both.p * both.p + both.n * both.n) (both.p * both.n + both.n * both.p)
      (both.L * both.L)
  of-x =
      mul-rounded binary64 x x both.p both.n both.p both.n both.L both.L both.some both.some both.x-is
      both.x-is

  of-y : Rounded binary64 (y ⊗ y) (both.q * both.q + both.k * both.k) (both.q * both.k + both.k * both.q)
      (both.L * both.L)
  of-y =
      mul-rounded binary64 y y both.q both.k both.q both.k both.L both.L both.some both.some both.y-is
      both.y-is

  -- (p - n) squared is at most (q - k) squared
  squares : (p n q k : ℕ) → n ≤ p → p + k ≤ q + n
      → p * p + n * n + (q * k + k * q) ≤ q * q + k * k + (p * n + n * p)
  squares p n q k s h =
      let g = p - n in
      let j = q - k in
      let e : p ≡ n + g = omega arith in
      let f : q ≡ k + j = omega arith in
      let l : g ≤ j = omega arith in
      let w : g * g ≤ j * j = mul-le-mul l l in
      subst (λ (z : ℕ). z * z + n * n + (q * k + k * q) ≤ q * q + k * k + (z * n + n * z)) (sym e)
      (subst (λ (z : ℕ). (n + g) * (n + g) + n * n + (z * k + k * z) ≤ z * z + k * k + ((n + g) * n + n * (n + g))) (sym f)
      (plain g n j k w))
    where
      plain : (g n j k : ℕ) → g * g ≤ j * j
          → (n + g) * (n + g) + n * n + ((k + j) * k + k * (k + j)) ≤ (k + j) * (k + j) + k * k + ((n + g) * n + n * (n + g))
      plain g n j k w = omega arith

  widest : (a b c d L : ℕ) → a + b ≤ c + d → a * L + b * L ≤ c * L + d * L
  widest a b c d L h = omega (arith, mul-le-mul_right L h)

  pub square-keep : T (le f0 x) → T (le (x ⊗ x) (y ⊗ y))
  square-keep s =
      rounded-mono (x ⊗ x) (y ⊗ y) _ _ _ _ _ _ of-x of-y (mul-pos both.some both.some) (mul-pos both.some both.some)
      (widest _ _ _ _ (both.L * both.L)
      (squares both.p both.n both.q both.k
      (plain both.p both.n ((le-over f0 x 0 0 both.p both.n both.L both.some naught both.x-is).0 s)) sooner))
    where
      plain : (p n : ℕ) → 0 + n ≤ p + 0 → n ≤ p
      plain p n h = omega arith

  pub square-turn : T (le y f0) → T (le (y ⊗ y) (x ⊗ x))
  square-turn s =
      rounded-mono (y ⊗ y) (x ⊗ x) _ _ _ _ _ _ of-y of-x (mul-pos both.some both.some) (mul-pos both.some both.some)
      (widest _ _ _ _ (both.L * both.L)
      (turned both.p both.n both.q both.k
      (squares both.k both.q both.n both.p
      (plain both.q both.k ((le-over y f0 both.q both.k 0 0 both.L both.some both.y-is naught).0 s))
      (other both.p both.n both.q both.k sooner))))
    where
      plain : (p n : ℕ) → p + 0 ≤ 0 + n → p ≤ n
      plain p n h = omega arith

      other : (p n q k : ℕ) → p + k ≤ q + n → k + p ≤ n + q
      other p n q k h = omega arith

      turned : (p n q k : ℕ) → k * k + q * q + (n * p + p * n) ≤ n * n + p * p + (k * q + q * k)
          → q * q + k * k + (p * n + n * p) ≤ p * p + n * n + (q * k + k * q)
      turned p n q k h = omega arith

-- ---- c divided by x and by y, both above zero, and x up to y
module _ (c x y : Float) (fc : T (finite c)) (fx : T (finite x)) (fy : T (finite y)) (h : T (le x y)) (s : T (lt f0 x)) where
  abbrev a : Three c x y
  a = three c x y fc fx fy

  above : a.k < a.q
  above = plain a.q a.k ((lt-over f0 x 0 0 a.q a.k a.L a.some (zero-over a.L) a.y-is).0 s)
    where
      plain : (p n : ℕ) → 0 + n < p + 0 → n < p
      plain p n h = omega arith

  up_to : a.q + a.v ≤ a.u + a.k
  up_to = (le-over x y a.q a.k a.u a.v a.L a.some a.y-is a.z-is).0 h

  above-y : a.v < a.u
  above-y = plain a.q a.k a.u a.v above up_to
    where
      plain : (q k u v : ℕ) → k < q → q + v ≤ u + k → v < u
      plain q k u v g h = omega arith

  x-some : 0 < a.q - a.k
  x-some = plain a.q a.k above
    where
      plain : (p n : ℕ) → n < p → 0 < p - n
      plain p n h = omega arith

  y-some : 0 < a.u - a.v
  y-some = plain a.u a.v above-y
    where
      plain : (p n : ℕ) → n < p → 0 < p - n
      plain p n h = omega arith

  sizes : a.q - a.k ≤ a.u - a.v
  sizes = plain a.q a.k a.u a.v above up_to
    where
      plain : (q k u v : ℕ) → k < q → q + v ≤ u + k → q - k ≤ u - v
      plain q k u v g h = omega arith

  over-x : Rounded binary64 (c ⊘ x) (a.p * a.L) (a.n * a.L) ((a.q - a.k) * a.L)
  over-x =
      div-rounded binary64 c x a.p a.n a.L false (a.q - a.k) a.L a.some a.some x-some a.x-is
      (size_above x a.q a.k a.L above a.y-is)

  over-y : Rounded binary64 (c ⊘ y) (a.p * a.L) (a.n * a.L) ((a.u - a.v) * a.L)
  over-y =
      div-rounded binary64 c y a.p a.n a.L false (a.u - a.v) a.L a.some a.some y-some a.x-is
      (size_above y a.u a.v a.L above-y a.z-is)

  -- (p - n) X is at most (p - n) Y
  fewer : (p n X Y L : ℕ) → n ≤ p → X ≤ Y → p * L * (X * L) + n * L * (Y * L) ≤ p * L * (Y * L) + n * L * (X * L)
  fewer p n X Y L g l =
      let d = p - n in
      let e : p ≡ n + d = omega arith in
      let w : d * X * (L * L) ≤ d * Y * (L * L) = mul-le-mul_right (L * L) (mul-le-mul_left d l) in
      subst (λ (z : ℕ). z * L * (X * L) + n * L * (Y * L) ≤ z * L * (Y * L) + n * L * (X * L)) (sym e) (plain d n X Y L w)
    where
      plain : (d n X Y L : ℕ) → d * X * (L * L) ≤ d * Y * (L * L)
          → (n + d) * L * (X * L) + n * L * (Y * L) ≤ (n + d) * L * (Y * L) + n * L * (X * L)
      plain d n X Y L w = omega arith

  pub under-turn : T (le f0 c) → T (le (c ⊘ y) (c ⊘ x))
  under-turn g =
      rounded-mono (c ⊘ y) (c ⊘ x) _ _ _ _ _ _ over-y over-x (mul-pos y-some a.some) (mul-pos x-some a.some)
      (fewer a.p a.n (a.q - a.k) (a.u - a.v) a.L
      (plain a.p a.n ((le-over f0 c 0 0 a.p a.n a.L a.some (zero-over a.L) a.x-is).0 g)) sizes)
    where
      plain : (p n : ℕ) → 0 + n ≤ p + 0 → n ≤ p
      plain p n h = omega arith

  pub under-keep : T (le c f0) → T (le (c ⊘ x) (c ⊘ y))
  under-keep g =
      rounded-mono (c ⊘ x) (c ⊘ y) _ _ _ _ _ _ over-x over-y (mul-pos x-some a.some) (mul-pos y-some a.some)
      (turned (a.p * a.L * ((a.u - a.v) * a.L)) (a.n * a.L * ((a.q - a.k) * a.L))
      (a.p * a.L * ((a.q - a.k) * a.L)) (a.n * a.L * ((a.u - a.v) * a.L))
      (fewer a.n a.p (a.q - a.k) (a.u - a.v) a.L
      (plain a.p a.n ((le-over c f0 a.p a.n 0 0 a.L a.some a.x-is (zero-over a.L)).0 g)) sizes))
    where
      plain : (p n : ℕ) → p + 0 ≤ 0 + n → p ≤ n
      plain p n h = omega arith

      turned : (i j k l : ℕ) → j + i ≤ l + k → i + j ≤ k + l
      turned i j k l h = omega arith
