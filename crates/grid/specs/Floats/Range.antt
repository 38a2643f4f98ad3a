-- The range test of the line kernel: a parameter t, one rounding of (P - N) / D, on a grid vector v whose dot product with itself
-- is S, with an epsilon num / den. If the exact parameter lies from 0 to 1, the test says yes. If the test says yes, the exact
-- point lies less than two epsilons beyond the segment's end, by squares: (P - N - D)^2 * S / D^2 < 4 * num^2 / den^2. The same
-- holds before its start. The argument for the second: rounding does not cross a float. t * length is below the float length +
-- epsilon only if the exact product of the two floats is. And the errors of the quotient t, the length and the sum are at most
-- some 2 ^ -31, while epsilon is at least 2 ^ -10.
use Rattle.std.specs.Prelude.{◌≡◌, ℕ, ◌+◌, ◌-◌, ◌*◌, ◌^◌, ◌≤◌, ◌<◌, Bool, true, false, not, ◌&&◌, leb, Float}
use Rattle.std.proofs.Common.{sym, ap, mul-pos, mul-le-mul, mul-le-mul_left, mul-le-mul_right, mul-lt-mul_of_pos_right, le_of_mul-le-mul_right, lt_of_mul-lt-mul_right, arith, leb→le, lit≤}
use Rattle.std.proofs.Math.Path.{subst}
use Rattle.std.proofs.Math.Dec.{T, nleb→lt}
use Rattle.std.specs.Float.{binary64}
use Rattle.std.specs.Float.Ieee.{fits, neg}
use Rattle.std.specs.Float.Ieee.Bits.{is_true, of_bits-fits}
use Rattle.std.specs.Float.Ieee.Digits.{back}
use Rattle.std.specs.Float.Ieee.Fits.{add-fits, neg-fits, and_i, and_l, and_r}
use Rattle.float_laws.specs.Signed.{Diff, SizeOf, ups, downs, diff-same, diff-at, diff-finite, neg-diff}
use Rattle.float_laws.specs.Order.{lt-over, le-over}
use Rattle.float_laws.specs.Chains.{lt-le}
use Rattle.float_laws.specs.Rounded.{Rounded, add-over}
use Rattle.float_laws.specs.Roundings.{Near, Sized, rounded-le, rounded-below, rounded-above}
use Rattle.float_laws.specs.Whole.{most-whole, least-whole}
use Rattle.float_laws.specs.Binary64.{unit, unit-pos, zero_is, units64, mul-least, add-least, near64, sized64}
use Rattle.floats.specs.Ops.{◌⊕◌, ◌⊗◌, f0}
use Rattle.plane.specs.Vector2 as vector2
use Rattle.plane.specs.declared.vector2.Vector2.{Vector2}
use Rattle.plane.specs.Fuzzy.{fuzzy_in_range_eps, fuzzy_gt_eps, fuzzy_lt_eps}
use Rattle.ranges.specs.Range.{on_segment}
use Rattle.grid.specs.Floats.Zero.{Eps}
use Rattle.grid.specs.Floats.Length.{Long}
use Rattle.grid.specs.Floats.Reach.{Less, Beyond, Reaches}
use Rattle.grid.specs.Floats.Ratio.{Place, at-most-lem}
use Rattle.grid.specs.Floats.Bounds.{bounded, cut, times-length, by_length}

-- ---- the epsilon in units
pub record EpsUnits (e : Float) (num den : ℕ) : Type 0 where
  pub E : ℕ
  pub is : Diff e E 0 unit
  pub same : E * den ≡ num * unit
  pub least : unit ≤ 1024 * E
  pub most : 2 * E ≤ unit

pub eps-units : (e : Float) (num den : ℕ) → Eps e num den → EpsUnits e num den
eps-units e num den h =
    let u = units64 e (diff-finite e num 0 den h.is) h.fit in
    let s = diff-same e num 0 den u.p u.n unit h.some h.is u.is in
    let k = sizes num den u.p u.n unit h.some s in
    record {
      E = u.p - u.n;
      is = diff-at e num 0 den (u.p - u.n) 0 unit h.some h.is k.1;
      same = k.0;
      least = under num den (u.p - u.n) unit h.some k.0 h.least;
      most = over num den (u.p - u.n) unit h.some k.0 h.most;
    }
  where
    sizes : (num den p n L : ℕ) → 0 < den → num * L + n * den ≡ p * den + 0 * L
        → ((p - n) * den ≡ num * L) × (num * L + 0 * den ≡ (p - n) * den + 0 * L)
    sizes num den p n L D e =
        let wide : n * den ≤ p * den = omega arith in
        let l : n ≤ p = le_of_mul-le-mul_right wide D in
        let split : (p - n + n) * den ≡ p * den = ap (λ (z : ℕ). z * den) (back p n l) in
        (omega arith, omega arith)

    under : (num den E L : ℕ) → 0 < den → E * den ≡ num * L → den ≤ 1024 * num → L ≤ 1024 * E
    under num den E L D e l = le_of_mul-le-mul_right {m = L} {n = 1024 * E} {k = den} (omega (arith, mul-le-mul_right L l)) D

    over : (num den E L : ℕ) → 0 < den → E * den ≡ num * L → 2 * num ≤ den → 2 * E ≤ L
    over num den E L D e l = le_of_mul-le-mul_right {m = 2 * E} {n = L} {k = den} (omega (arith, mul-le-mul_right L l)) D

-- ---- arithmetic. T is t in units, R the length, E the epsilon. The exact t is A / D, which exceeds b by a / D.
far : (A D a b L R E T : ℕ) → 0 < D → A ≡ a + b * D
    → 2 ^ 54 * (A * L) ≤ 2 ^ 54 * (T * D) + 2 ^ 1 * (D * L)
    → 2 ^ 54 * (T * R) < 2 ^ 54 * ((b * R + E) * L) + 2 ^ 23 * (L * L)
    → R ≤ 2 ^ 22 * L → L ≤ 1024 * E → 5 * (a * R) < 7 * (E * D)
far A D a b L R E T P e h k most least =
    let x = mul-le-mul_right R h in
    let y = mul-lt-mul_of_pos_right k P in
    let z : A * L * R ≡ (a + b * D) * L * R = ap (λ (w : ℕ). w * L * R) e in
    let r = mul-le-mul_right (D * L) most in
    let l = mul-le-mul_right (L * D) least in
    lt_of_mul-lt-mul_right L {m = 5 * (a * R)} {n = 7 * (E * D)} (omega arith)

squares : (a R E D S L : ℕ) → 5 * (a * R) < 7 * (E * D) → S * (L * L) ≤ 2 * (R * R)
    → a * a * (S * (L * L)) < 4 * (E * E * (D * D))
squares a R E D S L h k =
    let next : 5 * (a * R) + 1 ≤ 7 * (E * D) = omega arith in
    let sq = mul-le-mul next next in
    let m = mul-le-mul_left (a * a) k in
    omega arith

by-epsilon : (a S L E D num den : ℕ) → 0 < L → 0 < den → E * den ≡ num * L → a * a * (S * (L * L)) < 4 * (E * E * (D * D))
    → Less S num den D a
by-epsilon a S L E D num den P Q e h =
    let w = mul-lt-mul_of_pos_right h (mul-pos Q Q) in
    let z : E * den * (E * den) * (D * D) ≡ num * L * (num * L) * (D * D) = ap (λ (x : ℕ). x * x * (D * D)) e in
    lt_of_mul-lt-mul_right (L * L) {m = a * a * S * (den * den)} {n = 4 * (num * num * (D * D))} (omega arith)

beyond : (A D a b L R E T S num den : ℕ) → 0 < D → 0 < L → 0 < den → A ≡ a + b * D
    → 2 ^ 54 * (A * L) ≤ 2 ^ 54 * (T * D) + 2 ^ 1 * (D * L)
    → 2 ^ 54 * (T * R) < 2 ^ 54 * ((b * R + E) * L) + 2 ^ 23 * (L * L)
    → R ≤ 2 ^ 22 * L → L ≤ 1024 * E → S * (L * L) ≤ 2 * (R * R) → E * den ≡ num * L
    → Less S num den D a
beyond A D a b L R E T S num den P Q Z e h k most least near same =
    by-epsilon a S L E D num den Q Z same (squares a R E D S L (far A D a b L R E T P e h k most least) near)

-- ---- the test on the floats
module _ (e : Float) (num den : ℕ) (h : Eps e num den)
    (v : Vector2) (S : ℕ) (g : Long v S) (t : Float) (P N D : ℕ) (at : Place 44 t P N D) where
  abbrev r : Rounded binary64 t P N D
  r = at.rounded

  abbrev C : 0 < D
  C = at.some

  u : P ≤ N + 2 ^ 44 * D
  u = at-most-lem (2 ^ 44) P N D at.P-le C

  l : N ≤ P + 2 ^ 44 * D
  l = at-most-lem (2 ^ 44) N P D at.N-le C

  abbrev len : Float
  len = vector2.length v

  eu : EpsUnits e num den
  eu = eps-units e num den h

  -- t is finite, and at most 2 ^ 44
  t-near : Near unit t P N D (2 ^ 44) (2 ^ 54)
  t-near = near64 t P N D 44 r C u l (lit≤ tt)

  t-most : (p n : ℕ) → Diff t p n unit → (p ≤ n + 2 ^ 44 * unit) × (n ≤ p + 2 ^ 44 * unit)
  t-most = bounded t P N D r C (2 ^ 44) (lit≤ tt) u l

  -- t * length, and t * length + epsilon: one rounding each, both finite
  module _ (p n : ℕ) (d : Diff t p n unit) where
    product : Rounded binary64 (t ⊗ len) (p * g.R) (n * g.R) (unit * unit)
    product = times-length t len p n g.R d g.is

    m-near : Near unit (t ⊗ len) (p * g.R) (n * g.R) (unit * unit) (2 ^ 66) (2 ^ 54)
    m-near =
        let b = by_length (2 ^ 44) p n unit g.R (t-most p n d) g.most in
        near64 (t ⊗ len) _ _ (unit * unit) 66 product (mul-pos unit-pos unit-pos) b.0 b.1 (lit≤ tt)

  -- length + epsilon, in units: the sum, with an error of at most 2 ^ -31
  w-size : Sized unit (len ⊕ e) false (g.R + eu.E) unit (2 ^ 23) (2 ^ 54)
  w-size =
      sized64 (len ⊕ e) (g.R + eu.E) (0 + 0) unit false (g.R + eu.E) 23
      (add-over binary64 len e g.R 0 eu.E 0 unit unit-pos g.is eu.is) unit-pos (omega arith)
      (size g.R eu.E unit g.most eu.most) (lit≤ tt)
    where
      size : (R E L : ℕ) → R ≤ 2 ^ 22 * L → 2 * E ≤ L → R + E ≤ 2 ^ 23 * L
      size R E L x y = omega arith

  w-least : 2 ^ 54 * (g.R + eu.E) ≤ 2 ^ 54 * w-size.count + 2 ^ 23 * unit
  w-least = cut (g.R + eu.E) w-size.count (2 ^ 23) unit unit-pos w-size.least

  w-most : 2 ^ 54 * w-size.count ≤ 2 ^ 54 * (g.R + eu.E) + 2 ^ 23 * unit
  w-most = cut w-size.count (g.R + eu.E) (2 ^ 23) unit unit-pos w-size.most

  w_fits : T (fits binary64 (len ⊕ e))
  w_fits = add-fits binary64 len e

  -- the length is at least 1
  long-enough : unit ≤ g.R
  long-enough = plain unit g.R (g.least 1 (lit≤ tt) g.some)
    where
      plain : (L R : ℕ) → 1 * L ≤ R → L ≤ R
      plain L R x = omega arith

  -- ---- not beyond the end
  -- the exact parameter is at most 1
  pub before-end : P ≤ N + D → T (fuzzy_lt_eps (t ⊗ len) len e)
  before-end x =
      let p = t-near.p in
      let n = t-near.n in
      let d = t-near.is in
      let m = m-near p n d in
      let one = most-whole binary64 t P N D r C p n unit unit-pos d 1 0 (lit≤ tt) (lit≤ tt) (turn P N D x) in
      let most = rounded-le binary64 (t ⊗ len) _ _ (unit * unit) (product p n d) (mul-pos unit-pos unit-pos) len g.R 0 unit
      unit-pos g.fit g.is
      (scaled p n g.R unit one) in
      let below = (le-over (t ⊗ len) len m.p m.n g.R 0 unit unit-pos m.is g.is).0 most in
      (lt-over (t ⊗ len) (len ⊕ e) m.p m.n w-size.count 0 unit unit-pos m.is w-size.is).1
      (less m.p m.n g.R w-size.count eu.E unit unit-pos below w-least eu.least)
    where
      turn : (P N D : ℕ) → P ≤ N + D → P + 0 * D ≤ 1 * D + N
      turn P N D x = omega arith

      scaled : (p n R L : ℕ) → p + 0 * L ≤ 1 * L + n → p * R * L + 0 * (L * L) ≤ R * (L * L) + n * R * L
      scaled p n R L x = omega (arith, mul-le-mul_right (R * L) x)

      less : (p n R W E L : ℕ) → 0 < L → p + 0 ≤ R + n → 2 ^ 54 * (R + E) ≤ 2 ^ 54 * W + 2 ^ 23 * L → L ≤ 1024 * E → p + 0 < W + n
      less p n R W E L Q x y z = omega arith

  -- t is A / D in size, which exceeds b by a / D. If its product with the length is below b lengths plus epsilon, except for
  -- rounding, then a / D of the length is less than two epsilons
  in_reach : (s : Bool) (A a b : ℕ) → SizeOf s A P N → A ≡ a + b * D → b ≤ 1
      → ((T : ℕ) → Diff t (ups s T) (downs s T) unit
      → 2 ^ 54 * (T * g.R) < 2 ^ 54 * ((b * g.R + eu.E) * unit) + 2 ^ 23 * (unit * unit))
      → Less S num den D a
  in_reach s A a b size e few under = go (leb A (2 * D)) (leb→le A (2 * D)) (nleb→lt A (2 * D))
    where
      up : (s : Bool) → SizeOf s A P N → A ≤ 2 ^ 44 * D
      up true q = omega (arith, l)
      up false q = omega (arith, u)

      -- a parameter above 2 is too far
      never : (T R E L : ℕ) → 0 < L → 2 * D < A → 2 ^ 54 * (A * L) ≤ 2 ^ 54 * (T * D) + 2 ^ 44 * (D * L)
          → 2 ^ 54 * (T * R) < 2 ^ 54 * ((b * R + E) * L) + 2 ^ 23 * (L * L)
          → L ≤ R → 2 * E ≤ L → ⊥
      never T R E L Q two h k long small =
          let once : b * R ≤ 1 * R = mul-le-mul_right R few in
          let x = mul-le-mul_right L once in
          let y : 2 ^ 54 * (T * R) < 2 ^ 54 * ((R + E) * L) + 2 ^ 23 * (L * L) = omega arith in
          let z = mul-lt-mul_of_pos_right y C in
          let w = mul-le-mul_right R h in
          let far = mul-le-mul_right (L * R) two in
          let i = mul-le-mul_right (L * D) long in
          let j = mul-le-mul_right (L * D) small in
          omega arith

      go : (b : Bool) → (T b → A ≤ 2 * D) → (T (not b) → 2 * D < A) → Less S num den D a
      go true lo hi =
          let k = sized64 t P N D s A 1 r C size (lo tt) (lit≤ tt) in
          beyond A D a b unit g.R eu.E k.count S num den C unit-pos h.some e k.least (under k.count k.is)
          g.most eu.least g.near eu.same
      go false lo hi =
          let k = sized64 t P N D s A 44 r C size (up s size) (lit≤ tt) in
          absurd (never k.count g.R eu.E unit unit-pos (hi tt) k.least (under k.count k.is) long-enough
          eu.most)

  -- if it exceeds 1 by a / D, the point lies less than two epsilons beyond the end
  pub beyond-end : T (fuzzy_lt_eps (t ⊗ len) len e) → Beyond S num den D (N + D) P
  beyond-end x a q = in_reach false (a + D) a 1 (omega arith) (omega arith) (omega arith) under
    where
      -- the exact product of the floats t and length is below the float length + epsilon
      under : (T : ℕ) → Diff t T 0 unit → 2 ^ 54 * (T * g.R) < 2 ^ 54 * ((1 * g.R + eu.E) * unit) + 2 ^ 23 * (unit * unit)
      under T d =
          together T g.R w-size.count eu.E unit unit-pos
          (plain T g.R w-size.count unit
          (rounded-below binary64 (t ⊗ len) _ _ (unit * unit) (product T 0 d) (mul-pos unit-pos unit-pos) (len ⊕ e)
          w-size.count 0 unit unit-pos w_fits w-size.is x))
          w-most
        where
          plain : (T R W L : ℕ) → T * R * L + 0 * (L * L) < W * (L * L) + 0 * R * L → T * R < W * L
          plain T R W L y = lt_of_mul-lt-mul_right L {m = T * R} {n = W * L} (omega arith)

          together : (T R W E L : ℕ) → 0 < L → T * R < W * L → 2 ^ 54 * W ≤ 2 ^ 54 * (R + E) + 2 ^ 23 * L
              → 2 ^ 54 * (T * R) < 2 ^ 54 * ((1 * R + E) * L) + 2 ^ 23 * (L * L)
          together T R W E L Q x y = omega (arith, mul-le-mul_right L y)

  -- ---- not before the start
  -- t * length + epsilon, one more rounding
  module _ (p n : ℕ) (d : Diff t p n unit) where
    sum : Rounded binary64 (t ⊗ len ⊕ e) ((m-near p n d).p + eu.E) ((m-near p n d).n + 0) unit
    sum = add-over binary64 (t ⊗ len) e (m-near p n d).p (m-near p n d).n eu.E 0 unit unit-pos (m-near p n d).is eu.is

  -- the exact parameter is at least 0
  pub after-start : N ≤ P → T (fuzzy_gt_eps (t ⊗ len) f0 e)
  after-start x =
      let p = t-near.p in
      let n = t-near.n in
      let d = t-near.is in
      let m = m-near p n d in
      let zero-le = least-whole binary64 t P N D r C p n unit unit-pos d 0 0 (lit≤ tt) (lit≤ tt) (omega arith) in
      let least = mul-least t len p n g.R d g.is (omega arith) in
      let positive = (lt-over f0 e 0 0 eu.E 0 unit unit-pos zero_is eu.is).1 (some eu.E unit unit-pos eu.least) in
      lt-le f0 e (t ⊗ len ⊕ e) positive (add-least (t ⊗ len) e m.p m.n eu.E 0 h.fit m.is eu.is least)
    where
      some : (E L : ℕ) → 0 < L → L ≤ 1024 * E → 0 + 0 < E + 0
      some E L Q x = omega arith

  -- if it is below 0 by a / D, the point lies less than two epsilons before the start
  pub before-start : T (fuzzy_gt_eps (t ⊗ len) f0 e) → Beyond S num den D P N
  before-start x a q = in_reach true a a 0 q (omega arith) (omega arith) under
    where
      -- the exact product of the floats -t and length is below epsilon
      under : (T : ℕ) → Diff t 0 T unit → 2 ^ 54 * (T * g.R) < 2 ^ 54 * ((0 * g.R + eu.E) * unit) + 2 ^ 23 * (unit * unit)
      under T d =
          let m = m-near 0 T d in
          let minus = neg-diff e eu.E 0 unit eu.is in
          let some =
          rounded-above binary64 (t ⊗ len ⊕ e) _ _ unit (sum 0 T d) unit-pos f0 0 0 unit unit-pos (of_bits-fits binary64 0)
          zero_is x in
          let above = (lt-over (neg e) (t ⊗ len) 0 eu.E m.p m.n unit unit-pos minus m.is).1
          (summed m.p m.n eu.E unit some) in
          plain T g.R eu.E unit
          (rounded-above binary64 (t ⊗ len) _ _ (unit * unit) (product 0 T d) (mul-pos unit-pos unit-pos) (neg e) 0
          eu.E unit unit-pos (neg-fits binary64 e h.fit) minus above)
        where
          summed : (p n E L : ℕ) → 0 * L + (n + 0) * L < (p + E) * L + 0 * L → 0 + n < p + E
          summed p n E L y = lt_of_mul-lt-mul_right L {m = 0 + n} {n = p + E} (omega arith)

          plain : (T R E L : ℕ) → 0 * (L * L) + T * R * L < 0 * R * L + E * (L * L)
              → 2 ^ 54 * (T * R) < 2 ^ 54 * ((0 * R + E) * L) + 2 ^ 23 * (L * L)
          plain T R E L y = let z : T * R < E * L = lt_of_mul-lt-mul_right L {m = T * R} {n = E * L} (omega arith) in omega arith

  -- ---- both
  pub within-yes : N ≤ P → P ≤ N + D → on_segment t v e ≡ true
  unfolding on_segment fuzzy_in_range_eps
  within-yes x y = is_true _ (and_i (fuzzy_gt_eps (t ⊗ len) f0 e) (fuzzy_lt_eps (t ⊗ len) len e) (after-start x) (before-end y))

  -- a yes is right, except for less than two epsilons
  pub within-says : on_segment t v e ≡ true → Reaches S num den P N D
  unfolding on_segment fuzzy_in_range_eps
  within-says x =
      let w : T (fuzzy_gt_eps (t ⊗ len) f0 e && fuzzy_lt_eps (t ⊗ len) len e) = subst T (sym x) tt in
      record {
        end = beyond-end (and_r (fuzzy_gt_eps (t ⊗ len) f0 e) (fuzzy_lt_eps (t ⊗ len) len e) w);
        start = before-start (and_l (fuzzy_gt_eps (t ⊗ len) f0 e) (fuzzy_lt_eps (t ⊗ len) len e) w);
      }
