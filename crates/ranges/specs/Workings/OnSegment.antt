-- The quick tests whether a parameter lies on a segment, without a root: if t is clearly inside 0..1 or clearly outside, and
-- segment and epsilon are of usual size, the length does not matter. t, the length and epsilon are written T, R and E here.
-- Inside, 0 <= T <= 31/32: T * R is below R by a 32nd, which is far more than its rounding error, and it is not below zero;
-- adding E does not make it smaller. Outside, rounding does not matter, since it never changes the order: from 33/32 up T * R is
-- at least R + R/32, which is at least R + E; from -1/32 down it is at most -R/32, which is at most -E.
use Rattle.std.specs.Prelude.{◌≡◌, refl, ℕ, ◌+◌, ◌-◌, ◌*◌, ◌^◌, ◌≤◌, ◌<◌, Bool, true, false, not, cond, ◌&&◌, ◌||◌, T, eqb}
use Rattle.std.proofs.Common.{sym, ◌∙◌, subst, mul-pos, mul-le-mul_left, mul-le-mul_right, lt_of_mul-lt-mul_right, arith, true≢false, lit≤, lit<}
use Rattle.std.specs.Float.Ieee.{Float, of_bits, fits, neg, le, lt, add, mul, sum, round}
use Rattle.std.specs.Float.{nan, inf, fin, Format, binary64}
use Rattle.std.specs.Float.Ieee.Bits.{is_true, is_false, of_bits-fits}
use Rattle.std.specs.Float.Ieee.Exact.{HasValue}
use Rattle.std.specs.Float.Ieee.Fits.{add-fits, mul-fits, neg-fits, and_i, and_l, and_r}
use Rattle.std.specs.Float.Ieee.Order.{round_mono}
use Rattle.std.specs.Float.Ieee.Scale.{finite}
use Rattle.float_laws.specs.Tests.{either}
use Rattle.float_laws.specs.Signed.{Diff, own-diff, size_above, neg-diff, diff-finite}
use Rattle.float_laws.specs.Order.{lt-over, le-over, le-diff}
use Rattle.float_laws.specs.Chains.{le_not_lt, lt-le, between-finite, from-above, from-below}
use Rattle.float_laws.specs.Rounded.{Rounded, add-over, add-count, mul-rounded, mul-count}
use Rattle.float_laws.specs.Roundings.{Near, rounded-le, rounded-ge}
use Rattle.float_laws.specs.Binary64.{
  unit,
  unit-pos,
  zero_is,
  zero-finite,
  units64,
  mul-least,
  add-least,
  near64,
  Between,
  between64,
}
use Rattle.floats.specs.Ops.{◌⊕◌, ◌⊗◌, ◌≼◌, ◌≽◌, f0}
use Rattle.floats.specs.F64
use Rattle.floats.specs.Laws.RootBeside.{root-fits}
use Rattle.floats.specs.Laws.Sqrt.{Root}
use Rattle.floats.specs.Laws.RootPowers.{root64, root-least, root-most}
use Rattle.plane.specs.Vector2 as vector2
use Rattle.plane.specs.declared.vector2.Vector2.{Vector2}
use Rattle.plane.specs.Fuzzy.{fuzzy_in_range_eps, fuzzy_gt_eps, fuzzy_lt_eps}
use Rattle.ranges.specs.Range.{on_segment}

-- ---- the tests, with 2^-40, 2^-10 and 2^50; 31/32, 33/32 and 1/32
abbrev pub eps_least : Float
eps_least = of_bits binary64 0x3d70_0000_0000_0000

abbrev pub thousandth : Float
thousandth = of_bits binary64 0x3f50_0000_0000_0000

abbrev pub square_most : Float
square_most = of_bits binary64 0x4310_0000_0000_0000

abbrev pub before_end : Float
before_end = of_bits binary64 0x3fef_0000_0000_0000

abbrev pub after_end : Float
after_end = of_bits binary64 0x3ff0_8000_0000_0000

abbrev pub step : Float
step = of_bits binary64 0x3fa0_0000_0000_0000

-- epsilon is at most 2^-10, and the length from 2^-5 to 2^25, tested by its square
abbrev pub usual : Float → Float → Bool
usual square eps = ((eps ≽ eps_least) && (eps ≼ thousandth)) && ((square ≽ thousandth) && (square ≼ square_most))

abbrev pub inside : Float → Bool
inside t = (t ≽ f0) && (t ≼ before_end)

abbrev pub outside : Float → Bool
outside t = (t ≽ after_end) || (t ≼ neg step)

eps_least-is : Diff eps_least 1 0 (2 ^ 40)
unfolding of_bits
eps_least-is = omega arith

thousandth-is : Diff thousandth 1 0 1024
unfolding of_bits
thousandth-is = omega arith

square_most-is : Diff square_most (2 ^ 50) 0 1
unfolding of_bits
square_most-is = omega arith

before_end-is : Diff before_end 31 0 32
unfolding of_bits
before_end-is = omega arith

pub after_end-is : Diff after_end 33 0 32
unfolding of_bits
after_end-is = omega arith

pub step_is : Diff step 1 0 32
unfolding of_bits
step_is = omega arith

-- ---- infinite numbers: a length is above zero
plus-inf : (b : Bool) (w : Float) → T (not (lt (cond b nan (inf false)) w))
unfolding lt
plus-inf true w = tt
plus-inf false nan = tt
plus-inf false (inf s) = tt
plus-inf false (fin s m e) = tt

inf-beyond : (len w : Float) (R c : ℕ) → HasValue len false R c → T (not (lt (mul binary64 (inf false) len) w))
unfolding mul
inf-beyond nan w R c v = absurd v
inf-beyond (inf s) w R c v = absurd v
inf-beyond (fin true m e) w R c v = absurd (true≢false v.0)
inf-beyond (fin false m e) w R c v = plus-inf (eqb m 0) w

minus-inf : (b : Bool) (e : Float) (E c : ℕ) → HasValue e false E c → T (not (lt f0 (add binary64 (cond b nan (inf true)) e)))
unfolding lt add of_bits
minus-inf true e E c v = tt
minus-inf false nan E c v = absurd v
minus-inf false (inf s) E c v = absurd v
minus-inf false (fin s m g) E c v = tt

inf-before : (len e : Float) (R E c d : ℕ) → HasValue len false R c → HasValue e false E d
    → T (not (lt f0 (add binary64 (mul binary64 (inf true) len) e)))
unfolding mul
inf-before nan e R E c d v w = absurd v
inf-before (inf s) e R E c d v w = absurd v
inf-before (fin true m g) e R E c d v w = absurd (true≢false v.0)
inf-before (fin false m g) e R E c d v w = minus-inf (eqb m 0) e E d w

-- a sum of two floats that are not negative
sum_is : (f : Format) (a b c : ℕ) → sum f false a false b c ≡ round f false (a + b) c
unfolding sum
sum_is f a b c = refl

module _ (e : Float) (E : ℕ) (e-fits : T (fits binary64 e)) (e-value : HasValue e false E unit)
    (e-some : 0 < E) (e-most : E * 1024 ≤ 1 * unit)
    (len : Float) (R : ℕ) (len-fits : T (fits binary64 len)) (len-value : HasValue len false R unit)
    (least : unit ≤ 2 ^ 5 * R) (most : R ≤ 2 ^ 25 * unit) where
  e-is : Diff e E 0 unit
  e-is = own-diff e false E unit e-value

  len_is : Diff len R 0 unit
  len_is = own-diff len false R unit len-value

  -- ---- inside
  module _ (t : Float) (t-fits : T (fits binary64 t)) (p n : ℕ) (t-is : Diff t p n unit)
      (lo : 0 + n ≤ p + 0) (hi : p * 32 + 0 * unit ≤ 31 * unit + n * 32) where
    product : Rounded binary64 (t ⊗ len) (p * R + n * 0) (p * 0 + n * R) (unit * unit)
    product = mul-rounded binary64 t len p n R 0 unit unit unit-pos unit-pos t-is len_is

    m-near : Near unit (t ⊗ len) (p * R + n * 0) (p * 0 + n * R) (unit * unit) (2 ^ 25) (2 ^ 54)
    m-near =
        near64 (t ⊗ len) _ _ (unit * unit) 25 product (mul-pos unit-pos unit-pos) (over p n R unit hi most) (under p n R unit lo)
        (lit≤ tt)
      where
        over : (p n R L : ℕ) → p * 32 + 0 * L ≤ 31 * L + n * 32 → R ≤ 2 ^ 25 * L
            → p * R + n * 0 ≤ p * 0 + n * R + 2 ^ 25 * (L * L)
        over p n R L h m =
            let l : p ≤ L + n = omega arith in
            omega (arith, mul-le-mul_right R l, mul-le-mul_left L m)

        under : (p n R L : ℕ) → 0 + n ≤ p + 0 → p * 0 + n * R ≤ p * R + n * 0 + 2 ^ 25 * (L * L)
        under p n R L l = omega (arith, mul-le-mul_right R l)

    -- the product is below the length
    short : T (lt (t ⊗ len) len)
    short =
        let m = m-near in
        (lt-over (t ⊗ len) len m.p m.n R 0 unit unit-pos m.is len_is).1
        (below m.p m.n p n R unit unit-pos hi least m.most)
      where
        below : (a b p n R L : ℕ) → 0 < L → p * 32 + 0 * L ≤ 31 * L + n * 32 → L ≤ 2 ^ 5 * R
            → 2 ^ 54 * (a * (L * L) + (p * 0 + n * R) * L) ≤ 2 ^ 54 * ((p * R + n * 0) * L + b * (L * L)) + 2 ^ 25 * (L * L * L)
            → a + 0 < R + b
        below a b p n R L Q h l m =
            let x = mul-le-mul_right (R * L) h in
            let y = mul-le-mul_right (L * L) l in
            let cube : 0 < L * L * L = mul-pos (mul-pos Q Q) Q in
            lt_of_mul-lt-mul_right (L * L) {m = a + 0} {n = R + b} (omega arith)

    before-end : T (fuzzy_lt_eps (t ⊗ len) len e)
    before-end =
        let s = add-over binary64 len e R 0 E 0 unit unit-pos len_is e-is in
        let more = rounded-ge binary64 (len ⊕ e) _ _ unit s unit-pos len R 0 unit unit-pos len-fits len_is (plain R E unit) in
        lt-le (t ⊗ len) len (len ⊕ e) short more
      where
        plain : (R E L : ℕ) → R * L + (0 + 0) * L ≤ (R + E) * L + 0 * L
        plain R E L = omega arith

    -- the product is not below zero
    after-start : T (fuzzy_gt_eps (t ⊗ len) f0 e)
    after-start =
        let m = m-near in
        let least = mul-least t len p n R t-is len_is (omega arith) in
        lt-le f0 e (t ⊗ len ⊕ e) ((lt-over f0 e 0 0 E 0 unit unit-pos zero_is e-is).1 (plain E e-some))
        (add-least (t ⊗ len) e m.p m.n E 0 e-fits m.is e-is least)
      where
        plain : (E : ℕ) → 0 < E → 0 + 0 < E + 0
        plain E h = omega arith

  -- ---- beyond the end
  far-beyond : (t : Float) (p n : ℕ) → Diff t p n unit → 33 * unit + n * 32 ≤ p * 32 + 0 * unit
      → T (not (fuzzy_lt_eps (t ⊗ len) len e))
  far-beyond t p n t-is h =
      let x = sizes p n unit unit-pos h in
      let k = p - n in
      let m =
      mul-count binary64 t len false false k R unit unit unit-pos unit-pos (size_above t p n unit x.0 t-is) len-value in
      let s : len ⊕ e ≡ round binary64 false (R + E) unit =
      add-count binary64 len e false false R E unit unit-pos len-value e-value ∙ sum_is binary64 R E unit in
      let l = round_mono binary64 (R + E) unit (k * R) (unit * unit) unit-pos (mul-pos unit-pos unit-pos)
      (order k R E unit x.1 least e-most) in
      let l' = subst (λ (z : Float). T (le (round binary64 false (R + E) unit) z)) (sym m) l in
      le_not_lt (len ⊕ e) (t ⊗ len) (subst (λ (z : Float). T (le z (t ⊗ len))) (sym s) l')
    where
      sizes : (p n L : ℕ) → 0 < L → 33 * L + n * 32 ≤ p * 32 + 0 * L → (n < p) × (33 * L ≤ 32 * (p - n))
      sizes p n L Q h = (omega arith, omega arith)

      order : (k R E L : ℕ) → 33 * L ≤ 32 * k → L ≤ 2 ^ 5 * R → E * 1024 ≤ 1 * L → (R + E) * (L * L) ≤ k * R * L
      order k R E L h l m =
          let x = mul-le-mul_right (R * L) h in
          let y = mul-le-mul_right (L * L) l in
          let z = mul-le-mul_right (L * L) m in
          omega arith

  -- ---- before the start
  -- a product of at most -E, plus E, is not above zero
  not-above : (m : Float) → T (fits binary64 m) → T (le m (neg e)) → (p n : ℕ) → Diff m p n unit → T (not (fuzzy_gt_eps m f0 e))
  not-above m fit h p n i =
      let minus = neg-diff e E 0 unit e-is in
      let below = (le-over m (neg e) p n 0 E unit unit-pos i minus).0 h in
      let s = add-over binary64 m e p n E 0 unit unit-pos i e-is in
      let none = rounded-le binary64 (m ⊕ e) _ _ unit s unit-pos f0 0 0 unit unit-pos (of_bits-fits binary64 0) zero_is
      (added p n E unit below) in
      le_not_lt (m ⊕ e) f0 none
    where
      added : (p n E L : ℕ) → p + E ≤ 0 + n → (p + E) * L + 0 * L ≤ 0 * L + (n + 0) * L
      added p n E L y = omega (arith, mul-le-mul_right L y)

  low_product : (t : Float) (p n : ℕ) → Diff t p n unit → p * 32 + 1 * unit ≤ 0 * unit + n * 32 → T (le (t ⊗ len) (neg e))
  low_product t p n t-is h =
      rounded-le binary64 (t ⊗ len) _ _ (unit * unit)
      (mul-rounded binary64 t len p n R 0 unit unit unit-pos unit-pos t-is len_is) (mul-pos unit-pos unit-pos) (neg e) 0 E unit
      unit-pos (neg-fits binary64 e e-fits) (neg-diff e E 0 unit e-is)
      (scaled p n R E unit h least e-most)
    where
      scaled : (p n R E L : ℕ) → p * 32 + 1 * L ≤ 0 * L + n * 32 → L ≤ 2 ^ 5 * R → E * 1024 ≤ 1 * L
          → (p * R + n * 0) * L + E * (L * L) ≤ 0 * (L * L) + (p * 0 + n * R) * L
      scaled p n R E L h l m =
          let x = mul-le-mul_right (R * L) h in
          let y = mul-le-mul_right (L * L) l in
          let z = mul-le-mul_right (L * L) m in
          omega arith

  -- ---- an infinite t, or an infinite product, too
  beyond-end : (t : Float) → T (fits binary64 t) → T (le after_end t) → T (not (fuzzy_lt_eps (t ⊗ len) len e))
  beyond-end t fit h =
      from-above (λ (z : Float). T (not (fuzzy_lt_eps (z ⊗ len) len e))) after_end t (diff-finite after_end 33 0 32 after_end-is) h
      (inf-beyond len (len ⊕ e) R unit len-value) finite-t
    where
      finite-t : T (finite t) → T (not (fuzzy_lt_eps (t ⊗ len) len e))
      finite-t y =
          let u = units64 t y fit in
          far-beyond t u.p u.n u.is
          ((le-diff after_end t 33 0 32 u.p u.n unit (lit< tt) unit-pos after_end-is u.is).0 h)

  before-start : (t : Float) → T (fits binary64 t) → T (le t (neg step)) → T (not (fuzzy_gt_eps (t ⊗ len) f0 e))
  before-start t fit h =
      from-below (λ (z : Float). T (not (fuzzy_gt_eps (z ⊗ len) f0 e))) t (neg step) (diff-finite (neg step) 0 1 32 minus) h
      (inf-before len e R E unit unit len-value e-value) finite-t
    where
      minus : Diff (neg step) 0 1 32
      minus = neg-diff step 1 0 32 step_is

      finite-product : T (finite (t ⊗ len)) → T (le (t ⊗ len) (neg e)) → T (not (fuzzy_gt_eps (t ⊗ len) f0 e))
      finite-product y low =
          let m = units64 (t ⊗ len) y (mul-fits binary64 t len) in
          not-above (t ⊗ len) (mul-fits binary64 t len) low m.p m.n m.is

      finite-t : T (finite t) → T (not (fuzzy_gt_eps (t ⊗ len) f0 e))
      finite-t y =
          let u = units64 t y fit in
          let low = low_product t u.p u.n u.is
          ((le-diff t (neg step) u.p u.n unit 0 1 32 unit-pos (lit< tt) u.is minus).0 h) in
          from-below (λ (z : Float). T (not (fuzzy_gt_eps z f0 e))) (t ⊗ len) (neg e)
          (diff-finite (neg e) 0 E unit (neg-diff e E 0 unit e-is)) low
          (minus-inf false e E unit e-value)
          (λ z. finite-product z low)

  between_ends : (t : Float) → T (fits binary64 t) → T (le f0 t) → T (le t before_end)
      → T (fuzzy_gt_eps (t ⊗ len) f0 e) × T (fuzzy_lt_eps (t ⊗ len) len e)
  between_ends t fit lo hi =
      let y = between-finite f0 t before_end zero-finite (diff-finite before_end 31 0 32 before_end-is) lo hi in
      let u = units64 t y fit in
      let l = (le-over f0 t 0 0 u.p u.n unit unit-pos zero_is u.is).0 lo in
      let m = (le-diff t before_end u.p u.n unit 31 0 32 unit-pos (lit< tt) u.is before_end-is).0 hi in
      (after-start t fit u.p u.n u.is l m, before-end t fit u.p u.n u.is l m)

-- ---- together
first-not : (a b : Bool) → T (not a) → (a && b) ≡ false
first-not true b t = absurd t
first-not false b t = refl

second-not : (a b : Bool) → T (not b) → (a && b) ≡ false
second-not true b t = is_false b t
second-not false b t = refl

-- an epsilon of usual size is above zero
pub eps-between : (square e : Float) → T (fits binary64 e) → T (usual square e) → Between e (2 ^ 40) 1 1024
eps-between square e e-fits sizes =
    let of-e = and_l ((e ≽ eps_least) && (e ≼ thousandth)) ((square ≽ thousandth) && (square ≼ square_most)) sizes in
    between64 e eps_least thousandth (2 ^ 40) 1 1024 e-fits eps_least-is thousandth-is (lit< tt) (lit< tt)
    (and_l (e ≽ eps_least) (e ≼ thousandth) of-e) (and_r (e ≽ eps_least) (e ≼ thousandth) of-e)

module _ (t : Float) (v : Vector2) (e : Float) (t-fits : T (fits binary64 t)) (e-fits : T (fits binary64 e))
    (sizes : T (usual (vector2.dot v v) e)) where
  abbrev square : Float
  square = vector2.dot v v

  square-fits : T (fits binary64 square)
  square-fits = add-fits binary64 (v.x ⊗ v.x) (v.y ⊗ v.y)

  of-square : T ((square ≽ thousandth) && (square ≼ square_most))
  of-square = and_r ((e ≽ eps_least) && (e ≼ thousandth)) ((square ≽ thousandth) && (square ≼ square_most)) sizes

  e-between : Between e (2 ^ 40) 1 1024
  e-between = eps-between square e e-fits sizes

  square-between : Between square 1024 (2 ^ 50) 1
  square-between =
      between64 square thousandth square_most 1024 (2 ^ 50) 1 square-fits thousandth-is square_most-is (lit< tt) (lit< tt)
      (and_l (square ≽ thousandth) (square ≼ square_most) of-square) (and_r (square ≽ thousandth) (square ≼ square_most) of-square)

  abbrev X : ℕ
  X = square-between.X

  root : Root 53 unit X unit (F64.sqrt square)
  root = root64 square X square-fits square-between.some square-between.value

  least : unit ≤ 2 ^ 5 * root.R
  least = root-least X (F64.sqrt square) root 5 1069 refl square-between.least

  most : root.R ≤ 2 ^ 25 * unit
  most = root-most X (F64.sqrt square) root 25 (plain X unit square-between.most)
    where
      plain : (X L : ℕ) → X * 1 ≤ 2 ^ 50 * L → X ≤ 2 ^ 25 * 2 ^ 25 * L
      plain X L h = omega arith

  pub within-inside : T (inside t) → on_segment t v e ≡ true
  unfolding on_segment fuzzy_in_range_eps vector2.length
  within-inside h =
      let len = F64.sqrt square in
      let b = between_ends e e-between.X e-fits e-between.value e-between.some e-between.most len root.R
      (root-fits square square-fits) root.value least most t t-fits
      (and_l (t ≽ f0) (t ≼ before_end) h) (and_r (t ≽ f0) (t ≼ before_end) h) in
      is_true _ (and_i (fuzzy_gt_eps (t ⊗ len) f0 e) (fuzzy_lt_eps (t ⊗ len) len e) b.0 b.1)

  pub within-outside : T (outside t) → on_segment t v e ≡ false
  unfolding on_segment fuzzy_in_range_eps vector2.length
  within-outside h = either (t ≽ after_end) (t ≼ neg step) end start h
    where
      len : Float
      len = F64.sqrt square

      end : T (t ≽ after_end) → (fuzzy_gt_eps (t ⊗ len) f0 e && fuzzy_lt_eps (t ⊗ len) len e) ≡ false
      end y =
          second-not (fuzzy_gt_eps (t ⊗ len) f0 e) (fuzzy_lt_eps (t ⊗ len) len e)
          (beyond-end e e-between.X e-fits e-between.value e-between.some e-between.most len root.R
          (root-fits square square-fits) root.value least most t t-fits y)

      start : T (t ≼ neg step) → (fuzzy_gt_eps (t ⊗ len) f0 e && fuzzy_lt_eps (t ⊗ len) len e) ≡ false
      start y =
          first-not (fuzzy_gt_eps (t ⊗ len) f0 e) (fuzzy_lt_eps (t ⊗ len) len e)
          (before-start e e-between.X e-fits e-between.value e-between.some e-between.most len root.R
          (root-fits square square-fits) root.value least most t t-fits y)
