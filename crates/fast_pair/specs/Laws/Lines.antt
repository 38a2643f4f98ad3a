-- Two line segments that are clearly apart: n and d alone show that the quotient n / d lies clearly outside 0..1. No margin is
-- needed: a product that rounds to less than a float is less than it, and a quotient of at least 33/32, or at most -1/32, rounds
-- to such a quotient. Workings/OnSegment of `ranges` says what the range test answers then.
use Rattle.std.specs.Prelude.{◌≡◌, refl, ℕ, ◌+◌, ◌*◌, ◌≤◌, ◌<◌, Bool, true, false, not, cond, ◌&&◌, ◌||◌, T, ℤ, Float}
use Rattle.std.proofs.Common.{sym, ◌∙◌, mul-pos, mul-le-mul_right, lt_of_mul-lt-mul_right, lt_of_not-le, le_of_lt, arith, true≢false, lit<}
use Rattle.std.proofs.Math.Path.{ap}
use Rattle.std.specs.Float.{nan, inf, fin, binary64}
use Rattle.std.specs.Float.Ieee.{of_bits, fits, neg, lt, le, eq, mul, div}
use Rattle.std.specs.Float.Ieee.Bits.{of_bits-fits, is_true}
use Rattle.std.specs.Float.Ieee.Exact.{HasValue}
use Rattle.std.specs.Float.Ieee.Fits.{sub-fits, div-fits, neg-fits, and_l, and_r}
use Rattle.float_laws.specs.Tests.{either, left-of, right_of}
use Rattle.float_laws.specs.Signed.{Diff, own-diff, neg-diff, signed_of, ups, downs}
use Rattle.float_laws.specs.Order.{lt-over}
use Rattle.float_laws.specs.Rounded.{Rounded, mul-rounded, div-rounded, signed_by}
use Rattle.float_laws.specs.Roundings.{rounded-le, rounded-ge, rounded-below, rounded-above}
use Rattle.float_laws.specs.Binary64.{unit, unit-pos, units64}
use Rattle.floats.specs.Ops.{◌⊗◌, ◌⊘◌, ◌≺◌, ◌≼◌, ◌≻◌, ◌≽◌}
use Rattle.floats.specs.F64
use Rattle.plane.specs.Vector2 as vector2
use Rattle.plane.specs.Fuzzy.{fuzzy_eq_zero_eps}
use Rattle.plane.specs.declared.vector2.Vector2.{Vector2}
use Rattle.ranges.specs.Range.{on_segment}
use Rattle.ranges.specs.Workings.OnSegment.{
  usual,
  outside,
  after_end,
  step,
  after_end-is,
  step_is,
  eps-between,
  within-outside,
}
use Rattle.crossing.specs.LineLine.{line_line, crossing, parallel}
use Rattle.crossing.specs.PlineSeg.{process_line_line_intr, line_line_of}
use Rattle.crossing.specs.declared.line_line_intr.LineLineIntr.{LineLineIntr}
use Rattle.crossing.specs.declared.line_line_intr.LineLineIntr.TheVariants as lines
use Rattle.arcs.specs.declared.pline_seg_intr.PlineSegIntr.TheVariants.{NoIntersect}
use Rattle.fast_pair.specs.Workings.ClearlyApart.{before_start, quotient_outside, crosses_outside, lines_apart}

before_start-is : Diff before_start 0 1 32
unfolding of_bits
before_start-is = omega arith

-- L cancels in a comparison of sums
divided : (x y p q e L : ℕ) → p * L + x * (L * e) < y * (L * e) + q * L → p + x * e < y * e + q
divided x y p q e L h = lt_of_mul-lt-mul_right L {m = p + x * e} {n = y * e + q} (omega arith)

-- ---- n of X units and the sign s, d of Y units and the sign t
module _ (n d : Float) (s t : Bool) (X Y : ℕ) (n-fits : T (fits binary64 n)) (n-value : HasValue n s X unit)
    (d-value : HasValue d t Y unit) (some : 0 < Y) where
  n-is : Diff n (ups s X) (downs s X) unit
  n-is = own-diff n s X unit n-value

  -- if d times (a - b) / e, rounded, is below n, the exact product is too; and the same for above
  module _ (c : Float) (a b e : ℕ) (c-is : Diff c a b e) (E : 0 < e) where
    abbrev P : ℕ
    P = ups t Y * a + downs t Y * b

    abbrev N : ℕ
    N = ups t Y * b + downs t Y * a

    product : Rounded binary64 (d ⊗ c) P N (unit * e)
    product = mul-rounded binary64 d c (ups t Y) (downs t Y) a b unit e unit-pos E (own-diff d t Y unit d-value) c-is

    above : T (n ≻ d ⊗ c) → P + downs s X * e < ups s X * e + N
    above h =
        divided (downs s X) (ups s X) P N e unit
        (rounded-below binary64 (d ⊗ c) P N (unit * e) product (mul-pos unit-pos E) n (ups s X) (downs s X) unit unit-pos n-fits
        n-is h)

    beneath : T (n ≺ d ⊗ c) → N + ups s X * e < downs s X * e + P
    beneath h =
        let l = rounded-above binary64 (d ⊗ c) P N (unit * e) product (mul-pos unit-pos E) n (ups s X) (downs s X) unit unit-pos
        n-fits n-is h in
        divided (ups s X) (downs s X) N P e unit (turned (ups s X * (unit * e)) (N * unit) (P * unit) (downs s X * (unit * e)) l)
      where
        turned : (a b c d : ℕ) → a + b < c + d → b + a < d + c
        turned a b c d h = omega arith

  quotient : Rounded binary64 (n ⊘ d) (signed_by t (ups s X) (downs s X) * unit) (signed_by t (downs s X) (ups s X) * unit)
      (Y * unit)
  quotient = div-rounded binary64 n d (ups s X) (downs s X) unit t Y unit unit-pos unit-pos some n-is d-value

  -- at least 33/32 if the signs are equal, at most -1/32 if they differ
  at_least : s ≡ t → 33 * Y < X * 32 → T (n ⊘ d ≽ after_end)
  at_least e h =
      rounded-ge binary64 (n ⊘ d) _ _ (Y * unit) quotient (mul-pos some unit-pos) after_end 33 0 32 (lit< tt)
      (of_bits-fits binary64 0x3ff0_8000_0000_0000) after_end-is
      (plain s t e X Y unit h)
    where
      plain : (s t : Bool) → s ≡ t → (X Y L : ℕ) → 33 * Y < X * 32
          → 33 * (Y * L) + signed_by t (downs s X) (ups s X) * L * 32 ≤ signed_by t (ups s X) (downs s X) * L * 32 + 0 * (Y * L)
      plain true true e X Y L h = omega (arith, mul-le-mul_right L (le_of_lt h))
      plain false false e X Y L h = omega (arith, mul-le-mul_right L (le_of_lt h))
      plain true false e X Y L h = absurd (true≢false e)
      plain false true e X Y L h = absurd (true≢false (sym e))

  at-most-lem : s ≡ not t → 1 * Y < X * 32 → T (n ⊘ d ≼ neg step)
  at-most-lem e h =
      rounded-le binary64 (n ⊘ d) _ _ (Y * unit) quotient (mul-pos some unit-pos) (neg step) 0 1 32 (lit< tt)
      (neg-fits binary64 step (of_bits-fits binary64 0x3fa0_0000_0000_0000)) (neg-diff step 1 0 32 step_is)
      (plain s t e X Y unit h)
    where
      plain : (s t : Bool) → s ≡ not t → (X Y L : ℕ) → 1 * Y < X * 32
          → signed_by t (ups s X) (downs s X) * L * 32 + 1 * (Y * L) ≤ 0 * (Y * L) + signed_by t (downs s X) (ups s X) * L * 32
      plain true false e X Y L h = omega (arith, mul-le-mul_right L (le_of_lt h))
      plain false true e X Y L h = omega (arith, mul-le-mul_right L (le_of_lt h))
      plain true true e X Y L h = absurd (true≢false e)
      plain false false e X Y L h = absurd (true≢false (sym e))

  end : 33 * Y < X * 32 → s ≡ t → T (outside (n ⊘ d))
  end h e = left-of (n ⊘ d ≽ after_end) (n ⊘ d ≼ neg step) (at_least e h)

  start : 1 * Y < X * 32 → s ≡ not t → T (outside (n ⊘ d))
  start h e = right_of (n ⊘ d ≽ after_end) (n ⊘ d ≼ neg step) (at-most-lem e h)

  -- n is above both limits times d if r is false, else below both: the quotient is past the end if n and d have the same sign,
  -- else before the start
  past : (r s t : Bool) {A : Type 0}
      → signed_by r (ups t Y * 33 + downs t Y * 0 + downs s X * 32) (ups t Y * 0 + downs t Y * 33 + ups s X * 32)
      < signed_by r (ups s X * 32 + (ups t Y * 0 + downs t Y * 33)) (downs s X * 32 + (ups t Y * 33 + downs t Y * 0))
      → signed_by r (ups t Y * 0 + downs t Y * 1 + downs s X * 32) (ups t Y * 1 + downs t Y * 0 + ups s X * 32)
      < signed_by r (ups s X * 32 + (ups t Y * 1 + downs t Y * 0)) (downs s X * 32 + (ups t Y * 0 + downs t Y * 1))
      → (33 * Y < X * 32 → s ≡ t → A) → (1 * Y < X * 32 → s ≡ not t → A) → A
  past false false false a b f k = f (omega arith) refl
  past false false true a b f k = k (omega arith) refl
  past false true false a b f k = absurd (omega arith)
  past false true true a b f k = absurd (omega arith)
  past true true true a b f k = f (omega arith) refl
  past true true false a b f k = k (omega arith) refl
  past true false true a b f k = absurd (omega arith)
  past true false false a b f k = absurd (omega arith)

  beyond : T (n ≻ d ⊗ after_end) → T (n ≻ d ⊗ before_start) → T (outside (n ⊘ d))
  beyond h g =
      past false s t (above after_end 33 0 32 after_end-is (lit< tt) h)
      (above before_start 0 1 32 before_start-is (lit< tt) g) end start

  before : T (n ≺ d ⊗ after_end) → T (n ≺ d ⊗ before_start) → T (outside (n ⊘ d))
  before h g =
      past true s t (beneath after_end 33 0 32 after_end-is (lit< tt) h)
      (beneath before_start 0 1 32 before_start-is (lit< tt) g) end start

  both : T (quotient_outside n d) → T (outside (n ⊘ d))
  unfolding quotient_outside
  both h =
      either ((n ≻ d ⊗ after_end) && (n ≻ d ⊗ before_start)) ((n ≺ d ⊗ after_end) && (n ≺ d ⊗ before_start))
      (λ y. beyond (and_l (n ≻ d ⊗ after_end) (n ≻ d ⊗ before_start) y) (and_r (n ≻ d ⊗ after_end) (n ≻ d ⊗ before_start) y))
      (λ y. before (and_l (n ≺ d ⊗ after_end) (n ≺ d ⊗ before_start) y) (and_r (n ≺ d ⊗ after_end) (n ≺ d ⊗ before_start) y))
      h

-- ---- for every n and d, if d is not near zero
infinite : (s t : Bool) (m : ℕ) (e : ℤ) → T (outside (inf s ⊘ fin t m e))
unfolding div le lt eq of_bits neg
infinite true true m e = tt
infinite true false m e = tt
infinite false true m e = tt
infinite false false m e = tt

nothing-between : (n : Float) (t : Bool) → T (((n ≻ inf t) && (n ≻ inf (not t))) || ((n ≺ inf t) && (n ≺ inf (not t)))) → ⊥
unfolding lt
nothing-between nan true h = h
nothing-between nan false h = h
nothing-between (inf true) true h = h
nothing-between (inf true) false h = h
nothing-between (inf false) true h = h
nothing-between (inf false) false h = h
nothing-between (fin s m e) true h = h
nothing-between (fin s m e) false h = h

by-infinity : (n : Float) (t : Bool) → T (quotient_outside n (inf t)) → ⊥
unfolding quotient_outside mul of_bits
by-infinity n true h = nothing-between n true h
by-infinity n false h = nothing-between n false h

by-nan : (n : Float) → T (quotient_outside n nan) → ⊥
unfolding quotient_outside mul lt
by-nan nan h = h
by-nan (inf s) h = h
by-nan (fin s m e) h = h

below_nan : (x : Float) → T (x ≺ nan) → ⊥
unfolding lt
below_nan nan h = h
below_nan (inf s) h = h
below_nan (fin s m e) h = h

of_nan : (d : Float) → T (quotient_outside nan d) → ⊥
unfolding quotient_outside lt
of_nan d h =
    let over = (d ⊗ after_end ≺ nan) && (d ⊗ before_start ≺ nan) in
    either over false (λ y. below_nan (d ⊗ after_end) (and_l (d ⊗ after_end ≺ nan) (d ⊗ before_start ≺ nan) y)) (λ y. y) h

-- a finite d that is not near zero is not zero
not-zero : (d eps : Float) (s : Bool) (Y E : ℕ) → HasValue d s Y unit → HasValue eps false E unit → 0 < E
    → (F64.abs d ≺ eps) ≡ false → 0 < Y
unfolding F64.abs
not-zero nan eps s Y E v w h far = absurd v
not-zero (inf t) eps s Y E v w h far = absurd v
not-zero (fin t m e) eps s Y E v w h far =
    lt_of_not-le (λ (y : Y ≤ 0). true≢false (sym (is_true (fin false m e ≺ eps) (small y)) ∙ far))
  where
    small : Y ≤ 0 → T (fin false m e ≺ eps)
    small y =
        (lt-over (fin false m e) eps Y 0 E 0 unit unit-pos (own-diff (fin false m e) false Y unit (refl, v.1))
        (own-diff eps false E unit w)).1
        (omega arith)

pub outside-known : (n d eps : Float) (E : ℕ) → T (fits binary64 n) → T (fits binary64 d) → HasValue eps false E unit → 0 < E
    → (F64.abs d ≺ eps) ≡ false → T (quotient_outside n d) → T (outside (n ⊘ d))
outside-known nan d eps E n-fits d-fits e-value some far h = absurd (of_nan d h)
outside-known (inf s) nan eps E n-fits d-fits e-value some far h = absurd (by-nan (inf s) h)
outside-known (fin s m e) nan eps E n-fits d-fits e-value some far h = absurd (by-nan (fin s m e) h)
outside-known (inf s) (inf t) eps E n-fits d-fits e-value some far h = absurd (by-infinity (inf s) t h)
outside-known (fin s m e) (inf t) eps E n-fits d-fits e-value some far h = absurd (by-infinity (fin s m e) t h)
outside-known (inf s) (fin t k f) eps E n-fits d-fits e-value some far h = infinite s t k f
outside-known (fin s m e) (fin t k f) eps E n-fits d-fits e-value some far h =
    let n = fin s m e in
    let d = fin t k f in
    let a = units64 n tt n-fits in
    let b = units64 d tt d-fits in
    let A = signed_of n a.p a.n unit a.is in
    let B = signed_of d b.p b.n unit b.is in
    both n d A.s B.s A.size B.size n-fits A.value B.value
    (not-zero d eps B.s B.size E B.value e-value some far) h

-- ---- the range test's answer then
pub not_within : (n d : Float) (v : Vector2) (eps : Float) → T (fits binary64 n) → T (fits binary64 d) → T (fits binary64 eps)
    → (F64.abs d ≺ eps) ≡ false → T (crosses_outside n d v eps) → on_segment (n ⊘ d) v eps ≡ false
unfolding crosses_outside
not_within n d v eps n-fits d-fits e-fits far h =
    let square = vector2.dot v v in
    let sizes = and_l (usual square eps) (quotient_outside n d) h in
    let e = eps-between square eps e-fits sizes in
    within-outside (n ⊘ d) v eps (div-fits binary64 n d) e-fits sizes
    (outside-known n d eps e.X n-fits d-fits e.value e.some far (and_r (usual square eps) (quotient_outside n d) h))

first_off : (a b : Bool) (x y : LineLineIntr) → a ≡ false → cond (not a || not b) x y ≡ x
first_off a b x y e = rw e

second-off : (a b : Bool) (x y : LineLineIntr) → b ≡ false → cond (not a || not b) x y ≡ x
second-off true b x y e = rw e
second-off false b x y e = refl

crossed : (near : Bool) (x y : LineLineIntr) → near ≡ false → cond (not near) x y ≡ x
crossed near x y e = rw e

beside : (near a b : Bool) (x y z : LineLineIntr) → near ≡ true → T (not b) → cond (not near) x (cond (not a || not b) y z) ≡ y
beside near true false x y z e t = rw e
beside near false false x y z e t = rw e
beside near false true x y z e t = elim t [ ]
beside near true true x y z e t = elim t [ ]

-- near zero or not, with one fact for each case
by_cases : {A : Type 0} (near a b : Bool) → T (cond near a b) → (near ≡ true → T a → A) → (near ≡ false → T b → A) → A
by_cases true a b t f g = f refl t
by_cases false a b t f g = g refl t

-- ---- the definition's answer then
module _ (v1 v2 u1 u2 : Vector2) (eps : Float) (e-fits : T (fits binary64 eps)) where
  abbrev v : Vector2
  v = vector2.sub v2 v1

  abbrev u : Vector2
  u = vector2.sub u2 u1

  abbrev w : Vector2
  w = vector2.sub v1 u1

  abbrev d : Float
  d = vector2.perp_dot v u

  abbrev n1 : Float
  n1 = vector2.perp_dot u w

  abbrev n2 : Float
  n2 = vector2.perp_dot v w

  d-fits : T (fits binary64 d)
  d-fits = sub-fits binary64 (v.x ⊗ u.y) (v.y ⊗ u.x)

  n1-fits : T (fits binary64 n1)
  n1-fits = sub-fits binary64 (u.x ⊗ w.y) (u.y ⊗ w.x)

  n2-fits : T (fits binary64 n2)
  n2-fits = sub-fits binary64 (v.x ⊗ w.y) (v.y ⊗ w.x)

  -- parallel, and not on one straight line
  side_by_side : fuzzy_eq_zero_eps d eps ≡ true → T (not (fuzzy_eq_zero_eps n1 eps))
      → line_line v1 v2 u1 u2 eps ≡ lines.NoIntersect
  unfolding line_line parallel
  side_by_side near t = beside (fuzzy_eq_zero_eps d eps) (fuzzy_eq_zero_eps n2 eps) (fuzzy_eq_zero_eps n1 eps) _ _ _ near t

  -- not parallel, and the straight lines cross outside one of the segments
  cross-outside : fuzzy_eq_zero_eps d eps ≡ false → T (crosses_outside n1 d v eps || crosses_outside n2 d u eps)
      → line_line_of (line_line v1 v2 u1 u2 eps) v1 v2 u1 u2 ≡ NoIntersect
  unfolding line_line crossing fuzzy_eq_zero_eps
  cross-outside far t =
      let t1 = n1 ⊘ d in
      let t2 = n2 ⊘ d in
      let found = either (crosses_outside n1 d v eps) (crosses_outside n2 d u eps)
      (λ y. first_off (on_segment t1 v eps) (on_segment t2 u eps) _ _ (not_within n1 d v eps n1-fits d-fits e-fits far y))
      (λ y. second-off (on_segment t1 v eps) (on_segment t2 u eps) _ _ (not_within n2 d u eps n2-fits d-fits e-fits far y))
      t in
      ap (λ (r : LineLineIntr). line_line_of r v1 v2 u1 u2)
      (crossed (fuzzy_eq_zero_eps d eps) _ (parallel v1 v2 u1 u2 v u w eps) far ∙ found)

  pub apart-lines : T (lines_apart v1 v2 u1 u2 eps) → process_line_line_intr v1 v2 u1 u2 eps ≡ NoIntersect
  unfolding lines_apart process_line_line_intr
  apart-lines h =
      by_cases (fuzzy_eq_zero_eps d eps) (not (fuzzy_eq_zero_eps n1 eps))
      (crosses_outside n1 d v eps || crosses_outside n2 d u eps) h
      (λ near t. ap (λ (r : LineLineIntr). line_line_of r v1 v2 u1 u2) (side_by_side near t)) cross-outside
