-- The point that the kernel answers for segments that meet at an end, in whole numbers. The point at the parameter 0 is the start
-- and the point at 1 the end, exactly; the parameter of a segment's own end is 0 or 1, exactly; and if two segments on one
-- straight line touch, the parameter is 0 or 1. A float within 1 / 2 ^ 30 of a whole number is near to it by every epsilon from
-- 1/1024 on.
use Rattle.std.specs.Prelude.{◌≡◌, refl, ◌⊎◌, ℕ, ◌+◌, ◌*◌, ◌^◌, ◌≤◌, ◌<◌, Bool, true, false, not, cond, ◌||◌, Float}
use Rattle.std.proofs.Common.{ap, ◌∙◌, inl, inr, mul-le-mul_right, le_of_mul-le-mul_right, mul-pos, zero-lt-suc, lit≤}
use native.Mathlib.Omega.{arith}
use Rattle.std.specs.Float.Ieee.{binary64, of_bits}
use Rattle.std.specs.Float.Ieee.Bits.{is_true}
use Rattle.float_laws.specs.Signed.{Diff, diff-at}
use Rattle.float_laws.specs.Rounded.{sub-rounded}
use Rattle.float_laws.specs.Roundings.{rounded-whole}
use Rattle.float_laws.specs.Whole.{add-whole}
use Rattle.float_laws.specs.Binary64.{unit, unit-pos, near64}
use Rattle.floats.specs.Ops.{◌⊕◌, ◌⊖◌, ◌⊗◌, f0, f1}
use Rattle.floats.specs.F64
use Rattle.floats.specs.Laws.Leaves.{abs-lt}
use Rattle.plane.specs.Vector2 as vector2
use Rattle.plane.specs.declared.vector2.Vector2.{Vector2}
use Rattle.plane.specs.Fuzzy.{fuzzy_eq_zero_eps, fuzzy_eq_eps, fuzzy_gt_eps, fuzzy_lt_eps}
use Rattle.plane.specs.BaseMath.{point_from_parametric}
use Rattle.crossing.specs.LineLine.{overlap, touching_end}
use Rattle.crossing.specs.declared.line_line.Span.{Span}
use Rattle.crossing.specs.declared.line_line_intr.LineLineIntr.TheVariants.{NoIntersect, TrueIntersect, Overlapping}
use Rattle.grid.specs.Floats.Small.{Small, Vec, small-sub, small_mul, vec-sub}
use Rattle.grid.specs.Floats.Zero.{Eps}
use Rattle.grid.specs.Floats.Length.{gap, IsZero}
use Rattle.grid.specs.Floats.Ratio.{Turned, Ratio}
use Rattle.grid.specs.Floats.Ways.{point-or-not, same_point, two-points}

-- ---- a float (p - n) / d within 1 / 2 ^ 30 of the whole number q - k is near to it

-- the difference as a float is (a - b) / L, at most (2 ^ 24 + 1) / 2 ^ 54
short : (a b P N d L : ℕ) → 0 < d → 2 ^ 54 * (a * (d * 1) + N * L) ≤ 2 ^ 54 * (P * L + b * (d * 1)) + 2 ^ 0 * (d * 1 * L)
    → 2 ^ 30 * P ≤ 2 ^ 30 * N + d
    → 2 ^ 54 * a ≤ 2 ^ 54 * b + 16777217 * L
short a b P N d L D x y =
    le_of_mul-le-mul_right {m = 2 ^ 54 * a} {n = 2 ^ 54 * b + 16777217 * L} {k = d} (omega (arith, mul-le-mul_right L y)) D

-- so it is below num / den
below : (a b L num den : ℕ) → 0 < L → 0 < den → den ≤ 1024 * num → 2 ^ 54 * a ≤ 2 ^ 54 * b + 16777217 * L
    → a * den + 0 * L < num * L + b * den
below a b L num den U D l h =
    let some : 0 < num * L = mul-pos (omega arith) U in
    let x = mul-le-mul_right den h in
    let y = mul-le-mul_right L l in
    omega arith

module _ (e : Float) (num den : ℕ) (E : Eps e num den) (c x : Float) (p n d q k : ℕ) (D : 0 < d)
    (is : Diff c p n d) (at : Diff x q k 1) where
  pub near-whole : 2 ^ 30 * (p + k * d) ≤ 2 ^ 30 * (n + q * d) + d → 2 ^ 30 * (n + q * d) ≤ 2 ^ 30 * (p + k * d) + d
      → fuzzy_eq_eps c x e ≡ true
  unfolding fuzzy_eq_eps
  near-whole u l =
      let P = p * 1 + k * d in
      let N = n * 1 + q * d in
      let r = sub-rounded binary64 c x p n q k d 1 D (zero-lt-suc 0) is at in
      let w = near64 (c ⊖ x) P N (d * 1) 0 r (omega arith) (omega arith) (omega arith) (lit≤ tt) in
      let hi = short w.p w.n P N d unit D w.most (omega arith) in
      let lo = short w.n w.p N P d unit D (turned w.p w.n P N (d * 1) unit w.least) (omega arith) in
      is_true _ ((abs-lt (c ⊖ x) e w.p w.n unit num 0 den unit-pos E.some w.is E.is).1 (
        below w.p w.n unit num den unit-pos E.some E.least hi,
        below w.n w.p unit num den unit-pos E.some E.least lo,
      ))
    where
      turned : (a b P N c L : ℕ) → 2 ^ 54 * (P * L + b * c) ≤ 2 ^ 54 * (a * c + N * L) + 2 ^ 0 * (c * L)
          → 2 ^ 54 * (b * c + P * L) ≤ 2 ^ 54 * (N * L + a * c) + 2 ^ 0 * (c * L)
      turned a b P N c L h = omega arith

-- ---- the point at the parameter 0 or 1
on-axis : (c0 c1 t : Float) (A : Small 20 c0) (B : Small 20 c1) (k : ℕ) → k ≤ 1 → Diff t k 0 1
    → Diff (c0 ⊕ (c1 ⊖ c0) ⊗ t) (A.p + k * (B.p + A.n)) (A.n + k * (B.n + A.p)) 1
on-axis c0 c1 t A B k few is =
    let K : Small 21 t = record { p = k; n = 0; is = is; p-le = omega arith; n-le = omega arith } in
    let d = small-sub 20 c1 c0 (lit≤ tt) B A in
    let m = small_mul 21 (c1 ⊖ c0) t (lit≤ tt) d K in
    let s = add-whole binary64 c0 ((c1 ⊖ c0) ⊗ t) A.p A.n m.p m.n A.is m.is
    (omega (arith, A.p-le, m.p-le)) (omega (arith, A.n-le, m.n-le)) in
    diff-at (c0 ⊕ (c1 ⊖ c0) ⊗ t) (A.p + m.p) (A.n + m.n) 1 (A.p + k * (B.p + A.n)) (A.n + k * (B.n + A.p)) 1
    (zero-lt-suc 0) s (plain A.p A.n B.p B.n)
  where
    plain : (a b c d : ℕ)
        → (a + ((c + b) * k + (d + a) * 0)) * 1 + (b + k * (d + a)) * 1
        ≡ (a + k * (c + b)) * 1 + (b + ((c + b) * 0 + (d + a) * k)) * 1
    plain a b c d = omega arith

-- o stands where the grid point of these numbers does
abbrev pub There : (o v : Vector2) → Vec 20 v → Type 0
There o v A = Diff o.x A.x.p A.x.n 1 × Diff o.y A.y.p A.y.n 1

module _ (a b : Vector2) (A : Vec 20 a) (B : Vec 20 b) (t : Float) where
  pub at-start : Diff t 0 0 1 → There (point_from_parametric a b t) a A
  unfolding point_from_parametric vector2.add vector2.scale vector2.sub
  at-start is = (one a.x b.x A.x B.x, one a.y b.y A.y B.y)
    where
      one : (c0 c1 : Float) (A : Small 20 c0) (B : Small 20 c1) → Diff (c0 ⊕ (c1 ⊖ c0) ⊗ t) A.p A.n 1
      one c0 c1 A B =
          diff-at (c0 ⊕ (c1 ⊖ c0) ⊗ t) (A.p + 0 * (B.p + A.n)) (A.n + 0 * (B.n + A.p)) 1 A.p A.n 1 (zero-lt-suc 0)
          (on-axis c0 c1 t A B 0 (omega arith) is) (omega arith)

  pub at-end : Diff t 1 0 1 → There (point_from_parametric a b t) b B
  unfolding point_from_parametric vector2.add vector2.scale vector2.sub
  at-end is = (one a.x b.x A.x B.x, one a.y b.y A.y B.y)
    where
      one : (c0 c1 : Float) (A : Small 20 c0) (B : Small 20 c1) → Diff (c0 ⊕ (c1 ⊖ c0) ⊗ t) B.p B.n 1
      one c0 c1 A B =
          diff-at (c0 ⊕ (c1 ⊖ c0) ⊗ t) (A.p + 1 * (B.p + A.n)) (A.n + 1 * (B.n + A.p)) 1 B.p B.n 1 (zero-lt-suc 0)
          (on-axis c0 c1 t A B 1 (omega arith) is) (omega arith)

pub zero_is : Diff f0 0 0 1
unfolding of_bits
zero_is = omega arith

pub one-is : Diff f1 1 0 1
unfolding of_bits
one-is = omega arith

-- ---- the place of a segment's own end: x / d is 0, or 1
module _ (t : Float) (xp xn dp dn : ℕ) (a : Ratio 21 t xp xn dp dn) where
  pub ratio-zero : xp ≡ xn → Diff t 0 0 1
  ratio-zero e =
      rounded-whole binary64 t a.P a.N (gap dp dn) 0 0 a.place.rounded a.place.some (go a.P a.N a.turned)
      (lit≤ tt) (lit≤ tt)
    where
      go : (P N : ℕ) → Turned P N xp xn dp dn → P + 0 * gap dp dn ≡ 0 * gap dp dn + N
      go P N (inl (l, h, k)) = omega arith
      go P N (inr (l, h, k)) = omega arith

  pub ratio-one : xp + dn ≡ dp + xn → Diff t 1 0 1
  ratio-one e =
      rounded-whole binary64 t a.P a.N (gap dp dn) 1 0 a.place.rounded a.place.some (go a.P a.N a.turned)
      (lit≤ tt) (lit≤ tt)
    where
      go : (P N : ℕ) → Turned P N xp xn dp dn → P + 0 * gap dp dn ≡ 1 * gap dp dn + N
      go P N (inl (l, h, k)) = omega arith
      go P N (inr (l, h, k)) = omega arith

-- ---- segments on one straight line that touch: the parameter on the first
pub overlap-end : (v1 u1 u2 u : Vector2) (s : Span) (e t1 t2 : Float) → overlap v1 u1 u2 u s e ≡ TrueIntersect t1 t2
    → t1 ≡ touching_end v1 u1 u2 e
unfolding overlap
overlap-end v1 u1 u2 u s e t1 t2 =
    let len = vector2.length u in
    let x0 = F64.max s.t0 f0 in
    let x1 = F64.min s.t1 f1 in
    go (not (fuzzy_lt_eps (s.t0 ⊗ len) len e) || not (fuzzy_gt_eps (s.t1 ⊗ len) f0 e)) (fuzzy_eq_zero_eps ((x1 ⊖ x0) ⊗ len) e)
    (touching_end v1 u1 u2 e) x0 x1
  where
    go : (a b : Bool) (t x y : Float) → cond a NoIntersect (cond b (TrueIntersect t x) (Overlapping x y)) ≡ TrueIntersect t1 t2
        → t1 ≡ t
    go true b t x y h = let z : ◌≡◌ {A = ℕ} 0 1 = cc in absurd (omega arith)
    go false true t x y h = cc
    go false false t x y h = let z : ◌≡◌ {A = ℕ} 0 1 = cc in absurd (omega arith)

-- it is 0 if the first starts at an end of the second, else 1
pub touching : (e : Float) (num den : ℕ) → Eps e num den → (v1 u1 u2 : Vector2) (A1 : Vec 20 v1) (B1 : Vec 20 u1) (B2 : Vec 20 u2)
    → let at-u1 = IsZero (vector2.sub v1 u1) (vec-sub v1 u1 A1 B1) in
    let at-u2 = IsZero (vector2.sub v1 u2) (vec-sub v1 u2 A1 B2) in
    ((at-u1 ⊎ at-u2) × (touching_end v1 u1 u2 e ≡ f0)) ⊎ ((at-u1 ⊎ at-u2 → ⊥) × (touching_end v1 u1 u2 e ≡ f1))
unfolding touching_end
touching e num den h v1 u1 u2 A1 B1 B2 =
    go (point-or-not (vector2.sub v1 u1) (vec-sub v1 u1 A1 B1)) (point-or-not (vector2.sub v1 u2) (vec-sub v1 u2 A1 B2))
  where
    X : Type 0
    X = IsZero (vector2.sub v1 u1) (vec-sub v1 u1 A1 B1)

    Y : Type 0
    Y = IsZero (vector2.sub v1 u2) (vec-sub v1 u2 A1 B2)

    any : (a : Bool) → (a || true) ≡ true
    any true = refl
    any false = refl

    end : Bool → Float
    end c = cond c f0 f1

    go : X ⊎ (X → ⊥) → Y ⊎ (Y → ⊥)
        → ((X ⊎ Y) × (end (vector2.fuzzy_eq_eps v1 u1 e || vector2.fuzzy_eq_eps v1 u2 e) ≡ f0))
        ⊎ ((X ⊎ Y → ⊥) × (end (vector2.fuzzy_eq_eps v1 u1 e || vector2.fuzzy_eq_eps v1 u2 e) ≡ f1))
    go (inl x) y = inl (inl x, ap (λ (z : Bool). end (z || vector2.fuzzy_eq_eps v1 u2 e)) (same_point e num den h v1 u1 A1 B1 x))
    go (inr x) (inl y) =
        inl (
          inr y,
          ap (λ (z : Bool). end (vector2.fuzzy_eq_eps v1 u1 e || z)) (same_point e num den h v1 u2 A1 B2 y)
              ∙ ap end (any (vector2.fuzzy_eq_eps v1 u1 e)),
        )
    go (inr x) (inr y) =
        inr (
          neither,
          ap (λ (z : Bool). end (z || vector2.fuzzy_eq_eps v1 u2 e)) (two-points e num den h v1 u1 A1 B1 x)
              ∙ ap (λ (z : Bool). end (false || z)) (two-points e num den h v1 u2 A1 B2 y),
        )
      where
        neither : X ⊎ Y → ⊥
        neither (inl z) = x z
        neither (inr z) = y z
