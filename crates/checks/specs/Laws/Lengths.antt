-- The length of the way from one point to another, if no coordinate is above 2 ^ k in size. The differences, their squares, the
-- sum of these and its root are finite, since rounding does not cross a power of two; and from the squares on nothing has a sign.
-- The coordinates may be any numbers, not only those of the format.
use Rattle.std.specs.Prelude.{◌≡◌, refl, ℕ, zero, suc, ◌+◌, ◌*◌, ◌^◌, ◌≤◌, ◌<◌, Bool, true, false, T, Float}
use Rattle.std.proofs.Common.{sym, ap, ◌∙◌, subst, mul-pos, mul-le-mul_right, zero-lt-suc, arith, pow-add, pow_pos}
use Rattle.std.proofs.Math.Nat.{pow-succ'}
use Rattle.std.specs.Float.{nan, inf, fin, Format}
use Rattle.std.specs.Float.Ieee.{emax, low, up, down, unlike, round, sum, add, sub, mul, fits, of_bits}
use Rattle.std.specs.Float.Ieee.Exact.{HasValue}
use Rattle.std.specs.Float.Ieee.Fits.{add-fits, down_pos}
use Rattle.std.specs.Float.Ieee.Scale.{finite, grid, round_val, round_under}
use Rattle.float_laws.specs.Count.{same_count}
use Rattle.float_laws.specs.Signed.{Diff, ups, downs, own-diff}
use Rattle.float_laws.specs.Order.{le-diff}
use Rattle.float_laws.specs.Chains.{written-diff}
use Rattle.float_laws.specs.Rounded.{sub-rounded, mul-count, add-count}
use Rattle.float_laws.specs.Roundings.{Within, rounded-within}
use Rattle.float_laws.specs.Magnitudes.{within-finite, mul-within, add-within}
use Rattle.float_laws.specs.Sizes.{Small}
use Rattle.floats.specs.F64
use Rattle.floats.specs.F64.{root_of}
use Rattle.floats.specs.Laws.Sqrt.{root-of, root-zero, root-within}
use Rattle.checks.specs.Limit
use Rattle.checks.specs.Laws.Fine as fine

-- x has no sign, and is at most 2 ^ K units
pub record Unsigned (f : Format) (K : ℕ) (x : Float) : Type 0 where
  pub count : ℕ
  pub value : HasValue x false count (2 ^ low f)
  pub le : count ≤ 2 ^ K

abbrev within : (f : Format) (K : ℕ) (x : Float) → Unsigned f K x → Within f K x
within f K x u = record { s = false; count = u.count; value = u.value; le = u.le }

-- ---- a difference
difference : (f : Format) (k : ℕ) (x y : Float) → Small k x → Small k y → suc k + low f < low f + suc (emax f)
    → Within f (suc k + low f) (sub f x y)
difference f k x y a b fine =
    let r = sub-rounded f x y _ _ _ _ a.over b.over a.some b.some
    (own-diff x a.s a.size a.over a.value) (own-diff y b.s b.size b.over b.value) in
    let L = 2 ^ low f in
    let power : 2 ^ (suc k + low f) ≡ 2 * 2 ^ k * L = pow-add 2 (suc k) (low f) ∙ ap (λ (z : ℕ). z * L) (pow-succ' 2 k) in
    let m = sizes a.s b.s a.size b.size a.over b.over (2 ^ k) L (2 ^ (suc k + low f)) power a.le b.le in
    rounded-within f (sub f x y) _ _ (a.over * b.over) (suc k + low f) r (mul-pos a.some b.some) m.0 m.1 fine
  where
    sizes : (s t : Bool) (X Y c d B L K : ℕ) → K ≡ 2 * B * L → X ≤ B * c → Y ≤ B * d
        → ((ups s X * d + downs t Y * c) * L ≤ (downs s X * d + ups t Y * c) * L + K * (c * d))
        × ((downs s X * d + ups t Y * c) * L ≤ (ups s X * d + downs t Y * c) * L + K * (c * d))
    sizes s t X Y c d B L K e p q =
        go s t (mul-le-mul_right (d * L) p) (mul-le-mul_right (c * L) q) (ap (λ (z : ℕ). z * (c * d)) e)
      where
        go : (s t : Bool) → X * (d * L) ≤ B * c * (d * L) → Y * (c * L) ≤ B * d * (c * L) → K * (c * d) ≡ 2 * B * L * (c * d)
            → ((ups s X * d + downs t Y * c) * L ≤ (downs s X * d + ups t Y * c) * L + K * (c * d))
            × ((downs s X * d + ups t Y * c) * L ≤ (ups s X * d + downs t Y * c) * L + K * (c * d))
        go true true x y z = (omega arith, omega arith)
        go true false x y z = (omega arith, omega arith)
        go false true x y z = (omega arith, omega arith)
        go false false x y z = (omega arith, omega arith)

-- ---- rounding a value without a sign gives a value without a sign
unsigned : (f : Format) (K a c : ℕ) (x : Float) → x ≡ round f false a c → Within f K x → Unsigned f K x
unsigned f K a c x e w =
    let real : T (finite (round f false a c)) = subst (λ (z : Float). T (finite z)) e (within-finite f K x w) in
    let v : HasValue x false (grid f a c) (2 ^ low f) =
    subst (λ (z : Float). HasValue z false (grid f a c) (2 ^ low f)) (sym e) (round_val f a c (round_under f a c real)) in
    let same = same_count x w.s false w.count (grid f a c) (2 ^ low f) w.value v in
    record { count = grid f a c; value = v; le = subst (λ (z : ℕ). z ≤ 2 ^ K) same w.le }

alike : (s : Bool) → unlike s s ≡ false
alike true = refl
alike false = refl

square : (f : Format) (K k : ℕ) (x : Float) → Within f K x → K + K ≡ low f + k → k < low f + suc (emax f)
    → Unsigned f k (mul f x x)
square f K k x w e fine =
    let P = pow_pos (low f) in
    let L = 2 ^ low f in
    let is = mul-count f x x w.s w.s w.count w.count L L P P w.value w.value in
    let plain = ap (λ (z : Bool). round f z (w.count * w.count) (L * L)) (alike w.s) in
    unsigned f k (w.count * w.count) (L * L) (mul f x x) (is ∙ plain) (mul-within f x x K K k w w e fine)

both : (f : Format) (A B c : ℕ) → sum f false A false B c ≡ round f false (A + B) c
unfolding sum
both f A B c = refl

squares : (f : Format) (K : ℕ) (x y : Float) → Unsigned f K x → Unsigned f K y → suc K < low f + suc (emax f)
    → Unsigned f (suc K) (add f x y)
squares f K x y u w fine =
    let is = add-count f x y false false u.count w.count (2 ^ low f) (pow_pos (low f)) u.value w.value in
    unsigned f (suc K) _ _ (add f x y) (is ∙ both f u.count w.count (2 ^ low f))
    (add-within f x y K (within f K x u) (within f K y w) fine)

-- ---- the root
root : (f : Format) (K J : ℕ) (x : Float) → T (fits f x) → Unsigned f K x → K + low f ≤ J + J → Unsigned f J (root_of f x)
root f K J x t u room =
    let w = root-within f x u.count K J t u.value u.le room in
    let r = signless u.count u.value in
    let same = same_count (root_of f x) w.s false w.count r.0 (2 ^ low f) w.value r.1 in
    record { count = r.0; value = r.1; le = subst (λ (z : ℕ). z ≤ 2 ^ J) same w.le }
  where
    signless : (X : ℕ) → HasValue x false X (2 ^ low f) → (R : ℕ) × HasValue (root_of f x) false R (2 ^ low f)
    signless zero v = (0, root-zero f x false (2 ^ low f) (2 ^ low f) (pow_pos (low f)) v)
    signless (suc X) v =
        let r = root-of f x (suc X) (2 ^ low f) t (zero-lt-suc X) (pow_pos (low f)) v in (r.R, r.value)

-- ---- together: the way from (x, y) to (p, q)
pub way : (f : Format) (k : ℕ) (x y p q : Float) → Small k x → Small k y → Small k p → Small k q → k + k + 4 ≤ emax f
    → (let u = sub f p x in
    let v = sub f q y in
    Unsigned f (suc (suc k) + low f) (root_of f (add f (mul f u u) (mul f v v))))
way f k x y p q a b c d room =
    let u = sub f p x in
    let v = sub f q y in
    let l = low f in
    let K = suc k + suc k + l in
    let r = rooms k l (emax f) room in
    let across = square f (suc k + l) K u (difference f k p x c a r.0) r.1 r.2 in
    let up = square f (suc k + l) K v (difference f k q y d b r.0) r.1 r.2 in
    root f (suc K) (suc (suc k) + l) (add f (mul f u u) (mul f v v)) (add-fits f (mul f u u) (mul f v v))
    (squares f K (mul f u u) (mul f v v) across up r.3) r.4
  where
    rooms : (k l e : ℕ) → k + k + 4 ≤ e
        → (suc k + l < l + suc e)
        × ((suc k + l) + (suc k + l) ≡ l + (suc k + suc k + l))
        × (suc k + suc k + l < l + suc e)
        × (suc (suc k + suc k + l) < l + suc e)
        × (suc (suc k + suc k + l) + l ≤ (suc (suc k) + l) + (suc (suc k) + l))
    rooms k l e h = (omega arith, omega arith, omega arith, omega arith, omega arith)

-- ---- a coordinate that passed its check
limit_is : Diff Limit.coordinate (2 ^ 20) 0 1
unfolding of_bits
limit_is = omega arith

pub coordinate-small : (x : Float) → fine.Within Limit.coordinate x → Small 20 x
unfolding F64.abs
coordinate-small nan w = absurd w.number
coordinate-small (inf s) w = absurd w.number
coordinate-small (fin s m e) w =
    let one = zero-lt-suc 0 in
    let is = written-diff false m e in
    let l = (le-diff (fin false m e) Limit.coordinate _ _ _ (2 ^ 20) 0 1 (down_pos e) one is limit_is).0 w.small in
    record { s = s; size = m * up e; over = down e; some = down_pos e; value = (refl, refl); le = plain (m * up e) (down e) l }
  where
    plain : (M c : ℕ) → M * 1 + 0 * c ≤ 2 ^ 20 * c + 0 * 1 → M ≤ 2 ^ 20 * c
    plain M c h = omega arith
