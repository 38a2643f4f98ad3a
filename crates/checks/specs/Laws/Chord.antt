-- An arc's chord is long enough if its dot product with itself is at least 2^-80: then the correctly rounded root is at least
-- 2^-40, the least chord, since rounding does not cross it. So the check needs no root there.
use Rattle.std.specs.Prelude.{◌≡◌, refl, ℕ, ◌+◌, ◌-◌, ◌*◌, ◌^◌, ◌≤◌, ◌<◌, Bool, true, false, not, cond, T, Float, Ok}
use Rattle.std.proofs.Common.{sym, ap, subst, arith, lit<}
use Rattle.std.specs.Float.{inf, binary64}
use Rattle.std.specs.Float.Ieee.{of_bits, fits, lt}
use Rattle.std.specs.Float.Ieee.Bits.{is_false}
use Rattle.std.specs.Float.Ieee.Fits.{add-fits}
use Rattle.std.specs.Float.Ieee.Scale.{finite}
use Rattle.float_laws.specs.Signed.{Diff, diff-finite, own-diff, size_above}
use Rattle.float_laws.specs.Order.{le-diff}
use Rattle.float_laws.specs.Chains.{le_not_lt, from-above}
use Rattle.float_laws.specs.Binary64.{unit, unit-pos, units64}
use Rattle.floats.specs.Ops.{◌⊗◌, ◌≺◌, ◌≽◌}
use Rattle.floats.specs.F64
use Rattle.floats.specs.Laws.RootPowers.{root64, root-least}
use Rattle.plane.specs.Vector2 as vector2
use Rattle.plane.specs.declared.vector2.Vector2.{Vector2}
use Rattle.checks.specs.declared.fault.Place.{Place}
use Rattle.checks.specs.Fault.{bad, refuse}
use Rattle.checks.specs.Limit
use Rattle.checks.specs.Refusal
use Rattle.checks.specs.Each

-- 2^-80
abbrev pub square_least : Float
square_least = of_bits binary64 0x3af0_0000_0000_0000

square-is : Diff square_least 1 0 (2 ^ 80)
unfolding of_bits
square-is = omega arith

chord-is : Diff Limit.chord_least 1 0 (2 ^ 40)
unfolding of_bits
chord-is = omega arith

inf-long : T (not (F64.sqrt (inf false) ≺ Limit.chord_least))
unfolding F64.sqrt lt of_bits
inf-long = tt

finite-long : (x : Float) → T (fits binary64 x) → T (finite x) → T (x ≽ square_least) → T (not (F64.sqrt x ≺ Limit.chord_least))
finite-long x t f h =
    let u = units64 x f t in
    let l = (le-diff square_least x 1 0 (2 ^ 80) u.p u.n unit (lit< tt) unit-pos square-is u.is).0 h in
    let s = sizes u.p u.n unit unit-pos l in
    let X = u.p - u.n in
    let r = root64 x X t s.1 (size_above x u.p u.n unit s.0 u.is) in
    let k = root-least X (F64.sqrt x) r 40 1034 refl s.2 in
    let is = own-diff (F64.sqrt x) false r.R unit r.value in
    let long = (le-diff Limit.chord_least (F64.sqrt x) 1 0 (2 ^ 40) r.R 0 unit (lit< tt) unit-pos chord-is is).1
    (plain r.R unit k) in
    le_not_lt Limit.chord_least (F64.sqrt x) long
  where
    sizes : (p n L : ℕ) → 0 < L → 1 * L + n * 2 ^ 80 ≤ p * 2 ^ 80 + 0 * L
        → (n < p) × (0 < p - n) × (L ≤ 2 ^ 40 * 2 ^ 40 * (p - n))
    sizes p n L Q h = (omega arith, omega arith, omega arith)

    plain : (R L : ℕ) → L ≤ 2 ^ 40 * R → 1 * L + 0 * 2 ^ 40 ≤ R * 2 ^ 40 + 0 * L
    plain R L h = omega arith

pub long-chord : (v : Vector2) → T (vector2.dot v v ≽ square_least) → (vector2.length v ≺ Limit.chord_least) ≡ false
unfolding vector2.length
long-chord v h =
    let x = vector2.dot v v in
    is_false _ (from-above (λ (z : Float). T (not (F64.sqrt z ≺ Limit.chord_least))) square_least x
    (diff-finite square_least 1 0 (2 ^ 80) square-is) h inf-long
    (λ f. finite-long x (add-fits binary64 (v.x ⊗ v.x) (v.y ⊗ v.y)) f h))

-- so the check finds it fine, for any place p and for the computed dot product s
pub long-fine : (v : Vector2) (s : Float) → s ≡ vector2.dot v v → (s ≽ square_least) ≡ true
    → (p : Place) → Each.chord (vector2.length v) p ≡ Ok tt
unfolding Each.chord refuse
long-fine v s e h p =
    let t : T (vector2.dot v v ≽ square_least) = subst (λ (z : Float). T (z ≽ square_least)) e (subst T (sym h) tt) in
    ap (λ (b : Bool). cond b (bad Refusal.chord p) (Ok tt)) (long-chord v t)
