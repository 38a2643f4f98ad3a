-- A finite float as a sign and a count of the format's smallest value: HasValue x s A (2 ^ low f). These two numbers fix the bit
-- pattern of a value, so two values of the format with the same sign and count are the same float.
use Rattle.std.specs.Prelude.{◌≡◌, refl, ◌⊎◌, ℕ, zero, suc, ◌+◌, ◌-◌, ◌*◌, ◌/◌, ◌%◌, ◌^◌, ◌≤◌, ◌<◌, Bool, true, false, cond, ◌&&◌, ℤ, pos, negsuc, T, leb, ltb, eqb, Float}
use Rattle.std.proofs.Common.{sym, ap, ◌∙◌, subst, inl, inr, mul-one, mul_assoc, mul_comm, mul-div_cancel, mul-le-mul_right, mul-lt-mul_of_pos_right, lt_of_mul-lt-mul_right, zero-mul, lt_irrefl, le_trans, le_of_eq, lt_of_lt_of_le, eq-or-lt_of_le, mod-eq_of_lt, arith, eqb→eq, leb→le, ltb→lt, pow-add, pow_pos}
use Rattle.std.proofs.Math.Nat.{le-suc, eq_of_mul-eq-mul_right, pow-succ'}
use Rattle.std.proofs.Math.Dec.{not_T}
use Rattle.std.proofs.Math.Arith.{digits_lt, digits_div, digits_mod, lt→nleb}
use Rattle.std.specs.Float.{nan, inf, fin, Format}
use Rattle.std.specs.Float.Ieee.{prec, emax, low, up, down, size, odd, fits, hid, ones, top, of_fields, of_bits, to_bits, round, units, is_nan}
use Rattle.std.specs.Float.Ieee.Digits.{back}
use Rattle.std.specs.Float.Ieee.Exact.{HasValue, odd_sign, units_val}
use Rattle.std.specs.Float.Ieee.Fits.{two, down_pos, and_l, and_r, round_is}
use Rattle.std.specs.Float.Ieee.Bits.{of_bits-to_bits, is_false, cond_no}
use Rattle.std.specs.Float.Ieee.Order.{drop, kept}
use Rattle.std.specs.Float.Ieee.Scale.{grid, overflow, finite}
use Rattle.float_laws.specs.Powers.{pow_le_back, size_exact, pred}
use Rattle.float_laws.specs.Best.{Held}

-- ---- from a sign and a count to the pattern
abbrev pub bits_of : Format → Bool → ℕ → ℕ
bits_of f s A = cond s (top f) 0 + (size A - prec f) * hid f + A / 2 ^ (size A - prec f)

pub to_bits-count : (f : Format) (x : Float) (s : Bool) (A : ℕ) → HasValue x s A (2 ^ low f) → to_bits f x ≡ bits_of f s A
unfolding to_bits
to_bits-count f nan s A h = absurd h
to_bits-count f (inf t) s A h = absurd h
to_bits-count f (fin t m e) s A (p, q) =
    let same : m * up e * 2 ^ low f / down e ≡ A = ap (λ (z : ℕ). z / down e) q ∙ mul-div_cancel A (down_pos e) in
    ap (λ (b : Bool). bits_of f b (m * up e * 2 ^ low f / down e)) p ∙ ap (λ (n : ℕ). bits_of f s n) same

pub count-unique : (f : Format) (x y : Float) (s : Bool) (A : ℕ)
    → T (fits f x)
    → T (fits f y)
    → HasValue x s A (2 ^ low f)
    → HasValue y s A (2 ^ low f)
    → x ≡ y
count-unique f x y s A p q h k =
    sym (of_bits-to_bits f x p)
    ∙ ap (of_bits f) (to_bits-count f x s A h ∙ sym (to_bits-count f y s A k))
    ∙ of_bits-to_bits f y q

-- w * 2 ^ g, if w has as many digits as the format has: the exponent's field is g plus one, and a carry into the next power of
-- two is a carry into the field
pub bits_at : (f : Format) (w g : ℕ) → hid f ≤ w → w ≤ 2 * hid f → bits_of f false (w * 2 ^ g) ≡ g * hid f + w
bits_at f w g lo hi = go (prec f - 1) (pred (prec f) (two f)) lo (eq-or-lt_of_le hi)
  where
    -- v * 2 ^ k with v of o + 1 digits: k of them are dropped
    cut : (p o v k : ℕ) → p ≡ suc o → size (v * 2 ^ k) ≡ suc (o + k)
        → 0 + (size (v * 2 ^ k) - p) * 2 ^ o + v * 2 ^ k / 2 ^ (size (v * 2 ^ k) - p) ≡ k * 2 ^ o + v
    cut p o v k e z =
        let dropped : size (v * 2 ^ k) - p ≡ k = omega arith in
        ap (λ (t : ℕ). 0 + t * 2 ^ o + v * 2 ^ k / 2 ^ t) dropped
        ∙ ap (λ (t : ℕ). 0 + k * 2 ^ o + t) (mul-div_cancel v (pow_pos k))
        ∙ omega arith

    size-at : (o v k : ℕ) → 2 ^ o ≤ v → v < 2 * 2 ^ o → size (v * 2 ^ k) ≡ suc (o + k)
    size-at o v k a b =
        let next : 2 * 2 ^ o * 2 ^ k ≡ 2 ^ suc (o + k) =
        twice (2 ^ o) (2 ^ k) (2 ^ (o + k)) (pow-add 2 o k) ∙ sym (pow-succ' 2 (o + k)) in
        size_exact (o + k) (v * 2 ^ k)
        (le_trans (le_of_eq (pow-add 2 o k)) (mul-le-mul_right (2 ^ k) a))
        (lt_of_lt_of_le (mul-lt-mul_of_pos_right b (pow_pos k)) (le_of_eq next))
      where
        twice : (h G x : ℕ) → x ≡ h * G → 2 * h * G ≡ 2 * x
        twice h G x p = omega arith

    go : (o : ℕ) → prec f ≡ suc o → 2 ^ o ≤ w → (w ≡ 2 * 2 ^ o) ⊎ (w < 2 * 2 ^ o)
        → 0 + (size (w * 2 ^ g) - prec f) * 2 ^ o + w * 2 ^ g / 2 ^ (size (w * 2 ^ g) - prec f) ≡ g * 2 ^ o + w
    go o e a (inr b) = cut (prec f) o w g e (size-at o w g a b)
    go o e a (inl b) =
        let H = 2 ^ o in
        let half : w * 2 ^ g ≡ H * 2 ^ suc g = ap (λ (t : ℕ). t * 2 ^ g) b ∙ move H (2 ^ g) (2 ^ suc g) (pow-succ' 2 g) in
        let z : size (H * 2 ^ suc g) ≡ suc (o + suc g) = size-at o H (suc g) (le_of_eq refl) (more H (pow_pos o)) in
        ap (λ (n : ℕ). 0 + (size n - prec f) * H + n / 2 ^ (size n - prec f)) half
        ∙ cut (prec f) o H (suc g) e z
        ∙ omega arith
      where
        move : (h G x : ℕ) → x ≡ 2 * G → 2 * h * G ≡ h * x
        move h G x e = let y : h * x ≡ h * (2 * G) = ap (λ (t : ℕ). h * t) e in omega arith

        more : (h : ℕ) → 0 < h → h < 2 * h
        more h p = omega arith

-- ---- from a pattern without a sign to its count, by the exponent's field x and the digits t
abbrev pub count : Format → ℕ → ℕ → ℕ
count f zero t = t
count f (suc x) t = (hid f + t) * 2 ^ x

of_fields-count : (f : Format) (x t : ℕ) → x < ones f → HasValue (of_fields f false x t) false (count f x t) (2 ^ low f)
unfolding of_fields
of_fields-count f zero t X =
    subst (λ (z : ℕ). HasValue (odd (prec f) false t 0 (low f)) false z (2 ^ low f)) (mul-one t)
    (odd_sign (prec f) false t 0 (low f))
of_fields-count f (suc x) t X =
    let value = odd (prec f) false (hid f + t) x (low f) in
    let no-inf =
    not_T (eqb (suc x) (ones f)) (λ u. lt_irrefl (ones f) (subst (λ (z : ℕ). z < ones f) (eqb→eq (suc x) (ones f) u) X)) in
    subst (λ (v : Float). HasValue v false ((hid f + t) * 2 ^ x) (2 ^ low f))
    (sym (cond_no (eqb (suc x) (ones f)) (cond (eqb t 0) (inf false) nan) value no-inf))
    (odd_sign (prec f) false (hid f + t) x (low f))

pub of_bits-count : (f : Format) (x t : ℕ) → x < ones f → t < hid f
    → HasValue (of_bits f (x * hid f + t)) false (count f x t) (2 ^ low f)
unfolding of_bits
of_bits-count f x t X H =
    let b = x * hid f + t in
    let in-range : b < suc (ones f) * hid f = digits_lt (le_trans X (le-suc (ones f))) H in
    let l : b < top f = subst (λ (a : ℕ). b < a) (mul_comm (suc (ones f)) (hid f)) in-range in
    let sign : leb (top f) b ≡ false = is_false (leb (top f) b) (lt→nleb (top f) b l) in
    let field : b % top f / hid f ≡ x = ap (λ (z : ℕ). z / hid f) (mod-eq_of_lt l) ∙ digits_div x H in
    let digits : b % hid f ≡ t = digits_mod x H in
    let same =
    ap (λ (s : Bool). of_fields f s (b % top f / hid f) (b % hid f)) sign
    ∙ ap (λ (z : ℕ). of_fields f false z (b % hid f)) field
    ∙ ap (λ (z : ℕ). of_fields f false x z) digits in
    subst (λ (v : Float). HasValue v false (count f x t) (2 ^ low f)) (sym same) (of_fields-count f x t X)

-- ---- every finite value of the format has a count

-- m * 2 ^ e counts m, shifted up
moved : (l m : ℕ) (e : ℤ) → down e ≤ 2 ^ l → (j : ℕ) × (m * up e * 2 ^ l ≡ m * 2 ^ j * down e)
moved l m (pos a) h =
    (a + l, mul_assoc m (2 ^ a) (2 ^ l) ∙ ap (λ (z : ℕ). m * z) (sym (pow-add 2 a l)) ∙ sym (mul-one (m * 2 ^ (a + l))))
moved l m (negsuc a) h =
    let k : suc a ≤ l = pow_le_back (suc a) l h in
    let split : 2 ^ l ≡ 2 ^ (l - suc a) * 2 ^ suc a =
    ap (λ (x : ℕ). 2 ^ x) (sym (back l (suc a) k)) ∙ pow-add 2 (l - suc a) (suc a) in (
      l - suc a,
      ap (λ (x : ℕ). x * 2 ^ l) (mul-one m)
          ∙ ap (λ (x : ℕ). m * x) split
          ∙ sym (mul_assoc m (2 ^ (l - suc a)) (2 ^ suc a)),
    )

-- the sign, the count, that it has few enough digits, and that it is below the format's greatest value
pub record Counted (f : Format) (x : Float) : Type 0 where
  pub s : Bool
  pub count : ℕ
  pub value : HasValue x s count (2 ^ low f)
  pub held : Held (prec f) count
  pub under : count < overflow f

pub counted : (f : Format) (x : Float) → T (finite x) → T (fits f x) → Counted f x
unfolding fits
counted f nan h t = absurd h
counted f (inf s) h t = absurd h
counted f (fin s zero e) h t =
    record {
      s = s;
      count = 0;
      value = (refl, ap (λ (x : ℕ). x * 2 ^ low f) (zero-mul (up e)) ∙ zero-mul (2 ^ low f) ∙ sym (zero-mul (down e)));
      held = record { y = 0; j = 0; few = pow_pos (prec f); is = refl };
      under = pow_pos (low f + suc (emax f));
    }
counted f (fin s (suc m) e) h t =
    let A = eqb (suc m % 2) 1 in
    let B = ltb (suc m) (2 ^ prec f) in
    let C = leb (down e) (2 ^ low f) in
    let D = ltb (suc m * up e) (2 ^ suc (emax f) * down e) in
    let abc = and_l (A && B && C) D t in
    let digits : suc m < 2 ^ prec f = ltb→lt (suc m) (2 ^ prec f) (and_r A B (and_l (A && B) C abc)) in
    let place : down e ≤ 2 ^ low f = leb→le (down e) (2 ^ low f) (and_r (A && B) C abc) in
    let range : suc m * up e < 2 ^ suc (emax f) * down e =
    ltb→lt (suc m * up e) (2 ^ suc (emax f) * down e) (and_r (A && B && C) D t) in
    let k = moved (low f) (suc m) e place in
    record {
      s = s;
      count = suc m * 2 ^ k.0;
      value = (refl, k.1);
      held = record { y = suc m; j = k.0; few = digits; is = refl };
      under = subst (λ (z : ℕ). suc m * 2 ^ k.0 < z) (sym (pow-add 2 (low f) (suc (emax f))))
          (below (suc m * up e) (2 ^ low f) (suc m * 2 ^ k.0) (down e) (2 ^ suc (emax f)) (pow_pos (low f)) k.1 range);
    }
  where
    below : (u l A d E : ℕ) → 0 < l → u * l ≡ A * d → u < E * d → A < l * E
    below u l A d E L p h =
        let wide : A * d < l * E * d = omega (arith, mul-lt-mul_of_pos_right h L) in
        lt_of_mul-lt-mul_right d wide

-- ---- what `round` gives, with its sign
pub round-count : (f : Format) (s : Bool) (a c : ℕ) → grid f a c < overflow f
    → HasValue (round f s a c) s (grid f a c) (2 ^ low f)
round-count f s a c h =
    subst (λ (z : Float). HasValue z s (grid f a c) (2 ^ low f)) (sym (round_is f s a c))
    (units_val f s (kept (prec f) (a * 2 ^ low f) c) (drop (prec f) (a * 2 ^ low f) c) h)

-- and it is no NaN
odd-real : (s : Bool) (d q k l : ℕ) → is_nan (odd d s q k l) ≡ false
unfolding odd is_nan
odd-real s d zero k l = refl
odd-real s d (suc q) k l = refl

units-real : (f : Format) (s : Bool) (q k : ℕ) → is_nan (units f s q k) ≡ false
unfolding units is_nan
units-real f s q k = go (ltb (q * 2 ^ k) (overflow f)) (odd (suc (prec f)) s q k (low f)) (odd-real s (suc (prec f)) q k (low f))
  where
    go : (b : Bool) (v : Float) → is_nan v ≡ false → is_nan (cond b v (inf s)) ≡ false
    go true v h = h
    go false v h = refl

pub round-real : (f : Format) (s : Bool) (a b : ℕ) → is_nan (round f s a b) ≡ false
round-real f s a b = ap is_nan (round_is f s a b) ∙ units-real f s _ _

-- ---- there is only one count, so what `counted` knows of it holds for any
pub same_count : (x : Float) (s t : Bool) (A B c : ℕ) → HasValue x s A c → HasValue x t B c → A ≡ B
same_count nan s t A B c h k = absurd h
same_count (inf u) s t A B c h k = absurd h
same_count (fin u m e) s t A B c h k = eq_of_mul-eq-mul_right (down e) (down_pos e) A B (sym h.1 ∙ k.1)

pub held_of : (f : Format) (x : Float) (s : Bool) (A : ℕ) → T (fits f x) → HasValue x s A (2 ^ low f)
    → Held (prec f) A × (A < overflow f)
held_of f nan s A t h = absurd h
held_of f (inf u) s A t h = absurd h
held_of f (fin u m e) s A t h =
    let k = counted f (fin u m e) tt t in
    let same = same_count (fin u m e) k.s s k.count A (2 ^ low f) k.value h in
    subst (λ (z : ℕ). Held (prec f) z × (z < overflow f)) same (k.held, k.under)
