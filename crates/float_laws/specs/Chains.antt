-- Chains of comparisons, for all floats: with a NaN no comparison says yes, and an infinity lies beyond every finite float.
use Rattle.std.specs.Prelude.{◌≡◌, refl, ℕ, ◌+◌, ◌*◌, ◌≤◌, ◌<◌, Bool, true, false, not, T, ltb, ℤ, Float}
use Rattle.std.proofs.Common.{sym, ap, subst, mul-le-mul_right, mul-lt-mul_of_pos_right, lt_of_mul-lt-mul_right, le_of_mul-le-mul_right, le_antisymm, arith, true≢false, ltb-true, ltb-false}
use Rattle.std.proofs.Math.Dec.{not_T}
use Rattle.std.specs.Float.{nan, inf, fin}
use Rattle.std.specs.Float.Ieee.{up, down, neg, is_nan, lt, le, eq}
use Rattle.std.specs.Float.Ieee.Fits.{down_pos}
use Rattle.std.specs.Float.Ieee.Scale.{finite}
use Rattle.float_laws.specs.Signed.{Diff, ups, downs, own-diff, neg-diff}
use Rattle.float_laws.specs.Order.{lt-diff, le-diff, eq-diff}

-- a finite float, as it is written
pub written-diff : (s : Bool) (m : ℕ) (e : ℤ) → Diff (fin s m e) (ups s (m * up e)) (downs s (m * up e)) (down e)
written-diff s m e = own-diff (fin s m e) s (m * up e) (down e) (refl, refl)

-- ---- if y is at least x, it is not below x
pub not-both : (x y : Float) → T (le x y) → T (lt y x) → ⊥
unfolding le
not-both nan y h k = h
not-both (inf s) nan h k = k
not-both (inf true) (inf true) h k = k
not-both (inf true) (inf false) h k = k
not-both (inf false) (inf true) h k = h
not-both (inf false) (inf false) h k = k
not-both (inf true) (fin t n d) h k = k
not-both (inf false) (fin t n d) h k = h
not-both (fin s m e) nan h k = k
not-both (fin s m e) (inf true) h k = h
not-both (fin s m e) (inf false) h k = k
not-both (fin s m e) (fin t n d) h k =
    let x = fin s m e in
    let y = fin t n d in
    never _ _
    ((le-diff x y _ _ _ _ _ _ (down_pos e) (down_pos d) (written-diff s m e) (written-diff t n d)).0 h)
    ((lt-diff y x _ _ _ _ _ _ (down_pos d) (down_pos e) (written-diff t n d) (written-diff s m e)).0 k)
  where
    never : (a b : ℕ) → a ≤ b → b < a → ⊥
    never a b i j = omega arith

pub le_not_lt : (x y : Float) → T (le x y) → T (not (lt y x))
le_not_lt x y h = not_T (lt y x) (not-both x y h)

-- nothing is above infinity
pub none_above : (y : Float) → T (lt (inf false) y) → ⊥
unfolding lt
none_above nan h = h
none_above (inf s) h = h
none_above (fin s m e) h = h

-- ---- the order turns with the signs
pub le-neg : (x y : Float) → T (le (neg x) (neg y)) → T (le y x)
unfolding le neg
le-neg nan y h = absurd h
le-neg (inf s) nan h = absurd h
le-neg (inf true) (inf true) h = tt
le-neg (inf true) (inf false) h = absurd h
le-neg (inf false) (inf true) h = tt
le-neg (inf false) (inf false) h = tt
le-neg (inf true) (fin t n d) h = absurd h
le-neg (inf false) (fin t n d) h = tt
le-neg (fin s m e) nan h = absurd h
le-neg (fin s m e) (inf true) h = tt
le-neg (fin s m e) (inf false) h = absurd h
le-neg (fin s m e) (fin t n d) h =
    let x = fin s m e in
    let y = fin t n d in
    let x-is = written-diff s m e in
    let y-is = written-diff t n d in
    (le-diff y x _ _ _ _ _ _ (down_pos d) (down_pos e) y-is x-is).1
    (turned _ _ _ _ ((le-diff (neg x) (neg y) _ _ _ _ _ _ (down_pos e) (down_pos d) (neg-diff x _ _ _ x-is)
    (neg-diff y _ _ _ y-is)).0 h))
  where
    turned : (a b c d : ℕ) → a + b ≤ c + d → b + a ≤ d + c
    turned a b c d l = omega arith

-- ---- below y, and y at most z
through : (p n c a b d q k f : ℕ) → 0 < d → 0 < f → p * d + b * c < a * c + n * d → a * f + k * d ≤ q * d + b * f
    → p * f + k * c < q * c + n * f
through p n c a b d q k f D F h g =
    let x = mul-lt-mul_of_pos_right h F in
    let y = mul-le-mul_right c g in
    lt_of_mul-lt-mul_right d {m = p * f + k * c} {n = q * c + n * f} (omega arith)

pub lt-le : (x y z : Float) → T (lt x y) → T (le y z) → T (lt x z)
unfolding le
lt-le nan y z h g = absurd h
lt-le (inf s) nan z h g = absurd h
lt-le (inf true) (inf true) z h g = absurd h
lt-le (inf false) (inf t) z h g = absurd h
lt-le (inf true) (inf false) nan h g = absurd g
lt-le (inf true) (inf false) (inf true) h g = absurd g
lt-le (inf true) (inf false) (inf false) h g = tt
lt-le (inf true) (inf false) (fin u l f) h g = absurd g
lt-le (inf false) (fin t n d) z h g = absurd h
lt-le (inf true) (fin t n d) nan h g = absurd g
lt-le (inf true) (fin t n d) (inf true) h g = absurd g
lt-le (inf true) (fin t n d) (inf false) h g = tt
lt-le (inf true) (fin t n d) (fin u l f) h g = tt
lt-le (fin s m e) nan z h g = absurd h
lt-le (fin s m e) (inf true) z h g = absurd h
lt-le (fin s m e) (inf false) nan h g = absurd g
lt-le (fin s m e) (inf false) (inf true) h g = absurd g
lt-le (fin s m e) (inf false) (inf false) h g = tt
lt-le (fin s m e) (inf false) (fin u l f) h g = absurd g
lt-le (fin s m e) (fin t n d) nan h g = absurd g
lt-le (fin s m e) (fin t n d) (inf true) h g = absurd g
lt-le (fin s m e) (fin t n d) (inf false) h g = tt
lt-le (fin s m e) (fin t n d) (fin u l f) h g =
    let x = fin s m e in
    let y = fin t n d in
    let z = fin u l f in
    let a = (lt-diff x y _ _ _ _ _ _ (down_pos e) (down_pos d) (written-diff s m e) (written-diff t n d)).0 h in
    let b = (le-diff y z _ _ _ _ _ _ (down_pos d) (down_pos f) (written-diff t n d) (written-diff u l f)).0 g in
    (lt-diff x z _ _ _ _ _ _ (down_pos e) (down_pos f) (written-diff s m e) (written-diff u l f)).1
    (through _ _ _ _ _ _ _ _ _ (down_pos d) (down_pos f) a b)

-- ---- of two numbers, one is at most the other
pub not-below : (x y : Float) → is_nan x ≡ false → is_nan y ≡ false → lt y x ≡ false → T (le x y)
unfolding le is_nan
not-below nan y a b e = absurd (true≢false a)
not-below (inf s) nan a b e = absurd (true≢false b)
not-below (inf true) (inf true) a b e = tt
not-below (inf true) (inf false) a b e = tt
not-below (inf false) (inf true) a b e = absurd (true≢false e)
not-below (inf false) (inf false) a b e = tt
not-below (inf true) (fin t n d) a b e = tt
not-below (inf false) (fin t n d) a b e = absurd (true≢false e)
not-below (fin s m e) nan a b f = absurd (true≢false b)
not-below (fin s m e) (inf true) a b f = absurd (true≢false f)
not-below (fin s m e) (inf false) a b f = tt
not-below (fin s m e) (fin t n d) a b f =
    let x = fin s m e in
    let y = fin t n d in
    (le-diff x y _ _ _ _ _ _ (down_pos e) (down_pos d) (written-diff s m e) (written-diff t n d)).1
    (go _ _ (λ h. (lt-diff y x _ _ _ _ _ _ (down_pos d) (down_pos e) (written-diff t n d) (written-diff s m e)).1 h))
  where
    go : (p q : ℕ) → (q < p → T (lt (fin t n d) (fin s m e))) → p ≤ q
    go p q below = pick (ltb q p) refl
      where
        pick : (b : Bool) → ltb q p ≡ b → p ≤ q
        pick true h = absurd (subst T f (below (ltb-true q p h)))
        pick false h = ltb-false q p h

-- a number is at most itself, and what is finite is a number
pub le_refl : (x : Float) → is_nan x ≡ false → T (le x x)
unfolding le is_nan
le_refl nan a = absurd (true≢false a)
le_refl (inf true) a = tt
le_refl (inf false) a = tt
le_refl (fin s m e) a =
    let x = fin s m e in
    (le-diff x x _ _ _ _ _ _ (down_pos e) (down_pos e) (written-diff s m e) (written-diff s m e)).1 (omega arith)

pub finite-real : (x : Float) → T (finite x) → is_nan x ≡ false
unfolding is_nan
finite-real nan t = absurd t
finite-real (inf s) t = absurd t
finite-real (fin s m e) t = refl

-- what is compared with a yes is a number
pub le-numbers : (x y : Float) → T (le x y) → (is_nan x ≡ false) × (is_nan y ≡ false)
unfolding le is_nan
le-numbers nan y h = absurd h
le-numbers (inf s) nan h = absurd h
le-numbers (inf s) (inf t) h = (refl, refl)
le-numbers (inf s) (fin t n d) h = (refl, refl)
le-numbers (fin s m e) nan h = absurd h
le-numbers (fin s m e) (inf t) h = (refl, refl)
le-numbers (fin s m e) (fin t n d) h = (refl, refl)

pub le_trans : (x y z : Float) → T (le x y) → T (le y z) → T (le x z)
le_trans x y z h g = not-below x z (le-numbers x y h).0 (le-numbers y z g).1 (go (lt z x) refl)
  where
    go : (b : Bool) → lt z x ≡ b → lt z x ≡ false
    go false e = e
    go true e = absurd (not-both y z g (lt-le z x y (subst T (sym e) tt) h))

-- ---- equality: of a number with itself, both ways, and over a third
pub eq_self : (x : Float) → is_nan x ≡ false → T (eq x x)
unfolding eq is_nan
eq_self nan h = absurd (true≢false h)
eq_self (inf true) h = tt
eq_self (inf false) h = tt
eq_self (fin s m e) h =
    let E = down_pos e in
    (eq-diff (fin s m e) (fin s m e) _ _ _ _ _ _ E E (written-diff s m e) (written-diff s m e)).1 refl

pub eq-sym : (x y : Float) → T (eq x y) → T (eq y x)
unfolding eq
eq-sym nan y h = absurd h
eq-sym (inf s) nan h = absurd h
eq-sym (inf true) (inf true) h = tt
eq-sym (inf true) (inf false) h = absurd h
eq-sym (inf false) (inf true) h = absurd h
eq-sym (inf false) (inf false) h = tt
eq-sym (inf s) (fin t n d) h = absurd h
eq-sym (fin s m e) nan h = absurd h
eq-sym (fin s m e) (inf t) h = absurd h
eq-sym (fin s m e) (fin t n d) h =
    let E = down_pos e in
    let D = down_pos d in
    (eq-diff (fin t n d) (fin s m e) _ _ _ _ _ _ D E (written-diff t n d) (written-diff s m e)).1
    (sym ((eq-diff (fin s m e) (fin t n d) _ _ _ _ _ _ E D (written-diff s m e) (written-diff t n d)).0 h))

pub eq_trans : (x y z : Float) → T (eq x y) → T (eq y z) → T (eq x z)
unfolding eq
eq_trans nan y z h g = absurd h
eq_trans (inf s) nan z h g = absurd h
eq_trans (inf s) (inf t) nan h g = absurd g
eq_trans (inf true) (inf true) (inf u) h g = g
eq_trans (inf true) (inf false) (inf u) h g = absurd h
eq_trans (inf false) (inf true) (inf u) h g = absurd h
eq_trans (inf false) (inf false) (inf u) h g = g
eq_trans (inf s) (inf t) (fin u o k) h g = absurd g
eq_trans (inf s) (fin t n d) z h g = absurd h
eq_trans (fin s m e) nan z h g = absurd h
eq_trans (fin s m e) (inf t) z h g = absurd h
eq_trans (fin s m e) (fin t n d) nan h g = absurd g
eq_trans (fin s m e) (fin t n d) (inf u) h g = absurd g
eq_trans (fin s m e) (fin t n d) (fin u o k) h g =
    let E = down_pos e in
    let D = down_pos d in
    let K = down_pos k in
    (eq-diff (fin s m e) (fin u o k) _ _ _ _ _ _ E K (written-diff s m e) (written-diff u o k)).1
    (over-y _ _ (down e) _ _ (down d) _ _ (down k) D
    ((eq-diff (fin s m e) (fin t n d) _ _ _ _ _ _ E D (written-diff s m e) (written-diff t n d)).0 h)
    ((eq-diff (fin t n d) (fin u o k) _ _ _ _ _ _ D K (written-diff t n d) (written-diff u o k)).0 g))
  where
    over-y : (a b c p q d v w f : ℕ) → 0 < d → a * d + q * c ≡ p * c + b * d → p * f + w * d ≡ v * d + q * f
        → a * f + w * c ≡ v * c + b * f
    over-y a b c p q d v w f D i j =
        let l = ap (λ (n : ℕ). n * f) i in
        let r = ap (λ (n : ℕ). n * c) j in
        let all : (a * f + w * c) * d ≡ (v * c + b * f) * d = sums a b c p q d v w f l r in
        le_antisymm
        (le_of_mul-le-mul_right {m = a * f + w * c} {n = v * c + b * f} {k = d} (omega (arith, all)) D)
        (le_of_mul-le-mul_right {m = v * c + b * f} {n = a * f + w * c} {k = d} (omega (arith, all)) D)
      where
        sums : (a b c p q d v w f : ℕ) → (a * d + q * c) * f ≡ (p * c + b * d) * f → (p * f + w * d) * c ≡ (v * d + q * f) * c
            → (a * f + w * c) * d ≡ (v * c + b * f) * d
        sums a b c p q d v w f l r = omega (arith, l, r)

-- ---- between two finite floats lie finite ones
pub between-finite : (x y z : Float) → T (finite x) → T (finite z) → T (le x y) → T (le y z) → T (finite y)
unfolding le
between-finite nan y z a c h g = absurd a
between-finite (inf s) y z a c h g = absurd a
between-finite (fin s m e) nan z a c h g = absurd h
between-finite (fin s m e) (inf true) z a c h g = absurd h
between-finite (fin s m e) (inf false) nan a c h g = absurd c
between-finite (fin s m e) (inf false) (inf t) a c h g = absurd c
between-finite (fin s m e) (inf false) (fin t n d) a c h g = absurd g
between-finite (fin s m e) (fin t n d) z a c h g = tt

-- a float that is at least a finite one is finite or infinity; one that is at most a finite one is finite or minus infinity
pub from-above : (P : Float → Type 0) (x y : Float) → T (finite x) → T (le x y) → P (inf false) → (T (finite y) → P y) → P y
unfolding le
from-above P nan y a h i f = absurd a
from-above P (inf s) y a h i f = absurd a
from-above P (fin s m e) nan a h i f = absurd h
from-above P (fin s m e) (inf true) a h i f = absurd h
from-above P (fin s m e) (inf false) a h i f = i
from-above P (fin s m e) (fin t n d) a h i f = f tt

pub from-below : (P : Float → Type 0) (x y : Float) → T (finite y) → T (le x y) → P (inf true) → (T (finite x) → P x) → P x
unfolding le
from-below P nan y a h i f = absurd h
from-below P (inf s) nan a h i f = absurd a
from-below P (inf s) (inf t) a h i f = absurd a
from-below P (inf true) (fin t n d) a h i f = i
from-below P (inf false) (fin t n d) a h i f = absurd h
from-below P (fin s m e) y a h i f = f tt

-- a float above any other is finite or infinity
pub above-any : (P : Float → Type 0) (x y : Float) → T (lt x y) → P (inf false) → (T (finite y) → P y) → P y
unfolding lt
above-any P nan y h i f = absurd h
above-any P (inf s) nan h i f = absurd h
above-any P (inf true) (inf true) h i f = absurd h
above-any P (inf false) (inf true) h i f = absurd h
above-any P (inf s) (inf false) h i f = i
above-any P (inf s) (fin t n d) h i f = f tt
above-any P (fin s m e) nan h i f = absurd h
above-any P (fin s m e) (inf true) h i f = absurd h
above-any P (fin s m e) (inf false) h i f = i
above-any P (fin s m e) (fin t n d) h i f = f tt
