-- Two comparisons show that a magnitude is below a limit: |x| < e exactly if x < e and -e < x. For all floats: if one is a NaN
-- both sides say no, and if e is not above zero nothing lies between.
use Rattle.std.specs.Prelude.{◌≡◌, refl, ◌↔◌, ℕ, ◌+◌, ◌*◌, ◌<◌, Bool, true, false, not, ◌&&◌, ℤ, Float}
use Rattle.std.proofs.Common.{arith}
use Rattle.std.specs.Float.{nan, inf, fin}
use Rattle.std.specs.Float.Ieee.{up, down, neg, lt}
use Rattle.std.specs.Float.Ieee.Fits.{down_pos, and_i, and_l, and_r}
use Rattle.float_laws.specs.Tests.{same_test}
use Rattle.float_laws.specs.Signed.{ups, downs}
use Rattle.float_laws.specs.Order.{lt-diff}
use Rattle.float_laws.specs.Chains.{written-diff}
use Rattle.floats.specs.F64

-- of two sizes, M / c and N / d, with signs
sizes : (s t : Bool) (M c N d : ℕ)
    → (M * d + downs t N * c < ups t N * c + 0 * d)
    ↔ ((ups s M * d + downs t N * c < ups t N * c + downs s M * d)
    × (ups (not t) N * c + downs s M * d < ups s M * d + downs (not t) N * c))
sizes true true M c N d = (λ h. (omega arith, omega arith), λ h. omega (arith, h.0, h.1))
sizes true false M c N d = (λ h. (omega arith, omega arith), λ h. omega (arith, h.0, h.1))
sizes false true M c N d = (λ h. (omega arith, omega arith), λ h. omega (arith, h.0, h.1))
sizes false false M c N d = (λ h. (omega arith, omega arith), λ h. omega (arith, h.0, h.1))

finite-below : (s : Bool) (m : ℕ) (e : ℤ) (t : Bool) (n : ℕ) (d : ℤ)
    → lt (fin false m e) (fin t n d) ≡ (lt (fin s m e) (fin t n d) && lt (fin (not t) n d) (fin s m e))
finite-below s m e t n d =
    let E = down_pos e in
    let D = down_pos d in
    let size = lt-diff (fin false m e) (fin t n d) _ _ _ _ _ _ E D (written-diff false m e) (written-diff t n d) in
    let below = lt-diff (fin s m e) (fin t n d) _ _ _ _ _ _ E D (written-diff s m e) (written-diff t n d) in
    let above = lt-diff (fin (not t) n d) (fin s m e) _ _ _ _ _ _ D E (written-diff (not t) n d) (written-diff s m e) in
    let both = sizes s t (m * up e) (down e) (n * up d) (down d) in
    let a = lt (fin s m e) (fin t n d) in
    let b = lt (fin (not t) n d) (fin s m e) in
    same_test (lt (fin false m e) (fin t n d)) (a && b)
    (λ h. and_i a b (below.1 (both.0 (size.0 h)).0) (above.1 (both.0 (size.0 h)).1))
    (λ h. size.1 (both.1 (below.0 (and_l a b h), above.0 (and_r a b h))))

pub abs-below : (x e : Float) → lt (F64.abs x) e ≡ (lt x e && lt (neg e) x)
unfolding F64.abs lt neg
abs-below nan e = refl
abs-below (inf s) nan = refl
abs-below (inf true) (inf true) = refl
abs-below (inf true) (inf false) = refl
abs-below (inf false) (inf t) = refl
abs-below (inf true) (fin t n d) = refl
abs-below (inf false) (fin t n d) = refl
abs-below (fin s m e) nan = refl
abs-below (fin s m e) (inf true) = refl
abs-below (fin s m e) (inf false) = refl
abs-below (fin s m e) (fin t n d) = finite-below s m e t n d
