-- The floats of vertices, as they are written one group after the other.
use Rattle.std.specs.Prelude.{ℕ, suc, ◌+◌, ◌*◌, ◌-◌, ◌<◌, ◌≡◌, refl, ◌≢◌, List, [], ◌∷◌, ◌++◌, length, set, ℤ, pos, Float}
use Rattle.std.proofs.Common.{sym, ap, ◌∙◌, arith, set-set}
use Rattle.std.proofs.lemmas.List.Edits.{sets}
use Rattle.std.proofs.lemmas.List.{set_comm}
use Rattle.std.specs.Float.Ieee.{of_bits, of_fields, of_int, div, round, units, odd, size, span, climb}
use Rattle.dxf_form.specs.Numbers.{Corner, value, trace, path_of, held}
use Rattle.dxf_form.specs.Body.{at_last, with_y, with_bulge}

-- ---- lists

sets-append : (a b l : List Float) (i : ℕ) → sets l i (a ++ b) ≡ sets (sets l i a) (i + length a) b
sets-append [] b l i = let e : i ≡ i + 0 = omega arith in ap (λ (k : ℕ). sets l k b) e
sets-append (x ∷ a) b l i =
    let e : suc i + length a ≡ i + suc (length a) = omega arith in
    sets-append a b (set l i x) (suc i) ∙ ap (λ (k : ℕ). sets (sets (set l i x) (suc i) a) k b) e

path-append : (vs ws : List Corner) → path_of (vs ++ ws) ≡ path_of vs ++ path_of ws
path-append [] ws = refl
path-append (v ∷ vs) ws =
    ap (λ (r : List Float). value v.x ∷ value v.y ∷ value v.bulge ∷ trace ∷ r) (path-append vs ws)

pub path-length : (vs : List Corner) → length (path_of vs) ≡ length vs * 4
path-length [] = refl
path-length (v ∷ vs) = let e = path-length vs in omega arith

-- ---- a vertex more

pub zero-value : value (pos 0) ≡ trace
unfolding value held of_int div round units odd size span climb of_bits of_fields
zero-value = refl

pub more-path : (vs : List Corner) (old : List Float) (z : ℤ)
    → sets (sets old 0 (path_of vs)) (length vs * 4) (value z ∷ trace ∷ trace ∷ trace ∷ [])
    ≡ sets old 0 (path_of (vs ++ (record { x = z; y = pos 0; bulge = pos 0 } ∷ [])))
more-path vs old z =
    let v : Corner = record { x = z; y = pos 0; bulge = pos 0 } in
    let here : length vs * 4 ≡ 0 + length (path_of vs) = omega (arith, path-length vs) in
    let floats : value z ∷ trace ∷ trace ∷ trace ∷ [] ≡ path_of (v ∷ []) = rw zero-value in
    ap (λ (k : ℕ). sets (sets old 0 (path_of vs)) k (value z ∷ trace ∷ trace ∷ trace ∷ [])) here
    ∙ ap (sets (sets old 0 (path_of vs)) (0 + length (path_of vs))) floats
    ∙ sym (sets-append (path_of vs) (path_of (v ∷ [])) old 0)
    ∙ ap (sets old 0) (sym (path-append vs (v ∷ [])))

-- ---- the last vertex changed

apart : (i j : ℕ) → i < j → j ≢ i
apart i j h e = absurd (omega arith)

second : (l : List Float) (i : ℕ) (a b c d e : Float)
    → sets l i (a ∷ e ∷ c ∷ d ∷ []) ≡ set (sets l i (a ∷ b ∷ c ∷ d ∷ [])) (suc i) e
second l i a b c d e =
    let p = set l i a in
    let q = set p (suc i) b in
    sym (
    set_comm (set q (suc (suc i)) c) (suc (suc (suc i))) (suc i) d e (apart _ _ (omega arith))
    ∙ ap (λ (m : List Float). set m (suc (suc (suc i))) d)
    (set_comm q (suc (suc i)) (suc i) c e (apart _ _ (omega arith))
    ∙ ap (λ (m : List Float). set m (suc (suc i)) c) (set-set p (suc i) b e))
    )

third : (l : List Float) (i : ℕ) (a b c d e : Float)
    → sets l i (a ∷ b ∷ e ∷ d ∷ []) ≡ set (sets l i (a ∷ b ∷ c ∷ d ∷ [])) (suc (suc i)) e
third l i a b c d e =
    let q = set (set l i a) (suc i) b in
    sym (
    set_comm (set q (suc (suc i)) c) (suc (suc (suc i))) (suc (suc i)) d e (apart _ _ (omega arith))
    ∙ ap (λ (m : List Float). set m (suc (suc (suc i))) d) (set-set q (suc (suc i)) c e)
    )

pub last-y : (vs : List Corner) (l : List Float) (i : ℕ) (z : ℤ) → 0 < length vs
    → set (sets l i (path_of vs)) (i + ((length vs - 1) * 4 + 1)) (value z) ≡ sets l i (path_of (at_last (with_y z) vs))
unfolding at_last
last-y [] l i z h = absurd (omega arith)
last-y (v ∷ []) l i z h =
    let at : i + ((length (v ∷ []) - 1) * 4 + 1) ≡ suc i = omega arith in
    ap (λ (k : ℕ). set (sets l i (path_of (v ∷ []))) k (value z)) at
    ∙ sym (second l i (value v.x) (value v.y) (value v.bulge) trace (value z))
last-y (v ∷ w ∷ rest) l i z h =
    let j = suc (suc (suc (suc i))) in
    let at : i + ((length (v ∷ w ∷ rest) - 1) * 4 + 1) ≡ j + ((length (w ∷ rest) - 1) * 4 + 1) = omega arith in
    let m = sets l i (value v.x ∷ value v.y ∷ value v.bulge ∷ trace ∷ []) in
    ap (λ (k : ℕ). set (sets m j (path_of (w ∷ rest))) k (value z)) at ∙ last-y (w ∷ rest) m j z (omega arith)

pub last-bulge : (vs : List Corner) (l : List Float) (i : ℕ) (z : ℤ) → 0 < length vs
    → set (sets l i (path_of vs)) (i + ((length vs - 1) * 4 + 2)) (value z) ≡ sets l i (path_of (at_last (with_bulge z) vs))
unfolding at_last
last-bulge [] l i z h = absurd (omega arith)
last-bulge (v ∷ []) l i z h =
    let at : i + ((length (v ∷ []) - 1) * 4 + 2) ≡ suc (suc i) = omega arith in
    ap (λ (k : ℕ). set (sets l i (path_of (v ∷ []))) k (value z)) at
    ∙ sym (third l i (value v.x) (value v.y) (value v.bulge) trace (value z))
last-bulge (v ∷ w ∷ rest) l i z h =
    let j = suc (suc (suc (suc i))) in
    let at : i + ((length (v ∷ w ∷ rest) - 1) * 4 + 2) ≡ j + ((length (w ∷ rest) - 1) * 4 + 2) = omega arith in
    let m = sets l i (value v.x ∷ value v.y ∷ value v.bulge ∷ trace ∷ []) in
    ap (λ (k : ℕ). set (sets m j (path_of (w ∷ rest))) k (value z)) at ∙ last-bulge (w ∷ rest) m j z (omega arith)

pub last-length : (f : Corner → Corner) (vs : List Corner) → length (at_last f vs) ≡ length vs
unfolding at_last
last-length f [] = refl
last-length f (v ∷ []) = refl
last-length f (v ∷ w ∷ rest) = ap suc (last-length f (w ∷ rest))

pub last_none : (f : Corner → Corner) (vs : List Corner) → length vs ≡ 0 → at_last f vs ≡ vs
unfolding at_last
last_none f [] e = refl
last_none f (v ∷ rest) e = absurd (omega (arith, e))
