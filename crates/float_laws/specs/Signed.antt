-- A finite float as a signed fraction of natural numbers: Diff x p n c says that x is (p - n) / c, for a c above 0. Signed whole
-- numbers are written as differences, since `omega` reads natural numbers only. The same value has many such fractions; the laws
-- here lead from one to another, and to the kit's sign and size (HasValue) and back.
use Rattle.std.specs.Prelude.{◌≡◌, refl, ℕ, ◌+◌, ◌-◌, ◌*◌, ◌^◌, ◌≤◌, ◌<◌, Bool, true, false, not, cond, T, Float}
use Rattle.std.proofs.Common.{sym, ap, ◌∙◌, subst, add-mul, le_of_mul-le-mul_right, mul_comm, arith, true≢false}
use Rattle.std.proofs.Math.Nat.{eq_of_mul-eq-mul_right, mul-sub}
use Rattle.std.proofs.lemmas.Bool.{false≢true}
use Rattle.std.specs.Float.{nan, inf, fin, Format}
use Rattle.std.specs.Float.Ieee.{low, up, down, neg, fits}
use Rattle.std.specs.Float.Ieee.Exact.{HasValue}
use Rattle.std.specs.Float.Ieee.Fits.{down_pos}
use Rattle.std.specs.Float.Ieee.Scale.{finite}
use Rattle.float_laws.specs.Count.{counted}

-- x is (p - n) / c
abbrev pub Diff : Float → ℕ → ℕ → ℕ → Type 0
Diff nan p n c = ⊥
Diff (inf t) p n c = ⊥
Diff (fin false m e) p n c = m * up e * c + n * down e ≡ p * down e
Diff (fin true m e) p n c = m * up e * c + p * down e ≡ n * down e

-- a sign and a size that make the difference p - n
abbrev pub SizeOf : Bool → ℕ → ℕ → ℕ → Type 0
SizeOf s X p n = cond s (X + p ≡ n) (X + n ≡ p)

-- a sign and a size, as a difference
abbrev pub ups : Bool → ℕ → ℕ
ups s X = cond s 0 X

abbrev pub downs : Bool → ℕ → ℕ
downs s X = cond s X 0

pub own-size : (s : Bool) (X : ℕ) → SizeOf s X (ups s X) (downs s X)
own-size true X = omega arith
own-size false X = omega arith

-- ---- by sign and size, and back
pub diff-of : (x : Float) (s : Bool) (X p n c : ℕ) → HasValue x s X c → SizeOf s X p n → Diff x p n c
diff-of nan s X p n c h k = absurd h
diff-of (inf t) s X p n c h k = absurd h
diff-of (fin true m e) true X p n c (a, h) k =
    ap (λ (z : ℕ). z + p * down e) h ∙ sym (add-mul X p (down e)) ∙ ap (λ (z : ℕ). z * down e) k
diff-of (fin true m e) false X p n c (a, h) k = absurd (true≢false a)
diff-of (fin false m e) true X p n c (a, h) k = absurd (false≢true a)
diff-of (fin false m e) false X p n c (a, h) k =
    ap (λ (z : ℕ). z + n * down e) h ∙ sym (add-mul X n (down e)) ∙ ap (λ (z : ℕ). z * down e) k

pub own-diff : (x : Float) (s : Bool) (X c : ℕ) → HasValue x s X c → Diff x (ups s X) (downs s X) c
own-diff x s X c h = diff-of x s X (ups s X) (downs s X) c h (own-size s X)

pub record Signed (x : Float) (p n c : ℕ) : Type 0 where
  pub s : Bool
  pub size : ℕ
  pub value : HasValue x s size c
  pub is : SizeOf s size p n

pub minus-mul : (b a c : ℕ) → (b - a) * c ≡ b * c - a * c
minus-mul b a c =
    mul_comm (b - a) c
    ∙ mul-sub c b a
    ∙ ap (λ (z : ℕ). z - c * a) (mul_comm c b)
    ∙ ap (λ (z : ℕ). b * c - z) (mul_comm c a)

part : (a d p n : ℕ) → 0 < d → a + p * d ≡ n * d → (a ≡ (n - p) * d) × (n - p + p ≡ n)
part a d p n D h =
    let wide : p * d ≤ n * d = omega arith in
    let l : p ≤ n = le_of_mul-le-mul_right wide D in
    (omega (arith, minus-mul n p d), omega arith)

pub signed_of : (x : Float) (p n c : ℕ) → Diff x p n c → Signed x p n c
signed_of nan p n c h = absurd h
signed_of (inf t) p n c h = absurd h
signed_of (fin true m e) p n c h =
    let l = part (m * up e * c) (down e) p n (down_pos e) h in
    record { s = true; size = n - p; value = (refl, l.0); is = l.1 }
signed_of (fin false m e) p n c h =
    let l = part (m * up e * c) (down e) n p (down_pos e) h in
    record { s = false; size = p - n; value = (refl, l.0); is = l.1 }

-- a difference above zero
pub size_above : (x : Float) (p n c : ℕ) → n < p → Diff x p n c → HasValue x false (p - n) c
size_above x p n c l v = let w = signed_of x p n c v in go w.s w.size w.value w.is
  where
    never : (X : ℕ) → X + p ≡ n → ⊥
    never X e = omega arith

    go : (s : Bool) (X : ℕ) → HasValue x s X c → SizeOf s X p n → HasValue x false (p - n) c
    go true X h e = absurd (never X e)
    go false X h e = let same : X ≡ p - n = omega arith in subst (λ (z : ℕ). HasValue x false z c) same h

-- ---- a float has such a fraction exactly if it is finite
pub diff-finite : (x : Float) (p n c : ℕ) → Diff x p n c → T (finite x)
diff-finite nan p n c h = absurd h
diff-finite (inf t) p n c h = absurd h
diff-finite (fin true m e) p n c h = tt
diff-finite (fin false m e) p n c h = tt

-- a value of the format, in units of the format's smallest one, which is 1 / L
pub record Units (L : ℕ) (x : Float) : Type 0 where
  pub p : ℕ
  pub n : ℕ
  pub is : Diff x p n L

pub units_of : (f : Format) (x : Float) → T (finite x) → T (fits f x) → Units (2 ^ low f) x
units_of f x t h =
    let k = counted f x t h in
    record {
      p = ups k.s k.count;
      n = downs k.s k.count;
      is = own-diff x k.s k.count (2 ^ low f) k.value;
    }

-- ---- from one fraction to another of the same value
module _ (a g p n q k c d : ℕ) (C : 0 < c) (G : 0 < g) where
  agree : a * c + n * g ≡ p * g → a * d + k * g ≡ q * g → p * d + k * c ≡ q * c + n * d
  agree h l =
      let x : (a * c + n * g) * d ≡ p * g * d = ap (λ (z : ℕ). z * d) h in
      let y : (a * d + k * g) * c ≡ q * g * c = ap (λ (z : ℕ). z * c) l in
      eq_of_mul-eq-mul_right g G (p * d + k * c) (q * c + n * d) (omega arith)

  carry : a * c + n * g ≡ p * g → p * d + k * c ≡ q * c + n * d → a * d + k * g ≡ q * g
  carry h l =
      let x : (a * c + n * g) * d ≡ p * g * d = ap (λ (z : ℕ). z * d) h in
      let y : (p * d + k * c) * g ≡ (q * c + n * d) * g = ap (λ (z : ℕ). z * g) l in
      eq_of_mul-eq-mul_right c C (a * d + k * g) (q * g) (omega arith)

-- two fractions of one float are equal, multiplied out
pub diff-same : (x : Float) (p n c q k d : ℕ) → 0 < c → Diff x p n c → Diff x q k d → p * d + k * c ≡ q * c + n * d
diff-same nan p n c q k d C h l = absurd h
diff-same (inf t) p n c q k d C h l = absurd h
diff-same (fin false m e) p n c q k d C h l = agree (m * up e) (down e) p n q k c d C (down_pos e) h l
diff-same (fin true m e) p n c q k d C h l =
    let r = agree (m * up e) (down e) n p k q c d C (down_pos e) h l in
    omega arith

-- a fraction that is equal, multiplied out, is one too
pub diff-at : (x : Float) (p n c q k d : ℕ) → 0 < c → Diff x p n c → p * d + k * c ≡ q * c + n * d → Diff x q k d
diff-at nan p n c q k d C h l = absurd h
diff-at (inf t) p n c q k d C h l = absurd h
diff-at (fin false m e) p n c q k d C h l = carry (m * up e) (down e) p n q k c d C (down_pos e) h l
diff-at (fin true m e) p n c q k d C h l = carry (m * up e) (down e) n p k q c d C (down_pos e) h (omega arith)

-- over a multiple of the denominator
pub diff-mul : (x : Float) (p n c t : ℕ) → 0 < c → Diff x p n c → Diff x (p * t) (n * t) (c * t)
diff-mul x p n c t C h = diff-at x p n c (p * t) (n * t) (c * t) C h (omega arith)

pub neg-diff : (x : Float) (p n c : ℕ) → Diff x p n c → Diff (neg x) n p c
unfolding neg
neg-diff nan p n c h = absurd h
neg-diff (inf s) p n c h = absurd h
neg-diff (fin true m e) p n c h = h
neg-diff (fin false m e) p n c h = h

pub neg_value : (x : Float) (s : Bool) (X c : ℕ) → HasValue x s X c → HasValue (neg x) (not s) X c
unfolding neg
neg_value nan s X c h = absurd h
neg_value (inf t) s X c h = absurd h
neg_value (fin t m e) s X c h = (ap not h.0, h.1)

pub neg-neg : (x : Float) → neg (neg x) ≡ x
unfolding neg
neg-neg nan = refl
neg-neg (inf true) = refl
neg-neg (inf false) = refl
neg-neg (fin true m e) = refl
neg-neg (fin false m e) = refl

-- a difference below zero
pub size_below : (x : Float) (p n c : ℕ) → p < n → Diff x p n c → HasValue x true (n - p) c
size_below x p n c l v =
    subst (λ (z : Float). HasValue z true (n - p) c) (neg-neg x)
    (neg_value (neg x) false (n - p) c (size_above (neg x) n p c l (neg-diff x p n c v)))
