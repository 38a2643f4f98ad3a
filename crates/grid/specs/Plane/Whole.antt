-- Whole numbers with a sign, for proofs: each is a difference of two naturals. `diff p n` is p - n, and sums, products and the
-- order of differences are those of naturals. So an equation or an order of whole numbers becomes one of naturals, which `omega`
-- decides.
use Rattle.std.specs.Prelude.{◌≡◌, refl, ◌↔◌, Bool, true, false, not, cond, ℕ, zero, suc, ◌+◌, ◌-◌, ◌*◌, ◌≤◌, ◌<◌, T, ltb, ℤ, pos, negsuc, neg_ℤ, ◌+ℤ◌, ◌*ℤ◌, ◌≤ℤ◌, ◌<ℤ◌}
use Rattle.std.proofs.Common.{ap, arith, leb→le, le→leb, ltb→lt, lt→ltb, nltb→le}
use Rattle.std.proofs.Math.IntN.{sub_ℕ}

-- ---- the two parts: z is gain z - loss z
abbrev pub gain : ℤ → ℕ
gain (pos k) = k
gain (negsuc k) = 0

abbrev pub loss : ℤ → ℕ
loss (pos k) = 0
loss (negsuc k) = suc k

-- two whole numbers with the same difference of parts are equal
pub equal : (a b : ℤ) → gain a + loss b ≡ gain b + loss a → a ≡ b
equal (pos a) (pos b) h = let e : a ≡ b = omega arith in ap pos e
equal (pos a) (negsuc b) h = absurd (omega arith)
equal (negsuc a) (pos b) h = absurd (omega arith)
equal (negsuc a) (negsuc b) h = let e : a ≡ b = omega arith in ap negsuc e

-- ---- a difference of naturals
unfoldable pub diff : ℕ → ℕ → ℤ
diff p n = sub_ℕ p n

parts-sub : (p n : ℕ) → p + loss (sub_ℕ p n) ≡ n + gain (sub_ℕ p n)
parts-sub p n = go (ltb p n) (ltb→lt p n) (nltb→le p n)
  where
    go : (b : Bool) → (T b → p < n) → (T (not b) → n ≤ p)
        → p + loss (cond b (negsuc (n - suc p)) (pos (p - n))) ≡ n + gain (cond b (negsuc (n - suc p)) (pos (p - n)))
    go true l g = let h = l tt in omega arith
    go false l g = let h = g tt in omega arith

pub parts : (p n : ℕ) → p + loss (diff p n) ≡ n + gain (diff p n)
unfolding diff
parts p n = parts-sub p n

-- every whole number is one
pub whole : (z : ℤ) → diff (gain z) (loss z) ≡ z
whole z = let h = parts (gain z) (loss z) in equal (diff (gain z) (loss z)) z (omega arith)

-- ---- equations and orders
pub same : (p n q m : ℕ) → (diff p n ≡ diff q m) ↔ (p + m ≡ q + n)
same p n q m =
    let a = parts p n in
    let b = parts q m in (
      λ h. let g : gain (diff p n) ≡ gain (diff q m) = ap gain h in let l : loss (diff p n) ≡ loss (diff q m) = ap loss h in
          omega arith,
      λ h. equal (diff p n) (diff q m) (omega arith),
    )

le_parts : (a b : ℤ) → (a ≤ℤ b) ↔ (gain a + loss b ≤ gain b + loss a)
le_parts (pos a) (pos b) = (λ h. let k = leb→le a b h.le in omega arith, λ h. record { le = le→leb a b (omega arith) })
le_parts (pos a) (negsuc b) = (λ h. absurd h.le, λ h. absurd (omega arith))
le_parts (negsuc a) (pos b) = (λ h. omega arith, λ h. record { le = tt })
le_parts (negsuc a) (negsuc b) = (λ h. let k = leb→le b a h.le in omega arith, λ h. record { le = le→leb b a (omega arith) })

lt-parts : (a b : ℤ) → (a <ℤ b) ↔ (gain a + loss b < gain b + loss a)
lt-parts (pos a) (pos b) = (λ h. let k = ltb→lt a b h.lt in omega arith, λ h. record { lt = lt→ltb a b (omega arith) })
lt-parts (pos a) (negsuc b) = (λ h. absurd h.lt, λ h. absurd (omega arith))
lt-parts (negsuc a) (pos b) = (λ h. omega arith, λ h. record { lt = tt })
lt-parts (negsuc a) (negsuc b) = (λ h. let k = ltb→lt b a h.lt in omega arith, λ h. record { lt = lt→ltb b a (omega arith) })

pub le-diff : (p n q m : ℕ) → (diff p n ≤ℤ diff q m) ↔ (p + m ≤ q + n)
le-diff p n q m =
    let a = parts p n in
    let b = parts q m in
    let k = le_parts (diff p n) (diff q m) in
    (λ h. let l = k.0 h in omega arith, λ h. k.1 (omega arith))

pub lt-diff : (p n q m : ℕ) → (diff p n <ℤ diff q m) ↔ (p + m < q + n)
lt-diff p n q m =
    let a = parts p n in
    let b = parts q m in
    let k = lt-parts (diff p n) (diff q m) in
    (λ h. let l = k.0 h in omega arith, λ h. k.1 (omega arith))

-- ---- sums and products
pub gain-add : (a b : ℤ) → gain (a +ℤ b) + (loss a + loss b) ≡ loss (a +ℤ b) + (gain a + gain b)
gain-add (pos a) (pos b) = omega arith
gain-add (pos a) (negsuc b) = let h = parts-sub a (suc b) in omega arith
gain-add (negsuc a) (pos b) = let h = parts-sub b (suc a) in omega arith
gain-add (negsuc a) (negsuc b) = omega arith

pub diff-add : (p n q m : ℕ) → diff p n +ℤ diff q m ≡ diff (p + q) (n + m)
diff-add p n q m =
    let a = parts p n in
    let b = parts q m in
    let c = parts (p + q) (n + m) in
    let h = gain-add (diff p n) (diff q m) in
    equal (diff p n +ℤ diff q m) (diff (p + q) (n + m)) (omega arith)

pub gain-neg : (a : ℤ) → (gain (neg_ℤ a) ≡ loss a) × (loss (neg_ℤ a) ≡ gain a)
gain-neg (pos zero) = (refl, refl)
gain-neg (pos (suc k)) = (refl, refl)
gain-neg (negsuc k) = (refl, refl)

pub diff-neg : (p n : ℕ) → neg_ℤ (diff p n) ≡ diff n p
diff-neg p n =
    let a = parts p n in
    let b = parts n p in
    let h = gain-neg (diff p n) in
    equal (neg_ℤ (diff p n)) (diff n p) (omega (arith, h.0, h.1))

gain-mul : (a b : ℤ)
    → gain (a *ℤ b) + (gain a * loss b + loss a * gain b) ≡ loss (a *ℤ b) + (gain a * gain b + loss a * loss b)
gain-mul (pos a) (pos b) = omega arith
gain-mul (pos a) (negsuc b) = let h = gain-neg (pos (a * suc b)) in omega (arith, h.0, h.1)
gain-mul (negsuc a) (pos b) = let h = gain-neg (pos (suc a * b)) in omega (arith, h.0, h.1)
gain-mul (negsuc a) (negsuc b) = omega arith

pub diff-mul : (p n q m : ℕ) → diff p n *ℤ diff q m ≡ diff (p * q + n * m) (p * m + n * q)
diff-mul p n q m =
    let a = diff p n in
    let b = diff q m in
    let c = parts (p * q + n * m) (p * m + n * q) in
    let h = gain-mul a b in
    equal (a *ℤ b) (diff (p * q + n * m) (p * m + n * q))
    (go (gain a) (loss a) (gain b) (loss b) (gain (a *ℤ b)) (loss (a *ℤ b)) _ _ (parts p n) (parts q m) h c)
  where
    go : (g l g' l' G L C D : ℕ)
        → p + l ≡ n + g
        → q + l' ≡ m + g'
        → G + (g * l' + l * g') ≡ L + (g * g' + l * l')
        → p * q + n * m + D ≡ p * m + n * q + C
        → G + D ≡ C + L
    go g l g' l' G L C D e f h c =
        let e1 : (p + l) * q ≡ (n + g) * q = ap (λ (z : ℕ). z * q) e in
        let e2 : (p + l) * m ≡ (n + g) * m = ap (λ (z : ℕ). z * m) e in
        let f1 : g * (q + l') ≡ g * (m + g') = ap (λ (z : ℕ). g * z) f in
        let f2 : l * (q + l') ≡ l * (m + g') = ap (λ (z : ℕ). l * z) f in
        omega arith

pub diff-pos : (k : ℕ) → pos k ≡ diff k 0
diff-pos k = let h = parts k 0 in equal (pos k) (diff k 0) (omega arith)

-- what turns a statement on differences into one on naturals: `rw (← whole a, ← whole b) (simp naturals (omega arith))`
pub ruleset naturals = (diff-add, diff-neg, diff-mul, diff-pos, same, le-diff, lt-diff)
