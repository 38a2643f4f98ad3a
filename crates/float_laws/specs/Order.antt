-- The order of floats is the order of their values: lt, le and eq of two finite floats, by their fractions multiplied out.
use Rattle.std.specs.Prelude.{◌≡◌, refl, ◌↔◌, ◌⊎◌, ℕ, ◌+◌, ◌*◌, ◌≤◌, ◌<◌, Bool, true, false, ◌&&◌, ◌||◌, ltb, eqb, ℤ, Float}
use Rattle.std.proofs.Common.{sym, ap, ◌∙◌, subst, inl, inr, mul-pos, zero-mul, mul_assoc, mul_right_comm, mul_comm, mul-lt-mul_of_pos_right, mul-le-mul_right, lt_of_mul-lt-mul_right, le_of_mul-le-mul_right, eq-or-lt_of_le, arith, ltb→lt, lt→ltb, eqb→eq}
use Rattle.std.proofs.Math.Nat.{eq_of_mul-eq-mul_right}
use Rattle.std.specs.Bool.{beq}
use Rattle.std.proofs.Math.Dec.{T}
use Rattle.std.specs.Float.{nan, inf, fin}
use Rattle.std.specs.Float.Ieee.{up, down, lt, le, eq, below, level}
use Rattle.std.specs.Float.Ieee.Exact.{HasValue}
use Rattle.std.specs.Float.Ieee.Fits.{down_pos, and_i, and_l, and_r, eq→eqb}
use Rattle.float_laws.specs.Tests.{same_test, either, left-of, right_of}
use Rattle.float_laws.specs.Signed.{Diff, SizeOf, signed_of, diff-mul}

-- ---- tests on natural numbers, over another denominator
scaled-lt : (a b c a' b' c' : ℕ) → 0 < c' → a * c' ≡ a' * c → b * c' ≡ b' * c → a < b → a' < b'
scaled-lt a b c a' b' c' C' p q h =
    let wide : a * c' < b * c' = mul-lt-mul_of_pos_right h C' in
    lt_of_mul-lt-mul_right c {m = a'} {n = b'} (omega arith)

pub same-ltb : (a b c a' b' c' : ℕ) → 0 < c → 0 < c' → a * c' ≡ a' * c → b * c' ≡ b' * c → ltb a b ≡ ltb a' b'
same-ltb a b c a' b' c' C C' p q =
    same_test (ltb a b) (ltb a' b')
    (λ t. lt→ltb a' b' (scaled-lt a b c a' b' c' C' p q (ltb→lt a b t)))
    (λ t. lt→ltb a b (scaled-lt a' b' c' a b c C (sym p) (sym q) (ltb→lt a' b' t)))

same-eqb : (a b c a' b' c' : ℕ) → 0 < c → 0 < c' → a * c' ≡ a' * c → b * c' ≡ b' * c → eqb a b ≡ eqb a' b'
same-eqb a b c a' b' c' C C' p q =
    same_test (eqb a b) (eqb a' b')
    (λ t. eq→eqb (over a b c a' b' c' C p q (eqb→eq a b t)))
    (λ t. eq→eqb (over a' b' c' a b c C' (sym p) (sym q) (eqb→eq a' b' t)))
  where
    over : (a b c a' b' c' : ℕ) → 0 < c → a * c' ≡ a' * c → b * c' ≡ b' * c → a ≡ b → a' ≡ b'
    over a b c a' b' c' C p q e =
        let wide : a * c' ≡ b * c' = ap (λ (z : ℕ). z * c') e in
        eq_of_mul-eq-mul_right c C a' b' (omega arith)

zero-over : (c c' : ℕ) → 0 * c' ≡ 0 * c
zero-over c c' = zero-mul c' ∙ sym (zero-mul c)

sum_over : (a b c a' b' c' : ℕ) → a * c' ≡ a' * c → b * c' ≡ b' * c → (a + b) * c' ≡ (a' + b') * c
sum_over a b c a' b' c' p q = omega arith

below-same : (s t : Bool) (a b c a' b' c' : ℕ) → 0 < c → 0 < c' → a * c' ≡ a' * c → b * c' ≡ b' * c
    → below s a t b ≡ below s a' t b'
below-same true true a b c a' b' c' C C' p q = same-ltb b a c b' a' c' C C' q p
below-same false false a b c a' b' c' C C' p q = same-ltb a b c a' b' c' C C' p q
below-same false true a b c a' b' c' C C' p q = refl
below-same true false a b c a' b' c' C C' p q =
    same-ltb 0 (a + b) c 0 (a' + b') c' C C' (zero-over c c') (sum_over a b c a' b' c' p q)

level-same : (s t : Bool) (a b c a' b' c' : ℕ) → 0 < c → 0 < c' → a * c' ≡ a' * c → b * c' ≡ b' * c
    → level s a t b ≡ level s a' t b'
level-same s t a b c a' b' c' C C' p q =
    ap (λ (z : Bool). z && (beq s t || eqb a 0)) (same-eqb a b c a' b' c' C C' p q)
    ∙ ap (λ (z : Bool). eqb a' b' && (beq s t || z)) (same-eqb a 0 c a' 0 c' C C' p (zero-over c c'))

-- ---- by sign and size over one denominator

-- the model multiplies each size out with the other's denominator
out-left : (a d e X c : ℕ) → a * c ≡ X * e → a * d * c ≡ X * (e * d)
out-left a d e X c h = mul_right_comm a d c ∙ ap (λ (z : ℕ). z * d) h ∙ mul_assoc X e d

out-right : (b d e Y c : ℕ) → b * c ≡ Y * d → b * e * c ≡ Y * (e * d)
out-right b d e Y c h = mul_right_comm b e c ∙ ap (λ (z : ℕ). z * e) h ∙ mul_right_comm Y d e ∙ mul_assoc Y e d

-- `lt` and `eq` test two signs and two sizes, which is the same over every denominator
module _ (compare : Float → Float → Bool) (test : Bool → ℕ → Bool → ℕ → Bool)
    (asks : (u v : Bool) (m n : ℕ) (e g : ℤ) → compare (fin u m e) (fin v n g) ≡ test u (m * up e * down g) v (n * up g * down e))
    (same : (s t : Bool) (a b c a' b' c' : ℕ) → 0 < c → 0 < c' → a * c' ≡ a' * c → b * c' ≡ b' * c
    → test s a t b ≡ test s a' t b')
  where
    by_count : (x y : Float) (s t : Bool) (X Y c : ℕ) → 0 < c → HasValue x s X c → HasValue y t Y c → compare x y ≡ test s X t Y
    by_count nan y s t X Y c C h k = absurd h
    by_count (inf u) y s t X Y c C h k = absurd h
    by_count (fin u m e) nan s t X Y c C h k = absurd k
    by_count (fin u m e) (inf v) s t X Y c C h k = absurd k
    by_count (fin u m e) (fin v n g) s t X Y c C (p, h) (q, k) =
        let a = m * up e in
        let b = n * up g in
        asks u v m n e g
        ∙ ap (λ (z : Bool). test z (a * down g) v (b * down e)) p
        ∙ ap (λ (z : Bool). test s (a * down g) z (b * down e)) q
        ∙ same s t (a * down g) (b * down e) (down e * down g) X Y c (mul-pos (down_pos e) (down_pos g)) C
        (out-left a (down g) (down e) X c h) (out-right b (down g) (down e) Y c k)

    -- and so by fractions, if the test says how their differences compare
    by-diff : (Lies : ℕ → ℕ → Type 0)
        → ((s t : Bool) (X Y p n q k : ℕ) → SizeOf s X p n → SizeOf t Y q k → T (test s X t Y) ↔ Lies (p + k) (q + n))
        → (x y : Float) (p n c q k d : ℕ) → 0 < c → 0 < d → Diff x p n c → Diff y q k d
        → T (compare x y) ↔ Lies (p * d + k * c) (q * c + n * d)
    by-diff Lies says x y p n c q k d C D a b =
        let A = signed_of x (p * d) (n * d) (c * d) (diff-mul x p n c d C a) in
        let B = signed_of y (q * c) (k * c) (d * c) (diff-mul y q k d c D b) in
        let alike : HasValue y B.s B.size (c * d) =
        subst (λ (z : ℕ). HasValue y B.s B.size z) (mul_comm d c) B.value in
        let e = by_count x y A.s B.s A.size B.size (c * d) (mul-pos C D) A.value alike in
        let r = says A.s B.s A.size B.size (p * d) (n * d) (q * c) (k * c) A.is B.is in
        ((λ h. r.0 (subst T e h)), (λ h. subst T (sym e) (r.1 h)))

below-is : (s t : Bool) (X Y p n q k : ℕ) → SizeOf s X p n → SizeOf t Y q k → T (below s X t Y) ↔ (p + k < q + n)
below-is true true X Y p n q k a b = ((λ h. let w = ltb→lt Y X h in omega arith), (λ h. lt→ltb Y X (omega arith)))
below-is false false X Y p n q k a b = ((λ h. let w = ltb→lt X Y h in omega arith), (λ h. lt→ltb X Y (omega arith)))
below-is true false X Y p n q k a b = ((λ h. let w = ltb→lt 0 (X + Y) h in omega arith), (λ h. lt→ltb 0 (X + Y) (omega arith)))
below-is false true X Y p n q k a b = ((λ h. absurd h), (λ h. absurd (never h)))
  where
    never : p + k < q + n → ⊥
    never h = omega arith

level-is : (s t : Bool) (X Y p n q k : ℕ) → SizeOf s X p n → SizeOf t Y q k → T (level s X t Y) ↔ (p + k ≡ q + n)
level-is true true X Y p n q k a b = (
  λ h. let w = eqb→eq X Y (and_l (eqb X Y) true h) in omega arith,
  λ h. let w : X ≡ Y = omega arith in and_i (eqb X Y) true (eq→eqb w) tt,
)
level-is false false X Y p n q k a b = (
  λ h. let w = eqb→eq X Y (and_l (eqb X Y) true h) in omega arith,
  λ h. let w : X ≡ Y = omega arith in and_i (eqb X Y) true (eq→eqb w) tt,
)
level-is true false X Y p n q k a b = (
  λ h. let w = eqb→eq X Y (and_l (eqb X Y) (eqb X 0) h) in let z = eqb→eq X 0 (and_r (eqb X Y) (eqb X 0) h) in omega arith,
  λ h. let w : X ≡ Y = omega arith in let z : X ≡ 0 = omega arith in and_i (eqb X Y) (eqb X 0) (eq→eqb w) (eq→eqb z),
)
level-is false true X Y p n q k a b = (
  λ h. let w = eqb→eq X Y (and_l (eqb X Y) (eqb X 0) h) in let z = eqb→eq X 0 (and_r (eqb X Y) (eqb X 0) h) in omega arith,
  λ h. let w : X ≡ Y = omega arith in let z : X ≡ 0 = omega arith in and_i (eqb X Y) (eqb X 0) (eq→eqb w) (eq→eqb z),
)

-- ---- by fractions over any two denominators
module _ (x y : Float) (p n c q k d : ℕ) (C : 0 < c) (D : 0 < d) (a : Diff x p n c) (b : Diff y q k d) where
  pub lt-diff : T (lt x y) ↔ (p * d + k * c < q * c + n * d)
  unfolding lt
  lt-diff = by-diff lt below (λ u v m n e g. refl) below-same (λ (i j : ℕ). i < j) below-is x y p n c q k d C D a b

  pub eq-diff : T (eq x y) ↔ (p * d + k * c ≡ q * c + n * d)
  unfolding eq
  eq-diff = by-diff eq level (λ u v m n e g. refl) level-same (λ (i j : ℕ). i ≡ j) level-is x y p n c q k d C D a b

  pub le-diff : T (le x y) ↔ (p * d + k * c ≤ q * c + n * d)
  unfolding le
  le-diff = (
    λ h. either (lt x y) (eq x y) (λ t. let w = lt-diff.0 t in omega arith) (λ t. let w = eq-diff.0 t in omega arith) h,
    λ h. go (eq-or-lt_of_le h),
  )
    where
      go : (p * d + k * c ≡ q * c + n * d) ⊎ (p * d + k * c < q * c + n * d) → T (lt x y || eq x y)
      go (inl e) = right_of (lt x y) (eq x y) (eq-diff.1 e)
      go (inr l) = left-of (lt x y) (eq x y) (lt-diff.1 l)

-- over one denominator
module _ (x y : Float) (p n q k c : ℕ) (C : 0 < c) (a : Diff x p n c) (b : Diff y q k c) where
  pub lt-over : T (lt x y) ↔ (p + k < q + n)
  lt-over =
      let r = lt-diff x y p n c q k c C C a b in (
        λ t. let w = r.0 t in lt_of_mul-lt-mul_right c {m = p + k} {n = q + n} (omega arith),
        λ l. r.1 (let w = mul-lt-mul_of_pos_right l C in omega arith),
      )

  pub le-over : T (le x y) ↔ (p + k ≤ q + n)
  le-over =
      let r = le-diff x y p n c q k c C C a b in (
        λ t. let w = r.0 t in le_of_mul-le-mul_right {m = p + k} {n = q + n} {k = c} (omega arith) C,
        λ l. r.1 (let w = mul-le-mul_right c l in omega arith),
      )
