-- Whole numbers with a sign: what follows from multiplying by a natural above 0, and from knowing a sign.
use Rattle.std.specs.Prelude.{◌≡◌, refl, ◌↔◌, ◌⊎◌, Bool, true, false, not, ℕ, zero, suc, ◌+◌, ◌*◌, ◌≤◌, ◌<◌, T, ℤ, pos, negsuc, neg_ℤ, nat_abs, ◌-ℤ◌, ◌*ℤ◌, ◌≤ℤ◌, ◌<ℤ◌}
use Rattle.std.proofs.Common.{sym, ap, ◌∙◌, inl, inr, le_of_mul-le-mul_right, arith}
use Rattle.std.proofs.Math.Nat.{eq_of_mul-eq-mul_right}
use Rattle.std.specs.Int.Signed.{lt_z, lt_z_yes, lt_z_no}
use Rattle.grid.specs.Plane.Whole.{whole, naturals, gain, loss}

-- ---- a factor above 0 cancels, and can be added
pub cancel : (a b : ℤ) (t : ℕ) → 0 < t → a *ℤ pos t ≡ b *ℤ pos t → a ≡ b
cancel a b t h = rw (← whole a, ← whole b) (simp naturals (go (gain a) (loss a) (gain b) (loss b)))
  where
    go : (p n q m : ℕ) → p * t + n * 0 + (q * 0 + m * t) ≡ q * t + m * 0 + (p * 0 + n * t) → p + m ≡ q + n
    go p n q m e = let f : (p + m) * t ≡ (q + n) * t = omega arith in eq_of_mul-eq-mul_right t h (p + m) (q + n) f

pub cancel-le : (a b : ℤ) (t : ℕ) → 0 < t → (a *ℤ pos t) ≤ℤ (b *ℤ pos t) → a ≤ℤ b
cancel-le a b t h = rw (← whole a, ← whole b) (simp naturals (go (gain a) (loss a) (gain b) (loss b)))
  where
    go : (p n q m : ℕ) → p * t + n * 0 + (q * 0 + m * t) ≤ q * t + m * 0 + (p * 0 + n * t) → p + m ≤ q + n
    go p n q m e = let f : (p + m) * t ≤ (q + n) * t = omega arith in le_of_mul-le-mul_right f h

-- ---- order
pub le_antisym : (a b : ℤ) → a ≤ℤ b → b ≤ℤ a → a ≡ b
le_antisym a b = rw (← whole a, ← whole b) (simp naturals (omega arith))

pub lt-or-le : (a b : ℤ) → (a <ℤ b) ⊎ (b ≤ℤ a)
lt-or-le a b = go (lt_z a b) (λ t. lt_z_yes t) (λ t. lt_z_no t)
  where
    go : (c : Bool) → (T c → a <ℤ b) → (T (not c) → b ≤ℤ a) → (a <ℤ b) ⊎ (b ≤ℤ a)
    go true below up = inl (below tt)
    go false below up = inr (up tt)

-- in each of two cases there are two ways: if the second way cannot hold in both cases, the first holds in one
pub either : {A B C D : Type 0} → A ⊎ B → C ⊎ D → (B → D → ⊥) → A ⊎ C
either (inl a) m n = inl a
either (inr b) (inl c) n = inr c
either (inr b) (inr d) n = absurd (n b d)

pub other : {A B : Type 0} → A ⊎ B → B ⊎ A
other (inl a) = inr a
other (inr b) = inl b

-- naturals are in the same order
pub pos-le : (m n : ℕ) → (pos m ≤ℤ pos n) ↔ (m ≤ n)
pos-le m n = simp naturals (λ h. omega arith, λ h. omega arith)

-- a whole number that is not below 0 is a natural
pub natural : (a : ℤ) → pos 0 ≤ℤ a → (n : ℕ) × (a ≡ pos n)
natural (pos n) h = (n, refl)
natural (negsuc n) h = absurd h.le

-- ---- the sign of d, moved to a: a / d is turned d a / nat_abs d
abbrev pub turned : ℤ → ℤ → ℤ
turned (pos k) a = a
turned (negsuc k) a = neg_ℤ a

pub size-pos : (d : ℤ) → (d ≡ pos 0 → ⊥) → 0 < nat_abs d
size-pos (pos zero) h = absurd (h refl)
size-pos (pos (suc k)) h = omega arith
size-pos (negsuc k) h = omega arith

-- s * d ≡ a * t, turned
pub turned-eq : (d a s t : ℤ) → s *ℤ d ≡ a *ℤ t → s *ℤ pos (nat_abs d) ≡ turned d a *ℤ t
turned-eq (pos k) a s t h = h
turned-eq (negsuc k) a s t h = sym (back s (negsuc k)) ∙ ap neg_ℤ h ∙ neg_left a t
  where
    back : (s d : ℤ) → neg_ℤ (s *ℤ d) ≡ s *ℤ neg_ℤ d
    back s d = rw (← whole s, ← whole d) (simp naturals (omega arith))

    neg_left : (a t : ℤ) → neg_ℤ (a *ℤ t) ≡ neg_ℤ a *ℤ t
    neg_left a t = rw (← whole a, ← whole t) (simp naturals (omega arith))

-- the same by cases: d is not below 0 and nothing is turned, or it is below 0 and everything is
pub record Plain (d : ℤ) : Type 0 where
  pub least : pos 0 ≤ℤ d
  pub size : pos (nat_abs d) ≡ d
  pub turn : (z : ℤ) → turned d z ≡ z

pub record Minus (d : ℤ) : Type 0 where
  pub most : d <ℤ pos 0
  pub size : pos (nat_abs d) ≡ neg_ℤ d
  pub turn : (z : ℤ) → turned d z ≡ neg_ℤ z

pub sign : (d : ℤ) → Plain d ⊎ Minus d
sign (pos k) = inl (record { least = (pos-le 0 k).1 (omega arith); size = refl; turn = λ z. refl })
sign (negsuc k) = inr (record { most = lt_z_yes tt; size = refl; turn = λ z. refl })

-- z / d is from 0 to 1 if z is from 0 to d, on either side of 0
pub inside : (d z : ℤ) → ((pos 0 ≤ℤ z) × (z ≤ℤ d)) ⊎ ((d ≤ℤ z) × (z ≤ℤ pos 0))
    → (pos 0 ≤ℤ turned d z) × (turned d z ≤ℤ pos (nat_abs d))
inside d z h = go (sign d) h
  where
    put : (m k : ℤ) → turned d z ≡ m → pos (nat_abs d) ≡ k → (pos 0 ≤ℤ m) × (m ≤ℤ k)
        → (pos 0 ≤ℤ turned d z) × (turned d z ≤ℤ pos (nat_abs d))
    put m k e f (a, b) = (rw e a, rw (e, f) b)

    up : (d z : ℤ) → pos 0 ≤ℤ d → (d ≤ℤ z) × (z ≤ℤ pos 0) → (pos 0 ≤ℤ z) × (z ≤ℤ d)
    up d z = rw (← whole d, ← whole z) (simp naturals (omega arith))

    down : (d z : ℤ) → d <ℤ pos 0 → (pos 0 ≤ℤ z) × (z ≤ℤ d) → (pos 0 ≤ℤ neg_ℤ z) × (neg_ℤ z ≤ℤ neg_ℤ d)
    down d z = rw (← whole d, ← whole z) (simp naturals (omega arith))

    over : (d z : ℤ) → (d ≤ℤ z) × (z ≤ℤ pos 0) → (pos 0 ≤ℤ neg_ℤ z) × (neg_ℤ z ≤ℤ neg_ℤ d)
    over d z = rw (← whole d, ← whole z) (simp naturals (omega arith))

    go : Plain d ⊎ Minus d → ((pos 0 ≤ℤ z) × (z ≤ℤ d)) ⊎ ((d ≤ℤ z) × (z ≤ℤ pos 0))
        → (pos 0 ≤ℤ turned d z) × (turned d z ≤ℤ pos (nat_abs d))
    go (inl k) (inl h) = put z d (k.turn z) k.size h
    go (inl k) (inr h) = put z d (k.turn z) k.size (up d z k.least h)
    go (inr k) (inl h) = put (neg_ℤ z) (neg_ℤ d) (k.turn z) k.size (down d z k.most h)
    go (inr k) (inr h) = put (neg_ℤ z) (neg_ℤ d) (k.turn z) k.size (over d z h)

-- a factor that is not 0 cancels
pub cancel-any : (a b d : ℤ) → (d ≡ pos 0 → ⊥) → a *ℤ d ≡ b *ℤ d → a ≡ b
cancel-any a b d n h = go (sign d)
  where
    back : (a d : ℤ) → a *ℤ neg_ℤ d ≡ neg_ℤ (a *ℤ d)
    back a d = rw (← whole a, ← whole d) (simp naturals (omega arith))

    go : Plain d ⊎ Minus d → a ≡ b
    go (inl k) =
        cancel a b (nat_abs d) (size-pos d n) (ap (λ (z : ℤ). a *ℤ z) k.size ∙ h ∙ ap (λ (z : ℤ). b *ℤ z) (sym k.size))
    go (inr k) =
        cancel a b (nat_abs d) (size-pos d n)
        (ap (λ (z : ℤ). a *ℤ z) k.size ∙ back a d ∙ ap neg_ℤ h ∙ sym (back b d) ∙ ap (λ (z : ℤ). b *ℤ z) (sym k.size))

-- numbers that are equal when turned are equal
pub turned_same : (d x y a : ℤ) → turned d (x -ℤ a) ≡ turned d (y -ℤ a) → x ≡ y
turned_same d x y a h = go (sign d)
  where
    plain : (x y a : ℤ) → x -ℤ a ≡ y -ℤ a → x ≡ y
    plain x y a = rw (← whole x, ← whole y, ← whole a) (simp naturals (omega arith))

    minus : (x y a : ℤ) → neg_ℤ (x -ℤ a) ≡ neg_ℤ (y -ℤ a) → x ≡ y
    minus x y a = rw (← whole x, ← whole y, ← whole a) (simp naturals (omega arith))

    go : Plain d ⊎ Minus d → x ≡ y
    go (inl k) = plain x y a (sym (k.turn (x -ℤ a)) ∙ h ∙ k.turn (y -ℤ a))
    go (inr k) = minus x y a (sym (k.turn (x -ℤ a)) ∙ h ∙ k.turn (y -ℤ a))

pub lt_of_le_ne : (a b : ℤ) → a ≤ℤ b → (a ≡ b → ⊥) → a <ℤ b
lt_of_le_ne a b l n = go (lt-or-le a b)
  where
    go : (a <ℤ b) ⊎ (b ≤ℤ a) → a <ℤ b
    go (inl h) = h
    go (inr h) = absurd (n (le_antisym a b l h))
