-- Absolute value, minimum and maximum compared with abs, minNum and maxNum of IEEE 754-2008, on patterns: for which patterns they
-- agree, and for which they differ. The standard's rules stand here in our own words. Ieee754Root.antt does the same for the
-- root.
use Rattle.std.specs.Prelude.{◌≡◌, ℕ, ◌+◌, ◌%◌, ◌^◌, ◌<◌, ◌≤◌, Bool, true, false, cond, not, ◌&&◌, ◌||◌, T, ◌⊎◌, from_bits, is_nan, nat_le, nat_lt, refl, Float}
use Rattle.std.proofs.Common.{sym, ap, ◌∙◌, inl, inr, true≢false, arith, leb→le, lt→ltb}
use Rattle.std.proofs.Math.Dec.{nleb→lt}
use Rattle.std.specs.Float.{binary64}
use Rattle.std.specs.Float.Ieee.{nan_bits, lt}
use Rattle.std.specs.Float.Ieee.Bits.{nan_bits_is, is_true}
use Rattle.floats.specs.Bits
use Rattle.floats.specs.Laws.Pairs.{and_left, or-either, beside_first, beside-second, one-nan}
use Rattle.floats.specs.Laws.Picked.{pick_at, picked-nan, lt-numbers, lt-once}

-- a NaN is quiet if the highest of its 52 digits is set, and signalling if it is not
abbrev pub quiet : ℕ → Bool
quiet b = nan_bits binary64 b && nat_le (2 ^ 51) (b % 2 ^ 52)

abbrev pub signalling : ℕ → Bool
signalling b = nan_bits binary64 b && nat_lt (b % 2 ^ 52) (2 ^ 51)

-- ---- abs: the sign bit is clear, and all other bits are unchanged

pub record Abs (b r : ℕ) : Type 0 where
  pub clear : r < 2 ^ 63
  pub others : (b ≡ r) ⊎ (b ≡ 2 ^ 63 + r)

pub abs-is-abs : (b : ℕ) → b < 2 ^ 64 → Abs b (Bits.abs b)
unfolding Bits.abs
abs-is-abs b h = record { clear = omega arith; others = go (nat_le (2 ^ 63) b) (leb→le (2 ^ 63) b) (nleb→lt (2 ^ 63) b) }
  where
    go : (s : Bool) → (T s → 2 ^ 63 ≤ b) → (T (not s) → b < 2 ^ 63) → (b ≡ b % 2 ^ 63) ⊎ (b ≡ 2 ^ 63 + b % 2 ^ 63)
    go true over under = let l = over tt in inr (omega arith)
    go false over under = let l = under tt in inl (omega arith)

-- ---- minNum and maxNum: r is an answer that the standard allows; `less x y` says that x is the wanted one

pub record Num (less : Float → Float → Bool) (a b r : ℕ) : Type 0 where
  -- of two numbers the lesser (for maxNum: the greater) one, and of equal ones either
  pub first : less (from_bits binary64 a) (from_bits binary64 b) ≡ true → r ≡ a
  pub second : less (from_bits binary64 b) (from_bits binary64 a) ≡ true → r ≡ b
  pub either : nan_bits binary64 a ≡ false → nan_bits binary64 b ≡ false → (r ≡ a) ⊎ (r ≡ b)
  -- a number and a quiet NaN give the number, and two quiet NaNs give a quiet NaN; its digits are left open here, but the
  -- standard takes those of one of the two
  pub number-first : nan_bits binary64 a ≡ false → quiet b ≡ true → r ≡ a
  pub number-second : quiet a ≡ true → nan_bits binary64 b ≡ false → r ≡ b
  pub nans : quiet a ≡ true → quiet b ≡ true → quiet r ≡ true
  -- a signalling NaN gives a quiet NaN
  pub signalled : (signalling a ≡ true) ⊎ (signalling b ≡ true) → quiet r ≡ true

abbrev pub MinNum : ℕ → ℕ → ℕ → Type 0
MinNum a b r = Num (λ x y. lt x y) a b r

abbrev pub MaxNum : ℕ → ℕ → ℕ → Type 0
MaxNum a b r = Num (λ x y. lt y x) a b r

-- Two patterns are mixed if one is a signalling NaN and the other a number. For mixed patterns minimum and maximum differ from
-- the standard; for all others they agree with it. So any two patterns fall under one of the two theorems on minimum, and under
-- one of the two on maximum. `is` stands for min-is-min_num and max-is-max_num, `departs` for min-departs and max-departs:
--
--                             b a number     b a quiet NaN     b a signalling NaN
--     a a number              is             is                departs
--     a a quiet NaN           is             is                is
--     a a signalling NaN      departs        is                is
abbrev pub mixed : ℕ → ℕ → Bool
mixed a b = (signalling a && not (nan_bits binary64 b)) || (signalling b && not (nan_bits binary64 a))

-- The answer for mixed patterns: the number, as for a quiet NaN. The standard wants a quiet NaN.
pub record Departs (a b r : ℕ) : Type 0 where
  pub first : nan_bits binary64 a ≡ false → r ≡ a
  pub second : nan_bits binary64 b ≡ false → r ≡ b
  pub number : nan_bits binary64 r ≡ false

-- ---- one argument for both: it works for either comparison and for the test that picks
pub quiet_is : quiet Bits.quiet_nan ≡ true
unfolding nan_bits
quiet_is = refl

pub nan-kinds : (b : ℕ) → nan_bits binary64 b ≡ true → (quiet b ≡ true) ⊎ (signalling b ≡ true)
nan-kinds b h = go (nat_le (2 ^ 51) (b % 2 ^ 52)) refl (nleb→lt (2 ^ 51) (b % 2 ^ 52))
  where
    both : {s : Bool} → s ≡ true → (nan_bits binary64 b && s) ≡ true
    both e = rw (h, e)

    go : (s : Bool) → nat_le (2 ^ 51) (b % 2 ^ 52) ≡ s → (T (not s) → b % 2 ^ 52 < 2 ^ 51) → (quiet b ≡ true) ⊎ (signalling b ≡ true)
    go true e under = inl (both e)
    go false e under = inr (both (is_true _ (lt→ltb (b % 2 ^ 52) (2 ^ 51) (under tt))))

module _ (less : Float → Float → Bool)
    (numbers : (x y : Float) → less x y ≡ true → (is_nan x ≡ false) × (is_nan y ≡ false))
    (once : (x y : Float) → less x y ≡ true → less y x ≡ false) where
  agrees : (a b : ℕ) → mixed a b ≡ false → Num less a b (Bits.pick (less (from_bits binary64 a) (from_bits binary64 b)) a b)
  agrees a b unmixed = record {
    first = λ h. let n = numbers x y h in of-numbers n.0 n.1 ∙ ap (λ (z : Bool). cond z a b) h;
    second = λ h. let n = numbers y x h in of-numbers n.1 n.0 ∙ ap (λ (z : Bool). cond z a b) (once y x h);
    either = λ m n. one (less x y) (pick_at (less x y) a b false false m n);
    number-first = λ m n. pick_at (less x y) a b false true m (and_left _ _ n);
    number-second = λ m n. pick_at (less x y) a b true false (and_left _ _ m) n;
    nans = λ m n. of-nans (and_left _ _ m) (and_left _ _ n);
    signalled = signalled;
  }
    where
      x : Float
      x = from_bits binary64 a

      y : Float
      y = from_bits binary64 b

      m : Bool
      m = nan_bits binary64 a

      n : Bool
      n = nan_bits binary64 b

      nan_is : (c : ℕ) → is_nan (from_bits binary64 c) ≡ false → nan_bits binary64 c ≡ false
      nan_is c h = nan_bits_is binary64 c ∙ h

      of-numbers : is_nan x ≡ false → is_nan y ≡ false → Bits.pick (less x y) a b ≡ cond (less x y) a b
      of-numbers p q = pick_at (less x y) a b false false (nan_is a p) (nan_is b q)

      of-nans : nan_bits binary64 a ≡ true → nan_bits binary64 b ≡ true → quiet (Bits.pick (less x y) a b) ≡ true
      of-nans m n = ap quiet (pick_at (less x y) a b true true m n) ∙ quiet_is

      one : (f : Bool) {r : ℕ} → r ≡ cond f a b → (r ≡ a) ⊎ (r ≡ b)
      one true e = inl e
      one false e = inr e

      signalled : (signalling a ≡ true) ⊎ (signalling b ≡ true) → quiet (Bits.pick (less x y) a b) ≡ true
      signalled (inl h) = of-nans (and_left _ _ h) (beside_first (signalling a) (signalling b) m n unmixed h)
      signalled (inr h) = of-nans (beside-second (signalling a) (signalling b) m n unmixed h) (and_left _ _ h)

departs : (f : Bool) (a b : ℕ) → mixed a b ≡ true → Departs a b (Bits.pick f a b)
departs f a b h = go (nan_bits binary64 a) refl (one-nan (nan_bits binary64 a) (nan_bits binary64 b) _ _ h)
  where
    go : (m : Bool) → nan_bits binary64 a ≡ m → nan_bits binary64 b ≡ not m → Departs a b (Bits.pick f a b)
    go true e g =
        let r = pick_at f a b true false e g in
        record { first = λ n. absurd (true≢false (sym e ∙ n)); second = λ n. r; number = ap (nan_bits binary64) r ∙ g }
    go false e g =
        let r = pick_at f a b false true e g in
        record { first = λ n. r; second = λ n. absurd (true≢false (sym g ∙ n)); number = ap (nan_bits binary64) r ∙ e }

-- ---- what is proved

-- they agree for every two patterns that are not mixed
pub min-is-min_num : (a b : ℕ) → mixed a b ≡ false → MinNum a b (Bits.min a b)
unfolding Bits.min Bits.below
min-is-min_num = agrees (λ x y. lt x y) (λ x y. lt-numbers x y) (λ x y. lt-once x y)

pub max-is-max_num : (a b : ℕ) → mixed a b ≡ false → MaxNum a b (Bits.max a b)
unfolding Bits.max Bits.below
max-is-max_num = agrees (λ x y. lt y x) (λ x y h. let n = lt-numbers y x h in (n.1, n.0)) (λ x y. lt-once y x)

-- they differ for mixed patterns
pub min-departs : (a b : ℕ) → mixed a b ≡ true → Departs a b (Bits.min a b)
unfolding Bits.min
min-departs a b = departs (Bits.below a b) a b

pub max-departs : (a b : ℕ) → mixed a b ≡ true → Departs a b (Bits.max a b)
unfolding Bits.max
max-departs a b = departs (Bits.below b a) a b

-- no answer for mixed patterns does both, whatever the comparison is
pub never_both : (less : Float → Float → Bool) (a b r : ℕ) → mixed a b ≡ true → Departs a b r → ¬ Num less a b r
never_both less a b r h d n =
    let q = n.signalled (or-either (signalling a) (signalling b) _ _ h) in
    true≢false (sym (and_left _ _ q) ∙ d.number)

-- every NaN that they answer is 7FF8000000000000; for two NaNs the standard takes the digits of one, and only these digits are
-- lost
pub min-nan : (a b : ℕ) → nan_bits binary64 (Bits.min a b) ≡ true → Bits.min a b ≡ Bits.quiet_nan
unfolding Bits.min
min-nan a b = picked-nan (Bits.below a b) a b

pub max-nan : (a b : ℕ) → nan_bits binary64 (Bits.max a b) ≡ true → Bits.max a b ≡ Bits.quiet_nan
unfolding Bits.max
max-nan a b = picked-nan (Bits.below b a) a b
