-- One turn of the loop that reads groups: what is left is nothing, or a first byte and what is left after that. And the number's
-- first byte. And that nothing overflows.
use Prim.Native.Nat.{ℕ, ◌+◌, ◌*◌, ◌-◌, ◌≤◌, ◌<◌}
use mathlib.Core.Path.{◌≡◌}
use mathlib.Core.List.{List}
use native.Mathlib.Nat.{mul-le-mul, mul-le-mul_right}
use native.Mathlib.Numerals.{add-one}
use native.Mathlib.Omega.{arith}
use borrow.Author.Tests.{lt-ltb, le-ltb, eq-eqb, ne_eqb}
use lib.ListN.{length, drop, get_or, drop_of_length-le}
use lib.Seq.{drop-cons}
use Rattle.layout_packed.specs.Workings.Reader.{Got, fault, got, more_from, number_from}

-- ---- bounds

-- a byte's share of the sum
pub share : (b scale most : ℕ) → b < 256 → scale ≤ most → b * scale ≤ 255 * most
share b scale most h g = mul-le-mul (omega arith) g

-- the groups so far stay below what the next one counts
pub below : (n b scale : ℕ) → n < scale → b < 128 → n + b * scale < scale * 128
below n b scale h g =
    let small : b ≤ 127 = omega arith in
    omega (arith, mul-le-mul_right scale small)

-- ---- the groups that follow: `all` is what the whole reads as, n what the groups so far give, and b is the byte at i

module _ (bytes : List ℕ) (most start scale n i : ℕ) (all : Got ℕ)
    (inv : more_from most start scale n i (drop i bytes) ≡ all) where
  pub at-end : length bytes ≤ i → fault start ≡ all
  unfolding more_from
  at-end h = rw (drop_of_length-le) at inv

  module _ (inside : i < length bytes) where
    pub too_far : most < scale → fault start ≡ all
    unfolding more_from
    too_far h = rw (drop-cons bytes i 0 inside, lt-ltb _ _ h) at inv

    module _ (fits : scale ≤ most) (b : ℕ) (is : b ≡ get_or bytes i 0) where
      pub at_zero : b < 128 → b ≡ 0 → fault start ≡ all
      unfolding more_from
      at_zero h e = rw (drop-cons bytes i 0 inside, le-ltb _ _ fits, ← is, lt-ltb _ _ h, eq-eqb _ _ e) at inv

      pub at-beyond : b < 128 → (b ≡ 0 → ⊥) → most < n + b * scale → fault start ≡ all
      unfolding more_from
      at-beyond h e g =
          rw (drop-cons bytes i 0 inside, le-ltb _ _ fits, ← is, lt-ltb _ _ h, ne_eqb _ _ e, lt-ltb _ _ g) at inv

      pub at_last : b < 128 → (b ≡ 0 → ⊥) → n + b * scale ≤ most → got (n + b * scale) (i + 1) (drop (i + 1) bytes) ≡ all
      unfolding more_from
      at_last h e g =
          rw (drop-cons bytes i 0 inside, le-ltb _ _ fits, ← is, lt-ltb _ _ h, ne_eqb _ _ e, le-ltb _ _ g, ← add-one i) at inv

      pub at_more : 128 ≤ b → b < 256
          → more_from most start (scale * 128) (n + (b - 128) * scale) (i + 1) (drop (i + 1) bytes) ≡ all
      unfolding more_from
      at_more h g =
          rw (add-one i) (rw (drop-cons bytes i 0 inside, le-ltb _ _ fits, ← is, le-ltb _ _ h, lt-ltb _ _ g, add-one i) at inv)

-- ---- the first byte

module _ (bytes : List ℕ) (most start : ℕ) where
  pub no_byte : length bytes ≤ start → fault start ≡ number_from most start (drop start bytes)
  unfolding number_from
  no_byte h = rw (drop_of_length-le bytes h)

  module _ (inside : start < length bytes) (b : ℕ) (is : b ≡ get_or bytes start 0) where
    pub one-beyond : b < 128 → most < b → fault start ≡ number_from most start (drop start bytes)
    unfolding number_from
    one-beyond h g = rw (drop-cons bytes start 0 inside, ← is, lt-ltb _ _ h, lt-ltb _ _ g)

    pub one-group : b < 128 → b ≤ most → got b (start + 1) (drop (start + 1) bytes) ≡ number_from most start (drop start bytes)
    unfolding number_from
    one-group h g = rw (drop-cons bytes start 0 inside, ← is, lt-ltb _ _ h, le-ltb _ _ g, add-one start)

    pub more-groups : 128 ≤ b → b < 256 → (g : Got ℕ)
        → g ≡ more_from most start 128 (b - 128) (start + 1) (drop (start + 1) bytes)
        → g ≡ number_from most start (drop start bytes)
    unfolding number_from
    more-groups h k g e = rw (drop-cons bytes start 0 inside, ← is, le-ltb _ _ h, lt-ltb _ _ k, ← add-one start) e
