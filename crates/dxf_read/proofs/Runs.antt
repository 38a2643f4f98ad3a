-- One turn of the loop that reads digits: what is left is nothing, or a first byte and what is left after that.
use Prim.Native.Nat.{ℕ, suc, ◌+◌, ◌-◌, ◌≤◌, ◌<◌}
use mathlib.Core.Path.{◌≡◌}
use mathlib.Core.List.{List}
use native.Mathlib.Numerals.{add-one}
use native.Mathlib.Omega.{arith}
use borrow.Author.Tests.{lt-ltb, le-ltb}
use lib.ListN.{length, drop, get_or, drop_of_length-le}
use lib.Seq.{drop-cons}
use Rattle.dxf_form.specs.Workings.Reader.{Run}
use Rattle.dxf_read.specs.Workings.Kept.{digits, grown, zeros}

-- the digits that were read, and what is left at i
abbrev pub run : ℕ → ℕ → List ℕ → Run
run n many rest = record { number = n; many = many; rest = rest }

module _ (text : List ℕ) (n many i : ℕ) (all : Run) (inv : digits n many (drop i text) ≡ all) where
  -- nothing is left from the text's end on
  pub at-end : length text ≤ i → run n many (drop (length text) text) ≡ all
  unfolding digits
  at-end h =
      let all-over : length text ≤ length text = omega arith in
      rw (drop_of_length-le text all-over) (rw (drop_of_length-le text h) at inv)

  module _ (inside : i < length text) (b : ℕ) (is : b ≡ get_or text i 0) where
    pub at_low : b < 48 → run n many (drop i text) ≡ all
    unfolding digits
    at_low h = rw (drop-cons text i 0 inside) (rw (drop-cons text i 0 inside, ← is, lt-ltb _ _ h, is) at inv)

    pub at_high : 48 ≤ b → 57 < b → run n many (drop i text) ≡ all
    unfolding digits
    at_high h g =
        rw (drop-cons text i 0 inside) (rw (drop-cons text i 0 inside, ← is, le-ltb _ _ h, le-ltb b 58 (omega arith), is) at inv)

    pub at-digit : 48 ≤ b → b ≤ 57 → (g : ℕ) → g ≡ grown n (b - 48) → digits g (many + 1) (drop (i + 1) text) ≡ all
    unfolding digits
    at-digit h k g e =
        rw (e, is, add-one i) (rw (drop-cons text i 0 inside, ← is, le-ltb _ _ h, lt-ltb b 58 (omega arith), is) at inv)

-- ---- zeros after the digits, up to six digits after the point

module _ (m k all : ℕ) (inv : zeros m (6 - k) ≡ all) where
  pub zeros-end : 6 ≤ k → m ≡ all
  unfolding zeros
  zeros-end h = let none : 6 - k ≡ 0 = omega arith in rw none at inv

  pub zeros-more : k < 6 → (g : ℕ) → g ≡ grown m 0 → zeros g (6 - (k + 1)) ≡ all
  unfolding zeros
  zeros-more h g e =
      let one : 6 - k ≡ suc (6 - (k + 1)) = omega arith in
      rw e (rw one at inv)
