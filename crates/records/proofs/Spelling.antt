-- One turn of the loop that reads a field: what is left of it is nothing, or a first byte and what is left after that.
use Rattle.std.specs.Prelude.{None, Option, Some, ℕ}
use Prim.Native.Nat.{ℕ, ◌+◌, ◌*◌, ◌%◌, ◌^◌, ◌≤◌, ◌<◌}
use mathlib.Core.Path.{◌≡◌}
use mathlib.Core.List.{List}
use native.Mathlib.Numerals.{add-one}
use borrow.Author.Tests.{lt-ltb, le-ltb}
use lib.ListN.{length, drop, get_or, drop_of_length-le}
use lib.Seq.{drop-cons}
use Rattle.records.specs.Text.{digit_of, spelt}

-- `all` is what the whole field spells; d is what the call said of the byte at i
module _ (text : List ℕ) (n i : ℕ) (all : Option ℕ) (inv : spelt n (drop i text) ≡ all) where
  pub at-end : length text ≤ i → Some n ≡ all
  unfolding spelt
  at-end h = rw (drop_of_length-le) at inv

  module _ (inside : i < length text) (d : ℕ) (is : d ≡ digit_of (get_or text i 0)) where
    pub at-digit : d ≤ 15 → spelt (n % 2 ^ 60 * 16 + d) (drop (i + 1) text) ≡ all
    unfolding spelt
    at-digit h = rw (add-one, is) (rw (drop-cons text i 0 inside, ← is, le-ltb _ _ h, is) at inv)

    pub at_other : 15 < d → None ≡ all
    unfolding spelt
    at_other h = rw (drop-cons text i 0 inside, ← is, lt-ltb _ _ h) at inv
