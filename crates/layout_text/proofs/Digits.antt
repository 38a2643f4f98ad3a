-- One turn of the loop that reads digits: what is left is nothing, or a first byte and what is left after that. And the tests on
-- the first byte, for `search`.
use Prim.Native.Nat.{ℕ, ◌+◌, ◌*◌, ◌≤◌, ◌<◌}
use mathlib.Core.Path.{◌≡◌}
use mathlib.Core.Bool.{Bool, cond}
use mathlib.Core.List.{List}
use native.Mathlib.Numerals.{add-one}
use borrow.Author.Tests.{lt-ltb, le-ltb, eq-eqb, ne_eqb}
use lib.Dec.{eqb, ltb}
use lib.ListN.{length, drop, get_or, drop_of_length-le}
use lib.Seq.{drop-cons}
use lib.IntN.{ℤ}
use Rattle.layouts.specs.Layout.{whole}
use Rattle.layout_text.specs.Workings.Reader.{Got, nothing, got, other, kind_of, first_kind, digits_of}

-- `all` is what the whole reads as; the digits so far are n, and k is what the call said of the byte at i
module _ (text : List ℕ) (negative : Bool) (most end n i : ℕ) (all : Got ℤ)
    (inv : digits_of negative most end n (drop i text) ≡ all) where
  pub at-end : length text ≤ i → nothing ≡ all
  unfolding digits_of
  at-end h = rw (drop_of_length-le) at inv

  module _ (inside : i < length text) (k : ℕ) (is : k ≡ kind_of (get_or text i 0)) where
    pub at_mark : 9 < k → k ≡ end → got (whole negative n) (drop (i + 1) text) ≡ all
    unfolding digits_of
    at_mark h e = rw (drop-cons text i 0 inside, ← add-one i, ← is, lt-ltb _ _ h, eq-eqb _ _ e) at inv

    pub at_other : 9 < k → (k ≡ end → ⊥) → nothing ≡ all
    unfolding digits_of
    at_other h e = rw (drop-cons text i 0 inside, ← is, lt-ltb _ _ h, ne_eqb _ _ e) at inv

    pub at-beyond : k ≤ 9 → most < n * 10 + k → nothing ≡ all
    unfolding digits_of
    at-beyond h g = rw (drop-cons text i 0 inside, ← is, le-ltb _ _ h, lt-ltb _ _ g) at inv

    pub at-digit : k ≤ 9 → n * 10 + k ≤ most → digits_of negative most end (n * 10 + k) (drop (i + 1) text) ≡ all
    unfolding digits_of
    at-digit h g = rw (add-one, is) (rw (drop-cons text i 0 inside, ← is, le-ltb _ _ h, le-ltb _ _ g, is) at inv)

-- the first byte of what is left at i
module _ (text : List ℕ) (i : ℕ) where
  pub first_past : length text ≤ i → other ≡ first_kind (drop i text)
  unfolding first_kind
  first_past h = rw (drop_of_length-le)

  pub first-at : i < length text → kind_of (get_or text i 0) ≡ first_kind (drop i text)
  unfolding first_kind
  first-at h = rw (drop-cons text i 0 h)

-- a test on the first byte, by what a call said of it
module _ {A : Type 0} (t : List ℕ) (kind k : ℕ) (x y r : A) (is : kind ≡ first_kind t) where
  pub first-is : kind ≡ k → r ≡ x → r ≡ cond (eqb (first_kind t) k) x y
  first-is h e = rw (← is, eq-eqb _ _ h) e

  pub first-is-not : (kind ≡ k → ⊥) → r ≡ y → r ≡ cond (eqb (first_kind t) k) x y
  first-is-not h e = rw (← is, ne_eqb _ _ h) e

  pub first_above : k < kind → r ≡ x → r ≡ cond (ltb k (first_kind t)) x y
  first_above h e = rw (← is, lt-ltb _ _ h) e

  pub first-within : kind ≤ k → r ≡ y → r ≡ cond (ltb k (first_kind t)) x y
  first-within h e = rw (← is, le-ltb _ _ h) e

pub ruleset first_byte = (first-is, first-is-not, first_above, first-within)
