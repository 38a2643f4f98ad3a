-- One turn of the loop over the fields of a text line.
use Rattle.std.specs.Prelude.{Option, ℕ}
use Prim.Native.Nat.{ℕ, suc, ◌+◌, ◌*◌, ◌-◌, ◌≤◌, ◌<◌}
use mathlib.Core.Path.{◌≡◌}
use mathlib.Core.Bool.{Bool, true, false}
use mathlib.Core.List.{List}
use native.Mathlib.Omega.{arith}
use native.Mathlib.Nat.{sub-eq-zero_of_le}
use borrow.Author.Tests.{eq-eqb, ne_eqb}
use lib.ListN.{get_or}
use Rattle.records.specs.Text.{field_digits, field_bytes, after_of, field_at, fields_from, is_number}

-- what is left from field i on: this field, then the rest
left : (n i : ℕ) → i < n → n - i ≡ suc (n - (i + 1))
left n i inside = omega arith

-- `all` is what is said of all fields
module _ (n : ℕ) (body : List ℕ) (i : ℕ) (all : Bool) (inv : fields_from n body (n - i) i ≡ all) where
  pub at-end : n ≤ i → true ≡ all
  unfolding fields_from
  at-end h = rw (sub-eq-zero_of_le h) at inv

  module _ (inside : i < n) (after : ℕ) (after_is : after ≡ after_of n i) where
    pub at_other : (get_or body (i * field_bytes + field_digits) 0 ≡ after → ⊥) → false ≡ all
    unfolding fields_from
    at_other h = rw (left n i inside, ← after_is, ne_eqb _ _ h) at inv

    module _ (ends : get_or body (i * field_bytes + field_digits) 0 ≡ after) (field : Option ℕ) (field_is : field ≡ field_at body i)
        (said : Bool) (said-is : said ≡ is_number field) where
      pub at-broken : said ≡ false → false ≡ all
      unfolding fields_from
      at-broken h = rw (left n i inside, ← after_is, eq-eqb _ _ ends, ← field_is, ← said-is, h) at inv

      pub at-number : said ≡ true → fields_from n body (n - (i + 1)) (i + 1) ≡ all
      unfolding fields_from
      at-number h = rw (left n i inside, ← after_is, eq-eqb _ _ ends, ← field_is, ← said-is, h) at inv
