-- How many minus signs a number has tells whether it is negative.
use Rattle.std.specs.Prelude.{ℕ, ◌≡◌, refl, Bool, true, false, eqb}
use Rattle.std.specs.Int.{from_bool}

pub kept : (negative : Bool) (minuses : ℕ) → minuses ≡ from_bool negative → eqb minuses 1 ≡ negative
kept false minuses e = rw e refl
kept true minuses e = rw e refl
