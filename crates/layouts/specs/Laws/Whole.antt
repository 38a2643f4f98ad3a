-- A whole number by its sign and its magnitude has that magnitude.
use Rattle.std.specs.Prelude.{◌≡◌, ℕ, zero, suc, Bool, true, false, refl}
use Rattle.layouts.specs.Layout.{magnitude, whole}

pub size-whole : (negative : Bool) (n : ℕ) → magnitude (whole negative n) ≡ n
size-whole false n = refl
size-whole true zero = refl
size-whole true (suc n) = refl
