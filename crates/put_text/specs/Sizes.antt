-- How many bytes a number has at most. The contracts of src/ use it.
use Rattle.std.specs.Prelude.{ℕ}

-- a number below 2^64, in decimal digits
abbrev pub whole : ℕ
whole = 20
