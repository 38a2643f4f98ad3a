-- The numbers of the refusals that request 10 adds.
use Rattle.std.specs.Prelude.{ℕ}

-- a bad code or number
abbrev pub number : ℕ
number = 20

-- a group out of place or missing
abbrev pub group : ℕ
group = 21

-- the count is not met
abbrev pub count : ℕ
count = 22

-- a number of a path is read back from no text
abbrev pub no_text : ℕ
no_text = 23

-- the result does not fit the lent slice
abbrev pub room : ℕ
room = 24
