-- How a pair's results in the mode of large arcs go to a caller in C: a number is returned; the words and the floats of the
-- results go into the lent slices.
use Rattle.std.specs.Prelude.{ℕ, ◌≡◌, List, Float, Err, Ok}
use Rattle.checks.specs.Word.{word}
use Rattle.capi.specs.Handed.{no_room_code}
use Rattle.large_pair.specs.LargePair.{LargeOutcome, LargePair, refusal}
use Rattle.checks.specs.declared.call.CallError.TheVariants.{NoRoom, Refused}

-- how many results there are; the word of a refusal; or the code of no room
abbrev pub large_code : LargePair → ℕ
large_code (Err NoRoom) = no_room_code
large_code (Err (Refused f)) = word f
large_code (Ok count) = count

pub record HandedLarge (o : LargeOutcome) (returned : ℕ) (results : List ℕ) (points : List Float) : Type 0 where
  pub code_is : returned ≡ large_code o.answer
  pub results-hold : results ≡ o.results
  pub points-hold : points ≡ o.points
