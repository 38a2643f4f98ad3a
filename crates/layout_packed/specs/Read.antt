-- What the reader of packed files promises: its answer, and what both buffers hold afterwards, for any bytes and any buffers.
use Rattle.std.specs.Prelude.{ℕ, ◌≡◌, Bool, ◌||◌, cond, List, ltb, length, Float, Result, Ok, Err}
use Rattle.std.proofs.lemmas.List.Edits.{sets}
use Rattle.layouts.specs.Limits as limit
use Rattle.layouts.specs.Numbers.{path_of}
use Rattle.layout_packed.specs.Workings.Reader.{Unpacked, broken_at, layout, reads_packed}
use Rattle.layout_packed.specs.declared.Counts.{Counts}
use Rattle.layout_packed.specs.declared.UnpackError.{UnpackError}
use Rattle.layout_packed.specs.declared.UnpackError.TheVariants.{Refused, NoRoom}

-- the refusal of a file that breaks the packed form; the offset of the fault is told with it
abbrev pub refusal : ℕ
refusal = 18

-- a buffer is too small for a path with the most vertices
abbrev pub roomless : List Float → List Float → Bool
roomless first second = ltb (length first) limit.room || ltb (length second) limit.room

-- ---- if there is room

abbrev pub answer_of : Unpacked → Result Counts UnpackError
answer_of (broken_at k) = Err (Refused refusal k)
answer_of (layout l) = Ok (record { first = length l.first; second = length l.second })

-- a buffer's old contents, with a path's numbers written to its front; a refused file leaves it unchanged
abbrev pub first_of : Unpacked → List Float → List Float
first_of (broken_at k) old = old
first_of (layout l) old = sets old 0 (path_of l.first)

abbrev pub second_of : Unpacked → List Float → List Float
second_of (broken_at k) old = old
second_of (layout l) old = sets old 0 (path_of l.second)

-- ---- the promise

pub record ReadPacked (bytes : List ℕ) (r : Result Counts UnpackError) (first first' second second' : List Float) : Type 0 where
  pub answer-is : r ≡ cond (roomless first second) (Err NoRoom) (answer_of (reads_packed bytes))
  pub first_holds : first' ≡ cond (roomless first second) first (first_of (reads_packed bytes) first)
  pub second_holds : second' ≡ cond (roomless first second) second (second_of (reads_packed bytes) second)
