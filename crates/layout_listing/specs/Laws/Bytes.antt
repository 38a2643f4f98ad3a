-- The text lines of every listing of two paths fit the room: there are no more rows than the room is for, and each of its numbers
-- fits a u64. These are a refusal's number, the count of pairs, and the numbers of rows in a slice that held zeros.
use Rattle.std.specs.Prelude.{◌≡◌, Bool, true, cond, List, Float, Err, Ok}
use Rattle.std.proofs.Math.Path.{refl}
use Rattle.std.proofs.Math.Bool.{false}
use Prim.Native.Nat.{ℕ, ◌*◌, ◌^◌, ◌≤◌}
use Rattle.std.proofs.Common.{arith}
use Rattle.std.proofs.Math.ListN.{length, length-replicate}
use Rattle.layouts.specs.Numbers.{path_of}
use Rattle.layout_packed.specs.Read.{refusal}
use Rattle.layout_packed.specs.Workings.Reader.{Unpacked, broken_at, layout}
use Rattle.answer_lines.specs.Lines.{refused_text}
use Rattle.answer_lines.specs.Sizes.{room_for}
use Rattle.answer_lines.specs.Room.{refusal-fits, answer-fits}
use Rattle.listing_pairs.specs.Row.{indices_a_row}
use Rattle.listing_calls.specs.Laws.Counts.{mutual-fits}
use Rattle.listing_calls.specs.Laws.Numbers.{Numbers, mutual-numbers, below-replicate}
use Rattle.listing_outcomes.specs.Answer.{Listed, ListingAnswer}
use Rattle.layout_listing.specs.Answer.{
  epsilon,
  most_rows,
  no_indices,
  no_points,
  listing,
  lines_of,
  lines_for,
  answer_of,
  line_missing,
  room,
}

-- how many places `no_indices` has
abbrev places : ℕ
places = most_rows * indices_a_row

module _ (first second : List Float) where
  -- the rows that the slices have room for are no more than the bytes are for
  few : (rows pairs : ℕ) → (listing first second).answer ≡ Listed rows pairs → room_for rows ≤ room
  unfolding listing
  few rows pairs e =
      let z : ℕ = 0 in
      let wide : length no_indices ≡ places = length-replicate places z in
      omega (arith, (mutual-fits first false second false epsilon no_indices no_points).few rows pairs e, wide)

  -- every number of the listing is one that a u64 holds
  numbers : Numbers (2 ^ 64) (listing first second)
  unfolding listing
  numbers =
      mutual-numbers first false second false epsilon no_indices no_points (2 ^ 64) (omega arith)
      (below-replicate (2 ^ 64) places 0 (omega arith) (omega arith))

  of-answer : (a : ListingAnswer) → (listing first second).answer ≡ a
      → length (lines_of a (listing first second).indices (listing first second).points) ≤ room
  of-answer (Err f) e = omega (arith, refusal-fits f.number (omega (arith, numbers.refusal f e)))
  of-answer (Ok counts) e =
      let rows_few = few counts.rows counts.pairs e in
      omega (
        arith,
        rows_few,
        answer-fits counts.pairs counts.rows (listing first second).indices (listing first second).points
            (omega (arith, numbers.pairs counts.rows counts.pairs e)) (omega (arith, rows_few)) numbers.indices,
      )

  lines_fit : length (lines_for first second) ≤ room
  unfolding lines_for
  lines_fit = of-answer (listing first second).answer refl

file-fits : (u : Unpacked) → length (answer_of u) ≤ room
file-fits (broken_at k) = omega (arith, refusal-fits refusal (omega arith))
file-fits (layout l) = lines_fit (path_of l.first) (path_of l.second)

pub input-fits : (u : Unpacked) (b : Bool) → length (cond b (answer_of u) (refused_text line_missing)) ≤ room
input-fits u true = file-fits u
input-fits u false = omega (arith, refusal-fits line_missing (omega arith))
