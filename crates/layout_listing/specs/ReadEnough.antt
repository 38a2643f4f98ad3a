-- The program reads one byte more than a packed file may have after its first line, and no more. Its answer to that is its answer
-- to the whole input, of whatever length: bytes behind those are not read, and would change nothing.
use Rattle.std.specs.Prelude.{ℕ, suc, ◌+◌, ◌<◌, ◌≡◌, refl, List, length, take, drop}
use Rattle.std.proofs.Common.{arith}
use Rattle.layout_packed.specs.Limits.{packed_bytes, longest}
use Rattle.layout_packed.specs.Lengths as lengths
use Rattle.layout_listing.specs.Answer.{first_line, answer_to, input_bytes}
use Rattle.layout_listing.specs.Laws.Begins.{begins-take, drop-take}

-- the program's buffer has 8,200 bytes
pub bytes-are : suc input_bytes ≡ 8200
bytes-are = refl

-- the answer to an input is that to its first bytes, if these are more than the line and the longest packed form have
pub first-bytes : (input : List ℕ) (m : ℕ) → longest < m → answer_to (take (length first_line + m) input) ≡ answer_to input
unfolding answer_to
first-bytes input m h =
    rw (begins-take first_line input m, drop-take (length first_line) input m, lengths.first-bytes (drop (length first_line) input) m h)
    refl

pub read-enough : (input : List ℕ) → answer_to (take (suc input_bytes) input) ≡ answer_to input
read-enough input =
    let same : suc input_bytes ≡ length first_line + suc packed_bytes = omega arith in
    rw same (first-bytes input (suc packed_bytes) (omega arith))
