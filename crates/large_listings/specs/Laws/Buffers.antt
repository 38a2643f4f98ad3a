-- How long the arrays are into which paths are cut, and those for what a listing keeps of a cut path.
use Rattle.std.specs.Prelude.{◌≡◌, ℕ, ◌+◌, ◌*◌, ◌/◌, ◌≤◌, Float, length, replicate}
use Rattle.std.proofs.Common.{arith}
use Rattle.std.specs.Float.{binary64}
use Rattle.std.specs.Float.Ieee.{of_bits}
use Rattle.std.proofs.lemmas.List.{length-replicate}
use Rattle.paths.specs.Path.{most_segments, numbers_a_vertex}
use Rattle.boxes.specs.Groups.{group_size}
use Rattle.boxes.specs.Index.{floats_a_box}
use Rattle.listing_pairs.specs.Workings.Keeping.{numbers_kept, floats_before, floats_boxed}
use Rattle.listing_pairs.specs.Workings.Tracks.{most_groups}

pub floats-long : length (let z : Float = of_bits binary64 0 in replicate (most_segments * numbers_a_vertex) z)
    ≡ most_segments * numbers_a_vertex
floats-long = let z : Float = of_bits binary64 0 in length-replicate (most_segments * numbers_a_vertex) z

pub names-long : length (let z : ℕ = 0 in replicate most_segments z) ≡ most_segments
names-long = let z : ℕ = 0 in length-replicate most_segments z

-- what is kept, and with boxes
abbrev pub plain : ℕ
plain = most_segments * numbers_kept + most_groups

pub plain-long : length (let z : Float = of_bits binary64 0 in replicate plain z) ≡ plain
plain-long = let z : Float = of_bits binary64 0 in length-replicate plain z

pub plain-enough : (m : ℕ) → m ≤ most_segments → floats_before m ≤ plain
plain-enough m few = omega (arith, few)

abbrev pub boxed : ℕ
boxed = plain + floats_a_box * (most_segments + most_groups + most_groups / group_size)

pub boxed-long : length (let z : Float = of_bits binary64 0 in replicate boxed z) ≡ boxed
boxed-long = let z : Float = of_bits binary64 0 in length-replicate boxed z

pub boxed-enough : (m : ℕ) → m ≤ most_segments → floats_boxed m ≤ boxed
boxed-enough m few = omega (arith, few)
