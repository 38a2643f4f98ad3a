-- Lengths. The longest packed form of a layout has 5,636 bytes, so the limit of 8,192 bytes excludes nothing: a longer file
-- always breaks the form, and its fault lies within the first 5,637 bytes. So a program that reads no more than 8,193 bytes
-- of a file tells what the whole file would be told.
use Rattle.std.specs.Prelude.{ℕ, zero, suc, ◌≤◌, ◌<◌, ◌≡◌, refl, List, length, take, replicate, pos}
use Rattle.std.proofs.Common.{sym, ap, ◌∙◌, arith, take_all}
use Rattle.std.proofs.lemmas.List.{length-replicate}
use Rattle.layouts.specs.Limits as limit
use Rattle.layouts.specs.Layout.{Vertex, Layout, EachWithin, none, more, Within}
use Rattle.layout_packed.specs.Limits as written
use Rattle.layout_packed.specs.Groups.{groups_in, groups_of}
use Rattle.layout_packed.specs.Packed.{vertex_numbers, numbers_of, joined, packed_of}
use Rattle.layout_packed.specs.Workings.Reader.{Unpacked, broken_at, layout, reads_packed}
use Rattle.layout_packed.specs.Laws.Faults.{sound-layout, reads-fault}
use Rattle.layout_packed.specs.Laws.Lengths.{numbers-long, counts-long, copies-long}
use Rattle.layout_packed.specs.Laws.Cut.{fault-cut}
use Rattle.layout_packed.specs.Exactly.{read-is-packed}
use Rattle.layout_packed.specs.Offset.{fault-told}

pub longest : (l : Layout) → Within l → length (packed_of l) ≤ written.longest
unfolding packed_of
longest l w = numbers-long (numbers_of l) (sound-layout l w)

-- so no layout is refused for its length
pub none-too-long : (l : Layout) → Within l → length (packed_of l) ≤ written.packed_bytes
none-too-long l w = omega (arith, longest l w)

-- the offset of a fault, too, is at most that
pub fault-early : (bytes : List ℕ) (k : ℕ) → reads_packed bytes ≡ broken_at k → k ≤ written.longest
fault-early bytes k e =
    let f = reads-fault bytes e in
    omega (arith, f.here, numbers-long f.numbers f.sound)

-- a file that is longer than is allowed is refused for its form, and its fault lies among the bytes that a program reads
pub longer-refused : (bytes : List ℕ) → written.packed_bytes < length bytes
    → (k : ℕ) × (reads_packed bytes ≡ broken_at k) × (k ≤ written.longest)
longer-refused bytes h = go (reads_packed bytes) refl
  where
    go : (u : Unpacked) → reads_packed bytes ≡ u → (k : ℕ) × (reads_packed bytes ≡ broken_at k) × (k ≤ written.longest)
    go (broken_at k) e = (k, e, fault-early bytes k e)
    go (layout l) e =
        let s = read-is-packed bytes l e in
        absurd (omega (arith, ap length s.0, longest l s.1))

-- ---- a layout that is as long: the most vertices, and the largest numbers

abbrev pub greatest : Vertex
greatest = record { x = pos limit.coordinate; y = pos limit.coordinate; bulge = pos limit.bulge }

abbrev pub largest : Layout
largest = record { first = replicate limit.vertices greatest; second = replicate limit.vertices greatest }

each_within : (n : ℕ) → EachWithin (replicate n greatest)
each_within zero = none
each_within (suc n) = more {v = greatest} (omega arith) (each_within n)

pub largest-within : Within largest
largest-within =
    record {
      first_count = omega (arith, length-replicate limit.vertices greatest);
      second-count = omega (arith, length-replicate limit.vertices greatest);
      first-each = each_within limit.vertices;
      second-each = each_within limit.vertices;
    }

greatest-long : length (joined (vertex_numbers greatest)) ≡ written.vertex_bytes
unfolding joined groups_of groups_in
greatest-long = refl

pub largest-long : length (packed_of largest) ≡ written.longest
largest-long = copies-long limit.vertices greatest written.vertex_bytes greatest-long ∙ omega (arith, counts-long)

-- ---- reading less

-- the answer to a file is that to its first bytes, if these are more than the longest packed form has
pub first-bytes : (bytes : List ℕ) (m : ℕ) → written.longest < m → reads_packed (take m bytes) ≡ reads_packed bytes
first-bytes bytes m h = go (reads_packed bytes) refl
  where
    go : (u : Unpacked) → reads_packed bytes ≡ u → reads_packed (take m bytes) ≡ reads_packed bytes
    go (broken_at k) e =
        let early = fault-early bytes k e in
        (fault-told (take m bytes) k).1 (fault-cut bytes m (omega arith) (reads-fault bytes e)) ∙ sym e
    go (layout l) e =
        let s = read-is-packed bytes l e in
        let short : length bytes ≤ m = omega (arith, ap length s.0, longest l s.1) in
        ap reads_packed (take_all m bytes short)

-- a program reads one byte more than a file may have
pub read-enough : (bytes : List ℕ) → reads_packed (take (suc written.packed_bytes) bytes) ≡ reads_packed bytes
read-enough bytes = first-bytes bytes (suc written.packed_bytes) (omega arith)
