-- The reader, as a function of the remaining bytes and of the offset at which they start: what it has read, the offset after
-- that, and what remains there; or the offset of the fault. Exactly.antt proves that it accepts the packed forms of
-- Packed.antt and no others, and reads the packed form of a layout as that layout; Fault.antt says which offset it tells
-- otherwise.
use Rattle.std.specs.Prelude.{ℕ, zero, suc, ◌+◌, ◌*◌, ◌-◌, ◌/◌, ◌%◌, Bool, cond, List, [], ◌∷◌, ltb, eqb, ℤ}
use Rattle.layouts.specs.Limits as limit
use Rattle.layouts.specs.Layout.{Vertex, Layout, whole}
use Rattle.layout_packed.specs.Limits as written

-- ---- what was read, the offset after it, and what remains

pub data Got (A : Type 0) : Type 0 where
  fault : ℕ → Got A
  got : A → ℕ → List ℕ → Got A

abbrev pub and_then : {A B : Type 0} → Got A → (A → ℕ → List ℕ → Got B) → Got B
and_then (fault k) next = fault k
and_then (got a at rest) next = next a at rest

-- only where it ends
pub data Skipped : Type 0 where
  stuck : ℕ → Skipped
  over : ℕ → List ℕ → Skipped

abbrev pub passed : {A : Type 0} → Got A → Skipped
passed (fault k) = stuck k
passed (got a at rest) = over at rest

-- ---- numbers of at most `most`

-- The groups that follow in a number that starts at `start`: n is what the groups before them give, and `scale` is what a 1
-- of the next one counts. The last group is not 0, so a number that goes on is at least `scale`.
unfoldable pub more_from : ℕ → ℕ → ℕ → ℕ → ℕ → List ℕ → Got ℕ
more_from most start scale n at [] = fault start
more_from most start scale n at (b ∷ rest) =
    cond (ltb most scale) (fault start)
    (cond (ltb b 128)
    (cond (eqb b 0) (fault start)
    (cond (ltb most (n + b * scale)) (fault start)
    (got (n + b * scale) (at + 1) rest)))
    (cond (ltb b 256)
    (more_from most start (scale * 128) (n + (b - 128) * scale) (at + 1) rest)
    (fault start)))

unfoldable pub number_from : ℕ → ℕ → List ℕ → Got ℕ
number_from most at [] = fault at
number_from most at (b ∷ rest) =
    cond (ltb b 128)
    (cond (ltb most b) (fault at) (got b (at + 1) rest))
    (cond (ltb b 256) (more_from most at 128 (b - 128) (at + 1) rest) (fault at))

-- ---- vertices

-- the coordinate or bulge for which n is written
abbrev pub negative : ℕ → Bool
negative n = eqb (n % 2) 1

abbrev pub size : ℕ → ℕ
size n = n / 2 + n % 2

unfoldable pub meant : ℕ → ℤ
meant n = whole (negative n) (size n)

unfoldable pub vertex_from : ℕ → List ℕ → Got Vertex
vertex_from at bytes =
    and_then (number_from written.coordinate at bytes) λ x at1 r1.
    and_then (number_from written.coordinate at1 r1) λ y at2 r2.
    and_then (number_from written.bulge at2 r2) λ b at3 r3.
    got (record { x = meant x; y = meant y; bulge = meant b }) at3 r3

unfoldable pub vertices_from : ℕ → ℕ → List ℕ → Got (List Vertex)
vertices_from zero at bytes = got [] at bytes
vertices_from (suc k) at bytes =
    and_then (vertex_from at bytes) λ v at1 r1.
    and_then (vertices_from k at1 r1) λ vs at2 r2.
    got (v ∷ vs) at2 r2

-- ---- a packed file

-- the offset of its fault, or its layout
pub data Unpacked : Type 0 where
  broken_at : ℕ → Unpacked
  layout : Layout → Unpacked

-- nothing may follow a layout
abbrev pub at_end : Got Layout → Unpacked
at_end (fault k) = broken_at k
at_end (got l at []) = layout l
at_end (got l at (b ∷ rest)) = broken_at at

unfoldable pub layout_from : List ℕ → Got Layout
layout_from bytes =
    and_then (number_from limit.vertices 0 bytes) λ n at1 r1.
    and_then (number_from limit.vertices at1 r1) λ m at2 r2.
    and_then (vertices_from n at2 r2) λ first at3 r3.
    and_then (vertices_from m at3 r3) λ second at4 r4.
    got (record { first = first; second = second }) at4 r4

unfoldable pub reads_packed : List ℕ → Unpacked
reads_packed bytes = at_end (layout_from bytes)
