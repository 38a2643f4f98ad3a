-- Worked examples: the scope's layout in both directions, the least and the greatest numbers, and files that are refused,
-- with the offset that is told.
use Rattle.std.specs.Prelude.{ℕ, ◌≡◌, refl, List, [], ◌∷◌, map, replicate, ℤ, pos, negsuc}
use Rattle.std.proofs.Common.{arith}
use Rattle.layouts.specs.Layout.{Vertex, Layout}
use Rattle.layout_packed.specs.Groups.{groups_in, groups_of, zigzag}
use Rattle.layout_packed.specs.Packed.{joined, packed_of}
use Rattle.layout_packed.specs.Fault.{FaultAt}
use Rattle.layout_packed.specs.Workings.Reader.{broken_at, layout, more_from, number_from, meant, vertex_from, vertices_from}
use Rattle.layout_packed.specs.Workings.Reader.{layout_from, reads_packed}
use Rattle.layout_packed.specs.Offset.{fault-told, fault-nowhere-else}

-- ---- the scope's layout: "2 2", "0 0 0", "4 0 0", "2 -2 0", "2 2 0" as a text

abbrev straight : ℤ → ℤ → Vertex
straight x y = record { x = x; y = y; bulge = pos 0 }

abbrev scope : Layout
scope =
    record {
      first = straight (pos 0) (pos 0) ∷ straight (pos 4) (pos 0) ∷ [];
      second = straight (pos 2) (negsuc 1) ∷ straight (pos 2) (pos 2) ∷ [];
    }

abbrev scope_packed : List ℕ
scope_packed = 2 ∷ 2 ∷ 0 ∷ 0 ∷ 0 ∷ 8 ∷ 0 ∷ 0 ∷ 4 ∷ 3 ∷ 0 ∷ 4 ∷ 4 ∷ 0 ∷ []

pub is-packed : packed_of scope ≡ scope_packed
unfolding packed_of joined groups_of groups_in
is-packed = refl

pub is_read : reads_packed scope_packed ≡ layout scope
unfolding reads_packed layout_from vertices_from vertex_from meant number_from more_from
is_read = refl

-- ---- the least and the greatest

pub nothing_read : reads_packed (0 ∷ 0 ∷ []) ≡ layout (record { first = []; second = [] })
unfolding reads_packed layout_from vertices_from vertex_from meant number_from more_from
nothing_read = refl

-- the groups of 0, 1, -1, 127, 128, the largest count, and the greatest and least x and bulge: 1,048,576 has four bytes,
-- -1,048,576 three
abbrev numbers : List ℕ
numbers =
    0
    ∷ zigzag (pos 1)
    ∷ zigzag (negsuc 0)
    ∷ 127
    ∷ 128
    ∷ 256
    ∷ zigzag (pos 1_048_576)
    ∷ zigzag (negsuc 1_048_575)
    ∷ zigzag (pos 65_536)
    ∷ zigzag (negsuc 65_535)
    ∷ []

abbrev numbers_groups : List (List ℕ)
numbers_groups =
    (0 ∷ [])
    ∷ (2 ∷ [])
    ∷ (1 ∷ [])
    ∷ (127 ∷ [])
    ∷ (128 ∷ 1 ∷ [])
    ∷ (128 ∷ 2 ∷ [])
    ∷ (128 ∷ 128 ∷ 128 ∷ 1 ∷ [])
    ∷ (255 ∷ 255 ∷ 127 ∷ [])
    ∷ (128 ∷ 128 ∷ 8 ∷ [])
    ∷ (255 ∷ 255 ∷ 7 ∷ [])
    ∷ []

pub are-groups : map groups_of numbers ≡ numbers_groups
unfolding groups_of groups_in
are-groups = refl

-- ---- refused

abbrev refused_files : List (List ℕ)
refused_files =
    -- nothing: the first count is cut
    ([])
    -- the second count is missing, or cut
    ∷ (0 ∷ [])
    ∷ (3 ∷ 129 ∷ [])
    -- a padded 0, and a padded 2 as the second count
    ∷ (128 ∷ 0 ∷ 0 ∷ [])
    ∷ (0 ∷ 130 ∷ 0 ∷ [])
    -- a count of 257
    ∷ (129 ∷ 2 ∷ 0 ∷ [])
    ∷ (1 ∷ 129 ∷ 2 ∷ [])
    -- a byte left over, whatever it is
    ∷ (0 ∷ 0 ∷ 0 ∷ [])
    ∷ (0 ∷ 0 ∷ 128 ∷ [])
    -- one vertex: it is missing, its y is missing, its bulge is cut, its y is padded
    ∷ (1 ∷ 0 ∷ [])
    ∷ (1 ∷ 0 ∷ 5 ∷ [])
    ∷ (1 ∷ 0 ∷ 5 ∷ 5 ∷ 128 ∷ 128 ∷ [])
    ∷ (1 ∷ 0 ∷ 5 ∷ 133 ∷ 0 ∷ 5 ∷ [])
    -- x is 1,048,577, x is -1,048,577, the bulge is 65,537, the bulge is -65,537
    ∷ (1 ∷ 0 ∷ 130 ∷ 128 ∷ 128 ∷ 1 ∷ 0 ∷ 0 ∷ [])
    ∷ (1 ∷ 0 ∷ 129 ∷ 128 ∷ 128 ∷ 1 ∷ 0 ∷ 0 ∷ [])
    ∷ (1 ∷ 0 ∷ 0 ∷ 0 ∷ 130 ∷ 128 ∷ 8 ∷ [])
    ∷ (0 ∷ 1 ∷ 0 ∷ 0 ∷ 129 ∷ 128 ∷ 8 ∷ [])
    -- one vertex too many, one too few
    ∷ (1 ∷ 0 ∷ 0 ∷ 0 ∷ 0 ∷ 0 ∷ 0 ∷ 0 ∷ [])
    ∷ (1 ∷ 1 ∷ 0 ∷ 0 ∷ 0 ∷ [])
    -- runs of bytes with the top bit set
    ∷ replicate 100 128
    ∷ (1 ∷ 0 ∷ replicate 100 255)
    ∷ []

abbrev offsets : List ℕ
offsets = 0 ∷ 1 ∷ 1 ∷ 0 ∷ 1 ∷ 0 ∷ 1 ∷ 2 ∷ 2 ∷ 2 ∷ 3 ∷ 4 ∷ 3 ∷ 2 ∷ 2 ∷ 4 ∷ 4 ∷ 5 ∷ 5 ∷ 0 ∷ 2 ∷ []

pub are-refused : map reads_packed refused_files ≡ map broken_at offsets
unfolding reads_packed layout_from vertices_from vertex_from meant number_from more_from
are-refused = refl

-- the padded y of one of them starts at 3 and ends at 4: the fault is at 3, and not at 4
abbrev padded_y : List ℕ
padded_y = 1 ∷ 0 ∷ 5 ∷ 133 ∷ 0 ∷ 5 ∷ []

pub at-first-byte : FaultAt padded_y 3
unfolding reads_packed layout_from vertices_from vertex_from meant number_from more_from
at-first-byte = (fault-told padded_y 3).0 refl

pub not-at-last-byte : FaultAt padded_y 4 → ⊥
not-at-last-byte = fault-nowhere-else padded_y 3 4 at-first-byte (λ e. omega (arith, e))
