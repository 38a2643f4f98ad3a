-- The cut path, by request 11: a path whose large segments are cut into halves. Its segments have names: the index of the old
-- segment, and which half of it.
use Rattle.std.specs.Prelude.{Bool, cond, ◌&&◌, List, [], ◌∷◌, ◌++◌, map, ℕ, zero, suc, ◌+◌, ◌*◌, ltb, length, get_or, Float}
use Rattle.plane.specs.declared.pline_vertex.PlineVertex.{PlineVertex}
use Rattle.paths.specs.Path.{vertex_count, vertex}
use Rattle.paths.specs.Segments.{segment_count, segment_from}
use Rattle.cuts.specs.Cut.{is_large, bent, cut_vertex}

-- the lists of i, i + 1, .., k lists in all, one after the other
abbrev pub joined : {A : Type 0} → (ℕ → List A) → ℕ → ℕ → List A
joined part i zero = []
joined part i (suc k) = part i ++ joined part (i + 1) k

-- ---- the cut path
-- the four numbers of a vertex with its trace
abbrev pub numbers_of : PlineVertex → Float → List Float
numbers_of v trace = v.x ∷ v.y ∷ v.bulge ∷ trace ∷ []

-- vertex i of a path of n segments: if its segment is large, two vertices with the old trace; else it stays as it is. The last
-- vertex of an open path has no segment
unfoldable pub vertices_of : List Float → ℕ → ℕ → List Float
vertices_of path n i =
    let s = segment_from path i in
    cond (ltb i n && is_large s.v1.bulge)
    (numbers_of (bent s.v1) s.trace ++ numbers_of (cut_vertex s.v1 s.v2) s.trace)
    (numbers_of s.v1 s.trace)

unfoldable pub cut_path : List Float → Bool → List Float
cut_path path closed = joined (vertices_of path (segment_count path closed)) 0 (vertex_count path)

-- ---- its segments' names
-- half 0 is a segment that is not cut, 1 and 2 are the halves of one that is
pub record Name : Type 0 where
  pub index : ℕ
  pub half : ℕ

abbrev pub name : ℕ → ℕ → Name
name index half = record { index = index; half = half }

-- what segment i becomes
unfoldable pub names_of : List Float → ℕ → List Name
names_of path i = cond (is_large (vertex path i).bulge) (name i 1 ∷ name i 2 ∷ []) (name i 0 ∷ [])

unfoldable pub names : List Float → Bool → List Name
names path closed = joined (names_of path) 0 (segment_count path closed)

-- how many segments the cut path has: one for each segment, and two if it is large
abbrev pub cut_count : List Float → Bool → ℕ
cut_count path closed = length (names path closed)

-- the name of the cut path's segment k
abbrev pub name_at : List Float → Bool → ℕ → Name
name_at path closed k = get_or (names path closed) k (name 0 0)

-- ---- a name as one number
abbrev pub word_of : Name → ℕ
word_of n = n.index * 4 + n.half

abbrev pub name_words : List Float → Bool → List ℕ
name_words path closed = map word_of (names path closed)
