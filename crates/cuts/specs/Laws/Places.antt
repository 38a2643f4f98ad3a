-- Where the vertices of a path stand in its cut path. What vertex i becomes stands from vertex `start i` on: there are as many
-- vertices before it as the segments before i have names.
use Rattle.std.specs.Prelude.{◌≡◌, Bool, cond, ◌&&◌, List, [], ◌∷◌, ◌++◌, ℕ, zero, suc, ◌+◌, ◌-◌, ◌*◌, ◌≤◌, ◌<◌, ltb, get_or, Float}
use Rattle.std.proofs.Math.Path.{refl}
use Rattle.std.proofs.Common.{sym, ap, ◌∙◌, append_assoc, add-zero, add-one, lt-ltb, le-ltb, length-append, get_or-append-add}
use Rattle.std.proofs.Math.Bool.{true, false}
use native.Mathlib.Omega.{arith}
use Rattle.std.proofs.Math.ListN.{length}
use Rattle.std.specs.Float.{nan}
use Rattle.plane.specs.declared.pline_vertex.PlineVertex.{PlineVertex}
use Rattle.plane.specs.PlineVertex as vertices
use Rattle.paths.specs.Path.{vertex_count, vertex, trace}
use Rattle.paths.specs.Segments.{segment_from, after}
use Rattle.cuts.specs.Cut.{is_large, bent, cut_vertex}
use Rattle.cuts.specs.CutPath.{joined, numbers_of, vertices_of, name, names_of}
use Rattle.cuts.specs.Laws.Joined.{joined-around, joined-more}

-- ---- reading a vertex
pub record Stands (l : List Float) (k : ℕ) (v : PlineVertex) (t : Float) : Type 0 where
  pub is : vertex l k ≡ v
  pub traced : trace l k ≡ t
  pub there : k < vertex_count l

stands : (l front rest : List Float) (k : ℕ) (v : PlineVertex) (t : Float) → l ≡ front ++ (numbers_of v t ++ rest)
    → length front ≡ k * 4
    → Stands l k v t
unfolding vertex trace vertices.new
stands l front rest k v t e f =
    record {
      is = rw (read 0 (k * 4) (omega arith), read 1 (k * 4 + 1) refl, read 2 (k * 4 + 2) refl) refl;
      traced = read 3 (k * 4 + 3) refl;
      there = omega (arith, ap length e, length-append front (numbers_of v t ++ rest), f, length-append (numbers_of v t) rest);
    }
  where
    read : (m i : ℕ) → i ≡ k * 4 + m → get_or l i nan ≡ get_or (numbers_of v t ++ rest) m nan
    read m i g =
        ap (λ (z : ℕ). get_or l z nan) (g ∙ ap (λ (z : ℕ). z + m) (sym f))
        ∙ ap (λ (z : List Float). get_or z (length front + m) nan) e
        ∙ get_or-append-add front (numbers_of v t ++ rest) m nan

-- ---- what a vertex becomes
module _ (path : List Float) (n i : ℕ) where
  abbrev v : PlineVertex
  v = vertex path i

  abbrev w : PlineVertex
  w = vertex path (after path i)

  abbrev t : Float
  t = trace path i

  pub whole_is : (ltb i n && is_large v.bulge) ≡ false → vertices_of path n i ≡ numbers_of v t
  unfolding vertices_of segment_from
  whole_is e = rw e refl

  pub halves_are : i < n → is_large v.bulge ≡ true
      → vertices_of path n i ≡ numbers_of (bent v) t ++ numbers_of (cut_vertex v w) t
  unfolding vertices_of segment_from
  halves_are h e = rw (lt-ltb i n h, e) refl

  -- its first vertex has the old position
  pub record Begins : Type 0 where
    pub u : PlineVertex
    pub rest : List Float
    pub is : vertices_of path n i ≡ numbers_of u t ++ rest
    pub x : u.x ≡ v.x
    pub y : u.y ≡ v.y

  pub begins : Begins
  unfolding vertices_of segment_from bent vertices.new
  begins = go (ltb i n && is_large v.bulge) refl
    where
      go : (b : Bool) → (ltb i n && is_large v.bulge) ≡ b → Begins
      go true e = record { u = bent v; rest = numbers_of (cut_vertex v w) t; is = rw e refl; x = refl; y = refl }
      go false e = record { u = v; rest = []; is = rw e refl; x = refl; y = refl }

  -- it has four numbers for each name
  pub four-a-name : i < n → length (vertices_of path n i) ≡ length (names_of path i) * 4
  unfolding vertices_of segment_from names_of
  four-a-name h = rw (lt-ltb i n h) (go (is_large v.bulge))
    where
      go : (b : Bool)
          → length (cond b (numbers_of (bent v) t ++ numbers_of (cut_vertex v w) t) (numbers_of v t))
          ≡ length (cond b (name i 1 ∷ name i 2 ∷ []) (name i 0 ∷ [])) * 4
      go true = refl
      go false = refl

  pub four-alone : n ≤ i → length (vertices_of path n i) ≡ 4
  unfolding vertices_of segment_from
  four-alone h = rw (le-ltb i n h) refl

  pub one-or-two : (1 ≤ length (names_of path i)) × (length (names_of path i) ≤ 2)
  unfolding names_of
  one-or-two = go (is_large v.bulge)
    where
      go : (b : Bool) → (1 ≤ length (cond b (name i 1 ∷ name i 2 ∷ []) (name i 0 ∷ [])))
          × (length (cond b (name i 1 ∷ name i 2 ∷ []) (name i 0 ∷ [])) ≤ 2)
      go true = (omega arith, omega arith)
      go false = (omega arith, omega arith)

-- ---- how much stands before it
module _ (path : List Float) (n : ℕ) where
  abbrev pub start : ℕ → ℕ
  start i = length (joined (names_of path) 0 i)

  abbrev pub numbers : ℕ → ℕ
  numbers i = length (joined (vertices_of path n) 0 i)

  pub before : (i : ℕ) → i ≤ n → numbers i ≡ start i * 4
  before zero h = refl
  before (suc i) h =
      let one : i + 1 ≡ suc i = add-one i in
      ap numbers (sym one)
      ∙ joined-more (vertices_of path n) i
      ∙ sums (numbers i) (start i) (length (vertices_of path n i)) (length (names_of path i)) (before i (omega (arith, h)))
      (four-a-name path n i (omega (arith, h)))
      ∙ ap (λ (z : ℕ). z * 4) (sym (joined-more (names_of path) i))
      ∙ ap (λ (z : ℕ). start z * 4) one
    where
      sums : (a b c d : ℕ) → a ≡ b * 4 → c ≡ d * 4 → a + c ≡ (b + d) * 4
      sums a b c d e f = omega arith

  -- behind the last segment each vertex stays one vertex
  pub behind : (j : ℕ) → numbers (n + j) ≡ (start n + j) * 4
  behind zero = ap numbers (add-zero n) ∙ before n (omega arith) ∙ ap (λ (z : ℕ). z * 4) (sym (add-zero (start n)))
  behind (suc j) =
      let one : n + suc j ≡ n + j + 1 = omega arith in
      ap numbers one
      ∙ joined-more (vertices_of path n) (n + j)
      ∙ sums (numbers (n + j)) (start n) (length (vertices_of path n (n + j))) (behind j) (four-alone path n (n + j) (omega arith))
    where
      sums : (a b c : ℕ) → a ≡ (b + j) * 4 → c ≡ 4 → a + c ≡ (b + suc j) * 4
      sums a b c e f = omega arith

  -- at most twice as many as before
  pub start-least : (i : ℕ) → i ≤ start i
  start-least zero = omega arith
  start-least (suc i) =
      let more = ap start (sym (add-one i)) ∙ joined-more (names_of path) i in
      omega (arith, start-least i, (one-or-two path n i).0, more)

  pub start-most : (i : ℕ) → start i ≤ i * 2
  start-most zero = omega arith
  start-most (suc i) =
      let more = ap start (sym (add-one i)) ∙ joined-more (names_of path) i in
      omega (arith, start-most i, (one-or-two path n i).1, more)

-- ---- the vertices in the cut path of a path of n segments and c vertices
module _ (path : List Float) (n c i : ℕ) (within : i ≤ n) (vertex-there : i < c) where
  abbrev l : List Float
  l = joined (vertices_of path n) 0 c

  abbrev front : List Float
  front = joined (vertices_of path n) 0 i

  abbrev rest : List Float
  rest = joined (vertices_of path n) (i + 1) (c - (i + 1))

  -- the first
  pub first-stands : (v : PlineVertex) (t : Float) (more : List Float) → vertices_of path n i ≡ numbers_of v t ++ more
      → Stands l (start path n i) v t
  first-stands v t more e =
      stands l front (more ++ rest) (start path n i) v t
      (joined-around (vertices_of path n) c i vertex-there
      ∙ ap (λ (z : List Float). front ++ (z ++ rest)) e
      ∙ ap (λ (z : List Float). front ++ z) (append_assoc (numbers_of v t) more rest))
      (before path n i within)

  -- and the second, if there are two
  pub second-stands : (u v : PlineVertex) (t : Float) → vertices_of path n i ≡ numbers_of u t ++ numbers_of v t
      → Stands l (start path n i + 1) v t
  second-stands u v t e =
      stands l (front ++ numbers_of u t) rest (start path n i + 1) v t
      (joined-around (vertices_of path n) c i vertex-there
      ∙ ap (λ (z : List Float). front ++ (z ++ rest)) e
      ∙ ap (λ (z : List Float). front ++ z) (append_assoc (numbers_of u t) (numbers_of v t) rest)
      ∙ sym (append_assoc front (numbers_of u t) (numbers_of v t ++ rest)))
      (omega (arith, length-append front (numbers_of u t), before path n i within))
