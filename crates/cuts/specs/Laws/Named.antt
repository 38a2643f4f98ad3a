-- The cut path's segment k is the part of an old segment that its name says. The argument: place k of the names belongs to one
-- old segment; what that segment's first vertex became stands there in the cut path (Laws/Places); and behind its last part
-- stands what the next vertex became, or the end of the path, from which a closed path runs back to its first vertex.
use Rattle.std.specs.Prelude.{◌≡◌, ◌⊎◌, Bool, true, cond, ◌&&◌, ℕ, zero, suc, ◌+◌, ◌-◌, ◌*◌, ◌/◌, ◌≤◌, ◌<◌, ltb, get_or, Float}
use Rattle.std.proofs.Math.Path.{refl, ap}
use Rattle.std.proofs.Common.{sym, ◌∙◌, subst, inl, inr, true≢false, add-zero, eq-or-lt_of_le}
use Rattle.std.proofs.Math.Bool.{false}
use mathlib.Core.List.{List, [], ◌∷◌}
use native.Mathlib.Omega.{arith}
use borrow.Author.Tests.{lt-ltb, le-ltb}
use Rattle.std.proofs.Math.ListN.{length}
use Rattle.plane.specs.declared.pline_vertex.PlineVertex.{PlineVertex}
use Rattle.paths.specs.declared.path.Segment.{Segment}
use Rattle.paths.specs.Path.{vertex_count, vertex, trace}
use Rattle.paths.specs.Segments.{segment_count, segment_from, after}
use Rattle.paths.specs.Laws.Segments.{count-within}
use Rattle.cuts.specs.Cut.{is_large, cut_vertex}
use Rattle.cuts.specs.CutPath.{Name, name, joined, vertices_of, cut_path, names_of, names, cut_count, name_at}
use Rattle.cuts.specs.Parts.{IsPart, IsName}
use Rattle.cuts.specs.Laws.Joined.{joined_at, joined-more, find}
use Rattle.cuts.specs.Laws.Places.{
  Stands,
  whole_is,
  halves_are,
  begins,
  start,
  numbers,
  before,
  behind,
  start-least,
  start-most,
  first-stands,
  second-stands,
}

-- ---- counts
pub count-least : (path : List Float) (closed : Bool) → segment_count path closed ≤ cut_count path closed
unfolding names
count-least path closed = start-least path 0 (segment_count path closed)

pub count_most : (path : List Float) (closed : Bool) → cut_count path closed ≤ segment_count path closed * 2
unfolding names
count_most path closed = start-most path 0 (segment_count path closed)

pub vertices : (path : List Float) (closed : Bool)
    → vertex_count (cut_path path closed) + segment_count path closed ≡ cut_count path closed + vertex_count path
unfolding names cut_path
vertices path closed =
    let n = segment_count path closed in
    let c = vertex_count path in
    sums n c (start path n n) (numbers path n c) (count-within path closed)
    (ap (numbers path n) (there n c (count-within path closed)) ∙ behind path n (c - n))
  where
    there : (n c : ℕ) → n ≤ c → c ≡ n + (c - n)
    there n c h = omega arith

    sums : (n c s l : ℕ) → n ≤ c → l ≡ (s + (c - n)) * 4 → l / 4 + n ≡ s + c
    sums n c s l h e = omega arith

-- ---- where a part ends
module _ (path : List Float) (n : ℕ) (within : n ≤ vertex_count path) where
  abbrev c : ℕ
  c = vertex_count path

  abbrev l : List Float
  l = joined (vertices_of path n) 0 c

  pub record Ends (k i : ℕ) : Type 0 where
    pub x : (vertex l (after l k)).x ≡ (vertex path (after path i)).x
    pub y : (vertex l (after l k)).y ≡ (vertex path (after path i)).y

  -- at the vertex after i, which stands at k' in the cut path
  ends_at : (k i k' i' : ℕ) → after l k ≡ k' → after path i ≡ i' → start path n i' ≡ k' → i' ≤ n → i' < c → Ends k i
  ends_at k i k' i' a b e h v =
      let g = begins path n i' in
      let s = first-stands path n c i' h v g.u (trace path i') g.rest g.is in
      record {
        x = at (λ (u : PlineVertex). u.x) s.is ∙ g.x ∙ ap (λ (z : ℕ). (vertex path z).x) (sym b);
        y = at (λ (u : PlineVertex). u.y) s.is ∙ g.y ∙ ap (λ (z : ℕ). (vertex path z).y) (sym b);
      }
    where
      at : (f : PlineVertex → Float) {u : PlineVertex} → vertex l (start path n i') ≡ u → f (vertex l (after l k)) ≡ f u
      at f is = ap (λ (z : ℕ). f (vertex l z)) (a ∙ sym e) ∙ ap f is

  -- behind the last part of segment i
  pub ends : (k i : ℕ) → i < n → k + 1 ≡ start path n (i + 1) → Ends k i
  unfolding after
  ends k i h e = go (eq-or-lt_of_le (omega (arith, h, within)))
    where
      last : i + 1 ≡ c → numbers path n c ≡ start path n (i + 1) * 4
      last f = ap (numbers path n) (sym f) ∙ before path n (i + 1) (omega (arith, h))

      none : i + 1 ≡ c → vertex_count l ≤ k + 1
      none f = omega (arith, last f, e)

      go : (i + 1 ≡ c) ⊎ (i + 1 < c) → Ends k i
      go (inl f) =
          ends_at k i 0 0 (ap (λ (b : Bool). cond b (k + 1) 0) (le-ltb (k + 1) (vertex_count l) (none f)))
          (ap (λ (b : Bool). cond b (i + 1) 0) (le-ltb (i + 1) c (omega (arith, f)))) refl (omega arith)
          (omega (arith, h, within))
      go (inr f) =
          let g = begins path n (i + 1) in
          let s = first-stands path n c (i + 1) (omega (arith, h)) f g.u (trace path (i + 1)) g.rest g.is in
          ends_at k i (k + 1) (i + 1)
          (ap (λ (b : Bool). cond b (k + 1) 0) (lt-ltb (k + 1) (vertex_count l) (omega (arith, e, s.there))))
          (ap (λ (b : Bool). cond b (i + 1) 0) (lt-ltb (i + 1) c f)) (sym e) (omega (arith, h)) f

-- ---- the parts
-- the cut path's segment k of this name is the part that the name says
record At (path : List Float) (n k : ℕ) (given : Name) : Type 0 where
  pub part : IsPart (segment_from path given.index) given.half
      (segment_from (joined (vertices_of path n) 0 (vertex_count path)) k)
  pub below : given.index < n
  pub whole : is_large (vertex path given.index).bulge ≡ false → given.half ≡ 0
  pub cut : is_large (vertex path given.index).bulge ≡ true → (1 ≤ given.half) × (given.half ≤ 2)

module _ (path : List Float) (n i : ℕ) (within : n ≤ vertex_count path) (h : i < n) where
  abbrev old : Segment
  old = segment_from path i

  abbrev all : List Float
  all = joined (vertices_of path n) 0 (vertex_count path)

  abbrev here : ℕ
  here = start path n i

  there : i < vertex_count path
  there = omega (arith, h, within)

  next : start path n (i + 1) ≡ here + length (names_of path i)
  next = joined-more (names_of path) i

  one_name : is_large (vertex path i).bulge ≡ false → names_of path i ≡ name i 0 ∷ []
  unfolding names_of
  one_name e = rw e refl

  two-names : is_large (vertex path i).bulge ≡ true → names_of path i ≡ name i 1 ∷ name i 2 ∷ []
  unfolding names_of
  two-names e = rw e refl

  whole_part : is_large (vertex path i).bulge ≡ false → IsPart old 0 (segment_from all here)
  unfolding segment_from
  whole_part e =
      let not-cut : (ltb i n && is_large (vertex path i).bulge) ≡ false = rw (lt-ltb i n h, e) refl in
      let s = first-stands path n (vertex_count path) i (le h) there _ _ [] (whole_is path n i not-cut) in
      let w = ends path n within here i h (one (length (names_of path i)) (ap length (one_name e)) next) in
      record { starts = s.is; ends-x = w.x; ends-y = w.y; traced = s.traced }
    where
      le : i < n → i ≤ n
      le h = omega arith

      one : {z : ℕ} (m : ℕ) → m ≡ 1 → z ≡ here + m → here + 1 ≡ z
      one m e f = omega arith

  module _ (e : is_large (vertex path i).bulge ≡ true) where
    cut-there : Stands all (here + 1) (cut_vertex (vertex path i) (vertex path (after path i))) (trace path i)
    cut-there =
        second-stands path n (vertex_count path) i (omega (arith, h)) there _ _ _ (halves_are path n i h e)

    first_part : IsPart old 1 (segment_from all here)
    unfolding segment_from after
    first_part =
        let s = first-stands path n (vertex_count path) i (omega (arith, h)) there _ _ _ (halves_are path n i h e) in
        let inside = lt-ltb (here + 1) (vertex_count all) cut-there.there in
        let to = ap (λ (b : Bool). vertex all (cond b (here + 1) 0)) inside ∙ cut-there.is in
        record {
          starts = s.is;
          ends-x = ap (λ (u : PlineVertex). u.x) to;
          ends-y = ap (λ (u : PlineVertex). u.y) to;
          traced = s.traced;
        }

    second-part : IsPart old 2 (segment_from all (here + 1))
    unfolding segment_from
    second-part =
        let w = ends path n within (here + 1) i h (two (length (names_of path i)) (ap length (two-names e)) next) in
        record { starts = cut-there.is; ends-x = w.x; ends-y = w.y; traced = cut-there.traced }
      where
        two : {z : ℕ} (m : ℕ) → m ≡ 2 → z ≡ here + m → here + 1 + 1 ≡ z
        two m e f = omega arith

  at-whole : is_large (vertex path i).bulge ≡ false → At path n here (name i 0)
  at-whole e =
      record { part = whole_part e; below = h; whole = λ f. refl; cut = λ f. absurd (true≢false (sym f ∙ e)) }

  at_first : is_large (vertex path i).bulge ≡ true → At path n here (name i 1)
  at_first e =
      record {
        part = first_part e;
        below = h;
        whole = λ f. absurd (true≢false (sym e ∙ f));
        cut = λ f. (omega arith, omega arith);
      }

  at_second : is_large (vertex path i).bulge ≡ true → At path n (here + 1) (name i 2)
  at_second e =
      record {
        part = second-part e;
        below = h;
        whole = λ f. absurd (true≢false (sym e ∙ f));
        cut = λ f. (omega arith, omega arith);
      }

  -- the name that stands at place m of segment i's names
  at_place : (m : ℕ) → m < length (names_of path i) → At path n (here + m) (get_or (names_of path i) m (name 0 0))
  at_place m inside = go (is_large (vertex path i).bulge) refl m inside
    where
      past : {m k : ℕ} → k ≡ 1 → suc m < k → ⊥
      past e l = omega arith

      past_two : {m k : ℕ} → k ≡ 2 → suc (suc m) < k → ⊥
      past_two e l = omega arith

      go : (b : Bool) → is_large (vertex path i).bulge ≡ b → (m : ℕ) → m < length (names_of path i)
          → At path n (here + m) (get_or (names_of path i) m (name 0 0))
      go true e zero l = rw (two-names e, add-zero here) (at_first e)
      go true e (suc zero) l = rw (two-names e) (at_second e)
      go true e (suc (suc m)) l = absurd (past_two (ap length (two-names e)) l)
      go false e zero l = rw (one_name e, add-zero here) (at-whole e)
      go false e (suc m) l = absurd (past (ap length (one_name e)) l)

-- ---- the name of segment k
pub record Located (path : List Float) (closed : Bool) (k : ℕ) : Type 0 where
  pub part : IsPart (segment_from path (name_at path closed k).index) (name_at path closed k).half
      (segment_from (cut_path path closed) k)
  pub name : IsName path closed (name_at path closed k)

pub located : (path : List Float) (closed : Bool) (k : ℕ) → k < cut_count path closed → Located path closed k
unfolding names cut_path
located path closed k h =
    let n = segment_count path closed in
    let f = find (names_of path) n k h in
    let given = get_or (joined (names_of path) 0 n) k (name 0 0) in
    let is : given ≡ get_or (names_of path f.j) f.m (name 0 0) =
    ap (λ (z : ℕ). get_or (joined (names_of path) 0 n) z (name 0 0)) f.at
    ∙ joined_at (names_of path) n f.j f.m (name 0 0) f.below f.inside in
    let a = at_place path n f.j (count-within path closed) f.below f.m f.inside in
    let there : At path n k given =
    subst (λ (z : ℕ). At path n z given) (sym f.at) (subst (At path n (start path n f.j + f.m)) (sym is) a) in
    record { part = there.part; name = record { below = there.below; whole = there.whole; cut = there.cut } }
