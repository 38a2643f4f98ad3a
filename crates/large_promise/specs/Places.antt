-- Where a segment of a path stands in its cut path: as many parts stand before its first part as the segments before it have. A
-- segment that is not cut stands there whole, and the two halves of one that is cut stand there and behind it.
use Rattle.std.specs.Prelude.{◌≡◌, Bool, true, false, cond, ℕ, zero, suc, ◌+◌, ◌-◌, ◌<◌, Float}
use Rattle.std.proofs.Math.Path.{refl, ap}
use Rattle.std.proofs.Common.{sym, ◌∙◌, subst, add-zero, arith}
use mathlib.Core.List.{List, [], ◌∷◌}
use Rattle.std.proofs.Math.ListN.{length, get_or}
use Rattle.paths.specs.Path.{vertex}
use Rattle.paths.specs.Segments.{segment_count, segment_from}
use Rattle.cuts.specs.Cut.{is_large}
use Rattle.cuts.specs.CutPath.{Name, name, joined, cut_path, names_of, names, cut_count, name_at}
use Rattle.cuts.specs.Parts.{IsPart}
use Rattle.cuts.specs.Segments.{segments}
use Rattle.cuts.specs.Laws.Joined.{joined_at, joined-within, find}

abbrev pub place : List Float → ℕ → ℕ
place path i = length (joined (names_of path) 0 i)

-- part k of the cut path has this name
pub record Stands (path : List Float) (closed : Bool) (k : ℕ) (n : Name) : Type 0 where
  pub inside : k < cut_count path closed
  pub named : name_at path closed k ≡ n

-- so it is that part
pub is-part : (path : List Float) (closed : Bool) (k : ℕ) (n : Name) → Stands path closed k n
    → IsPart (segment_from path n.index) n.half (segment_from (cut_path path closed) k)
is-part path closed k n s =
    subst (λ (m : Name). IsPart (segment_from path m.index) m.half (segment_from (cut_path path closed) k)) s.named
    (segments path closed k s.inside)

module _ (path : List Float) (closed : Bool) (i : ℕ) (below : i < segment_count path closed) where
  at : (ns : List Name) → names_of path i ≡ ns → (m : ℕ) → m < length ns
      → Stands path closed (place path i + m) (get_or ns m (name 0 0))
  unfolding names
  at ns is m inside =
      let n = segment_count path closed in
      record {
        inside = omega (arith, joined-within (names_of path) n i below, ap length is, inside);
        named =
            joined_at (names_of path) n i m (name 0 0) below (omega (arith, ap length is, inside))
            ∙ ap (λ (l : List Name). get_or l m (name 0 0)) is;
      }

  one_name : is_large (vertex path i).bulge ≡ false → names_of path i ≡ name i 0 ∷ []
  unfolding names_of
  one_name e = rw e refl

  two-names : is_large (vertex path i).bulge ≡ true → names_of path i ≡ name i 1 ∷ name i 2 ∷ []
  unfolding names_of
  two-names e = rw e refl

  pub whole-stands : is_large (vertex path i).bulge ≡ false → Stands path closed (place path i) (name i 0)
  whole-stands e =
      subst (λ (k : ℕ). Stands path closed k (name i 0)) (add-zero (place path i))
      (at (name i 0 ∷ []) (one_name e) 0 (omega arith))

  -- it has one part
  pub one-part : is_large (vertex path i).bulge ≡ false → length (names_of path i) ≡ 1
  one-part e = ap length (one_name e)

  module _ (large : is_large (vertex path i).bulge ≡ true) where
    pub first-stands : Stands path closed (place path i) (name i 1)
    first-stands =
        subst (λ (k : ℕ). Stands path closed k (name i 1)) (add-zero (place path i))
        (at (name i 1 ∷ name i 2 ∷ []) (two-names large) 0 (omega arith))

    pub second-stands : Stands path closed (place path i + 1) (name i 2)
    second-stands = at (name i 1 ∷ name i 2 ∷ []) (two-names large) 1 (omega arith)

    -- it has two parts
    pub two-parts : length (names_of path i) ≡ 2
    two-parts = ap length (two-names large)

-- the first part of a segment has its index
pub some-stands : (path : List Float) (closed : Bool) (i : ℕ) → i < segment_count path closed
    → (name_at path closed (place path i)).index ≡ i
some-stands path closed i below = go (is_large (vertex path i).bulge) refl
  where
    go : (b : Bool) → is_large (vertex path i).bulge ≡ b → (name_at path closed (place path i)).index ≡ i
    go true e = ap (λ (n : Name). n.index) (first-stands path closed i below e).named
    go false e = ap (λ (n : Name). n.index) (whole-stands path closed i below e).named

-- ---- a name stands in one place only
-- name m of segment j has the index j, and tells m
own_name : (path : List Float) (j m : ℕ) → m < length (names_of path j)
    → ((get_or (names_of path j) m (name 0 0)).index ≡ j) × ((get_or (names_of path j) m (name 0 0)).half - 1 ≡ m)
unfolding names_of
own_name path j m inside = go (is_large (vertex path j).bulge) m inside
  where
    go : (b : Bool) (m : ℕ) → m < length (cond b (name j 1 ∷ name j 2 ∷ []) (name j 0 ∷ []))
        → ((get_or (cond b (name j 1 ∷ name j 2 ∷ []) (name j 0 ∷ [])) m (name 0 0)).index ≡ j)
        × ((get_or (cond b (name j 1 ∷ name j 2 ∷ []) (name j 0 ∷ [])) m (name 0 0)).half - 1 ≡ m)
    go true zero h = (refl, refl)
    go true (suc zero) h = (refl, refl)
    go true (suc (suc m)) h = absurd (omega (arith, h))
    go false zero h = (refl, refl)
    go false (suc m) h = absurd (omega (arith, h))

pub stands-once : (path : List Float) (closed : Bool) (k : ℕ) (n : Name) → Stands path closed k n
    → k ≡ place path n.index + (n.half - 1)
unfolding names
stands-once path closed k n s =
    let f = find (names_of path) (segment_count path closed) k s.inside in
    let is : get_or (names_of path f.j) f.m (name 0 0) ≡ n =
    sym (joined_at (names_of path) (segment_count path closed) f.j f.m (name 0 0) f.below f.inside)
    ∙ ap (λ (z : ℕ). get_or (joined (names_of path) 0 (segment_count path closed)) z (name 0 0)) (sym f.at)
    ∙ s.named in
    let own = own_name path f.j f.m f.inside in
    f.at
    ∙ ap (λ (z : ℕ). place path f.j + z) (sym own.1)
    ∙ ap (λ (j : ℕ). place path j + ((get_or (names_of path f.j) f.m (name 0 0)).half - 1)) (sym own.0)
    ∙ ap (λ (a : Name). place path a.index + (a.half - 1)) is

-- so two segments of the cut path have two names
pub names-once : (path : List Float) (closed : Bool) (k m : ℕ) → k < cut_count path closed → m < cut_count path closed
    → name_at path closed k ≡ name_at path closed m → k ≡ m
names-once path closed k m hk hm e =
    stands-once path closed k (name_at path closed m) (record { inside = hk; named = e })
    ∙ sym (stands-once path closed m (name_at path closed m) (record { inside = hm; named = refl }))
