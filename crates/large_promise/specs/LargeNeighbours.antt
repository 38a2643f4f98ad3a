-- Neighbours in the mode of large arcs are those of the cut path, by request 4's rule over its n segments. The two halves of one
-- arc are neighbours: they share the cut point. The first half and the segment behind the arc share no vertex, though the arc and
-- that segment did; only if they are the first and the last of a closed path, as of a closed path of two whose first is cut, they
-- share its start. Places are those of the cut path.
use Rattle.std.specs.Prelude.{◌≡◌, refl, Bool, true, false, cond, ◌&&◌, ◌⊎◌, List, [], ◌∷◌, ◌++◌, ℕ, ◌+◌, ◌≤◌, ◌<◌, eqb, Float}
use Rattle.std.proofs.Common.{sym, ap, ◌∙◌, inl, inr, eq-or-lt_of_le, eq-eqb, ne_eqb, eqb-true}
use native.Mathlib.Omega.{arith}
use Rattle.paths.specs.Path.{vertex}
use Rattle.paths.specs.Segments.{segment_count, segment_from}
use Rattle.cuts.specs.Cut.{is_large, cut_vertex}
use Rattle.cuts.specs.CutPath.{name, cut_path, names_of, names, cut_count, name_at}
use Rattle.cuts.specs.Laws.Joined.{joined-more}
use Rattle.listing_pairs.specs.Neighbours.{shared_vertices}
use Rattle.large_promise.specs.Places.{place, is-part, first-stands, second-stands, two-parts, some-stands}

-- the vertices of the cut path that its segments a < b share
abbrev pub large_shared : List Float → Bool → ℕ → ℕ → List ℕ
large_shared path closed a b = shared_vertices (cut_count path closed) closed a b

abbrev start_only : List ℕ
start_only = 0 ∷ []

-- an arc that is cut, where it stands in the cut path
module _ (path : List Float) (closed : Bool) (i : ℕ) (below : i < segment_count path closed)
    (large : is_large (vertex path i).bulge ≡ true) where
  abbrev k : ℕ
  k = place path i

  -- its halves, one behind the other
  pub first-half : name_at path closed (place path i) ≡ name i 1
  first-half = (first-stands path closed i below large).named

  pub second-half : name_at path closed (place path i + 1) ≡ name i 2
  second-half = (second-stands path closed i below large).named

  -- they share the vertex between them, which is the cut point
  pub halves-share : (rest : List ℕ) × (large_shared path closed (place path i) (place path i + 1) ≡ (place path i + 1) ∷ rest)
  halves-share = (
    cond (closed && eqb k 0 && eqb (k + 1 + 1) (cut_count path closed)) (0 ∷ []) [],
    ap (λ (b : Bool). cond b ((k + 1) ∷ []) [] ++ cond (closed && eqb k 0 && eqb (k + 1 + 1) (cut_count path closed)) (0 ∷ []) [])
        (eq-eqb (k + 1) (k + 1) refl),
  )

  pub shared-is-cut : vertex (cut_path path closed) (place path i + 1)
      ≡ cut_vertex (segment_from path i).v1 (segment_from path i).v2
  unfolding segment_from
  shared-is-cut = (is-part path closed (k + 1) (name i 2) (second-stands path closed i below large)).starts

  -- what stands behind the arc is the next segment, or its first half
  pub behind : place path i + 2 < cut_count path closed → (name_at path closed (place path i + 2)).index ≡ i + 1
  unfolding names
  behind inside = go (eq-or-lt_of_le (next i (segment_count path closed) below))
    where
      next : (i n : ℕ) → i < n → i + 1 ≤ n
      next i n h = omega arith

      there : place path (i + 1) ≡ k + 2
      there = joined-more (names_of path) i ∙ ap (λ (m : ℕ). k + m) (two-parts path closed i below large)

      go : (i + 1 ≡ segment_count path closed) ⊎ (i + 1 < segment_count path closed)
          → (name_at path closed (k + 2)).index ≡ i + 1
      go (inl last) = absurd (omega (arith, inside, there, ap (place path) last))
      go (inr more) =
          ap (λ (m : ℕ). (name_at path closed m).index) (sym there) ∙ some-stands path closed (i + 1) more

  -- the first half shares nothing with it, unless the two are the first and the last of a closed path
  pub first-half-apart : ((closed ≡ true) × (place path i ≡ 0) × (place path i + 3 ≡ cut_count path closed) → ⊥)
      → large_shared path closed (place path i) (place path i + 2) ≡ []
  first-half-apart other =
      let far : eqb (k + 2) (k + 1) ≡ false = ne_eqb (k + 2) (k + 1) (λ e. omega (arith, e)) in
      ap (λ (b : Bool). cond b ((k + 2) ∷ []) []
      ++ cond (closed && eqb k 0 && eqb (k + 2 + 1) (cut_count path closed)) start_only []) far
      ∙ no-ends (k + 2 + 1) (cut_count path closed) k closed refl (λ e f g. other (e, f, omega (arith, g)))
    where
      no-ends : (j n i : ℕ) (c : Bool) → closed ≡ c → (closed ≡ true → i ≡ 0 → j ≡ n → ⊥)
          → [] ++ cond (c && eqb i 0 && eqb j n) start_only [] ≡ []
      no-ends j n i false e not = refl
      no-ends j n i true e not = go (eqb i 0) refl (eqb j n) refl
        where
          go : (a : Bool) → eqb i 0 ≡ a → (b : Bool) → eqb j n ≡ b → [] ++ cond (true && a && b) start_only [] ≡ []
          go false f b g = refl
          go true f false g = refl
          go true f true g = absurd (not e (eqb-true i 0 f) (eqb-true j n g))

  -- the segment behind the last arc of a closed path is the first; the first half shares nothing with it, unless it is the next
  pub last-half-apart : place path i + 2 ≡ cut_count path closed → 1 < place path i → large_shared path closed 0 (place path i) ≡ []
  last-half-apart end later =
      let n = cut_count path closed in
      let far : eqb k (0 + 1) ≡ false = ne_eqb k (0 + 1) (λ e. omega (arith, e, later)) in
      let inner : eqb (k + 1) n ≡ false = ne_eqb (k + 1) n (λ e. omega (arith, e, end)) in
      rw (far, inner) (go closed)
    where
      go : (c : Bool) → [] ++ cond (c && eqb 0 0 && false) start_only [] ≡ []
      go true = refl
      go false = refl
