-- A path without large segments is its own cut path: each vertex becomes itself, and its four numbers are four numbers of the
-- path.
use Rattle.std.specs.Prelude.{◌≡◌, Bool, true, false, ◌&&◌, List, [], ◌∷◌, ◌++◌, ℕ, zero, suc, ◌+◌, ◌*◌, ◌≤◌, ◌<◌, ltb, length, get_or, drop, Float}
use Rattle.std.proofs.Math.Path.{refl, ap}
use Rattle.std.proofs.Common.{sym, ◌∙◌, zero-add, add-zero, arith, ltb-true, drop-cons}
use Rattle.std.proofs.Math.Seq.{drop-length}
use Rattle.std.specs.Float.{nan}
use Rattle.plane.specs.PlineVertex as vertices
use Rattle.paths.specs.Path.{vertex_count, vertex, trace}
use Rattle.paths.specs.Segments.{segment_count}
use Rattle.cuts.specs.Cut.{is_large}
use Rattle.cuts.specs.CutPath.{Name, name, joined, numbers_of, vertices_of, cut_path, names_of, names, cut_count, name_at}
use Rattle.cuts.specs.Laws.Joined.{joined_at, joined-more}
use Rattle.cuts.specs.Laws.Places.{whole_is}

-- ---- the path's numbers, four by four
-- the numbers of vertex i, and what is left behind them
four-numbers : (path : List Float) (i : ℕ) → (i + 1) * 4 ≤ length path
    → drop (i * 4) path ≡ numbers_of (vertex path i) (trace path i) ++ drop ((i + 1) * 4) path
unfolding vertex trace vertices.new
four-numbers path i h =
    step (i * 4) (i * 4) (omega arith) refl
    ∙ ap (λ (l : List Float). get_or path (i * 4) nan ∷ l)
    (step (suc (i * 4)) (i * 4 + 1) (omega (arith, h)) (omega arith)
    ∙ ap (λ (l : List Float). get_or path (i * 4 + 1) nan ∷ l)
    (step (suc (i * 4 + 1)) (i * 4 + 2) (omega (arith, h)) (omega arith)
    ∙ ap (λ (l : List Float). get_or path (i * 4 + 2) nan ∷ l)
    (step (suc (i * 4 + 2)) (i * 4 + 3) (omega (arith, h)) (omega arith)
    ∙ ap (λ (k : ℕ). get_or path (i * 4 + 3) nan ∷ drop k path) (last i))))
  where
    last : (i : ℕ) → suc (i * 4 + 3) ≡ (i + 1) * 4
    last i = omega arith

    step : (m k : ℕ) → k < length path → m ≡ k → drop m path ≡ get_or path k nan ∷ drop (suc k) path
    step m k l e = ap (λ (z : ℕ). drop z path) e ∙ drop-cons path k nan l

module _ (path : List Float) (n : ℕ) (none : (i : ℕ) → i < n → is_large (vertex path i).bulge ≡ false) where
  not-cut : (i : ℕ) → (ltb i n && is_large (vertex path i).bulge) ≡ false
  not-cut i = go (ltb i n) (ltb-true i n)
    where
      go : (b : Bool) → (b ≡ true → i < n) → (b && is_large (vertex path i).bulge) ≡ false
      go true below = none i (below refl)
      go false below = refl

  -- k vertices from vertex i on, up to the end
  numbers-left : (k i : ℕ) → length path ≡ (i + k) * 4 → joined (vertices_of path n) i k ≡ drop (i * 4) path
  numbers-left zero i e =
      sym (drop-length path) ∙ ap (λ (z : ℕ). drop z path) (e ∙ ap (λ (z : ℕ). z * 4) (add-zero i))
  numbers-left (suc k) i e =
      ap (λ (l : List Float). l ++ joined (vertices_of path n) (i + 1) k) (whole_is path n i (not-cut i))
      ∙ ap (λ (l : List Float). numbers_of (vertex path i) (trace path i) ++ l) (numbers-left k (i + 1) (omega (arith, e)))
      ∙ sym (four-numbers path i (omega (arith, e)))

  one_name : (i : ℕ) → i < n → names_of path i ≡ name i 0 ∷ []
  unfolding names_of
  one_name i h = rw (none i h) refl

  as_many : (k : ℕ) → k ≤ n → length (joined (names_of path) 0 k) ≡ k
  as_many zero h = refl
  as_many (suc k) h =
      let one : suc k ≡ k + 1 = omega arith in
      let here = as_many k (omega (arith, h)) in
      let single = ap length (one_name k (omega (arith, h))) in
      ap (λ (z : ℕ). length (joined (names_of path) 0 z)) one
      ∙ joined-more (names_of path) k
      ∙ sums _ _ k here single
    where
      sums : (a b k : ℕ) → a ≡ k → b ≡ 1 → a + b ≡ suc k
      sums a b k e f = omega arith

  name-is : (k : ℕ) → k < n → get_or (joined (names_of path) 0 n) k (name 0 0) ≡ name k 0
  name-is k h =
      let single = one_name k h in
      ap (λ (z : ℕ). get_or (joined (names_of path) 0 n) z (name 0 0)) (place k _ (as_many k (omega (arith, h))))
      ∙ joined_at (names_of path) n k 0 (name 0 0) h (some _ (ap length single))
      ∙ ap (λ (l : List Name). get_or l 0 (name 0 0)) single
    where
      place : (k m : ℕ) → m ≡ k → k ≡ m + 0
      place k m e = omega arith

      some : (m : ℕ) → m ≡ 1 → 0 < m
      some m e = omega arith

-- ---- as a path
module _ (path : List Float) (closed : Bool)
    (none : (i : ℕ) → i < segment_count path closed → is_large (vertex path i).bulge ≡ false) where
  pub same-path : length path ≡ vertex_count path * 4 → cut_path path closed ≡ path
  unfolding cut_path
  same-path e =
      numbers-left path (segment_count path closed) none (vertex_count path) 0
      (e ∙ ap (λ (z : ℕ). z * 4) (sym (zero-add (vertex_count path))))

  pub same_count : cut_count path closed ≡ segment_count path closed
  unfolding names
  same_count = as_many path (segment_count path closed) none (segment_count path closed) (omega arith)

  pub same_names : (k : ℕ) → k < segment_count path closed → name_at path closed k ≡ name k 0
  unfolding names
  same_names k h = name-is path (segment_count path closed) none k h
