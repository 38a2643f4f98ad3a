-- The words of a cut path's names give its names: a word's index and half are the name's.
use Rattle.std.specs.Prelude.{◌≡◌, refl, Bool, true, false, cond, List, [], ◌∷◌, ◌++◌, map, ℕ, zero, suc, ◌+◌, ◌*◌, ◌/◌, ◌%◌, ◌<◌, Float, get_or}
use Rattle.std.proofs.Common.{sym, ap, ◌∙◌, arith}
use Rattle.std.proofs.Math.Path.{fun_ext}
use Rattle.std.proofs.Math.ListN.{get_or-map}
use Rattle.paths.specs.Path.{vertex}
use Rattle.paths.specs.Segments.{segment_count}
use Rattle.cuts.specs.Cut.{is_large}
use Rattle.cuts.specs.CutPath.{Name, name, joined, names_of, names, name_at, word_of, name_words}
use Rattle.listing_pairs.specs.declared.row.Row.{Row}
use Rattle.large_outcomes.specs.LargeRow.{large_indices_of}
use Rattle.large_outcomes.specs.Workings.Spread.{halves, names_and_class, five_of}

-- ---- every half is below 4
abbrev Small : List Name → Type 0
Small l = (k : ℕ) → (get_or l k (name 0 0)).half < halves

small-append : (l m : List Name) → Small l → Small m → Small (l ++ m)
small-append [] m p q k = q k
small-append (x ∷ l) m p q zero = p 0
small-append (x ∷ l) m p q (suc k) = small-append l m (λ i. p (suc i)) q k

small_of : (path : List Float) (i : ℕ) → Small (names_of path i)
unfolding names_of
small_of path i = go (is_large (vertex path i).bulge)
  where
    go : (b : Bool) → Small (cond b (name i 1 ∷ name i 2 ∷ []) (name i 0 ∷ []))
    go true zero = omega arith
    go true (suc zero) = omega arith
    go true (suc (suc k)) = omega arith
    go false zero = omega arith
    go false (suc k) = omega arith

small-joined : (path : List Float) (i k : ℕ) → Small (joined (names_of path) i k)
small-joined path i zero = λ n. omega arith
small-joined path i (suc k) =
    small-append (names_of path i) (joined (names_of path) (i + 1) k) (small_of path i) (small-joined path (i + 1) k)

pub small-half : (path : List Float) (closed : Bool) (k : ℕ) → (name_at path closed k).half < halves
unfolding names
small-half path closed k = small-joined path 0 (segment_count path closed) k

-- ---- a word gives its name
word_at : (path : List Float) (closed : Bool) (k : ℕ) → get_or (name_words path closed) k 0 ≡ word_of (name_at path closed k)
word_at path closed k = get_or-map word_of (names path closed) k (name 0 0)

word-index : (n : Name) → n.half < halves → word_of n / halves ≡ n.index
word-index n h = omega (arith, h)

word-half : (n : Name) → n.half < halves → word_of n % halves ≡ n.half
word-half n h = omega (arith, h)

-- the five numbers by words are those by names
pub five-named : (first : List Float) (first_closed : Bool) (second : List Float) (second_closed : Bool)
    → five_of (name_words first first_closed) (name_words second second_closed)
    ≡ large_indices_of (name_at first first_closed) (name_at second second_closed)
five-named first first_closed second second_closed = fun_ext each
  where
    each : (r : Row) → five_of (name_words first first_closed) (name_words second second_closed) r
        ≡ large_indices_of (name_at first first_closed) (name_at second second_closed) r
    each r =
        let a = name_at first first_closed r.i in
        let b = name_at second second_closed r.j in
        let small-a = small-half first first_closed r.i in
        let small_b = small-half second second_closed r.j in
        ap (λ (x : ℕ). names_and_class x (get_or (name_words second second_closed) r.j 0) r.class)
        (word_at first first_closed r.i)
        ∙ ap (λ (y : ℕ). names_and_class (word_of a) y r.class) (word_at second second_closed r.j)
        ∙ ap (λ (x : ℕ). x ∷ word_of a % halves ∷ word_of b / halves ∷ word_of b % halves ∷ r.class ∷ []) (word-index a small-a)
        ∙ ap (λ (x : ℕ). a.index ∷ x ∷ word_of b / halves ∷ word_of b % halves ∷ r.class ∷ []) (word-half a small-a)
        ∙ ap (λ (x : ℕ). a.index ∷ a.half ∷ x ∷ word_of b % halves ∷ r.class ∷ []) (word-index b small_b)
        ∙ ap (λ (x : ℕ). a.index ∷ a.half ∷ b.index ∷ x ∷ r.class ∷ []) (word-half b small_b)
