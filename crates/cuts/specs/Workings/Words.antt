-- The names of what one segment becomes, as numbers; and that all of them, one segment after the other, are the names of the cut
-- path.
use Rattle.std.specs.Prelude.{◌≡◌, refl, Bool, true, false, cond, List, [], ◌∷◌, ◌++◌, map, ℕ, zero, suc, ◌+◌, ◌*◌, ◌≤◌, length, Float}
use Rattle.std.proofs.Common.{sym, ap, ◌∙◌, subst, arith}
use Rattle.paths.specs.Path.{vertex}
use Rattle.paths.specs.Segments.{segment_count}
use Rattle.cuts.specs.Cut.{is_large}
use Rattle.cuts.specs.Written.{Put}
use Rattle.cuts.specs.CutPath.{Name, joined, names_of, names, word_of, name_words}

unfoldable pub words_of : List Float → ℕ → List ℕ
words_of path i = let whole = i * 4 in cond (is_large (vertex path i).bulge) ((whole + 1) ∷ (whole + 2) ∷ []) (whole ∷ [])

pub words-short : (path : List Float) (i : ℕ) → length (words_of path i) ≤ 2
unfolding words_of
words-short path i = go (is_large (vertex path i).bulge) (i * 4)
  where
    go : (b : Bool) (w : ℕ) → length (cond b ((w + 1) ∷ (w + 2) ∷ []) (w ∷ [])) ≤ 2
    go true w = omega arith
    go false w = omega arith

map-append : (f : Name → ℕ) (a b : List Name) → map f (a ++ b) ≡ map f a ++ map f b
map-append f [] b = refl
map-append f (x ∷ a) b = ap (λ (l : List ℕ). f x ∷ l) (map-append f a b)

words-of-lem : (path : List Float) (i : ℕ) → map word_of (names_of path i) ≡ words_of path i
unfolding names_of words_of
words-of-lem path i = go (is_large (vertex path i).bulge)
  where
    go : (b : Bool) → map word_of (cond b (record { index = i; half = 1 } ∷ record { index = i; half = 2 } ∷ [])
        (record { index = i; half = 0 } ∷ []))
        ≡ cond b ((i * 4 + 1) ∷ (i * 4 + 2) ∷ []) ((i * 4) ∷ [])
    go true = refl
    go false = let e : i * 4 + 0 ≡ i * 4 = omega arith in ap (λ (w : ℕ). w ∷ []) e

all_words : (path : List Float) (i k : ℕ) → joined (words_of path) i k ≡ map word_of (joined (names_of path) i k)
all_words path i zero = refl
all_words path i (suc k) =
    ap (λ (l : List ℕ). words_of path i ++ l) (all_words path (i + 1) k)
    ∙ ap (λ (l : List ℕ). l ++ map word_of (joined (names_of path) (i + 1) k)) (sym (words-of-lem path i))
    ∙ sym (map-append word_of (names_of path i) (joined (names_of path) (i + 1) k))

words_are : (path : List Float) (closed : Bool) → joined (words_of path) 0 (segment_count path closed) ≡ name_words path closed
unfolding names
words_are path closed = all_words path 0 (segment_count path closed)

-- the names of n segments, if these are all
pub all_named : (path : List Float) (closed : Bool) (n : ℕ) (old now : List ℕ) (at : ℕ) → n ≡ segment_count path closed
    → Put (joined (words_of path) 0 n) old 0 now at → Put (name_words path closed) old 0 now at
all_named path closed n old now at e p =
    subst (λ (l : List ℕ). Put l old 0 now at) (ap (joined (words_of path) 0) e ∙ words_are path closed) p
