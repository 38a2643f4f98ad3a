-- The parts of an accepted segment, as the code makes them: each is ready for a pair, and is the definition's part. And what is
-- written of their meetings is what the definition has.
use Rattle.std.specs.Prelude.{ℕ, ◌≡◌, refl, Bool, true, false, List, [], ◌∷◌, ◌++◌, Float, Ok}
use Rattle.std.proofs.Math.Path.{sym, ap}
use Rattle.std.proofs.Common.{◌∙◌, subst}
use Rattle.std.proofs.Math.Bool.{cond}
use Rattle.std.proofs.lemmas.List.Edits.{sets}
use Rattle.plane.specs.declared.pline_vertex.PlineVertex.{PlineVertex}
use Rattle.checks.specs.First.{first}
use Rattle.checks.specs.Laws.Fine.{epsilon-fine}
use Rattle.arcs.specs.Workings.Circles.{circle_if_arc, OfArc, circle-if-arc}
use Rattle.fast_pair.specs.Laws.AllFine.{Sound, look-fine}
use Rattle.cuts.specs.declared.cut.Halves.{Halves}
use Rattle.cuts.specs.Cut.{is_large, bent, cut_vertex, halve}
use Rattle.large_pair.specs.declared.put.Piece.{Piece}
use Rattle.large_pair.specs.LargePair.{Part, Result, result, large_pair_checks, results_of, words_of, floats_of}
use Rattle.large_pair.specs.Results as results
use Rattle.large_pair.specs.Results.{whole, first_half, second_half}
use Rattle.large_pair.specs.Workings.Starts.{starts}
use Rattle.large_pair.specs.Workings.Pieces.{with_circle, part, meeting, FitPair, Stored}
use Rattle.large_pair.specs.Laws.Fine.{EndsFine, PairFine, pair-listed, whole-sound, first-sound, second-sound}

-- ---- a part with its circle
pub record Ready (p : Piece) (it : Part) : Type 0 where
  pub first : Sound p.start p.end 0
  pub second : Sound p.start p.end 1
  pub circle : OfArc p.start p.end p.circle
  pub is : part p ≡ it

ready : (half : ℕ) (a b : PlineVertex) (p : Piece) → p ≡ with_circle half a b → Sound a b 0 → Sound a b 1
    → Ready p (record { half = half; start = a; end = b })
unfolding with_circle
ready half a b p e f s = rw e (record { first = f; second = s; circle = circle-if-arc a b (circle_if_arc a b) refl; is = refl })

pub fit : {pos_equal_eps : Float} {v1 v2 u1 u2 : PlineVertex} {p q : Piece} {a b : Part} → PairFine v1 v2 u1 u2 pos_equal_eps
    → Ready p a → Ready q b → FitPair p q pos_equal_eps
fit {pos_equal_eps} {p = p} {q = q} fine v u = record {
  checked =
      look-fine p.start p.end q.start q.end pos_equal_eps ((epsilon-fine pos_equal_eps).1 fine.epsilon) v.first
      u.second;
  v-circle = v.circle;
  u-circle = u.circle;
}

module _ {v1 v2 : PlineVertex} {h : Halves} {said : Bool} (fine : EndsFine v1 v2) (is : h ≡ starts v1 v2)
    (says : said ≡ is_large v1.bulge) where
  pub whole_ready : said ≡ false → {p : Piece} → p ≡ with_circle 0 v1 v2 → Ready p (whole v1 v2)
  whole_ready no_cut {p} e =
      let l = sym says ∙ no_cut in
      ready 0 v1 v2 p e (whole-sound v1 v2 fine 0 l) (whole-sound v1 v2 fine 1 l)

  halves : said ≡ true → h ≡ halve v1 v2
  unfolding starts
  halves cut = is ∙ ap (λ (b : Bool). cond b (halve v1 v2) (record { first = v1; second = v2 })) (sym says ∙ cut)

  pub first-ready : said ≡ true → {p : Piece} → p ≡ with_circle 1 h.first h.second → Ready p (first_half v1 v2)
  unfolding halve
  first-ready cut {p} e =
      let l = sym says ∙ cut in
      ready 1 (bent v1) (cut_vertex v1 v2) p (e ∙ ap (λ (k : Halves). with_circle 1 k.first k.second) (halves cut))
      (first-sound v1 v2 fine 0 l) (first-sound v1 v2 fine 1 l)

  pub second-ready : said ≡ true → {p : Piece} → p ≡ with_circle 2 h.second v2 → Ready p (second_half v1 v2)
  unfolding halve
  second-ready cut {p} e =
      let l = sym says ∙ cut in
      ready 2 (cut_vertex v1 v2) v2 p (e ∙ ap (λ (k : Halves). with_circle 2 k.second v2) (halves cut))
      (second-sound v1 v2 fine 0 l) (second-sound v1 v2 fine 1 l)

-- ---- what is written
pair_is : (eps : Float) {v u w x a b c d : Part} → v ≡ a → u ≡ b → w ≡ c → x ≡ d
    → ◌≡◌ {A = List Result} (result eps v u ∷ result eps w x ∷ []) (result eps a b ∷ result eps c d ∷ [])
pair_is eps e f g h = rw (← e, ← f, ← g, ← h) refl

one : {r₀ r : List ℕ} {p₀ p : List Float} (a : Result) → r ≡ sets r₀ 0 (words_of a) → p ≡ sets p₀ 0 (floats_of a)
    → Stored (a ∷ []) 1 r₀ r p₀ p
one a words floats = record { count-is = refl; words = words; floats = floats }

-- two rows at once
at_once : {r₀ r : List ℕ} {p₀ p : List Float} (a b : Result) → r ≡ sets r₀ 0 (words_of a ++ words_of b)
    → p ≡ sets p₀ 0 (floats_of a ++ floats_of b) → Stored (a ∷ b ∷ []) 2 r₀ r p₀ p
at_once a b words floats = record { count-is = refl; words = words; floats = floats }

module _ {r₀ r s : List ℕ} {p₀ p q : List Float} where
  -- a row after a row
  two : (a b : Result) → r ≡ sets r₀ 0 (words_of a) → s ≡ sets r 3 (words_of b) → p ≡ sets p₀ 0 (floats_of a)
      → q ≡ sets p 4 (floats_of b) → Stored (a ∷ b ∷ []) 2 r₀ s p₀ q
  two a b w x f g =
      record {
        count-is = refl;
        words = x ∙ ap (λ (l : List ℕ). sets l 3 (words_of b)) w;
        floats = g ∙ ap (λ (l : List Float). sets l 4 (floats_of b)) f;
      }

  -- two rows after two
  four : (a b c d : Result) → r ≡ sets r₀ 0 (words_of a ++ words_of b) → s ≡ sets r 6 (words_of c ++ words_of d)
      → p ≡ sets p₀ 0 (floats_of a ++ floats_of b) → q ≡ sets p 8 (floats_of c ++ floats_of d)
      → Stored (a ∷ b ∷ c ∷ d ∷ []) 4 r₀ s p₀ q
  four a b c d w x f g =
      record {
        count-is = refl;
        words = x ∙ ap (λ (l : List ℕ). sets l 6 (words_of c ++ words_of d)) w;
        floats = g ∙ ap (λ (l : List Float). sets l 8 (floats_of c ++ floats_of d)) f;
      }

-- ---- the pair's results
module _ (v1 v2 u1 u2 : PlineVertex) (eps : Float) {r₀ r : List ℕ} {p₀ p : List Float} where
  pub none-cut : is_large v1.bulge ≡ false → is_large u1.bulge ≡ false → {v u : Piece}
      → Ready v (whole v1 v2) → Ready u (whole u1 u2)
      → r ≡ sets r₀ 0 (words_of (meeting eps v u)) → p ≡ sets p₀ 0 (floats_of (meeting eps v u))
      → Stored (results_of v1 v2 u1 u2 eps) 1 r₀ r p₀ p
  none-cut e f {v} {u} a c words floats =
      subst (λ (l : List Result). Stored l 1 r₀ r p₀ p)
      (ap (λ (k : Part). result eps k (part u) ∷ []) a.is ∙ ap (λ (k : Part). result eps (whole v1 v2) k ∷ []) c.is
      ∙ sym (results.neither-cut v1 v2 u1 u2 eps e f))
      (one (meeting eps v u) words floats)

  pub u-cut : is_large v1.bulge ≡ false → is_large u1.bulge ≡ true → {v u w : Piece}
      → Ready v (whole v1 v2) → Ready u (first_half u1 u2) → Ready w (second_half u1 u2)
      → r ≡ sets r₀ 0 (words_of (meeting eps v u) ++ words_of (meeting eps v w))
      → p ≡ sets p₀ 0 (floats_of (meeting eps v u) ++ floats_of (meeting eps v w))
      → Stored (results_of v1 v2 u1 u2 eps) 2 r₀ r p₀ p
  u-cut e f {v} {u} {w} a c d words floats =
      subst (λ (l : List Result). Stored l 2 r₀ r p₀ p)
      (pair_is eps a.is c.is a.is d.is ∙ sym (results.second-cut v1 v2 u1 u2 eps e f))
      (at_once (meeting eps v u) (meeting eps v w) words floats)

  pub v-cut : is_large v1.bulge ≡ true → is_large u1.bulge ≡ false → {v w u : Piece}
      → Ready v (first_half v1 v2) → Ready w (second_half v1 v2) → Ready u (whole u1 u2) → {s : List ℕ} {q : List Float}
      → s ≡ sets r₀ 0 (words_of (meeting eps v u)) → q ≡ sets p₀ 0 (floats_of (meeting eps v u))
      → r ≡ sets s 3 (words_of (meeting eps w u)) → p ≡ sets q 4 (floats_of (meeting eps w u))
      → Stored (results_of v1 v2 u1 u2 eps) 2 r₀ r p₀ p
  v-cut e f {v} {w} {u} a b c words floats more further =
      subst (λ (l : List Result). Stored l 2 r₀ r p₀ p)
      (pair_is eps a.is c.is b.is c.is ∙ sym (results.first-cut v1 v2 u1 u2 eps e f))
      (two (meeting eps v u) (meeting eps w u) words more floats further)

  pub all-cut : is_large v1.bulge ≡ true → is_large u1.bulge ≡ true → {v w u x : Piece}
      → Ready v (first_half v1 v2) → Ready w (second_half v1 v2) → Ready u (first_half u1 u2) → Ready x (second_half u1 u2)
      → {s : List ℕ} {q : List Float}
      → s ≡ sets r₀ 0 (words_of (meeting eps v u) ++ words_of (meeting eps v x))
      → q ≡ sets p₀ 0 (floats_of (meeting eps v u) ++ floats_of (meeting eps v x))
      → r ≡ sets s 6 (words_of (meeting eps w u) ++ words_of (meeting eps w x))
      → p ≡ sets q 8 (floats_of (meeting eps w u) ++ floats_of (meeting eps w x))
      → Stored (results_of v1 v2 u1 u2 eps) 4 r₀ r p₀ p
  all-cut e f {v} {w} {u} {x} a b c d words floats more further =
      subst (λ (l : List Result). Stored l 4 r₀ r p₀ p)
      (ap (λ (l : List Result). meeting eps v u ∷ meeting eps v x ∷ l) (pair_is eps b.is c.is b.is d.is)
      ∙ ap (λ (l : List Result). l ++ (result eps (second_half v1 v2) (first_half u1 u2)
      ∷ result eps (second_half v1 v2) (second_half u1 u2) ∷ [])) (pair_is eps a.is c.is a.is d.is)
      ∙ sym (results.both-cut v1 v2 u1 u2 eps e f))
      (four (meeting eps v u) (meeting eps v x) (meeting eps w u) (meeting eps w x) words more floats further)
