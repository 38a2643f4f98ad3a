-- The pair in the mode of large arcs: each part of an accepted segment is an accepted segment, and its ends are the segment's or
-- its cut point. So every result is good, and the results stand at the front of the slices.
use Rattle.checks.specs.Checked.{Checked}
use Rattle.std.specs.Prelude.{◌≡◌, refl, ◌⊎◌, Bool, true, false, cond, ◌||◌, List, [], ◌∷◌, ◌++◌, ℕ, ◌+◌, ◌*◌, ◌≤◌, ltb, Float, length, take, drop, Err, Ok}
use Rattle.std.proofs.Common.{sym, ap, ◌∙◌, subst, inl, inr, arith, ltb-false, take_at}
use Rattle.std.proofs.lemmas.List.Edits.{sets, sets-eq}
use Rattle.float_laws.specs.Flat.{flat}
use Rattle.float_laws.specs.Stores.{flat-length}
use Rattle.plane.specs.PlineVertex.{pos}
use Rattle.plane.specs.PlineVertex as vertices
use Rattle.plane.specs.declared.vector2.Vector2.{Vector2}
use Rattle.plane.specs.declared.pline_vertex.PlineVertex.{PlineVertex}
use Rattle.checks.specs.First.{first}
use Rattle.checks.specs.Laws.Chains.{PointFine, VertexFine}
use Rattle.told.specs.Stands.{Has, IsEnd}
use Rattle.cuts.specs.Cut.{is_large, cut_point, bent, cut_vertex}
use Rattle.cuts.specs.Laws.Sound.{whole-sound, halves-sound}
use Rattle.large_pair.specs.LargePair.{
  Part,
  large_pair_checks,
  parts_of,
  result,
  results_of,
  words_a_result,
  floats_a_result,
  words_of,
  floats_of,
  most_results,
  by_checks,
  large_pair,
}
use Rattle.large_pair.specs.Results.{whole, first_half, second_half, one-two-or-four}
use Rattle.large_pair.specs.Laws.Fine.{EndsFine, pair-listed}
use Rattle.finite.specs.Doubles.{Epsilon}
use Rattle.release.specs.Words.{All, BeginsWith, WroteResults}
use Rattle.release.specs.Release.{large_ends, GoodResult}
use Rattle.release.specs.Laws.Rows.{each_append, none_written}
use Rattle.release.specs.Laws.Pair.{pair-good}
use Rattle.checks.specs.declared.call.CallError.TheVariants.{NoRoom}

-- ---- lists
each-flat : {A B : Type 0} (P : B → Type 0) (Q : A → Type 0) (f : A → List B) → ((a : A) → Q a → All P (f a))
    → (l : List A) → All Q l → All P (flat f l)
each-flat P Q f good [] h = tt
each-flat P Q f good (a ∷ l) h = each_append P (f a) (flat f l) (good a h.0) (each-flat P Q f good l h.1)

has_left : {A : Type 0} (x : A) (l m : List A) → Has x l → Has x (l ++ m)
has_left x [] m h = absurd h
has_left x (y ∷ l) m (inl e) = inl e
has_left x (y ∷ l) m (inr h) = inr (has_left x l m h)

has_right : {A : Type 0} (x : A) (l m : List A) → Has x m → Has x (l ++ m)
has_right x [] m h = h
has_right x (y ∷ l) m h = inr (has_right x l m h)

-- ---- a part of a segment
record PartFine (ends : List Vector2) (p : Part) : Type 0 where
  pub start : VertexFine p.start.x p.start.y p.start.bulge
  pub end : PointFine p.end.x p.end.y
  pub start-in : Has (pos p.start) ends
  pub end-in : Has (pos p.end) ends

bent-pos : (v1 : PlineVertex) → pos (bent v1) ≡ pos v1
unfolding pos bent vertices.new
bent-pos v1 = refl

cut-pos : (v1 v2 : PlineVertex) → pos (cut_vertex v1 v2) ≡ cut_point v1 v2
unfolding pos cut_vertex vertices.new
cut-pos v1 v2 = refl

parts-fine : (v1 v2 : PlineVertex) → EndsFine v1 v2 → All (PartFine (large_ends v1 v2)) (parts_of v1 v2)
parts-fine v1 v2 f = go (is_large v1.bulge) refl
  where
    go : (b : Bool) → is_large v1.bulge ≡ b
        → All (PartFine (pos v1 ∷ pos v2 ∷ cond b (cut_point v1 v2 ∷ []) []))
        (cond b
        (first_half v1 v2 ∷ second_half v1 v2 ∷ [])
        (whole v1 v2 ∷ []))
    go false e =
        let s = whole-sound v1 v2 f.start f.bulge f.end f.segment e in
        (record { start = s.start; end = s.end; start-in = inl refl; end-in = inr (inl refl) }, tt)
    go true e =
        let s = halves-sound v1 v2 f.start f.bulge f.end f.segment e in
        let cut = inr (inr (inl (cut-pos v1 v2))) in (
          record { start = s.first.start; end = s.first.end; start-in = inl (bent-pos v1); end-in = cut },
          (record { start = s.second.start; end = s.second.end; start-in = cut; end-in = inr (inl refl) }, tt),
        )

-- ---- two parts
module _ (v1 v2 u1 u2 : PlineVertex) (eps : Float) (E : Epsilon eps) where
  abbrev ends : List Vector2
  ends = large_ends v1 v2 ++ large_ends u1 u2

  result-good : (v u : Part) → PartFine (large_ends v1 v2) v → PartFine (large_ends u1 u2) u
      → GoodResult v1 v2 u1 u2 (result eps v u)
  result-good v u a b =
      let g = pair-good v.start v.end u.start u.end eps a.start a.end b.start b.end E in
      record { finite = g.finite; copies = λ e. (given _ (g.copies e).0, given _ (g.copies e).1) }
    where
      moved : (p q : Vector2) → p ≡ q → Has q ends → Has p ends
      moved p q e h = subst (λ (z : Vector2). Has z ends) (sym e) h

      given : (p : Vector2) → IsEnd v.start v.end u.start u.end p → Has p ends
      given p (inl e) = moved p _ e (has_left _ (large_ends v1 v2) (large_ends u1 u2) a.start-in)
      given p (inr (inl e)) = moved p _ e (has_left _ (large_ends v1 v2) (large_ends u1 u2) a.end-in)
      given p (inr (inr (inl e))) = moved p _ e (has_right _ (large_ends v1 v2) (large_ends u1 u2) b.start-in)
      given p (inr (inr (inr e))) = moved p _ e (has_right _ (large_ends v1 v2) (large_ends u1 u2) b.end-in)

  results-good : EndsFine v1 v2 → EndsFine u1 u2 → All (GoodResult v1 v2 u1 u2) (results_of v1 v2 u1 u2 eps)
  results-good f g =
      each-flat (GoodResult v1 v2 u1 u2) (PartFine (large_ends v1 v2))
      (λ (v : Part). flat (λ (u : Part). result eps v u ∷ []) (parts_of u1 u2))
      (λ v a.
      each-flat (GoodResult v1 v2 u1 u2) (PartFine (large_ends u1 u2)) (λ (u : Part). result eps v u ∷ [])
      (λ u b. (result-good v u a b, tt)) (parts_of u1 u2) (parts-fine u1 u2 g))
      (parts_of v1 v2) (parts-fine v1 v2 f)

-- ---- what is written
front : {A : Type 0} (l values : List A) → length values ≤ length l → BeginsWith values (sets l 0 values)
front l values room =
    ap (take (length values)) (sets-eq values l 0 (omega (arith, room)))
    ∙ take_at values (drop (0 + length values) l) (length values) refl

few : (v1 v2 u1 u2 : PlineVertex) (eps : Float) → length (results_of v1 v2 u1 u2 eps) ≤ most_results
few v1 v2 u1 u2 eps = go (length (results_of v1 v2 u1 u2 eps)) (one-two-or-four v1 v2 u1 u2 eps)
  where
    go : (n : ℕ) → (n ≡ 1) ⊎ ((n ≡ 2) ⊎ (n ≡ 4)) → n ≤ 4
    go n (inl e) = omega (arith, e)
    go n (inr (inl e)) = omega (arith, e)
    go n (inr (inr e)) = omega (arith, e)

pub large-pair-wrote : (v1 v2 u1 u2 : PlineVertex) (eps : Float) (i : List ℕ) (p : List Float)
    → WroteResults (GoodResult v1 v2 u1 u2) (large_pair v1 v2 u1 u2 eps i p)
unfolding large_pair
large-pair-wrote v1 v2 u1 u2 eps i p =
    go (ltb (length i) (most_results * words_a_result)) refl (ltb (length p) (most_results * floats_a_result)) refl
    (first (large_pair_checks v1 v2 u1 u2 eps)) refl
  where
    go : (b : Bool) → ltb (length i) (most_results * words_a_result) ≡ b
        → (c : Bool) → ltb (length p) (most_results * floats_a_result) ≡ c
        → (d : Checked) → first (large_pair_checks v1 v2 u1 u2 eps) ≡ d
        → WroteResults (GoodResult v1 v2 u1 u2)
        (cond (b || c)
        (record { answer = Err NoRoom; results = i; points = p })
        (by_checks d (results_of v1 v2 u1 u2 eps) i p))
    go true h c k d e = none_written (GoodResult v1 v2 u1 u2) words_of floats_of i p
    go false h true k d e = none_written (GoodResult v1 v2 u1 u2) words_of floats_of i p
    go false h false k (Err fault) e = none_written (GoodResult v1 v2 u1 u2) words_of floats_of i p
    go false h false k (Ok _) e =
        let f = (pair-listed v1 v2 u1 u2 eps).0 e in
        let found = results_of v1 v2 u1 u2 eps in
        let most = few v1 v2 u1 u2 eps in
        let wide = flat-length words_of words_a_result (λ r. refl) found in
        let deep = flat-length floats_of floats_a_result (λ r. refl) found in
        let room = ltb-false (length i) (most_results * words_a_result) h in
        let space = ltb-false (length p) (most_results * floats_a_result) k in
        record {
          rows = found;
          count = refl;
          indices-are = front i (flat words_of found) (omega (arith, most, wide, room));
          points-are = front p (flat floats_of found) (omega (arith, most, deep, space));
          all = results-good v1 v2 u1 u2 eps f.epsilon f.v f.u;
        }
