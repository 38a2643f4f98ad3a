-- The proof of the promise on neighbouring lines in the mode of large arcs: lines are not cut, so neighbours that are lines stand
-- one behind the other in the cut path, or first and last, and the grid's promise holds of a path of any number of segments.
use Rattle.std.specs.Prelude.{◌≡◌, ◌⊎◌, ◌↔◌, Bool, true, List, ℕ, ◌+◌, ◌-◌, ◌<◌, Float, length}
use Rattle.std.proofs.Math.Path.{sym, ap}
use Rattle.std.proofs.Common.{◌∙◌, subst, arith}
use Rattle.std.proofs.Math.Logic.{inl, inr}
use Rattle.paths.specs.Path.{vertex_count}
use Rattle.paths.specs.Segments.{segment_count, segment_from}
use Rattle.cuts.specs.CutPath.{name, cut_path, names_of, names, cut_count}
use Rattle.cuts.specs.Segments.{count_most, vertices, within}
use Rattle.cuts.specs.Laws.Joined.{joined-more}
use Rattle.cuts.specs.Laws.Places.{start-least}
use Rattle.listing_pairs.specs.Traces.{same_trace, one_trace}
use Rattle.grid.specs.Promise.{Spot, Epsilon, ShareMore, GridLine, OtherTraces}
use Rattle.grid.proofs.JointsProved.{closed-count, fold-of}
use Rattle.large_promise.specs.Places.{place, Stands, one-part, stands-once}
use Rattle.large_promise.specs.LargePromise.{MakesLargeRow, LargeFoldPromise}
use Rattle.large_promise.specs.LargeProved.{LineStands, line-stands}

-- a closed cut path has as many segments as vertices
all_closed : (path : List Float) (closed : Bool) → closed ≡ true → 0 < cut_count path closed
    → cut_count path closed ≡ vertex_count (cut_path path closed)
all_closed path closed e some =
    let is = closed-count path closed e (omega (arith, some, count_most path closed)) in
    omega (arith, is, vertices path closed)

module _ (path : List Float) (closed : Bool) (e : Float) (num den : ℕ) (small : Epsilon e num den) (i j : ℕ) (rises : i < j)
    (below : j < segment_count path closed)
    (beside : (j ≡ i + 1) ⊎ ((closed ≡ true) × (i ≡ 0) × (j + 1 ≡ segment_count path closed)))
    (p1 p2 q1 q2 : Spot) (v : GridLine path i p1 p2) (u : GridLine path j q1 q2) where
  abbrev x : ℕ
  x = place path i

  abbrev y : ℕ
  y = place path j

  first : LineStands path closed i p1 p2
  first = line-stands path closed i p1 p2 (omega (arith, rises, below)) v

  second : LineStands path closed j q1 q2
  second = line-stands path closed j q1 q2 below u

  -- one part each
  next : (k : ℕ) → k < segment_count path closed → length (names_of path k) ≡ 1 → place path (k + 1) ≡ place path k + 1
  next k h one = joined-more (names_of path) k ∙ ap (λ (m : ℕ). place path k + m) one

  after_first : place path (i + 1) ≡ x + 1
  after_first =
      let h : i < segment_count path closed = omega (arith, rises, below) in
      next i h (one-part path closed i h first.whole)

  after-second : place path (j + 1) ≡ y + 1
  after-second = next j below (one-part path closed j below second.whole)

  beside-cut : (y ≡ x + 1) ⊎ ((closed ≡ true) × (x ≡ 0) × (y + 1 ≡ cut_count path closed))
  unfolding names
  beside-cut = go beside
    where
      go : (j ≡ i + 1) ⊎ ((closed ≡ true) × (i ≡ 0) × (j + 1 ≡ segment_count path closed))
          → (y ≡ x + 1) ⊎ ((closed ≡ true) × (x ≡ 0) × (y + 1 ≡ cut_count path closed))
      go (inl e) = inl (ap (place path) e ∙ after_first)
      go (inr (c, start, last)) = inr (c, ap (place path) start, sym after-second ∙ ap (place path) last)

  order : x < y
  order = go beside
    where
      go : (j ≡ i + 1) ⊎ ((closed ≡ true) × (i ≡ 0) × (j + 1 ≡ segment_count path closed)) → x < y
      go (inl e) = omega (arith, ap (place path) e, after_first)
      go (inr (c, start, last)) =
          let none : x ≡ 0 = ap (place path) start in
          omega (arith, none, start-least path 0 j, rises)

  same-traces : one_trace (cut_path path closed) (cut_path path closed) (record { i = x; j = y })
      ≡ one_trace path path (record { i = i; j = j })
  unfolding one_trace
  same-traces =
      ap (λ (t : Float). same_trace t (segment_from (cut_path path closed) y).trace) first.traced
      ∙ ap (same_trace (segment_from path i).trace) second.traced

  folded : MakesLargeRow path closed e x y ↔ (ShareMore p1 p2 q1 q2 × OtherTraces path path i j)
  folded =
      let is =
      (fold-of (cut_count path closed) (cut_path path closed) closed (within path closed) (all_closed path closed) e num den small
      x y order second.stands.inside beside-cut p1 p2 q1 q2 first.line second.line).1 in
      (λ r. let h = is.0 r in (h.0, sym same-traces ∙ h.1), λ h. is.1 (h.0, same-traces ∙ h.1))

pub large-fold-promise : LargeFoldPromise
large-fold-promise path closed e num den small i j (rises, below, beside) p1 p2 q1 q2 v u x y on-x on-y =
    let a : x ≡ place path i = plain (place path i) (stands-once path closed x (name i 0) on-x) in
    let b : y ≡ place path j = plain (place path j) (stands-once path closed y (name j 0) on-y) in
    subst (λ (z : ℕ). MakesLargeRow path closed e z y ↔ (ShareMore p1 p2 q1 q2 × OtherTraces path path i j)) (sym a)
    (subst (λ (z : ℕ). MakesLargeRow path closed e (place path i) z ↔ (ShareMore p1 p2 q1 q2 × OtherTraces path path i j)) (sym b)
    (folded path closed e num den small i j rises below beside p1 p2 q1 q2 v u))
  where
    plain : {x : ℕ} (k : ℕ) → x ≡ k + (0 - 1) → x ≡ k
    plain k e = omega arith
