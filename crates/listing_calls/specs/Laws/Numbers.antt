-- How large the whole numbers of a listing of two paths can be: a refusal's, the count of pairs, and every number in the slice of
-- indices, those behind the rows included.
use Rattle.checks.specs.Checked.{Checked}
use Rattle.std.specs.Prelude.{◌≡◌, refl, Bool, cond, List, [], ◌∷◌, ◌++◌, ℕ, zero, suc, ◌+◌, ◌-◌, ◌*◌, ◌≤◌, ◌<◌, Float, length, get_or, drop, replicate, Err, Ok}
use Rattle.std.proofs.Common.{sym, subst, mul-le-mul, arith, get_or-drop}
use Rattle.std.proofs.Math.Bool.{true, false}
use Rattle.checks.specs.declared.fault.Fault.{Fault}
use Rattle.checks.specs.First.{first as first_fault}
use Rattle.checks.specs.Refusal.{numbers_below}
use Rattle.checks.specs.Words.{Fits}
use Rattle.checks.specs.Laws.RefusalNumbers.{Small}
use Rattle.crossing.specs.PlineSeg.{pline_seg}
use Rattle.crossing.specs.PlineSegIntr.{class_of}
use Rattle.arcs.specs.declared.pline_seg_intr.PlineSegIntr.{PlineSegIntr}
use Rattle.arcs.specs.declared.pline_seg_intr.PlineSegIntr.TheVariants as met
use Rattle.paths.specs.Path.{most_vertices}
use Rattle.paths.specs.Segments.{segment_count, segment_from}
use Rattle.paths.specs.Laws.Segments.{few-segments}
use Rattle.listing_pairs.specs.declared.row.Row.{Row}
use Rattle.listing_pairs.specs.declared.row.Look.{Look}
use Rattle.listing_pairs.specs.declared.row.Look.TheVariants.{Skipped, Nothing, Made}
use Rattle.listing_pairs.specs.Row.{indices_of, numbers_of_rows, row, unless_apart, look_of}
use Rattle.listing_pairs.specs.Order.{Pair, along, pairs_from, mutual_pairs}
use Rattle.listing_pairs.specs.Rows.{onto, rows_of, looked_at}
use Rattle.listing_pairs.specs.Look.{look, traced_look}
use Rattle.listing_pairs.specs.Traces.{one_trace, traced}
use Rattle.listing_pairs.specs.Laws.Order.{few-pairs}
use Rattle.listing_loop.specs.Laws.Pages.{few-looked}
use Rattle.listing_outcomes.specs.Answer.{Listed, ListingAnswer}
use Rattle.listing_outcomes.specs.Outcome.{Outcome, room_check, listed_of, outcome}
use Rattle.listing_outcomes.specs.Laws.Counts.{same-pairs}
use Rattle.listing_calls.specs.Listing.{mutual_checks, mutual_listing}
use Rattle.listing_calls.specs.Laws.RefusalNumbers.{mutual-small}

-- every number of the list is below b
abbrev pub Below : ℕ → List ℕ → Type 0
Below b l = (k : ℕ) → get_or l k 0 < b

-- what a listing answers, with b for the numbers in its slice of indices
pub record Numbers (b : ℕ) (o : Outcome ListingAnswer) : Type 0 where
  pub refusal : (f : Fault) → o.answer ≡ Err f → f.number < numbers_below
  pub pairs : (rows pairs : ℕ) → o.answer ≡ Listed rows pairs → pairs ≤ most_vertices * most_vertices
  pub indices : Below b o.indices

-- ---- lists
module _ (b : ℕ) where
  below-append : (l m : List ℕ) → Below b l → Below b m → Below b (l ++ m)
  below-append [] m p q k = q k
  below-append (x ∷ l) m p q zero = p 0
  below-append (x ∷ l) m p q (suc k) = below-append l m (λ i. p (suc i)) q k

  below-drop : (n : ℕ) (l : List ℕ) → Below b l → Below b (drop n l)
  below-drop n l p k = rw (get_or-drop n l k 0) (p (n + k))

  -- a buffer that holds one number
  pub below-replicate : (n x : ℕ) → 0 < b → x < b → Below b (replicate n x)
  below-replicate zero x h g k = h
  below-replicate (suc n) x h g zero = g
  below-replicate (suc n) x h g (suc k) = below-replicate n x h g k

-- ---- rows
class-small : (i : PlineSegIntr) → class_of i < most_vertices
class-small met.NoIntersect = omega arith
class-small (met.TangentIntersect p) = omega arith
class-small (met.OneIntersect p) = omega arith
class-small (met.TwoIntersects p q) = omega arith
class-small (met.OverlappingLines p q) = omega arith
class-small (met.OverlappingArcs p q) = omega arith

module _ (b : ℕ) (wide : most_vertices ≤ b) (first second : List Float) (epsilon : Float) where
  abbrev made : Look → List ℕ
  made s = numbers_of_rows indices_of (onto s [])

  -- the row of two segments has small numbers where their indices are
  row_below : (i j class : ℕ) (m : PlineSegIntr) → i < b → j < b → Below b (made (unless_apart class (row i j m)))
  row_below i j zero m hi hj k = omega (arith, wide)
  row_below i j (suc class) m hi hj zero = hi
  row_below i j (suc class) m hi hj (suc zero) = hj
  row_below i j (suc class) m hi hj (suc (suc zero)) = omega (arith, class-small m, wide)
  row_below i j (suc class) m hi hj (suc (suc (suc k))) = omega (arith, wide)

  look-below : (i j : ℕ) → i < b → j < b → Below b (made (traced_look first second epsilon i j))
  unfolding traced look look_of
  look-below i j hi hj =
      let v = segment_from first i in
      let u = segment_from second j in
      let m = pline_seg v.v1 v.v2 u.v1 u.v2 epsilon in
      go (one_trace first second (record { i = i; j = j })) (unless_apart (class_of m) (row i j m))
      (row_below i j (class_of m) m hi hj)
    where
      go : (t : Bool) (s : Look) → Below b (made s) → Below b (made (cond t Skipped s))
      go true s h = λ k. omega (arith, wide)
      go false s h = h

  onto-below : (s : Look) (rows : List Row) → Below b (made s) → Below b (numbers_of_rows indices_of rows)
      → Below b (numbers_of_rows indices_of (onto s rows))
  onto-below Skipped rows p q = q
  onto-below Nothing rows p q = q
  onto-below (Made r) rows p q = below-append b (indices_of r) (numbers_of_rows indices_of rows) p q

  abbrev numbers : List Pair → List ℕ
  numbers ps = numbers_of_rows indices_of (rows_of (traced_look first second epsilon) ps)

  along-below : (i j k : ℕ) → i < b → j + k ≤ b → (rest : List Pair) → Below b (numbers rest)
      → Below b (numbers (along i j k ++ rest))
  along-below i j zero hi hj rest q = q
  along-below i j (suc k) hi hj rest q =
      onto-below (traced_look first second epsilon i j) (rows_of (traced_look first second epsilon) (along i (suc j) k ++ rest))
      (look-below i j hi (omega (arith, hj)))
      (along-below i (suc j) k hi (omega (arith, hj)) rest q)

  pairs_below : (m : ℕ) → m ≤ b → (i k : ℕ) → i + k ≤ b → Below b (numbers (pairs_from (λ i. 0) (λ i. m) i 0 k))
  pairs_below m hm i zero h = λ k. omega (arith, wide)
  pairs_below m hm i (suc k) h =
      along-below i 0 (m - 0) (omega (arith, h)) (omega (arith, hm)) (pairs_from (λ i. 0) (λ i. m) (suc i) 0 k)
      (pairs_below m hm (suc i) k (omega (arith, h)))

-- ---- what a listing answers
never : {f : Fault} {k m : ℕ} → Err f ≡ Listed k m → ⊥
never e = let z : ◌≡◌ {A = ℕ} 0 1 = cc in omega (arith, z)

same-fault : {f g : Fault} → ◌≡◌ {A = ListingAnswer} (Err f) (Err g) → f ≡ g
same-fault e = cc

module _ (b : ℕ) (rows : List Row) (looked : ℕ) (i₀ : List ℕ) (p₀ : List Float) (few : looked ≤ most_vertices * most_vertices)
    (written : Below b (numbers_of_rows indices_of rows)) (held : Below b i₀) where
  of-checked : (c : Checked) → Small c → Numbers b (listed_of c rows looked i₀ p₀)
  of-checked (Err fault) small =
      record {
        refusal = λ f e. (subst Fits (same-fault e) (small.fits fault refl)).number;
        pairs = λ n m e. absurd (never e);
        indices = held;
      }
  of-checked (Ok _) small =
      let numbers = numbers_of_rows indices_of rows in
      record {
        refusal = λ f e. absurd (never (sym e));
        pairs = λ n m e. omega (arith, few, same-pairs e);
        indices = below-append b numbers (drop (length numbers) i₀) written (below-drop b (length numbers) i₀ held);
      }

-- if the slice of indices holds numbers below b at the call, it holds such numbers after it; b is at least the most vertices that
-- a path may have
pub mutual-numbers : (first : List Float) (first_closed : Bool) (second : List Float) (second_closed : Bool) (epsilon : Float)
    (i₀ : List ℕ) (p₀ : List Float) (b : ℕ) → most_vertices ≤ b → Below b i₀
    → Numbers b (mutual_listing first first_closed second second_closed epsilon i₀ p₀)
unfolding mutual_listing outcome
mutual-numbers first first_closed second second_closed epsilon i₀ p₀ b wide held =
    let f = traced_look first second epsilon in
    let n = segment_count first first_closed in
    let m = segment_count second second_closed in
    let ps = mutual_pairs n m in
    let n-few = few-segments first first_closed in
    let m-few = few-segments second second_closed in
    let few : looked_at f ps ≤ most_vertices * most_vertices =
    omega (arith, few-looked f ps, few-pairs (λ i. 0) (λ i. m) n m (λ i. omega arith) 0 0 n, mul-le-mul n-few m-few) in
    of-checked b (rows_of f ps) (looked_at f ps) i₀ p₀ few
    (pairs_below b wide first second epsilon m (omega (arith, m-few, wide)) 0 n (omega (arith, n-few, wide))) held
    (first_fault (mutual_checks first first_closed second second_closed epsilon ++ (room_check (rows_of f ps) i₀ p₀ ∷ [])))
    (mutual-small (rows_of f ps) i₀ p₀ first first_closed second second_closed epsilon)
