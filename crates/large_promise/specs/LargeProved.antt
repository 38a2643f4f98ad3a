-- The proof of the promise in the mode of large arcs. A line is not cut, so it is a segment of the cut path with the same ends
-- and the same trace; the grid's promise says that the two meet, and no row is left out.
use Rattle.std.specs.Prelude.{◌≡◌, Bool, true, false, ◌||◌, List, ℕ, ◌<◌, T, Float}
use Rattle.std.proofs.Common.{sym, ◌∙◌, subst}
use Rattle.std.proofs.Math.Path.{ap}
use Rattle.std.specs.Float.Ieee.{of_bits, lt, le, eq}
use Rattle.std.specs.Float.Ieee.Bits.{is_false}
use Rattle.float_laws.specs.Chains.{lt-le, le_not_lt}
use Rattle.floats.specs.Ops.{◌≼◌, f1}
use Rattle.floats.specs.F64
use Rattle.plane.specs.declared.pline_vertex.PlineVertex.{PlineVertex}
use Rattle.plane.specs.PlineVertex.{bulge_is_zero}
use Rattle.plane.specs.Fuzzy.{fuzzy_epsilon, fuzzy_eq_zero_eps}
use Rattle.crossing.specs.PlineSegIntr.{class_of}
use Rattle.paths.specs.Path.{vertex}
use Rattle.paths.specs.Segments.{segment_count, segment_from}
use Rattle.cuts.specs.Cut.{is_large}
use Rattle.cuts.specs.CutPath.{Name, name, cut_path, name_at}
use Rattle.listing_pairs.specs.Traces.{same_trace, one_trace}
use Rattle.listing_pairs.specs.Boxed.{boxes_meet}
use Rattle.listing_calls.specs.Complete.{pair_of}
use Rattle.large_listings.specs.HasLargeRow.{HasLargeRow}
use Rattle.large_listings.specs.LargeComplete.{large-complete, large-boxed-complete}
use Rattle.grid.specs.Promise.{Spot, On, Epsilon, Share, GridLine, OtherTraces}
use Rattle.grid.proofs.Boxes.{segment-boxes-meet}
use Rattle.grid.proofs.Proved.{above}
use Rattle.large_promise.specs.Places.{place, Stands, is-part, whole-stands}
use Rattle.large_promise.specs.LargeChainedCalls.{large-chain-complete}
use Rattle.large_promise.specs.LargePromise.{LargeListingPromise, LargePagesPromise, LargeBoxedPromise}

-- ---- a line is not cut: its bulge is below 1e-8 in magnitude
line_small : T (fuzzy_epsilon ≼ f1)
unfolding le lt of_bits
line_small = tt

or_left : (a b : Bool) → T a → T (a || b)
or_left true b h = tt
or_left false b h = absurd h

not-large : (b : Float) → T (fuzzy_eq_zero_eps b fuzzy_epsilon) → is_large b ≡ false
unfolding is_large fuzzy_eq_zero_eps le
not-large b h =
    let x = F64.abs b in
    is_false _ (le_not_lt x f1 (or_left (lt x f1) (eq x f1) (lt-le x fuzzy_epsilon f1 h line_small)))

-- ---- it stands in the cut path
pub record LineStands (path : List Float) (closed : Bool) (i : ℕ) (a b : Spot) : Type 0 where
  pub whole : is_large (vertex path i).bulge ≡ false
  pub stands : Stands path closed (place path i) (name i 0)
  pub line : GridLine (cut_path path closed) (place path i) a b
  pub traced : (segment_from (cut_path path closed) (place path i)).trace ≡ (segment_from path i).trace

pub line-stands : (path : List Float) (closed : Bool) (i : ℕ) (a b : Spot) → i < segment_count path closed → GridLine path i a b
    → LineStands path closed i a b
unfolding segment_from
line-stands path closed i a b below (start, end, line) =
    let s = whole-stands path closed i below (not-large (vertex path i).bulge line) in
    let r = is-part path closed (place path i) (name i 0) s in
    record {
      whole = not-large (vertex path i).bulge line;
      stands = s;
      line = (
        subst (λ (v : PlineVertex). On v a) (sym r.starts) start,
        rw (r.ends-x, r.ends-y) end,
        subst (λ (v : PlineVertex). T (bulge_is_zero v)) (sym r.starts) line,
      );
      traced = r.traced;
    }

-- ---- two of them
module _ (first : List Float) (closed : Bool) (second : List Float) (closed' : Bool) (e : Float) (num den : ℕ)
    (small : Epsilon e num den) (i j : ℕ) (hi : i < segment_count first closed) (hj : j < segment_count second closed')
    (p1 p2 q1 q2 : Spot) (v : GridLine first i p1 p2) (u : GridLine second j q1 q2) (share : Share p1 p2 q1 q2)
    (other : OtherTraces first second i j) where
  abbrev a : List Float
  a = cut_path first closed

  abbrev b : List Float
  b = cut_path second closed'

  abbrev x : ℕ
  x = place first i

  abbrev y : ℕ
  y = place second j

  on-first : LineStands first closed i p1 p2
  on-first = line-stands first closed i p1 p2 hi v

  on-second : LineStands second closed' j q1 q2
  on-second = line-stands second closed' j q1 q2 hj u

  meets : 0 < class_of (pair_of a b e x y)
  meets = above a b e num den small x y p1 p2 q1 q2 on-first.line on-second.line share

  boxed : boxes_meet a b e (record { i = x; j = y }) ≡ true
  unfolding boxes_meet
  boxed = segment-boxes-meet a b e num den small x y p1 p2 q1 q2 on-first.line on-second.line share

  others : one_trace a b (record { i = x; j = y }) ≡ false
  unfolding one_trace
  others =
      ap (λ (t : Float). same_trace t (segment_from b y).trace) on-first.traced
      ∙ ap (same_trace (segment_from first i).trace) on-second.traced
      ∙ other

  by_names : {rows : ℕ} {slice : List ℕ} → HasLargeRow rows slice (name_at first closed x) (name_at second closed' y)
      → HasLargeRow rows slice (name i 0) (name j 0)
  by_names {rows} {slice} h =
      subst (λ (n : Name). HasLargeRow rows slice (name i 0) n) on-second.stands.named
      (subst (λ (n : Name). HasLargeRow rows slice n (name_at second closed' y)) on-first.stands.named h)

pub large-listing-promise : LargeListingPromise
large-listing-promise first closed second closed' e num den indices points rows pairs small is i j hi hj p1 p2 q1 q2 v u share
    other =
    by_names first closed second closed' e num den small i j hi hj p1 p2 q1 q2 v u share other
    (large-complete first closed second closed' e indices points rows pairs is (place first i) (place second j)
    (line-stands first closed i p1 p2 hi v).stands.inside (line-stands second closed' j q1 q2 hj u).stands.inside
    (meets first closed second closed' e num den small i j hi hj p1 p2 q1 q2 v u share other)
    (others first closed second closed' e num den small i j hi hj p1 p2 q1 q2 v u share other))

pub large-pages-promise : LargePagesPromise
large-pages-promise first closed second closed' e num den lents small fine end i j hi hj p1 p2 q1 q2 v u share other =
    by_names first closed second closed' e num den small i j hi hj p1 p2 q1 q2 v u share other
    (large-chain-complete first closed second closed' e lents fine end (place first i) (place second j)
    (line-stands first closed i p1 p2 hi v).stands.inside (line-stands second closed' j q1 q2 hj u).stands.inside
    (meets first closed second closed' e num den small i j hi hj p1 p2 q1 q2 v u share other)
    (others first closed second closed' e num den small i j hi hj p1 p2 q1 q2 v u share other))

pub large-boxed-promise : LargeBoxedPromise
large-boxed-promise first closed second closed' e num den boxes indices points rows pairs small is i j hi hj p1 p2 q1 q2 v u share
    other =
    by_names first closed second closed' e num den small i j hi hj p1 p2 q1 q2 v u share other
    (large-boxed-complete first closed second closed' e boxes indices points rows pairs is (place first i) (place second j)
    (line-stands first closed i p1 p2 hi v).stands.inside (line-stands second closed' j q1 q2 hj u).stands.inside
    (boxed first closed second closed' e num den small i j hi hj p1 p2 q1 q2 v u share other)
    (meets first closed second closed' e num den small i j hi hj p1 p2 q1 q2 v u share other)
    (others first closed second closed' e num den small i j hi hj p1 p2 q1 q2 v u share other))
