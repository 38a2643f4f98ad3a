-- The promise on the plant's grid in the mode of large arcs, by demand 3's last sentence: a listing of one path against another
-- that is not refused omits no touching pair of lines. Segments i and j of the paths before the cut are lines between grid
-- points, so they are not cut: their row has the names i, half 0 and j, half 0. It is stated here in the words of Promise.antt of
-- the crate `grid`, and proved in LargeProved; what is said of neighbours is proved in LargeFolds.
use Rattle.std.specs.Prelude.{ℕ, ◌<◌, ◌≡◌, ◌↔◌, Bool, false, List, Float}
use Rattle.paths.specs.Segments.{segment_count}
use Rattle.cuts.specs.CutPath.{name}
use Rattle.listing_pairs.specs.declared.row.Row.{Row}
use Rattle.listing_pairs.specs.declared.row.Look.TheVariants.{Made}
use Rattle.listing_calls.specs.Chain.{Lent}
use Rattle.large_listings.specs.LargeListings.{mutual_large, mutual_boxed_large, self_large_look}
use Rattle.large_listings.specs.LargeChained.{mutual_large_chain}
use Rattle.large_listings.specs.HasLargeRow.{HasLargeRow}
use Rattle.grid.specs.Promise.{Spot, Epsilon, Share, ShareMore, GridLine, OtherTraces}
use Rattle.grid.specs.Joints.{Neighbours}
use Rattle.large_promise.specs.Places.{Stands}
use Rattle.large_promise.specs.LargeChainedCalls.{mutual_large_end}
use Rattle.listing_outcomes.specs.Answer.{Listed}

abbrev pub LargeListingPromise : Type 0
LargeListingPromise = (first : List Float) (closed : Bool) (second : List Float) (closed' : Bool) (e : Float) (num den : ℕ)
    (indices : List ℕ) (points : List Float) (rows pairs : ℕ) → Epsilon e num den
    → let o = mutual_large first closed second closed' e indices points in
    o.answer ≡ Listed rows pairs
    → (i j : ℕ) → i < segment_count first closed → j < segment_count second closed'
    → (p1 p2 q1 q2 : Spot) → GridLine first i p1 p2 → GridLine second j q1 q2
    → Share p1 p2 q1 q2 → OtherTraces first second i j → HasLargeRow rows o.indices (name i 0) (name j 0)

-- the same of a chain of pages: if it went from the first pair to the end and no call was refused, its joined rows have the row
abbrev pub LargePagesPromise : Type 0
LargePagesPromise = (first : List Float) (closed : Bool) (second : List Float) (closed' : Bool) (e : Float) (num den : ℕ)
    (lents : List Lent) → Epsilon e num den
    → let all = mutual_large_chain first closed second closed' e lents in
    all.refused ≡ false → all.next ≡ mutual_large_end first closed second closed' e
    → (i j : ℕ) → i < segment_count first closed → j < segment_count second closed'
    → (p1 p2 q1 q2 : Spot) → GridLine first i p1 p2 → GridLine second j q1 q2
    → Share p1 p2 q1 q2 → OtherTraces first second i j → HasLargeRow all.rows all.indices (name i 0) (name j 0)

-- and the same of a boxed listing
abbrev pub LargeBoxedPromise : Type 0
LargeBoxedPromise = (first : List Float) (closed : Bool) (second : List Float) (closed' : Bool) (e : Float) (num den : ℕ)
    (boxes : List Float) (indices : List ℕ) (points : List Float) (rows pairs : ℕ) → Epsilon e num den
    → let o = (mutual_boxed_large first closed second closed' e boxes indices points).listing in
    o.answer ≡ Listed rows pairs
    → (i j : ℕ) → i < segment_count first closed → j < segment_count second closed'
    → (p1 p2 q1 q2 : Spot) → GridLine first i p1 p2 → GridLine second j q1 q2
    → Share p1 p2 q1 q2 → OtherTraces first second i j → HasLargeRow rows o.indices (name i 0) (name j 0)

-- ---- neighbours. Segments x and y of the cut path make a row in a self listing
abbrev pub MakesLargeRow : List Float → Bool → Float → ℕ → ℕ → Type 0
MakesLargeRow path closed e x y = (r : Row) × (self_large_look path closed e x y ≡ Made r)

-- neighbours i < j of the path before the cut that are lines between grid points make a row exactly if they share more than one
-- point and are not of one trace; x and y are their places in the cut path
abbrev pub LargeFoldPromise : Type 0
LargeFoldPromise = (path : List Float) (closed : Bool) (e : Float) (num den : ℕ) → Epsilon e num den
    → (i j : ℕ) → Neighbours path closed i j
    → (p1 p2 q1 q2 : Spot) → GridLine path i p1 p2 → GridLine path j q1 q2
    → (x y : ℕ) → Stands path closed x (name i 0) → Stands path closed y (name j 0)
    → MakesLargeRow path closed e x y ↔ (ShareMore p1 p2 q1 q2 × OtherTraces path path i j)
