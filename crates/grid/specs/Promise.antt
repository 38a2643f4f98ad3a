-- The promise on the plant's grid: no touching pair of lines is missed. It is stated over whole numbers here and proved in
-- Proved.antt.
use Rattle.std.specs.Prelude.{ℕ, ◌*◌, ◌≤◌, ◌<◌, ◌≡◌, ◌≢◌, ◌⊎◌, ◌↔◌, Bool, true, false, List, T, ℤ, pos, neg_ℤ, nat_abs, ◌+ℤ◌, ◌-ℤ◌, ◌*ℤ◌, ◌<ℤ◌, Float, Ok}
use Rattle.std.specs.Float.{nan, inf, fin, binary64}
use Rattle.std.specs.Float.Ieee.{up, down, fits}
use Rattle.plane.specs.PlineVertex.{bulge_is_zero}
use Rattle.plane.specs.declared.vector2.Vector2.{Vector2}
use Rattle.plane.specs.declared.pline_vertex.PlineVertex.{PlineVertex}
use Rattle.crossing.specs.PlineSegIntersect.{pline_seg_intr}
use Rattle.arcs.specs.declared.pline_seg_intr.PlineSegIntr.{PlineSegIntr}
use Rattle.arcs.specs.declared.pline_seg_intr.PlineSegIntr.TheVariants.{NoIntersect, OneIntersect, OverlappingLines}
use Rattle.paths.specs.Segments.{segment_from, segment_count}
use Rattle.listing_pairs.specs.Traces.{one_trace}
use Rattle.listing_calls.specs.Listing.{mutual_listing}
use Rattle.listing_calls.specs.Boxed.{mutual_boxed}
use Rattle.listing_calls.specs.HasRow.{HasRow}
use Rattle.listing_calls.specs.Chain.{Lent}
use Rattle.listing_calls.specs.ChainedCalls.{mutual_chain, mutual_end}
use Rattle.listing_outcomes.specs.Answer.{Listed}

-- ---- numbers. ℤ has the whole numbers with a sign: `pos n` is n, and `nat_abs` the size. `Is x a c` says that the float x is a /
-- c. A finite float is m * 2 ^ e, with a minus if s is true, and 2 ^ e is up e / down e.
abbrev pub signed : Bool → ℕ → ℤ
signed false n = pos n
signed true n = neg_ℤ (pos n)

abbrev pub Is : Float → ℤ → ℕ → Type 0
Is nan a c = ⊥
Is (inf s) a c = ⊥
Is (fin s m e) a c = signed s (m * up e) *ℤ pos c ≡ a *ℤ pos (down e)

-- an epsilon: the f64 that is num / den, from 1/1024 to 1/2
pub record Epsilon (e : Float) (num den : ℕ) : Type 0 where
  pub some-f64 : T (fits binary64 e)
  pub value : Is e (pos num) den
  pub range : (0 < den) × (den ≤ 1024 * num) × (2 * num ≤ den)

-- ---- points. A point of the grid has whole coordinates; any other point is (x / over, y / over). `On v p` says that the vertex
-- v stands on the grid at p.
pub record Spot : Type 0 where
  pub x : ℤ
  pub y : ℤ

pub record Point : Type 0 where
  pub x : ℤ
  pub y : ℤ
  pub over : ℕ
  pub positive : 0 < over

abbrev pub On : PlineVertex → Spot → Type 0
On v p = Is v.x p.x 1 × (nat_abs p.x ≤ 1048576) × Is v.y p.y 1 × (nat_abs p.y ≤ 1048576)

-- ---- straight lines. P lies s / t of the way from a to b. It is on the segment from a to b if s is from 0 to t.
pub record Along (P : Point) (a b : Spot) (s : ℤ) (t : ℕ) : Type 0 where
  pub some : 0 < t
  pub at_x : P.x *ℤ pos t ≡ pos P.over *ℤ (a.x *ℤ pos t +ℤ (b.x -ℤ a.x) *ℤ s)
  pub at_y : P.y *ℤ pos t ≡ pos P.over *ℤ (a.y *ℤ pos t +ℤ (b.y -ℤ a.y) *ℤ s)

abbrev pub OnLine : Point → Spot → Spot → Type 0
OnLine P a b = (s : ℤ) × (t : ℕ) × Along P a b s t

abbrev pub OnSegment : Point → Spot → Spot → Type 0
OnSegment P a b = (s : ℕ) × (t : ℕ) × (s ≤ t) × Along P a b (pos s) t

-- The points P and Q differ; P is less than 2 * num / den from a, by squares; P is on the segment, or that close to one of its
-- ends.
abbrev pub Differ : Point → Point → Type 0
Differ P Q = (P.x *ℤ pos Q.over ≢ Q.x *ℤ pos P.over) ⊎ (P.y *ℤ pos Q.over ≢ Q.y *ℤ pos P.over)

abbrev pub Close : Point → Spot → ℕ → ℕ → Type 0
Close P a num den =
    let dx = P.x -ℤ a.x *ℤ pos P.over in
    let dy = P.y -ℤ a.y *ℤ pos P.over in
    ((dx *ℤ dx +ℤ dy *ℤ dy) *ℤ pos (den * den)) <ℤ pos (2 * num * P.over * (2 * num * P.over))

abbrev pub Reached : Point → Spot → Spot → ℕ → ℕ → Type 0
Reached P a b num den = OnSegment P a b ⊎ Close P a num den ⊎ Close P b num den

-- the float c is a number, and within 1 / 1,073,741,824 of x / over
pub record NearExact (c : Float) (x : ℤ) (over : ℕ) : Type 0 where
  pub a : ℤ
  pub d : ℕ
  pub positive : 0 < d
  pub value : Is c a d
  pub near : nat_abs (a *ℤ pos over -ℤ x *ℤ pos d) * 1073741824 ≤ d * over

-- ---- two segments, v1 to v2 and u1 to u2. A segment without length is parallel to every other. `Crossing P`: their straight
-- lines cross at P.
module _ (v1 v2 u1 u2 : Spot) where
  abbrev pub Shared : Point → Type 0
  Shared P = OnSegment P v1 v2 × OnSegment P u1 u2

  abbrev pub Share : Type 0
  Share = (P : Point) × Shared P

  abbrev pub ShareMore : Type 0
  ShareMore = (P : Point) × (Q : Point) × Differ P Q × Shared P × Shared Q

  abbrev pub Parallel : Type 0
  Parallel = (v2.x -ℤ v1.x) *ℤ (u2.y -ℤ u1.y) ≡ (v2.y -ℤ v1.y) *ℤ (u2.x -ℤ u1.x)

  abbrev pub Crossing : Point → Type 0
  Crossing P = OnLine P v1 v2 × OnLine P u1 u2

  -- what is promised of an answer r: it is one of three classes, and the four sentences hold
  pub record Promised (num den : ℕ) (r : PlineSegIntr) : Type 0 where
    pub classes : (r ≡ NoIntersect) ⊎ ((p : Vector2) × (r ≡ OneIntersect p))
        ⊎ ((p : Vector2) × (q : Vector2) × (r ≡ OverlappingLines p q))
    pub none-missed : r ≡ NoIntersect → ¬ Share
    pub overlap : ((p : Vector2) × (q : Vector2) × (r ≡ OverlappingLines p q)) ↔ ShareMore
    pub beyond : (p : Vector2) → r ≡ OneIntersect p → ¬ Share
        → (¬ Parallel) × (P : Point) × Crossing P × Reached P v1 v2 num den × Reached P u1 u2 num den
    pub exact : (p : Vector2) → r ≡ OneIntersect p → ¬ Parallel
        → (P : Point) × Crossing P × NearExact p.x P.x P.over × NearExact p.y P.y P.over

-- ---- the promise: no pair of grid lines is refused, and the pair call's answer is as promised
abbrev pub Promise : Type 0
Promise = (v1 v2 u1 u2 : PlineVertex) (p1 p2 q1 q2 : Spot) (e : Float) (num den : ℕ)
    → On v1 p1 → On v2 p2 → On u1 q1 → On u2 q2 → T (bulge_is_zero v1) → T (bulge_is_zero u1) → Epsilon e num den
    → (r : PlineSegIntr) × (pline_seg_intr v1 v2 u1 u2 e ≡ Ok r) × Promised p1 p2 q1 q2 num den r

-- ---- sentence 5. Segment k of a path is a line between grid points. If two paths were listed and not refused, two such lines
-- that share a point have a row, unless they are of one trace: request 8 passes over pairs of the same trace above 0.
abbrev pub GridLine : List Float → ℕ → Spot → Spot → Type 0
GridLine path k a b = let s = segment_from path k in On s.v1 a × On s.v2 b × T (bulge_is_zero s.v1)

abbrev pub OtherTraces : List Float → List Float → ℕ → ℕ → Type 0
OtherTraces first second i j = one_trace first second (record { i = i; j = j }) ≡ false

abbrev pub ListingPromise : Type 0
ListingPromise = (first : List Float) (closed : Bool) (second : List Float) (closed' : Bool) (e : Float) (num den : ℕ)
    (indices : List ℕ) (points : List Float) (rows pairs : ℕ) → Epsilon e num den
    → let o = mutual_listing first closed second closed' e indices points in
    o.answer ≡ Listed rows pairs
    → (i j : ℕ) → i < segment_count first closed → j < segment_count second closed'
    → (p1 p2 q1 q2 : Spot) → GridLine first i p1 p2 → GridLine second j q1 q2
    → Share p1 p2 q1 q2 → OtherTraces first second i j → HasRow rows o.indices i j

-- the same of a chain of pages: if it went from the first pair to the end and no call was refused, its joined rows have the row
abbrev pub PagesPromise : Type 0
PagesPromise = (first : List Float) (closed : Bool) (second : List Float) (closed' : Bool) (e : Float) (num den : ℕ)
    (lents : List Lent) → Epsilon e num den
    → let all = mutual_chain first closed second closed' e lents in
    all.refused ≡ false → all.next ≡ mutual_end first closed second closed' e
    → (i j : ℕ) → i < segment_count first closed → j < segment_count second closed'
    → (p1 p2 q1 q2 : Spot) → GridLine first i p1 p2 → GridLine second j q1 q2
    → Share p1 p2 q1 q2 → OtherTraces first second i j → HasRow all.rows all.indices i j

-- and the same of a boxed listing
abbrev pub BoxedPromise : Type 0
BoxedPromise = (first : List Float) (closed : Bool) (second : List Float) (closed' : Bool) (e : Float) (num den : ℕ)
    (boxes : List Float) (indices : List ℕ) (points : List Float) (rows pairs : ℕ) → Epsilon e num den
    → let o = (mutual_boxed first closed second closed' e boxes indices points).listing in
    o.answer ≡ Listed rows pairs
    → (i j : ℕ) → i < segment_count first closed → j < segment_count second closed'
    → (p1 p2 q1 q2 : Spot) → GridLine first i p1 p2 → GridLine second j q1 q2
    → Share p1 p2 q1 q2 → OtherTraces first second i j → HasRow rows o.indices i j
