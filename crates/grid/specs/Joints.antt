-- The promise on joints and folds: neighbouring lines of one path make a row exactly if they share more than one point and are
-- not of one trace. It is
-- stated here, in the words of Promise and of Neighbours of listing_pairs, and proved in JointsProved.
use Rattle.std.specs.Prelude.{ℕ, ◌+◌, ◌<◌, ◌≡◌, ◌⊎◌, ◌↔◌, Bool, true, false, ◌||◌, List, T, Float}
use Rattle.plane.specs.PlineVertex.{pos, bulge_is_zero}
use Rattle.plane.specs.Vector2.{fuzzy_eq_eps}
use Rattle.plane.specs.declared.vector2.Vector2.{Vector2}
use Rattle.plane.specs.declared.pline_vertex.PlineVertex.{PlineVertex}
use Rattle.crossing.specs.PlineSeg.{pline_seg}
use Rattle.arcs.specs.declared.pline_seg_intr.PlineSegIntr.{PlineSegIntr}
use Rattle.arcs.specs.declared.pline_seg_intr.PlineSegIntr.TheVariants.{OneIntersect, OverlappingLines}
use Rattle.paths.specs.Segments.{segment_count}
use Rattle.listing_pairs.specs.declared.row.Row.{Row}
use Rattle.listing_pairs.specs.declared.row.Look.TheVariants.{Made}
use Rattle.listing_pairs.specs.Look.{traced_self_look}
use Rattle.listing_pairs.specs.Neighbours.{only_at, at_joint}
use Rattle.listing_calls.specs.Complete.{pair_of}
use Rattle.grid.specs.Promise.{Spot, On, Epsilon, ShareMore, GridLine, OtherTraces}

-- ---- two lines with a common end. What is promised if they met like this and `near` is a test for points near that end: they
-- meet in no other point exactly if they share no more than one, and then in an OneIntersect near the end; else in an overlap.
pub record Seen (v1 v2 u1 u2 : Spot) (near : Vector2 → Bool) (met : PlineSegIntr) : Type 0 where
  pub only-there : (only_at near met ≡ true) ↔ (¬ ShareMore v1 v2 u1 u2)
  pub elsewhere : (only_at near met ≡ false) ↔ ShareMore v1 v2 u1 u2
  pub point : ¬ ShareMore v1 v2 u1 u2 → (p : Vector2) × (met ≡ OneIntersect p) × (near p ≡ true)
  pub overlap : ((p : Vector2) × (q : Vector2) × (met ≡ OverlappingLines p q)) ↔ ShareMore v1 v2 u1 u2

-- the vertex w is an end of the line from a to b; p is near w in each coordinate, by epsilon
abbrev pub EndOf : PlineVertex → PlineVertex → PlineVertex → Type 0
EndOf w a b = (w ≡ a) ⊎ (w ≡ b)

abbrev pub near_to : PlineVertex → Float → Vector2 → Bool
near_to w e p = fuzzy_eq_eps p (pos w) e

-- The lines run from v1 to v2 and from u1 to u2, and w is an end of each. `near` says yes of every point near w; it may say yes
-- of others, as of those near a second common end.
abbrev pub JointPromise : Type 0
JointPromise = (v1 v2 u1 u2 w : PlineVertex) (p1 p2 q1 q2 : Spot) (e : Float) (num den : ℕ)
    → On v1 p1 → On v2 p2 → On u1 q1 → On u2 q2 → T (bulge_is_zero v1) → T (bulge_is_zero u1) → Epsilon e num den
    → EndOf w v1 v2 → EndOf w u1 u2
    → (near : Vector2 → Bool) → ((p : Vector2) → near_to w e p ≡ true → near p ≡ true)
    → Seen p1 p2 q1 q2 near (pline_seg v1 v2 u1 u2 e)

-- The three ways in which this happens on a path: a to b and b to c at a joint; a to b, the first line of a closed path, and c to
-- a, its last; there and back, a to b and b to a, the two lines of a closed path of two.
abbrev pub ThreeWays : Type 0
ThreeWays = (a b c : PlineVertex) (p q r : Spot) (e : Float) (num den : ℕ)
    → On a p → On b q → On c r → T (bulge_is_zero a) → T (bulge_is_zero b) → T (bulge_is_zero c) → Epsilon e num den
    → Seen p q q r (near_to b e) (pline_seg a b b c e)
    × Seen p q r p (near_to a e) (pline_seg a b c a e)
    × Seen p q q p (λ x. near_to b e x || near_to a e x) (pline_seg a b b a e)

-- there and back, they share more than one point unless the two ends are one spot
abbrev pub BackPromise : Type 0
BackPromise = (p q : Spot) → ShareMore p q q p ↔ (¬ ((p.x ≡ q.x) × (p.y ≡ q.y)))

-- ---- one path. Segments i < j of it are neighbours if j is the next one, or if they are the first and the last of a closed path.
abbrev pub Neighbours : List Float → Bool → ℕ → ℕ → Type 0
Neighbours path closed i j =
    (i < j) × (j < segment_count path closed)
    × ((j ≡ i + 1) ⊎ ((closed ≡ true) × (i ≡ 0) × (j + 1 ≡ segment_count path closed)))

-- they make a row in a self listing
abbrev pub MakesRow : List Float → Bool → Float → ℕ → ℕ → Type 0
MakesRow path closed e i j = (r : Row) × (traced_self_look path closed e i j ≡ Made r)

-- neighbours that are lines between grid points are at a joint exactly if they share no more than one point, and make a row
-- exactly if they share more and are not of one trace
abbrev pub FoldPromise : Type 0
FoldPromise = (path : List Float) (closed : Bool) (e : Float) (num den : ℕ) → Epsilon e num den
    → (i j : ℕ) → Neighbours path closed i j
    → (p1 p2 q1 q2 : Spot) → GridLine path i p1 p2 → GridLine path j q1 q2
    → ((at_joint path closed (segment_count path closed) e i j (pair_of path path e i j) ≡ true) ↔ (¬ ShareMore p1 p2 q1 q2))
    × (MakesRow path closed e i j ↔ (ShareMore p1 p2 q1 q2 × OtherTraces path path i j))
