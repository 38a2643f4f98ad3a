-- What the release form says (request 13), for every input; Proved.antt proves it.
-- 1. No coordinate that a call answers is a NaN or an infinity. A place that the answer's class lacks holds +0, which is neither.
-- 2. The points of OverlappingArcs are bit copies, each of one of the four end points given. In the mode of large arcs a cut
--    point counts as an end point.
-- 3. If the line kernel answers Overlapping, its first parameter is at least 0 and its second at most 1.
-- Every row that a listing writes has what sentences 1 and 2 say of its pair's answer, in both modes.
use Rattle.std.specs.Prelude.{◌≡◌, Bool, true, cond, List, [], ◌∷◌, ◌++◌, ℕ, ◌<◌, Float, Err, Ok}
use Rattle.floats.specs.Ops.{◌≼◌, f0, f1}
use Rattle.plane.specs.declared.vector2.Vector2.{Vector2}
use Rattle.plane.specs.declared.pline_vertex.PlineVertex.{PlineVertex}
use Rattle.plane.specs.PlineVertex.{pos}
use Rattle.arcs.specs.declared.pline_seg_intr.PlineSegIntr.{PlineSegIntr}
use Rattle.crossing.specs.PlineSegIntr.{class_of, point1_of, point2_of}
use Rattle.crossing.specs.LineLineIntersect as lines
use Rattle.crossing.specs.LineCircleIntersect as line-circle
use Rattle.crossing.specs.CircleCircleIntersect as circles
use Rattle.crossing.specs.PlineSegIntersect as pair
use Rattle.crossing.specs.declared.line_line_intr.LineLineIntr.TheVariants as LineLineIntr·
use Rattle.told.specs.Stands.{Has, IsEnd}
use Rattle.paths.specs.Segments.{segment_from, segment_count}
use Rattle.cuts.specs.Cut.{is_large, cut_point}
use Rattle.cuts.specs.CutPath.{cut_path, cut_count}
use Rattle.listing_pairs.specs.declared.row.Row.{Row}
use Rattle.listing_pairs.specs.Row.{indices_of}
use Rattle.listing_calls.specs.Listing.{mutual_listing, self_listing}
use Rattle.listing_calls.specs.Boxed.{mutual_boxed, self_boxed}
use Rattle.listing_calls.specs.Chain.{chain}
use Rattle.listing_calls.specs.ChainedCalls.{mutual_pages, self_pages}
use Rattle.month.specs.Counted.{mutual_counted}
use Rattle.large_pair.specs.LargePair.{Result, large_pair}
use Rattle.large_listings.specs.LargeListings as large
use Rattle.large_listings.specs.LargeChain.{large_chain}
use Rattle.large_counted.specs.LargeCounted.{mutual_counted_large}
use Rattle.release.specs.Words.{Finite, All, Wrote, WroteResults, Listings, counted, mutual_large_pages, self_large_pages}

-- the number of the class OverlappingArcs
abbrev pub overlapping_arcs : ℕ
overlapping_arcs = 5

-- sentences 1 and 2, of an answer with this class and these points; End says what counts as an end point
pub record Good (End : Vector2 → Type 0) (class : ℕ) (p q : Vector2) : Type 0 where
  pub finite : All Finite (p.x ∷ p.y ∷ q.x ∷ q.y ∷ [])
  pub copies : class ≡ overlapping_arcs → End p × End q

-- ---- the calls of one pair
pub record Calls : Type 0 where
  -- 1, of the parameters and points that the three kernels answer
  pub line-line : (v1 v2 u1 u2 : Vector2) (eps : Float)
      → All Finite (lines.numbers_of (lines.line_line_intr v1 v2 u1 u2 eps)).values
  pub line-circle : (p0 p1 : Vector2) (radius : Float) (center : Vector2) (eps : Float)
      → All Finite (line-circle.numbers_of (line-circle.line_circle_intr p0 p1 radius center eps)).values
  pub circle-circle : (radius1 : Float) (center1 : Vector2) (radius2 : Float) (center2 : Vector2) (eps : Float)
      → All Finite (circles.numbers_of (circles.circle_circle_intr radius1 center1 radius2 center2 eps)).values
  -- 1 and 2, of the pair
  pub answer : (v1 v2 u1 u2 : PlineVertex) (eps : Float) (met : PlineSegIntr)
      → pair.pline_seg_intr v1 v2 u1 u2 eps ≡ Ok met
      → Good (IsEnd v1 v2 u1 u2) (class_of met) (point1_of met) (point2_of met)
  -- 3
  pub range : (v1 v2 u1 u2 : Vector2) (eps t0 t1 : Float)
      → lines.line_line_intr v1 v2 u1 u2 eps ≡ Ok (LineLineIntr·.Overlapping t0 t1)
      → ((f0 ≼ t0) ≡ true) × ((t1 ≼ f1) ≡ true)

-- ---- rows
-- an end of one of the two segments that the row is of
abbrev pub RowEnd : List Float → List Float → Row → Vector2 → Type 0
RowEnd first second r p =
    let v = segment_from first r.i in
    let u = segment_from second r.j in
    IsEnd v.v1 v.v2 u.v1 u.v2 p

-- of one of the first path's n segments and one of the second path's m, as the row's indices say
pub record GoodRow (first : List Float) (n : ℕ) (second : List Float) (m : ℕ) (r : Row) : Type 0 where
  pub of-first : r.i < n
  pub of-second : r.j < m
  pub good : Good (RowEnd first second r) r.class (record { x = r.x1; y = r.y1 }) (record { x = r.x2; y = r.y2 })

-- the ends of a segment, and its cut point if it is cut
abbrev pub large_ends : PlineVertex → PlineVertex → List Vector2
large_ends v1 v2 = pos v1 ∷ pos v2 ∷ cond (is_large v1.bulge) (cut_point v1 v2 ∷ []) []

abbrev pub GoodResult : PlineVertex → PlineVertex → PlineVertex → PlineVertex → Result → Type 0
GoodResult v1 v2 u1 u2 r =
    Good (λ p. Has p (large_ends v1 v2 ++ large_ends u1 u2)) (class_of r.met) (point1_of r.met) (point2_of r.met)

-- the rows of two paths, and those of their cut paths
abbrev pub GoodOld : List Float → Bool → List Float → Bool → Row → Type 0
GoodOld first a second b = GoodRow first (segment_count first a) second (segment_count second b)

abbrev pub GoodCut : List Float → Bool → List Float → Bool → Row → Type 0
GoodCut first a second b = GoodRow (cut_path first a) (cut_count first a) (cut_path second b) (cut_count second b)

-- ---- the release form
pub record Release : Type 0 where
  pub calls : Calls
  pub two-paths : (first : List Float) (a : Bool) (second : List Float) (b : Bool) (eps : Float)
      → Listings (GoodOld first a second b) indices_of (mutual_listing first a second b eps) (mutual_boxed first a second b eps)
      (mutual_pages first a second b eps) (chain (mutual_pages first a second b eps))
  pub one-path : (path : List Float) (c : Bool) (eps : Float)
      → Listings (GoodOld path c path c) indices_of (self_listing path c eps) (self_boxed path c eps) (self_pages path c eps)
      (chain (self_pages path c eps))
  pub counted-paths : (first : List Float) (a : Bool) (second : List Float) (b : Bool) (eps : Float)
      (i : List ℕ) (p : List Float) (report : List ℕ)
      → Wrote counted (GoodOld first a second b) indices_of (mutual_counted first a second b eps i p report).listing
  -- the mode of large arcs: a listing's rows are those of the cut paths, by the names of their segments
  pub large-pair : (v1 v2 u1 u2 : PlineVertex) (eps : Float) (i : List ℕ) (p : List Float)
      → WroteResults (GoodResult v1 v2 u1 u2) (large_pair v1 v2 u1 u2 eps i p)
  pub large-two-paths : (first : List Float) (a : Bool) (second : List Float) (b : Bool) (eps : Float)
      → Listings (GoodCut first a second b) (large.mutual_numbers first a second b)
      (large.mutual_large first a second b eps) (large.mutual_boxed_large first a second b eps)
      (mutual_large_pages first a second b eps) (large_chain (mutual_large_pages first a second b eps))
  pub large-one-path : (path : List Float) (c : Bool) (eps : Float)
      → Listings (GoodCut path c path c) (large.self_numbers path c) (large.self_large path c eps) (large.self_boxed_large path c eps)
      (self_large_pages path c eps) (large_chain (self_large_pages path c eps))
  pub large-counted-paths : (first : List Float) (a : Bool) (second : List Float) (b : Bool) (eps : Float)
      (i : List ℕ) (p : List Float) (report : List ℕ)
      → Wrote counted (GoodCut first a second b) (large.mutual_numbers first a second b)
      (mutual_counted_large first a second b eps i p report).listing
