-- The proof of the promise.
use Rattle.std.specs.Prelude.{List, ◌≡◌, refl, ℕ, ◌<◌, T, Float}
use Rattle.std.proofs.Common.{sym, arith}
use Rattle.std.proofs.Math.Path.{subst}
use Rattle.std.proofs.Math.Decide.{ℕ_discrete}
use Rattle.plane.specs.Vector2 as vector2
use Rattle.plane.specs.PlineVertex as vertex
use Rattle.plane.specs.declared.vector2.Vector2.{Vector2}
use Rattle.crossing.specs.LineLine.{line_line}
use Rattle.crossing.specs.PlineSeg.{pline_seg, line_line_of, process_line_line_intr}
use Rattle.crossing.specs.declared.line_line_intr.LineLineIntr.{LineLineIntr}
use Rattle.plane.specs.PlineVertex.{bulge_is_zero}
use Rattle.plane.specs.declared.pline_vertex.PlineVertex.{PlineVertex}
use Rattle.crossing.specs.PlineSegIntr.{class_of}
use Rattle.arcs.specs.declared.pline_seg_intr.PlineSegIntr.{PlineSegIntr}
use Rattle.arcs.specs.declared.pline_seg_intr.PlineSegIntr.TheVariants.{
  NoIntersect,
  TangentIntersect,
  OneIntersect,
  TwoIntersects,
  OverlappingLines,
  OverlappingArcs,
}
use Rattle.paths.specs.Segments.{segment_from}
use Rattle.listing_pairs.specs.Boxed.{boxes_meet}
use Rattle.listing_calls.specs.Complete.{pair_of, complete, boxed-complete}
use Rattle.listing_calls.specs.ChainedCalls.{chain-complete}
use Rattle.grid.specs.Promise.{Spot, On, Epsilon, Share, Promised, Promise, GridLine}
use Rattle.grid.specs.Promise.{ListingPromise, PagesPromise, BoxedPromise}
use Rattle.grid.proofs.Boxes.{segment-boxes-meet}
use Rattle.grid.proofs.Accepted.{accepted, two-lines}
use Rattle.grid.proofs.Joined.{At, vec, vec-at, eps}
use Rattle.grid.proofs.Kernel.{crossed-promised, level-promised}
use Rattle.grid.specs.Floats.Small.{Vec, vec-sub, perp}
use Rattle.grid.specs.Floats.Zero.{Eps}
use Rattle.grid.specs.Floats.Ways.{goes-crossing, goes-parallel}

-- the kernel, for lines that are parallel and for lines that are not
module _ (e : Float) (num den : ℕ) (h : Eps e num den)
    (v1 v2 u1 u2 : Vector2) (A1 : Vec 20 v1) (A2 : Vec 20 v2) (B1 : Vec 20 u1) (B2 : Vec 20 u2)
    (p1 p2 q1 q2 : Spot) (a1 : At 20 v1 A1 p1) (a2 : At 20 v2 A2 p2) (b1 : At 20 u1 B1 q1) (b2 : At 20 u2 B2 q2) where
  abbrev turn : (n : ℕ) × ℕ
  turn =
      let s = perp (vector2.sub v2 v1) (vector2.sub u2 u1) (vec-sub v2 v1 A2 A1) (vec-sub u2 u1 B2 B1) in
      (s.p, s.n)

  kernel-promised : Promised p1 p2 q1 q2 num den (process_line_line_intr v1 v2 u1 u2 e)
  unfolding process_line_line_intr
  kernel-promised = go (ℕ_discrete turn.0 turn.1)
    where
      put : (r : LineLineIntr) → line_line v1 v2 u1 u2 e ≡ r → Promised p1 p2 q1 q2 num den (line_line_of r v1 v2 u1 u2)
          → Promised p1 p2 q1 q2 num den (line_line_of (line_line v1 v2 u1 u2 e) v1 v2 u1 u2)
      put r x k = subst (λ (z : LineLineIntr). Promised p1 p2 q1 q2 num den (line_line_of z v1 v2 u1 u2)) (sym x) k

      go : Dec (turn.0 ≡ turn.1) → Promised p1 p2 q1 q2 num den (line_line_of (line_line v1 v2 u1 u2 e) v1 v2 u1 u2)
      go (no n) =
          put _ (goes-crossing e num den h v1 v2 u1 u2 A1 A2 B1 B2 n)
          (crossed-promised e num den h v1 v2 u1 u2 A1 A2 B1 B2 p1 p2 q1 q2 a1 a2 b1 b2 n)
      go (yes s) =
          put _ (goes-parallel e num den h v1 v2 u1 u2 A1 A2 B1 B2 s)
          (level-promised e num den h v1 v2 u1 u2 A1 A2 B1 B2 p1 p2 q1 q2 a1 a2 b1 b2 s)

-- the pair's definition
pub promised : (v1 v2 u1 u2 : PlineVertex) (p1 p2 q1 q2 : Spot) (e : Float) (num den : ℕ)
    → On v1 p1 → On v2 p2 → On u1 q1 → On u2 q2 → T (bulge_is_zero v1) → T (bulge_is_zero u1) → Epsilon e num den
    → Promised p1 p2 q1 q2 num den (pline_seg v1 v2 u1 u2 e)
promised v1 v2 u1 u2 p1 p2 q1 q2 e num den a b c d line-v line-u small =
    subst (λ (r : PlineSegIntr). Promised p1 p2 q1 q2 num den r) (sym (two-lines v1 v2 u1 u2 e line-v line-u))
    (kernel-promised e num den (eps e num den small) (vertex.pos v1) (vertex.pos v2) (vertex.pos u1) (vertex.pos u2)
    (vec v1 p1 a) (vec v2 p2 b) (vec u1 q1 c) (vec u2 q2 d) p1 p2 q1 q2
    (vec-at v1 p1 a) (vec-at v2 p2 b) (vec-at u1 q1 c) (vec-at u2 q2 d))

pub promise : Promise
promise v1 v2 u1 u2 p1 p2 q1 q2 e num den a b c d line-v line-u small = (
  pline_seg v1 v2 u1 u2 e,
  accepted v1 v2 u1 u2 p1 p2 q1 q2 e num den a b c d line-v line-u small,
  promised v1 v2 u1 u2 p1 p2 q1 q2 e num den a b c d line-v line-u small,
)

-- ---- listings: a pair that shares a point is not NoIntersect, so it has a row
pub class-above : (r : PlineSegIntr) → (r ≡ NoIntersect → ⊥) → 0 < class_of r
class-above NoIntersect h = absurd (h refl)
class-above (TangentIntersect p) h = omega arith
class-above (OneIntersect p) h = omega arith
class-above (TwoIntersects p q) h = omega arith
class-above (OverlappingLines p q) h = omega arith
class-above (OverlappingArcs p q) h = omega arith

module _ (first second : List Float) (e : Float) (num den : ℕ) (small : Epsilon e num den) (i j : ℕ) (p1 p2 q1 q2 : Spot) where
  pub above : GridLine first i p1 p2 → GridLine second j q1 q2 → Share p1 p2 q1 q2 → 0 < class_of (pair_of first second e i j)
  above v u share =
      let a = segment_from first i in
      let b = segment_from second j in
      let k = promised a.v1 a.v2 b.v1 b.v2 p1 p2 q1 q2 e num den v.0 v.1 u.0 u.1 v.2 u.2 small in
      class-above (pline_seg a.v1 a.v2 b.v1 b.v2 e) (λ none. k.none-missed none share)

pub listing-promise : ListingPromise
listing-promise first closed second closed' e num den indices points rows pairs small is i j hi hj p1 p2 q1 q2 v u share other =
    complete first closed second closed' e indices points rows pairs is i j hi hj
    (above first second e num den small i j p1 p2 q1 q2 v u share) other

pub pages-promise : PagesPromise
pages-promise first closed second closed' e num den lents small fine end i j hi hj p1 p2 q1 q2 v u share other =
    chain-complete first closed second closed' e lents fine end i j hi hj
    (above first second e num den small i j p1 p2 q1 q2 v u share) other

pub boxed-promise : BoxedPromise
unfolding boxes_meet
boxed-promise first closed second closed' e num den boxes indices points rows pairs small is i j hi hj p1 p2 q1 q2 v u share other =
    boxed-complete first closed second closed' e boxes indices points rows pairs is i j hi hj
    (segment-boxes-meet first second e num den small i j p1 p2 q1 q2 v u share)
    (above first second e num den small i j p1 p2 q1 q2 v u share) other
