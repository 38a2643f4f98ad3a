-- Two lines of the grid with a common end, at a vertex: what is promised of them (Joints). They share that end, so they are not
-- NoIntersect. If they answer a point, it is close to a grid point on both: to the common end itself if they are not parallel
-- (Promised), to some common end if they are (Meeting). If they share no more than one point, that grid point is the common end,
-- and the answer is near to it.
use Rattle.std.specs.Prelude.{◌≡◌, refl, ◌⊎◌, Bool, true, false, ℕ, T, Float}
use Rattle.std.proofs.Math.Path.{sym, ap, subst}
use Rattle.std.proofs.Common.{◌∙◌, inl, inr, true≢false, arith}
use Rattle.std.proofs.Math.Decide.{ℕ_discrete}
use Rattle.float_laws.specs.Signed.{Diff}
use Rattle.plane.specs.Vector2 as vector2
use Rattle.plane.specs.PlineVertex as vertex
use Rattle.plane.specs.PlineVertex.{bulge_is_zero}
use Rattle.plane.specs.BaseMath.{point_from_parametric}
use Rattle.plane.specs.declared.vector2.Vector2.{Vector2}
use Rattle.plane.specs.declared.pline_vertex.PlineVertex.{PlineVertex}
use Rattle.crossing.specs.LineLine.{line_line}
use Rattle.crossing.specs.PlineSeg.{pline_seg, line_line_of, process_line_line_intr}
use Rattle.crossing.specs.declared.line_line_intr.LineLineIntr.{LineLineIntr}
use Rattle.crossing.specs.declared.line_line_intr.LineLineIntr.TheVariants as lines
use Rattle.arcs.specs.declared.pline_seg_intr.PlineSegIntr.{PlineSegIntr}
use Rattle.arcs.specs.declared.pline_seg_intr.PlineSegIntr.TheVariants.{NoIntersect, OneIntersect, OverlappingLines}
use Rattle.listing_pairs.specs.Neighbours.{only_at}
use Rattle.grid.specs.Promise.{Epsilon, Spot, On, Parallel, Shared, ShareMore, Promised}
use Rattle.grid.specs.Joints.{Seen}
use Rattle.grid.proofs.Accepted.{two-lines}
use Rattle.grid.proofs.Plane.Spots.{Same, spot}
use Rattle.grid.proofs.Plane.Joints.{AnEnd, start-shared, end-shared, only_one, cross-there}
use Rattle.grid.specs.Floats.Small.{Vec, vec-sub, perp}
use Rattle.grid.specs.Floats.Ways.{goes-parallel}
use Rattle.grid.specs.Floats.Joint.{at-start, at-end}
use Rattle.grid.proofs.Joined.{vec, vec-at, eps}
use Rattle.grid.proofs.Nearby.{Close, close-there, close-cross, close-same, near-vertex}
use Rattle.grid.proofs.Kernel.{slant}
use Rattle.grid.proofs.Meeting.{meets_at}
use Rattle.grid.proofs.Proved.{promised}

-- ---- the point that is answered
-- a point comes from a true intersection
from-true : (r : LineLineIntr) (v1 v2 u1 u2 o : Vector2) → line_line_of r v1 v2 u1 u2 ≡ OneIntersect o
    → (t : Float) × (t' : Float) × (r ≡ lines.TrueIntersect t t') × (point_from_parametric v1 v2 t ≡ o)
from-true lines.NoIntersect v1 v2 u1 u2 o h = let z : ◌≡◌ {A = ℕ} 0 1 = cc in absurd (omega arith)
from-true (lines.FalseIntersect t t') v1 v2 u1 u2 o h = let z : ◌≡◌ {A = ℕ} 0 1 = cc in absurd (omega arith)
from-true (lines.TrueIntersect t t') v1 v2 u1 u2 o h = (t, t', refl, cc)
from-true (lines.Overlapping t t') v1 v2 u1 u2 o h = let z : ◌≡◌ {A = ℕ} 0 1 = cc in absurd (omega arith)

module _ (v1 v2 u1 u2 : PlineVertex) (p1 p2 q1 q2 : Spot) (e : Float) (num den : ℕ) (on-v1 : On v1 p1) (on-v2 : On v2 p2)
    (on-u1 : On u1 q1) (on-u2 : On u2 q2) (line-v : T (bulge_is_zero v1)) (line-u : T (bulge_is_zero u1))
    (small : Epsilon e num den) (joint : AnEnd p1 q1 q2 ⊎ AnEnd p2 q1 q2) where
  abbrev A1 : Vec 20 (vertex.pos v1)
  A1 = vec v1 p1 on-v1

  abbrev A2 : Vec 20 (vertex.pos v2)
  A2 = vec v2 p2 on-v2

  abbrev B1 : Vec 20 (vertex.pos u1)
  B1 = vec u1 q1 on-u1

  abbrev B2 : Vec 20 (vertex.pos u2)
  B2 = vec u2 q2 on-u2

  abbrev v : Vector2
  v = vector2.sub (vertex.pos v2) (vertex.pos v1)

  abbrev u : Vector2
  u = vector2.sub (vertex.pos u2) (vertex.pos u1)

  abbrev w : Vector2
  w = vector2.sub (vertex.pos v1) (vertex.pos u1)

  abbrev F : Vec 21 v
  F = vec-sub (vertex.pos v2) (vertex.pos v1) A2 A1

  abbrev G : Vec 21 u
  G = vec-sub (vertex.pos u2) (vertex.pos u1) B2 B1

  abbrev met : PlineSegIntr
  met = pline_seg v1 v2 u1 u2 e

  as-promised : Promised p1 p2 q1 q2 num den met
  as-promised = promised v1 v2 u1 u2 p1 p2 q1 q2 e num den on-v1 on-v2 on-u1 on-u2 line-v line-u small

  -- a common end
  abbrev Common : Spot → Type 0
  Common a = Shared p1 p2 q1 q2 (spot a)

  common : (a : Spot) × Common a
  common = go joint
    where
      go : AnEnd p1 q1 q2 ⊎ AnEnd p2 q1 q2 → (a : Spot) × Common a
      go (inl h) = (p1, start-shared p1 p2 q1 q2 h)
      go (inr h) = (p2, end-shared p1 p2 q1 q2 h)

  -- lines that are not parallel answer a point close to where they cross
  slanted : ¬ Parallel p1 p2 q1 q2 → (o : Vector2) → met ≡ OneIntersect o → (a : Spot) → Common a → Close o a
  slanted n o h a c =
      let x = as-promised.exact o h n in
      close-cross o x.0 a (cross-there p1 p2 q1 q2 n x.0 x.1 a c) x.2 x.3

  -- parallel lines answer a common end
  level : (perp v u F G).p ≡ (perp v u F G).n → (o : Vector2) → met ≡ OneIntersect o → (a : Spot) × Common a × Close o a
  unfolding process_line_line_intr
  level flat o h =
      let E = eps e num den small in
      let is = sym (two-lines v1 v2 u1 u2 e line-v line-u) ∙ h in
      let t = from-true (line_line (vertex.pos v1) (vertex.pos v2) (vertex.pos u1) (vertex.pos u2) e) (vertex.pos v1)
      (vertex.pos v2) (vertex.pos u1) (vertex.pos u2) o is in
      let way = goes-parallel e num den E (vertex.pos v1) (vertex.pos v2) (vertex.pos u1) (vertex.pos u2) A1 A2 B1 B2 flat in
      go t.0 t.3
      (meets_at e num den E (vertex.pos v1) (vertex.pos v2) (vertex.pos u1) (vertex.pos u2) A1 A2 B1 B2 p1 p2 q1 q2
      (vec-at v1 p1 on-v1) (vec-at v2 p2 on-v2) (vec-at u1 q1 on-u1) (vec-at u2 q2 on-u2) joint t.0 t.1
      (sym way ∙ t.2))
    where
      move : (t : Float) → point_from_parametric (vertex.pos v1) (vertex.pos v2) t ≡ o → (a : Spot)
          → Close (point_from_parametric (vertex.pos v1) (vertex.pos v2) t) a
          → Close o a
      move t k a c = subst (λ (z : Vector2). Close z a) k c

      go : (t : Float) → point_from_parametric (vertex.pos v1) (vertex.pos v2) t ≡ o
          → (AnEnd p1 q1 q2 × Diff t 0 0 1) ⊎ (AnEnd p2 q1 q2 × Diff t 1 0 1)
          → (a : Spot) × Common a × Close o a
      go t k (inl (j, d)) = (
        p1,
        start-shared p1 p2 q1 q2 j,
        move t k p1 (close-there _ (vertex.pos v1) A1 p1 (vec-at v1 p1 on-v1) (at-start _ _ A1 A2 t d)),
      )
      go t k (inr (j, d)) = (
        p2,
        end-shared p1 p2 q1 q2 j,
        move t k p2 (close-there _ (vertex.pos v2) A2 p2 (vec-at v2 p2 on-v2) (at-end _ _ A1 A2 t d)),
      )

  -- in either case a grid point on both
  answered : (o : Vector2) → met ≡ OneIntersect o → (a : Spot) × Common a × Close o a
  answered o h = go (ℕ_discrete (perp v u F G).p (perp v u F G).n)
    where
      go : Dec ((perp v u F G).p ≡ (perp v u F G).n) → (a : Spot) × Common a × Close o a
      go (yes flat) = level flat o h
      go (no n) =
          let c = common in (
            c.0,
            c.1,
            slanted (slant e num den (eps e num den small) (vertex.pos v1) (vertex.pos v2) (vertex.pos u1) (vertex.pos u2)
                A1 A2 B1 B2 p1 p2 q1 q2 (vec-at v1 p1 on-v1) (vec-at v2 p2 on-v2) (vec-at u1 q1 on-u1) (vec-at u2 q2 on-u2) n)
                o h c.0 c.1,
          )

  -- ---- what is promised at the vertex j, at the common end s
  module _ (j : PlineVertex) (s : Spot) (on-j : On j s) (there : Common s) (near : Vector2 → Bool)
      (says : (p : Vector2) → vector2.fuzzy_eq_eps p (vertex.pos j) e ≡ true → near p ≡ true) where
    abbrev More : Type 0
    More = ShareMore p1 p2 q1 q2

    close-is-near : (o : Vector2) (a : Spot) → Same a s → Close o a → near o ≡ true
    close-is-near o a same c = says o (near-vertex e num den (eps e num den small) o j s (close-same o a s same c) on-j)

    -- they share the end, so they meet; and if they share no more, in one point, near it
    one-point : ¬ More → (p : Vector2) × (met ≡ OneIntersect p) × (near p ≡ true)
    one-point n = go as-promised.classes
      where
        go : (met ≡ NoIntersect) ⊎ ((p : Vector2) × (met ≡ OneIntersect p))
            ⊎ ((p : Vector2) × (q : Vector2) × (met ≡ OverlappingLines p q))
            → (p : Vector2) × (met ≡ OneIntersect p) × (near p ≡ true)
        go (inl h) = absurd (as-promised.none-missed h (spot s, there))
        go (inr (inl (o, h))) =
            let k = answered o h in (o, h, close-is-near o k.0 (only_one p1 p2 q1 q2 n k.0 s k.1 there) k.2)
        go (inr (inr (p, q, h))) = absurd (n (as-promised.overlap.0 (p, q, h)))

    yes-at : (o : Vector2) → met ≡ OneIntersect o → near o ≡ true → only_at near met ≡ true
    unfolding only_at
    yes-at o h k = ap (only_at near) h ∙ k

    no-at : More → only_at near met ≡ false
    unfolding only_at
    no-at m = ap (only_at near) (as-promised.overlap.1 m).2

    only : ¬ More → only_at near met ≡ true
    only n = let k = one-point n in yes-at k.0 k.1 k.2

    -- a row that is not only there is an overlap
    more : only_at near met ≡ false → More
    more f = go as-promised.classes
      where
        two : (r : PlineSegIntr) (o p q : Vector2) → r ≡ OneIntersect o → r ≡ OverlappingLines p q → ⊥
        two r o p q h k = let z : ◌≡◌ {A = ℕ} 0 1 = cc in omega arith

        go : (met ≡ NoIntersect) ⊎ ((p : Vector2) × (met ≡ OneIntersect p))
            ⊎ ((p : Vector2) × (q : Vector2) × (met ≡ OverlappingLines p q))
            → More
        go (inl h) = absurd (as-promised.none-missed h (spot s, there))
        go (inr (inl (o, h))) =
            let single : ¬ More = λ m. let k = as-promised.overlap.1 m in two met o k.0 k.1 h k.2 in
            absurd (true≢false (sym (only single) ∙ f))
        go (inr (inr (p, q, h))) = as-promised.overlap.0 (p, q, h)

    pub seen : Seen p1 p2 q1 q2 near met
    seen =
        record {
          only-there = (λ t m. true≢false (sym t ∙ no-at m), only);
          elsewhere = (more, no-at);
          point = one-point;
          overlap = as-promised.overlap;
        }
