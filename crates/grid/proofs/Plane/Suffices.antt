-- What must be shown of an answer so that it is as promised: for lines that cross, by the crossing point; for parallel ones, by
-- what they share. The rest of the proof is about the floats from which the answer was computed.
use Rattle.std.specs.Prelude.{◌≡◌, refl, ◌⊎◌, ◌↔◌, ℕ, ℤ, pos, ◌-ℤ◌}
use Rattle.std.proofs.Common.{subst, inl, inr, arith}
use Rattle.plane.specs.declared.vector2.Vector2.{Vector2}
use Rattle.arcs.specs.declared.pline_seg_intr.PlineSegIntr.{PlineSegIntr}
use Rattle.arcs.specs.declared.pline_seg_intr.PlineSegIntr.TheVariants.{NoIntersect, OneIntersect, OverlappingLines}
use Rattle.grid.specs.Promise.{Spot, Parallel, Share, ShareMore, Reached, NearExact, Promised}
use Rattle.grid.proofs.Plane.Cross.{
  Between,
  base,
  steps-v,
  steps-u,
  crossing-point,
  crossing-point-crosses,
  shared-between,
  share-once,
}
use Rattle.grid.proofs.Plane.Sides.{way, cross}
use Rattle.grid.proofs.Plane.Points.{Collinear, share-collinear, both-points, point-share, point-once}
use Rattle.grid.proofs.Plane.Spots.{Same, flip, share-swapped, share-more-swapped, share-flipped, share-more-flipped}
use Rattle.grid.proofs.Plane.Spans.{SpansShare, SpansShareMore, size, mark}
use Rattle.grid.proofs.Plane.Overlap.{overlap, overlap-more}

-- ---- different answers are not equal
none-or-one : (r : PlineSegIntr) (p q o : Vector2) → (r ≡ NoIntersect) ⊎ (r ≡ OneIntersect o) → r ≡ OverlappingLines p q → ⊥
none-or-one r p q o (inl e) f = let z : ◌≡◌ {A = ℕ} 0 1 = cc in omega arith
none-or-one r p q o (inr e) f = let z : ◌≡◌ {A = ℕ} 0 1 = cc in omega arith

not-one : (r : PlineSegIntr) (p : Vector2) → r ≡ NoIntersect → r ≡ OneIntersect p → ⊥
not-one r p e f = let z : ◌≡◌ {A = ℕ} 0 1 = cc in omega arith

same-one : (o p : Vector2) → OneIntersect o ≡ OneIntersect p → o ≡ p
same-one o p e = cc

-- ---- lines that cross: none if a place is not from 0 to 1; or one point close to the crossing, which is close to both segments
module _ (v1 v2 u1 u2 : Spot) (slant : ¬ Parallel v1 v2 u1 u2) (num den : ℕ) where
  pub slanted-none : (Between (steps-v v1 v2 u1 u2) (base v1 v2 u1 u2) → Between (steps-u v1 v2 u1 u2) (base v1 v2 u1 u2) → ⊥)
      → Promised v1 v2 u1 u2 num den NoIntersect
  slanted-none n =
      record {
        classes = inl refl;
        none-missed = λ e s. let both = shared-between v1 v2 u1 u2 slant s in n both.0 both.1;
        overlap = (
          λ o. absurd (none-or-one NoIntersect o.0 o.1 o.0 (inl refl) o.2),
          λ s. absurd (share-once v1 v2 u1 u2 slant s),
        );
        beyond = λ p e s. absurd (not-one NoIntersect p refl e);
        exact = λ p e s. absurd (not-one NoIntersect p refl e);
      }

  pub slanted-one : (o : Vector2)
      → Reached (crossing-point v1 v2 u1 u2 slant) v1 v2 num den
      → Reached (crossing-point v1 v2 u1 u2 slant) u1 u2 num den
      → NearExact o.x (crossing-point v1 v2 u1 u2 slant).x (base v1 v2 u1 u2)
      → NearExact o.y (crossing-point v1 v2 u1 u2 slant).y (base v1 v2 u1 u2)
      → Promised v1 v2 u1 u2 num den (OneIntersect o)
  slanted-one o near-v near-u near-x near-y =
      let P = crossing-point v1 v2 u1 u2 slant in
      record {
        classes = inr (inl (o, refl));
        none-missed = λ e s. not-one (OneIntersect o) o e refl;
        overlap = (
          λ p. absurd (none-or-one (OneIntersect o) p.0 p.1 o (inr refl) p.2),
          λ s. absurd (share-once v1 v2 u1 u2 slant s),
        );
        beyond = λ p e s. (slant, P, crossing-point-crosses v1 v2 u1 u2 slant, near-v, near-u);
        exact = λ p e s. (
          P,
          crossing-point-crosses v1 v2 u1 u2 slant,
          subst (λ (z : Vector2). NearExact z.x P.x P.over) (same-one o p e) near-x,
          subst (λ (z : Vector2). NearExact z.y P.y P.over) (same-one o p e) near-y,
        );
      }

-- ---- parallel lines: none if nothing is shared, one if one point is, lines if more are
abbrev pub Matches : Type 0 → Type 0 → PlineSegIntr → Type 0
Matches A B r =
    ((r ≡ NoIntersect) × (¬ A))
    ⊎ ((p : Vector2) × (r ≡ OneIntersect p) × A × (¬ B))
    ⊎ ((p : Vector2) × (q : Vector2) × (r ≡ OverlappingLines p q) × B)

abbrev pub Matched : Spot → Spot → Spot → Spot → PlineSegIntr → Type 0
Matched v1 v2 u1 u2 r = Matches (Share v1 v2 u1 u2) (ShareMore v1 v2 u1 u2) r

-- the same for equivalent statements
matched-of : {A B C D : Type 0} (r : PlineSegIntr) → A ↔ C → B ↔ D → Matches C D r → Matches A B r
matched-of r some more (inl (e, n)) = inl (e, λ s. n (some.0 s))
matched-of r some more (inr (inl (p, e, m, n))) = inr (inl (p, e, some.1 m, λ s. n (more.0 s)))
matched-of r some more (inr (inr (p, q, e, m))) = inr (inr (p, q, e, more.1 m))

-- so u and v may be exchanged, and so may the axes
pub matched-swapped : (v1 v2 u1 u2 : Spot) (r : PlineSegIntr) → Matched u1 u2 v1 v2 r → Matched v1 v2 u1 u2 r
matched-swapped v1 v2 u1 u2 r = matched-of r (share-swapped v1 v2 u1 u2) (share-more-swapped v1 v2 u1 u2)

pub matched-flipped : (v1 v2 u1 u2 : Spot) (r : PlineSegIntr) → Matched (flip v1) (flip v2) (flip u1) (flip u2) r
    → Matched v1 v2 u1 u2 r
matched-flipped v1 v2 u1 u2 r = matched-of r (share-flipped v1 v2 u1 u2) (share-more-flipped v1 v2 u1 u2)

share-of-more : (v1 v2 u1 u2 : Spot) → ShareMore v1 v2 u1 u2 → Share v1 v2 u1 u2
share-of-more v1 v2 u1 u2 s = (s.0, s.3)

pub parallel-promised : (v1 v2 u1 u2 : Spot) (num den : ℕ) (r : PlineSegIntr) → Parallel v1 v2 u1 u2 → Matched v1 v2 u1 u2 r
    → Promised v1 v2 u1 u2 num den r
parallel-promised v1 v2 u1 u2 num den r par (inl (e, n)) =
    record {
      classes = inl e;
      none-missed = λ f. n;
      overlap = (
        λ o. absurd (none-or-one r o.0 o.1 o.0 (inl e) o.2),
        λ s. absurd (n (share-of-more v1 v2 u1 u2 s)),
      );
      beyond = λ p f s. let z : ◌≡◌ {A = ℕ} 0 1 = cc in absurd (omega arith);
      exact = λ p f s. absurd (s par);
    }
parallel-promised v1 v2 u1 u2 num den r par (inr (inl (p, e, s, n))) =
    record {
      classes = inr (inl (p, e));
      none-missed = λ f. let z : ◌≡◌ {A = ℕ} 0 1 = cc in absurd (omega arith);
      overlap = (λ o. absurd (none-or-one r o.0 o.1 p (inr e) o.2), λ m. absurd (n m));
      beyond = λ q f not. absurd (not s);
      exact = λ q f slant. absurd (slant par);
    }
parallel-promised v1 v2 u1 u2 num den r par (inr (inr (p, q, e, s))) =
    record {
      classes = inr (inr (p, q, e));
      none-missed = λ f. let z : ◌≡◌ {A = ℕ} 0 1 = cc in absurd (omega arith);
      overlap = (λ o. s, λ m. (p, q, e));
      beyond = λ o f not. absurd (not (share-of-more v1 v2 u1 u2 s));
      exact = λ o f slant. absurd (slant par);
    }

-- ---- parallel lines that are not on one straight line
pub apart-matched : (v1 v2 u1 u2 : Spot) (r : PlineSegIntr) → Parallel v1 v2 u1 u2 → ¬ Collinear v1 v2 u1 u2 → r ≡ NoIntersect
    → Matched v1 v2 u1 u2 r
apart-matched v1 v2 u1 u2 r par n e = inl (e, λ s. n (share-collinear v1 v2 u1 u2 par s))

-- ---- on one straight line, both with length: by the spans along x
abbrev pub MatchedBySpans : ℤ → ℤ → ℕ → PlineSegIntr → Type 0
MatchedBySpans a b k r = Matches (SpansShare a b k) (SpansShareMore a b k) r

pub spans-matched : (v1 v2 u1 u2 : Spot) (r : PlineSegIntr) → Collinear v1 v2 u1 u2 → ¬ Same v1 v2
    → ((u2.x -ℤ u1.x) ≡ pos 0 → ⊥)
    → MatchedBySpans (mark u1 u2 v1) (mark u1 u2 v2) (size u1 u2) r
    → Matched v1 v2 u1 u2 r
spans-matched v1 v2 u1 u2 r c long slant = matched-of r (overlap v1 v2 u1 u2 c slant) (overlap-more v1 v2 u1 u2 c slant long)

-- ---- on one straight line, one or both without length: one exactly if the point lies on the other
abbrev pub MatchedIf : Type 0 → PlineSegIntr → Type 0
MatchedIf A r = ((r ≡ NoIntersect) × (¬ A)) ⊎ ((p : Vector2) × (r ≡ OneIntersect p) × A)

matched-if : {A B C : Type 0} (r : PlineSegIntr) → A ↔ C → ¬ B → MatchedIf C r → Matches A B r
matched-if r some once (inl (e, n)) = inl (e, λ s. n (some.0 s))
matched-if r some once (inr (p, e, h)) = inr (inl (p, e, some.1 h, once))

pub both-matched : (v1 v2 u1 u2 : Spot) (r : PlineSegIntr) → Same v1 v2 → Same u1 u2 → MatchedIf (Same v1 u1) r
    → Matched v1 v2 u1 u2 r
both-matched v1 v2 u1 u2 r sv su = matched-if r (both-points v1 v2 u1 u2 sv su) (point-once v1 v2 u1 u2 sv)

-- the first, from its place along x
pub point-matched : (v1 v2 u1 u2 : Spot) (r : PlineSegIntr) → Same v1 v2 → ((u2.x -ℤ u1.x) ≡ pos 0 → ⊥)
    → cross (way u1 u2) (way u1 v1) ≡ pos 0
    → MatchedIf (Between (mark u1 u2 v1) (size u1 u2)) r
    → Matched v1 v2 u1 u2 r
point-matched v1 v2 u1 u2 r still slant line =
    matched-if r (point-share v1 v2 u1 u2 still slant line) (point-once v1 v2 u1 u2 still)
