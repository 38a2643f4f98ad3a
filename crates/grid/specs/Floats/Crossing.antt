-- The line kernel on grid segments that are not parallel, in whole numbers. It answers TrueIntersect or FalseIntersect with two
-- parameters, each one rounding of an exact quotient over the perp dot. It answers TrueIntersect if both exact parameters lie
-- from 0 to 1, and only if both lie less than two epsilons beyond their segment.
use Rattle.std.specs.Prelude.{◌≡◌, ◌⊎◌, ℕ, ◌+◌, ◌*◌, ◌≤◌, Bool, cond, ◌||◌, Float}
use Rattle.std.proofs.Math.Path.{refl}
use Rattle.std.proofs.Common.{ap, arith}
use Rattle.std.proofs.Math.Logic.{inl, inr}
use Rattle.std.proofs.Math.Bool.{true, false, not}
use Rattle.std.proofs.lemmas.Bool.{false≢true}
use Rattle.floats.specs.Ops.{◌⊘◌}
use Rattle.plane.specs.Vector2 as vector2
use Rattle.plane.specs.declared.vector2.Vector2.{Vector2}
use Rattle.ranges.specs.Range.{on_segment}
use Rattle.crossing.specs.LineLine.{crossing}
use Rattle.crossing.specs.declared.line_line_intr.LineLineIntr.{LineLineIntr}
use Rattle.crossing.specs.declared.line_line_intr.LineLineIntr.TheVariants.{TrueIntersect, FalseIntersect}
use Rattle.grid.specs.Floats.Small.{Vec, perp}
use Rattle.grid.specs.Floats.Zero.{Eps}
use Rattle.grid.specs.Floats.Length.{gap, square, IsZero, Long, long}
use Rattle.grid.specs.Floats.Reach.{Reaches}
use Rattle.grid.specs.Floats.Range.{within-yes, within-says}
use Rattle.grid.specs.Floats.Ratio.{Ratio, ratio}

-- ---- if the perp dot is not zero, neither segment is a point
no-point : (v u : Vector2) (A : Vec 21 v) (B : Vec 21 u) → ((perp v u A B).p ≡ (perp v u A B).n → ⊥) → IsZero v A → ⊥
no-point v u A B h (e, f) = h (plain A.x.p A.x.n A.y.p A.y.n B.x.p B.x.n B.y.p B.y.n e f)
  where
    plain : (a b c d p n q k : ℕ) → a ≡ b → c ≡ d → a * q + b * k + (c * n + d * p) ≡ a * k + b * q + (c * p + d * n)
    plain a b c d p n q k e f =
        omega (arith, ap (λ (z : ℕ). z * q) e, ap (λ (z : ℕ). z * k) e, ap (λ (z : ℕ). z * p) f, ap (λ (z : ℕ). z * n) f)

-- the perp dot of u and v is that of v and u with the other sign
turned-perp : (v u : Vector2) (A : Vec 21 v) (B : Vec 21 u) → (perp u v B A).p ≡ (perp u v B A).n
    → (perp v u A B).p ≡ (perp v u A B).n
turned-perp v u A B = plain A.x.p A.x.n A.y.p A.y.n B.x.p B.x.n B.y.p B.y.n
  where
    plain : (a b c d p n q k : ℕ) → p * c + n * d + (q * b + k * a) ≡ p * d + n * c + (q * a + k * b)
        → a * q + b * k + (c * n + d * p) ≡ a * k + b * q + (c * p + d * n)
    plain a b c d p n q k e = omega arith

-- ---- the answer
-- from 0 to 1
abbrev pub Inside : ℕ → ℕ → ℕ → Type 0
Inside P N D = (N ≤ P) × (P ≤ N + D)

-- r is the answer for the parameters t1 on a segment with the square s1, and t2 on one with the square s2
pub record Crossed (r : LineLineIntr) (s1 s2 num den : ℕ) (P1 N1 D1 P2 N2 D2 : ℕ) (t1 t2 : Float) : Type 0 where
  pub answer : ((r ≡ TrueIntersect t1 t2) × Reaches s1 num den P1 N1 D1 × Reaches s2 num den P2 N2 D2)
      ⊎ (r ≡ FalseIntersect t1 t2)
  pub inside : Inside P1 N1 D1 → Inside P2 N2 D2 → r ≡ TrueIntersect t1 t2

module _ (e : Float) (num den : ℕ) (h : Eps e num den) (v u w : Vector2) (A : Vec 21 v) (B : Vec 21 u) (C : Vec 21 w)
    (not-level : (perp v u A B).p ≡ (perp v u A B).n → ⊥) where
  abbrev t1 : Float
  t1 = vector2.perp_dot u w ⊘ vector2.perp_dot v u

  abbrev t2 : Float
  t2 = vector2.perp_dot v w ⊘ vector2.perp_dot v u

  pub first : Ratio 44 t1 (perp u w B C).p (perp u w B C).n (perp v u A B).p (perp v u A B).n
  first = ratio 44 (vector2.perp_dot u w) (vector2.perp_dot v u) (perp u w B C) (perp v u A B) not-level

  pub second : Ratio 44 t2 (perp v w A C).p (perp v w A C).n (perp v u A B).p (perp v u A B).n
  second = ratio 44 (vector2.perp_dot v w) (vector2.perp_dot v u) (perp v w A C) (perp v u A B) not-level

  -- the size of the perp dot, the divisor of both parameters
  abbrev pub base : ℕ
  base = gap (perp v u A B).p (perp v u A B).n

  pub long-v : Long v (square v A)
  long-v = long v A (no-point v u A B not-level)

  long-u : Long u (square u B)
  long-u = long u B (no-point u v B A (λ e. not-level (turned-perp v u A B e)))

  pub crossing-says : Crossed (crossing v u w (vector2.perp_dot v u) e) (square v A) (square u B) num den
      first.P first.N base second.P second.N base t1 t2
  unfolding crossing
  crossing-says = record {
    answer = by_tests (on_segment t1 v e) (on_segment t2 u e)
        (within-says e num den h v (square v A) long-v t1 first.P first.N base first.place)
        (within-says e num den h u (square u B) long-u t2 second.P second.N base second.place);
    inside = λ x y. sure (on_segment t1 v e) (on_segment t2 u e)
        (within-yes e num den h v (square v A) long-v t1 first.P first.N base first.place x.0 x.1)
        (within-yes e num den h u (square u B) long-u t2 second.P second.N base second.place y.0 y.1);
  }
    where
      by_tests : (a b : Bool) → (a ≡ true → Reaches (square v A) num den first.P first.N base)
          → (b ≡ true → Reaches (square u B) num den second.P second.N base)
          → ((cond (not a || not b) (FalseIntersect t1 t2) (TrueIntersect t1 t2) ≡ TrueIntersect t1 t2)
          × Reaches (square v A) num den first.P first.N base
          × Reaches (square u B) num den second.P second.N base)
          ⊎ (cond (not a || not b) (FalseIntersect t1 t2) (TrueIntersect t1 t2) ≡ FalseIntersect t1 t2)
      by_tests true true x y = inl (refl, x refl, y refl)
      by_tests true false x y = inr refl
      by_tests false b x y = inr refl

      sure : (a b : Bool) → a ≡ true → b ≡ true
          → cond (not a || not b) (FalseIntersect t1 t2) (TrueIntersect t1 t2) ≡ TrueIntersect t1 t2
      sure true true x y = refl
      sure true false x y = absurd (false≢true y)
      sure false b x y = absurd (false≢true x)
