-- Bounded points: their sums, products and lengths, the point of a parameter, and the parameter of a point on a segment that is
-- no point.
use Rattle.std.specs.Prelude.{◌≡◌, ℕ, suc, ◌+◌, Bool, cond, ◌&&◌, T, leb, Float}
use Rattle.std.proofs.Math.Path.{refl, ap}
use Rattle.std.proofs.Common.{sym, ◌∙◌, subst, true≢false}
use Rattle.std.proofs.Math.Bool.{true, false}
use Rattle.std.specs.Float.{binary64}
use Rattle.std.specs.Float.Ieee.{is_nan, lt, le, eq}
use Rattle.std.specs.Float.Ieee.Fits.{mul-fits}
use Rattle.float_laws.specs.Tests.{left-of}
use Rattle.float_laws.specs.Chains.{finite-real, not-below, not-both, lt-le}
use Rattle.float_laws.specs.Chains.{le_trans as float-trans}
use Rattle.floats.specs.Ops.{◌⊖◌, ◌⊗◌, ◌⊘◌, ◌≺◌, ◌≼◌, f0}
use Rattle.floats.specs.F64
use Rattle.plane.specs.Vector2 as vector2
use Rattle.plane.specs.Fuzzy as fuzzy
use Rattle.plane.specs.BaseMath.{point_from_parametric, parametric_from_point}
use Rattle.plane.specs.declared.vector2.Vector2.{Vector2}
use Rattle.checks.specs.Laws.Chains.{PointFine}
use Rattle.checks.specs.Laws.Lengths.{coordinate-small}
use Rattle.float_laws.specs.Sizes.{Small, Sizable, small-finite, neg_small}
use Rattle.floats.specs.Laws.Sizes.{square-least, sum-least}
use Rattle.finite.specs.Doubles.{Epsilon, wider, plus, minus, times, over}
use Rattle.finite.specs.Doubles.{real-abs, not-under, not-near, near-turned}

-- both coordinates at most 2 ^ k in size
pub record SmallPoint (k : ℕ) (p : Vector2) : Type 0 where
  pub at_x : Small k p.x
  pub at_y : Small k p.y

pub point-small : (p : Vector2) → PointFine p.x p.y → SmallPoint 20 p
point-small p f = record { at_x = coordinate-small p.x f.at_x; at_y = coordinate-small p.y f.at_y }

pub point-of : {k : ℕ} {x y : Float} → Small k x → Small k y → SmallPoint k (vector2.new x y)
unfolding vector2.new
point-of a b = record { at_x = a; at_y = b }

pub point-wider : {i : ℕ} {p : Vector2} → SmallPoint i p → (k : ℕ) → T (leb i k) → SmallPoint k p
point-wider A k t = record { at_x = wider A.at_x k t; at_y = wider A.at_y k t }

module _ {i j : ℕ} {p q : Vector2} (A : SmallPoint i p) (B : SmallPoint j q) where
  pub add-point : (k : ℕ) → T (leb i k && (leb j k && leb (suc k) 1023)) → SmallPoint (suc k) (vector2.add p q)
  unfolding vector2.add
  add-point k t = record { at_x = plus A.at_x B.at_x k t; at_y = plus A.at_y B.at_y k t }

  pub sub-point : (k : ℕ) → T (leb i k && (leb j k && leb (suc k) 1023)) → SmallPoint (suc k) (vector2.sub p q)
  unfolding vector2.sub
  sub-point k t = record { at_x = minus A.at_x B.at_x k t; at_y = minus A.at_y B.at_y k t }

pub scale-point : {i j : ℕ} {p : Vector2} {t : Float} → SmallPoint i p → Small j t → T (leb (i + j) 1023)
    → SmallPoint (i + j) (vector2.scale p t)
unfolding vector2.scale
scale-point A B r = record { at_x = times A.at_x B r; at_y = times A.at_y B r }

pub perp-small : {k : ℕ} {p : Vector2} → SmallPoint k p → SmallPoint k (vector2.perp p)
unfolding vector2.perp
perp-small {k} {p} A = record { at_x = neg_small k p.y A.at_y; at_y = A.at_x }

-- ---- products and the length
module _ {i j : ℕ} {p q : Vector2} (A : SmallPoint i p) (B : SmallPoint j q)
    (r : T (leb (i + j) 1023)) (t : T (leb (i + j) (i + j) && (leb (i + j) (i + j) && leb (suc (i + j)) 1023))) where
  pub dot-small : Small (suc (i + j)) (vector2.dot p q)
  dot-small = plus (times A.at_x B.at_x r) (times A.at_y B.at_y r) (i + j) t

  pub perp-dot-small : Small (suc (i + j)) (vector2.perp_dot p q)
  perp-dot-small = minus (times A.at_x B.at_y r) (times A.at_y B.at_x r) (i + j) t

-- a dot product with itself is not below zero, so it has a root
pub dot-least : (k : ℕ) (p : Vector2) → SmallPoint k p → T (leb (k + k) 1023) → T (f0 ≼ vector2.dot p p)
dot-least k p A r =
    sum-least (k + k) (k + k) (p.x ⊗ p.x) (p.y ⊗ p.y) (times A.at_x A.at_x r) (times A.at_y A.at_y r)
    (mul-fits binary64 p.x p.x) (mul-fits binary64 p.y p.y) (square-least k p.x A.at_x)
    (square-least k p.y A.at_y)

-- ---- the point of a parameter
pub parametric-point : (p q : Vector2) (t : Float) → SmallPoint 20 p → SmallPoint 20 q → Small 600 t
    → SmallPoint 622 (point_from_parametric p q t)
unfolding point_from_parametric
parametric-point p q t A B C = add-point A (scale-point (sub-point B A 20 tt) C tt) 621 tt

-- ---- near zero, by the test's name
pub not-near-zero : (k : ℕ) (x eps : Float) → Small k x → Epsilon eps → fuzzy.fuzzy_eq_zero_eps x eps ≡ false → Sizable 40 x
unfolding fuzzy.fuzzy_eq_zero_eps
not-near-zero k x eps w E e = not-near k x eps w E e

-- ---- a segment that is no point
lt-then-le : (x y : Float) → T (x ≺ y) → T (x ≼ y)
unfolding le
lt-then-le x y h = left-of (lt x y) (eq x y) h

-- of two sizes that are not both below epsilon, the greater is not
module _ (k : ℕ) (x y eps : Float) (A : Small k x) (B : Small k y) (E : Epsilon eps)
    (none : ((F64.abs x ≺ eps) && (F64.abs y ≺ eps)) ≡ false) where
  eps-real : is_nan eps ≡ false
  eps-real = finite-real eps E.number

  pub second-sizable : (F64.abs x ≺ F64.abs y) ≡ true → Sizable 40 y
  second-sizable c = go (F64.abs x ≺ eps) refl (F64.abs y ≺ eps) refl none
    where
      go : (a : Bool) → (F64.abs x ≺ eps) ≡ a → (b : Bool) → (F64.abs y ≺ eps) ≡ b → (a && b) ≡ false → Sizable 40 y
      go a e false f n = not-near k y eps B E f
      go true e true f n = absurd (true≢false n)
      go false e true f n =
          absurd (not-both eps (F64.abs x) (not-under k x eps A eps-real e)
          (lt-le (F64.abs x) (F64.abs y) eps (subst T (sym c) tt) (lt-then-le (F64.abs y) eps (subst T (sym f) tt))))

  pub first-sizable : (F64.abs x ≺ F64.abs y) ≡ false → Sizable 40 x
  first-sizable c = go (F64.abs x ≺ eps) refl (F64.abs y ≺ eps) refl none
    where
      go : (a : Bool) → (F64.abs x ≺ eps) ≡ a → (b : Bool) → (F64.abs y ≺ eps) ≡ b → (a && b) ≡ false → Sizable 40 x
      go false e b f n = not-near k x eps A E e
      go true e true f n = absurd (true≢false n)
      go true e false f n =
          absurd (not-both eps (F64.abs x)
          (float-trans eps (F64.abs y) (F64.abs x) (not-under k y eps B eps-real f)
          (not-below (F64.abs y) (F64.abs x) (real-abs y (small-finite k y B)) (real-abs x (small-finite k x A)) c))
          (subst T (sym e) tt))

-- the differences of the ends, as the code takes them
module _ (p q : Vector2) (eps : Float) (A : SmallPoint 20 p) (B : SmallPoint 20 q) (E : Epsilon eps)
    (apart : vector2.fuzzy_eq_eps p q eps ≡ false) where
  pub sides : ((F64.abs (q.x ⊖ p.x) ≺ eps) && (F64.abs (q.y ⊖ p.y) ≺ eps)) ≡ false
  unfolding vector2.fuzzy_eq_eps fuzzy.fuzzy_eq_eps
  sides =
      ap (λ (b : Bool). b && (F64.abs (q.y ⊖ p.y) ≺ eps)) (near-turned 20 q.x p.x eps B.at_x A.at_x E.number tt)
      ∙ ap (λ (b : Bool). (F64.abs (p.x ⊖ q.x) ≺ eps) && b)
      (near-turned 20 q.y p.y eps B.at_y A.at_y E.number tt)
      ∙ apart

  -- the parameter of a point divides by the greater difference
  pub parameter-small : (j : ℕ) (point : Vector2) (e : Float) → SmallPoint j point
      → T (leb j (j + 20) && (leb 20 (j + 20) && leb (suc (j + 20)) 1023)) → T (leb (suc (j + 20) + 40) 1023)
      → Small (suc (j + 20) + 40) (parametric_from_point p q point e)
  unfolding parametric_from_point
  parameter-small j point e C r t = go (F64.abs (q.x ⊖ p.x) ≺ F64.abs (q.y ⊖ p.y)) refl
    where
      go : (b : Bool) → (F64.abs (q.x ⊖ p.x) ≺ F64.abs (q.y ⊖ p.y)) ≡ b
          → Small (suc (j + 20) + 40)
          (cond b ((point.y ⊖ p.y) ⊘ (q.y ⊖ p.y)) ((point.x ⊖ p.x) ⊘ (q.x ⊖ p.x)))
      go true c =
          over (minus C.at_y A.at_y (j + 20) r)
          (second-sizable 21 (q.x ⊖ p.x) (q.y ⊖ p.y) eps (minus B.at_x A.at_x 20 tt) (minus B.at_y A.at_y 20 tt) E
          sides c) t
      go false c =
          over (minus C.at_x A.at_x (j + 20) r)
          (first-sizable 21 (q.x ⊖ p.x) (q.y ⊖ p.y) eps (minus B.at_x A.at_x 20 tt) (minus B.at_y A.at_y 20 tt) E
          sides c) t
