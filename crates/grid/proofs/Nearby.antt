-- A point within 1 / 2 ^ 30 of a grid point, in each coordinate, is near the vertex that stands there, by every epsilon of the
-- promise. Points that are such: the grid point itself, and one that close to a crossing point that is a grid point.
use Rattle.std.specs.Prelude.{◌≡◌, refl, Bool, true, ◌&&◌, [], ◌∷◌, ℕ, ◌+◌, ◌*◌, ◌^◌, ◌≤◌, ◌<◌, ℤ, pos, nat_abs, ◌-ℤ◌, ◌*ℤ◌, Float}
use Rattle.std.proofs.Common.{sym, ◌∙◌, subst, le_of_mul-le-mul_right, arith}
use Rattle.std.proofs.Math.Path.{ap}
use Rattle.std.specs.Float.{nan, inf, fin}
use Rattle.std.specs.Float.Ieee.{down}
use Rattle.std.specs.Float.Ieee.Fits.{down_pos}
use Rattle.plane.specs.Fuzzy
use Rattle.plane.specs.Vector2 as vector2
use Rattle.plane.specs.PlineVertex as vertex
use Rattle.plane.specs.declared.vector2.Vector2.{Vector2}
use Rattle.plane.specs.declared.pline_vertex.PlineVertex.{PlineVertex}
use Rattle.grid.specs.Promise.{Is, Spot, Point, On, NearExact}
use Rattle.grid.proofs.Accepted.{size-mul}
use Rattle.grid.specs.Plane.Whole.{diff, whole, naturals, gain, loss}
use Rattle.grid.specs.Plane.Ring.{combine, sub-of-equal, var, num, ◌⊟◌, ◌⊠◌}
use Rattle.grid.specs.Plane.Order.{cancel}
use Rattle.grid.proofs.Plane.Spots.{Same, IsSpot}
use Rattle.grid.specs.Floats.Small.{Vec}
use Rattle.grid.specs.Floats.Zero.{Eps}
use Rattle.grid.specs.Floats.Length.{gap}
use Rattle.grid.specs.Floats.Joint.{near-whole, There}
use Rattle.grid.proofs.Joined.{is-diff, whole-diff, size-gap, At}

-- ---- coordinates

-- a float is one number
one_number : (x : Float) (a b : ℤ) → Is x a 1 → Is x b 1 → a ≡ b
one_number nan a b h k = absurd h
one_number (inf s) a b h k = absurd h
one_number (fin s m e) a b h k = cancel a b (down e) (down_pos e) (sym h ∙ k)

pub one_spot : (v : PlineVertex) (a b : Spot) → On v a → On v b → Same a b
one_spot v a b h k = (one_number v.x a.x b.x h.0 k.0, one_number v.y a.y b.y h.2 k.2)

-- close to a point that is the whole number a
near-a : (c : Float) (x a : ℤ) (over : ℕ) → 0 < over → x ≡ a *ℤ pos over → NearExact c x over → NearExact c a 1
near-a c x a over O e h =
    record {
      a = h.a;
      d = h.d;
      positive = h.positive;
      value = h.value;
      near = le_of_mul-le-mul_right {m = nat_abs z * 1073741824} {n = h.d * 1} {k = over} (less (nat_abs z) over h.d most) O;
    }
  where
    z : ℤ
    z = h.a *ℤ pos 1 -ℤ a *ℤ pos h.d

    wide : h.a *ℤ pos over -ℤ x *ℤ pos h.d ≡ z *ℤ pos over
    wide =
        let A = var 0 in let X = var 1 in let B = var 2 in let O = var 3 in let D = var 4 in
        combine (h.a ∷ x ∷ a ∷ pos over ∷ pos h.d ∷ []) (A ⊠ O ⊟ X ⊠ D) ((A ⊠ num 1 ⊟ B ⊠ D) ⊠ O)
        (num 0 ⊟ D) X (B ⊠ O) e tt

    most : nat_abs z * over * 1073741824 ≤ h.d * over
    most = subst (λ (k : ℕ). k * 1073741824 ≤ h.d * over) (ap nat_abs wide ∙ size-mul z (pos over)) h.near

    less : (n o d : ℕ) → n * o * 1073741824 ≤ d * o → n * 1073741824 * o ≤ d * 1 * o
    less n o d l = omega arith

-- exactly there
at_a : (c : Float) (a : ℤ) → Is c a 1 → NearExact c a 1
at_a c a h = record { a = a; d = 1; positive = omega arith; value = h; near = none (a *ℤ pos 1) }
  where
    none : (b : ℤ) → nat_abs (b -ℤ b) * 1073741824 ≤ 1 * 1
    none b = subst (λ (z : ℤ). nat_abs z * 1073741824 ≤ 1 * 1) (sym (sub-of-equal b b refl)) (omega arith)

-- ---- the point o is close to the grid point a
abbrev pub Close : Vector2 → Spot → Type 0
Close o a = NearExact o.x a.x 1 × NearExact o.y a.y 1

pub close-there : (o v : Vector2) (A : Vec 20 v) (a : Spot) → At 20 v A a → There o v A → Close o a
close-there o v A a at (x, y) = (
  at_a o.x a.x (subst (λ (z : ℤ). Is o.x z 1) (sym at.at_x) ((is-diff o.x _ _ 1).1 x)),
  at_a o.y a.y (subst (λ (z : ℤ). Is o.y z 1) (sym at.at_y) ((is-diff o.y _ _ 1).1 y)),
)

pub close-cross : (o : Vector2) (P : Point) (a : Spot) → IsSpot P a → NearExact o.x P.x P.over
    → NearExact o.y P.y P.over
    → Close o a
close-cross o P a (ex, ey) x y = (
  near-a o.x P.x a.x P.over P.positive ex x,
  near-a o.y P.y a.y P.over P.positive ey y,
)

pub close-same : (o : Vector2) (a b : Spot) → Same a b → Close o a → Close o b
close-same o a b (ex, ey) (x, y) =
    (subst (λ (z : ℤ). NearExact o.x z 1) ex x, subst (λ (z : ℤ). NearExact o.y z 1) ey y)

-- ---- what is close is near
module _ (e : Float) (top den : ℕ) (E : Eps e top den) where
  near-float : (c x : Float) (a : ℤ) → NearExact c a 1 → Is x a 1 → Fuzzy.fuzzy_eq_eps c x e ≡ true
  near-float c x a h is =
      near-whole e top den E c x (gain h.a) (loss h.a) h.d (gain a) (loss a) h.positive
      (whole-diff c h.a h.d h.value) (whole-diff x a 1 is) up.0 up.1
    where
      P : ℕ
      P = gain h.a + loss a * h.d

      N : ℕ
      N = loss h.a + gain a * h.d

      off-is : (b a : ℤ) (p n q m d : ℕ) → b ≡ diff p n → a ≡ diff q m
          → b *ℤ pos 1 -ℤ a *ℤ pos d ≡ diff (p + m * d) (n + q * d)
      off-is b a p n q m d e f = rw (e, f) (simp naturals (omega arith))

      close : (P N d k : ℕ) → k ≡ gap P N → k * 1073741824 ≤ d * 1
          → (2 ^ 30 * P ≤ 2 ^ 30 * N + d) × (2 ^ 30 * N ≤ 2 ^ 30 * P + d)
      close P N d k e l = (omega arith, omega arith)

      up : (2 ^ 30 * P ≤ 2 ^ 30 * N + h.d) × (2 ^ 30 * N ≤ 2 ^ 30 * P + h.d)
      up = close P N h.d _
          (size-gap _ P N (off-is h.a a _ _ _ _ h.d (sym (whole h.a)) (sym (whole a)))) h.near

  pub near-vertex : (o : Vector2) (w : PlineVertex) (a : Spot) → Close o a → On w a → vector2.fuzzy_eq_eps o (vertex.pos w) e ≡ true
  unfolding vector2.fuzzy_eq_eps vertex.pos
  near-vertex o w a (x, y) h =
      ap (λ (z : Bool). z && Fuzzy.fuzzy_eq_eps o.y w.y e) (near-float o.x w.x a.x x h.0)
      ∙ near-float o.y w.y a.y y h.2
