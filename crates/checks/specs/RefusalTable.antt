-- The scope's table, for one number: which refusal each check gives, and exactly when. x is the number and p its place, which the
-- fault has. Exactly.antt says what `Gives` means: the first test that says yes decides.
use Rattle.std.specs.Prelude.{Bool, not, ◌||◌, [], ◌∷◌, ℕ, Float}
use Rattle.std.proofs.Common.{sym}
use Rattle.std.specs.Float.Ieee.{is_nan}
use Rattle.floats.specs.Ops.{◌≺◌, ◌≻◌, f0}
use Rattle.floats.specs.F64
use Rattle.checks.specs.declared.fault.Item.TheVariants.{Epsilon}
use Rattle.checks.specs.declared.fault.Place.{Place}
use Rattle.checks.specs.Fault.{at, refuse}
use Rattle.checks.specs.Exactly.{test, Gives, gives}
use Rattle.checks.specs.Number.{is_infinite, not_finite, beyond, is_whole, no_trace}
use Rattle.checks.specs.Each
use Rattle.checks.specs.Limit
use Rattle.checks.specs.Laws.Later.{fine-right, later-assoc}

-- one test
alone : (n : ℕ) (says : Bool) (p : Place) → Gives (refuse says n p) p (test n says ∷ [])
alone n says p = gives (refuse says n p) p (test n says ∷ []) (sym (fine-right (refuse says n p)))

module _ (x : Float) where
  -- 4: epsilon is NaN, infinite, below 2^-40 or above 1/2
  pub epsilon : Gives (Each.epsilon x) (at 0 0 Epsilon)
      (test 4 ((is_nan x || is_infinite x) || ((x ≺ Limit.epsilon_least) || (x ≻ Limit.epsilon_most))) ∷ [])
  unfolding Each.epsilon not_finite
  epsilon = alone 4 _ (at 0 0 Epsilon)

module _ (x : Float) (p : Place) where
  -- 11, 12: NaN; infinite
  pub finite : Gives (Each.finite x p) p (test 11 (is_nan x) ∷ test 12 (is_infinite x) ∷ [])
  unfolding Each.finite
  finite = gives (Each.finite x p) p (test 11 (is_nan x) ∷ test 12 (is_infinite x) ∷ []) (simp fine-right)

  -- 11, 12, and then n
  then : (n : ℕ) (says : Bool)
      → Gives (Each.finite_then x says n p) p (test 11 (is_nan x) ∷ test 12 (is_infinite x) ∷ test n says ∷ [])
  unfolding Each.finite_then Each.finite
  then n says =
      gives (Each.finite_then x says n p) p (test 11 (is_nan x) ∷ test 12 (is_infinite x) ∷ test n says ∷ [])
      (simp (later-assoc, fine-right))

  -- 2: a coordinate is above 1,048,576 in magnitude
  pub coordinate : Gives (Each.coordinate x p) p
      (test 11 (is_nan x) ∷ test 12 (is_infinite x) ∷ test 2 (F64.abs x ≻ Limit.coordinate) ∷ [])
  unfolding Each.coordinate beyond
  coordinate = then 2 _

  -- 3: a bulge is above 1 in magnitude
  pub bulge : Gives (Each.bulge x p) p (test 11 (is_nan x) ∷ test 12 (is_infinite x) ∷ test 3 (F64.abs x ≻ Limit.bulge) ∷ [])
  unfolding Each.bulge beyond
  bulge = then 3 _

  -- 3, in the mode of large arcs: a bulge is above 16 in magnitude
  pub large-bulge : Gives (Each.large_bulge x p) p
      (test 11 (is_nan x) ∷ test 12 (is_infinite x) ∷ test 3 (F64.abs x ≻ Limit.large_bulge) ∷ [])
  unfolding Each.large_bulge beyond
  large-bulge = then 3 _

  -- 9: a circle's radius is not in 2^-42..2^47
  pub radius : Gives (Each.radius x p) p
      (test 11 (is_nan x) ∷ test 12 (is_infinite x) ∷ test 9 ((x ≺ Limit.radius_least) || (x ≻ Limit.radius_most)) ∷ [])
  unfolding Each.radius
  radius = then 9 _

  -- 9: a coordinate of a circle's centre is above 2^48 in magnitude
  pub center : Gives (Each.center x p) p (test 11 (is_nan x) ∷ test 12 (is_infinite x) ∷ test 9 (F64.abs x ≻ Limit.center) ∷ [])
  unfolding Each.center beyond
  center = then 9 _

  -- 15: a trace is below 0, above 255, or not whole
  pub trace : Gives (Each.trace x p) p
      (test 11 (is_nan x) ∷ test 12 (is_infinite x)
      ∷ test 15 (((x ≺ f0) || (x ≻ Limit.trace_most)) || not (is_whole x)) ∷ [])
  unfolding Each.trace no_trace
  trace = then 15 _

  -- 5: an arc's computed chord length is below 2^-40 (a NaN is not below it)
  pub chord : Gives (Each.chord x p) p (test 5 (x ≺ Limit.chord_least) ∷ [])
  unfolding Each.chord
  chord = alone 5 (x ≺ Limit.chord_least) p
