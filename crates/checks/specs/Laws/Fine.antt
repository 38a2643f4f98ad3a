-- What a check says of a number that it finds fine, and that it finds only such numbers fine. The proofs of callers use these
-- facts.
use Rattle.std.specs.Prelude.{◌≡◌, ◌↔◌, Bool, true, false, not, ◌||◌, [], ◌∷◌, ℕ, T, Float, Ok}
use Rattle.std.proofs.Math.Path.{refl}
use Rattle.std.proofs.Math.Logic.Iff
use Rattle.std.proofs.Common.{true≢false}
use Rattle.std.specs.Float.{nan, inf, fin}
use Rattle.std.specs.Float.Ieee.{of_bits, is_nan, lt}
use Rattle.std.specs.Float.Ieee.Bits.{is_false}
use Rattle.std.specs.Float.Ieee.Scale.{finite}
use Rattle.float_laws.specs.Chains as chains
use Rattle.float_laws.specs.Chains.{finite-real, le_not_lt}
use Rattle.floats.specs.Ops.{◌≺◌, ◌≻◌, ◌≼◌, f0}
use Rattle.floats.specs.F64
use Rattle.checks.specs.declared.fault.Place.{Place}
use Rattle.checks.specs.Number.{is_infinite, outside, is_whole, no_trace}
use Rattle.checks.specs.Each
use Rattle.checks.specs.Limit
use Rattle.checks.specs.RefusalTable
use Rattle.checks.specs.Exactly.{AllNo, test}

-- x is a number, at most `most` in magnitude
pub record Within (most x : Float) : Type 0 where
  pub number : T (finite x)
  pub small : T (F64.abs x ≼ most)

-- x is a number from `least` to `most`
pub record Between (least most x : Float) : Type 0 where
  pub number : T (finite x)
  pub above : T (least ≼ x)
  pub below : T (x ≼ most)

-- ---- what follows from a test that says no
pub to_number : (x : Float) → (is_nan x || is_infinite x) ≡ false → T (finite x)
unfolding is_nan is_infinite
to_number nan h = absurd (true≢false h)
to_number (inf s) h = absurd (true≢false h)
to_number (fin s m e) h = tt

pub of_number : (x : Float) → T (finite x) → (is_nan x || is_infinite x) ≡ false
unfolding is_nan is_infinite
of_number nan t = absurd t
of_number (inf s) t = absurd t
of_number (fin s m e) t = refl

real-abs : (x : Float) → T (finite x) → is_nan (F64.abs x) ≡ false
unfolding is_nan F64.abs
real-abs nan t = absurd t
real-abs (inf s) t = absurd t
real-abs (fin s m e) t = refl

-- if neither is a NaN: x < y is false exactly if y <= x
not-below : (x y : Float) → is_nan x ≡ false → is_nan y ≡ false → ((x ≺ y) ≡ false) ↔ T (y ≼ x)
not-below x y a b = (chains.not-below y x b a, λ t. is_false (x ≺ y) (le_not_lt y x t))

pub not-denied : (b : Bool) → not b ≡ false → T b
not-denied true h = tt
not-denied false h = absurd (true≢false h)

pub neither : (a b : Bool) → ((a || b) ≡ false) ↔ ((a ≡ false) × (b ≡ false))
neither true b = (λ h. absurd (true≢false h), λ h. h.0)
neither false b = (λ h. (refl, h), λ h. h.1)

-- all of three tests say no, of which the first two are for NaN and infinity
three-no : (a b c : Bool) (l m n : ℕ)
    → AllNo (test l a ∷ test m b ∷ test n c ∷ []) ↔ (((a || b) ≡ false) × (c ≡ false))
three-no a b c l m n = (
  λ h. ((neither a b).1 (h.0, h.1.0), h.1.1.0),
  λ h. let both = (neither a b).0 h.0 in (both.0, (both.1, (h.1, tt))),
)

within : (most x : Float) → is_nan most ≡ false
    → (((is_nan x || is_infinite x) ≡ false) × ((F64.abs x ≻ most) ≡ false)) ↔ Within most x
within most x m = (
  λ h.
      let n = to_number x h.0 in
      record { number = n; small = (not-below most (F64.abs x) m (real-abs x n)).0 h.1 },
  λ w. (of_number x w.number, (not-below most (F64.abs x) m (real-abs x w.number)).1 w.small),
)

between : (least most x : Float) → is_nan least ≡ false → is_nan most ≡ false
    → (((is_nan x || is_infinite x) ≡ false) × (((x ≺ least) || (x ≻ most)) ≡ false)) ↔ Between least most x
between least most x l m = (
  λ h.
      let n = to_number x h.0 in
      let r = finite-real x n in
      let o = (neither (x ≺ least) (x ≻ most)).0 h.1 in
      record { number = n; above = (not-below x least r l).0 o.0; below = (not-below most x m r).0 o.1 },
  λ b.
      let r = finite-real x b.number in (
        of_number x b.number,
        (neither (x ≺ least) (x ≻ most)).1 ((not-below x least r l).1 b.above, (not-below most x m r).1 b.below),
      ),
)

-- if it is no NaN, it is at least `least`
not_short : (least x : Float) → is_nan least ≡ false → ((x ≺ least) ≡ false) ↔ (is_nan x ≡ false → T (least ≼ x))
unfolding is_nan lt
not_short least nan l = (λ h r. absurd (true≢false r), λ h. refl)
not_short least (inf s) l = (λ h r. (not-below (inf s) least r l).0 h, λ h. (not-below (inf s) least refl l).1 (h refl))
not_short least (fin s m e) l =
    (λ h r. (not-below (fin s m e) least r l).0 h, λ h. (not-below (fin s m e) least refl l).1 (h refl))

-- neither a NaN nor an infinity is a trace
trace-number : (x : Float) → no_trace x ≡ false → (is_nan x || is_infinite x) ≡ false
unfolding no_trace is_whole is_nan is_infinite
trace-number nan h = absurd (true≢false ((neither (outside f0 Limit.trace_most nan) true).0 h).1)
trace-number (inf s) h = absurd (true≢false ((neither (outside f0 Limit.trace_most (inf s)) true).0 h).1)
trace-number (fin s m e) h = refl

one-no : (a : Bool) (n : ℕ) → AllNo (test n a ∷ []) ↔ (a ≡ false)
one-no a n = (λ h. h.0, λ h. (h, tt))

-- ---- the checks
pub epsilon-fine : (x : Float) → (Each.epsilon x ≡ Ok tt) ↔ Between Limit.epsilon_least Limit.epsilon_most x
unfolding of_bits is_nan
epsilon-fine x =
    Iff.trans (RefusalTable.epsilon x).fine
    (Iff.trans (one-no _ 4) (Iff.trans (neither _ _) (between Limit.epsilon_least Limit.epsilon_most x refl refl)))

module _ (x : Float) (p : Place) where
  pub coordinate-fine : (Each.coordinate x p ≡ Ok tt) ↔ Within Limit.coordinate x
  unfolding of_bits is_nan
  coordinate-fine =
      Iff.trans (RefusalTable.coordinate x p).fine (Iff.trans (three-no _ _ _ 11 12 2) (within Limit.coordinate x refl))

  pub bulge-fine : (Each.bulge x p ≡ Ok tt) ↔ Within Limit.bulge x
  unfolding of_bits is_nan
  bulge-fine = Iff.trans (RefusalTable.bulge x p).fine (Iff.trans (three-no _ _ _ 11 12 3) (within Limit.bulge x refl))

  pub large-bulge-fine : (Each.large_bulge x p ≡ Ok tt) ↔ Within Limit.large_bulge x
  unfolding of_bits is_nan
  large-bulge-fine =
      Iff.trans (RefusalTable.large-bulge x p).fine (Iff.trans (three-no _ _ _ 11 12 3) (within Limit.large_bulge x refl))

  pub radius-fine : (Each.radius x p ≡ Ok tt) ↔ Between Limit.radius_least Limit.radius_most x
  unfolding of_bits is_nan
  radius-fine = Iff.trans (RefusalTable.radius x p).fine
      (Iff.trans (three-no _ _ _ 11 12 9) (between Limit.radius_least Limit.radius_most x refl refl))

  pub center-fine : (Each.center x p ≡ Ok tt) ↔ Within Limit.center x
  unfolding of_bits is_nan
  center-fine = Iff.trans (RefusalTable.center x p).fine (Iff.trans (three-no _ _ _ 11 12 9) (within Limit.center x refl))

  pub trace-fine : (Each.trace x p ≡ Ok tt) ↔ (no_trace x ≡ false)
  unfolding no_trace
  trace-fine = Iff.trans (RefusalTable.trace x p).fine
      (Iff.trans (three-no _ _ _ 11 12 15) (λ h. h.1, λ h. (trace-number x h, h)))

  pub chord-fine : (Each.chord x p ≡ Ok tt) ↔ (is_nan x ≡ false → T (Limit.chord_least ≼ x))
  unfolding of_bits is_nan
  chord-fine = Iff.trans (RefusalTable.chord x p).fine (Iff.trans (one-no _ 5) (not_short Limit.chord_least x refl))
