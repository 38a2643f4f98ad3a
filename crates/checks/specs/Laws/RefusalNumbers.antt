-- A fault that a check finds fits into a word: its number, its owner and its index are small. So does the first fault of a list
-- of checks, if later checks are asked only where the earlier ones are fine.
use Rattle.checks.specs.Checked.{Checked}
use Rattle.std.specs.Prelude.{◌≡◌, refl, Bool, cond, List, ◌++◌, ℕ, ◌<◌, Float, Err, Ok}
use Rattle.std.proofs.Common.{sym, subst, arith}
use Rattle.std.proofs.Math.Bool.{true, false}
use Rattle.plane.specs.declared.pline_vertex.PlineVertex.{PlineVertex}
use Rattle.plane.specs.PlineVertex.{bulge_is_zero}
use Rattle.checks.specs.declared.fault.Item.{Item}
use Rattle.checks.specs.declared.fault.Item.TheVariants.{Chord}
use Rattle.checks.specs.declared.fault.Place.{Place}
use Rattle.checks.specs.declared.fault.Fault.{Fault}
use Rattle.checks.specs.Fault.{at, refuse, later}
use Rattle.checks.specs.Arc.{arc_chord}
use Rattle.checks.specs.Each
use Rattle.checks.specs.First.{first}
use Rattle.checks.specs.Refusal
use Rattle.checks.specs.Word.{owners, indices}
use Rattle.checks.specs.Words.{FitsPlace, Fits}
use Rattle.checks.specs.Laws.Chains.{first-append}

-- a check that is fine, or whose fault fits
pub record Small (c : Checked) : Type 0 where
  pub fits : (f : Fault) → c ≡ Err f → Fits f

pub fine : Small (Ok tt)
fine = record { fits = λ f e. cc }

pub refused : (test : Bool) (n : ℕ) (p : Place) → 1 < n → n < Refusal.numbers_below → FitsPlace p → Small (refuse test n p)
unfolding refuse
refused true n p k h l = record { fits = λ f e. subst Fits (same e) (record { known = k; number = h; place = l }) }
  where
    same : {f g : Fault} → ◌≡◌ {A = Checked} (Err f) (Err g) → f ≡ g
    same e = cc
refused false n p k h l = fine

both : (a b : Checked) → Small a → (a ≡ Ok tt → Small b) → Small (later a b)
unfolding later
both (Ok _) b ha hb = hb refl
both (Err f) b ha hb = ha

-- the second is asked only where the first is fine
pub then : {a b : Checked} → Small a → (a ≡ Ok tt → Small b) → Small (later a b)
then {a} {b} = both a b

pub and : {a b : Checked} → Small a → Small b → Small (later a b)
and {a} {b} ha hb = both a b ha (λ e. hb)

-- ---- the places of the calls' numbers
pub place : (owner index : ℕ) (item : Item) → owner < owners → index < indices → FitsPlace (at owner index item)
place owner index item h l = record { owner = h; index = l }

module _ (item : Item) where
  pub at-0-0 : FitsPlace (at 0 0 item)
  at-0-0 = place 0 0 item (omega arith) (omega arith)

  pub at-0-1 : FitsPlace (at 0 1 item)
  at-0-1 = place 0 1 item (omega arith) (omega arith)

  pub at-1-0 : FitsPlace (at 1 0 item)
  at-1-0 = place 1 0 item (omega arith) (omega arith)

  pub at-1-1 : FitsPlace (at 1 1 item)
  at-1-1 = place 1 1 item (omega arith) (omega arith)

  pub at-2-0 : FitsPlace (at 2 0 item)
  at-2-0 = place 2 0 item (omega arith) (omega arith)

  pub at-3-0 : FitsPlace (at 3 0 item)
  at-3-0 = place 3 0 item (omega arith) (omega arith)

-- ---- each number's check
pub epsilon : (x : Float) → Small (Each.epsilon x)
unfolding Each.epsilon
epsilon x = refused _ Refusal.epsilon _ (omega arith) (omega arith) (at-0-0 _)

module _ (x : Float) (p : Place) (l : FitsPlace p) where
  finite : Small (Each.finite x p)
  unfolding Each.finite
  finite =
      and (refused _ Refusal.nan p (omega arith) (omega arith) l)
      (refused _ Refusal.infinite p (omega arith) (omega arith) l)

  pub coordinate : Small (Each.coordinate x p)
  unfolding Each.coordinate Each.finite_then
  coordinate = and finite (refused _ Refusal.coordinate p (omega arith) (omega arith) l)

  pub bulge : Small (Each.bulge x p)
  unfolding Each.bulge Each.finite_then
  bulge = and finite (refused _ Refusal.bulge p (omega arith) (omega arith) l)

  pub large-bulge : Small (Each.large_bulge x p)
  unfolding Each.large_bulge Each.finite_then
  large-bulge = and finite (refused _ Refusal.bulge p (omega arith) (omega arith) l)

  pub trace : Small (Each.trace x p)
  unfolding Each.trace Each.finite_then
  trace = and finite (refused _ Refusal.trace p (omega arith) (omega arith) l)

  pub radius : Small (Each.radius x p)
  unfolding Each.radius Each.finite_then
  radius = and finite (refused _ Refusal.circle p (omega arith) (omega arith) l)

  pub center : Small (Each.center x p)
  unfolding Each.center Each.finite_then
  center = and finite (refused _ Refusal.circle p (omega arith) (omega arith) l)

  chord : (is-line : Bool) → Small (cond is-line (Ok tt) (Each.chord x p))
  unfolding Each.chord
  chord true = fine
  chord false = refused _ Refusal.chord p (omega arith) (omega arith) l

pub arc-chord : (a b : PlineVertex) (owner index : ℕ) → FitsPlace (at owner index Chord) → Small (arc_chord a b owner index)
unfolding arc_chord
arc-chord a b owner index l = chord _ _ l (bulge_is_zero a)

pub ruleset smalls =
    (and, fine, epsilon, coordinate, bulge, radius, center, arc-chord, at-0-0, at-0-1, at-1-0, at-1-1, at-2-0, at-3-0)

-- ---- a list of checks
pub append-then : (cs ds : List Checked) → Small (first cs) → (first cs ≡ Ok tt → Small (first ds)) → Small (first (cs ++ ds))
append-then cs ds a b = subst Small (sym (first-append cs ds)) (then a b)

pub append : (cs ds : List Checked) → Small (first cs) → Small (first ds) → Small (first (cs ++ ds))
append cs ds a b = append-then cs ds a (λ e. b)
