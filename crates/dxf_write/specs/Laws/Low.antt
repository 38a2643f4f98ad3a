-- The faults of a path's own checks have numbers below 20: those of an export's other checks are 23 and 24.
use Rattle.checks.specs.Checked.{Checked}
use Rattle.std.specs.Prelude.{◌≡◌, ℕ, zero, suc, ◌+◌, ◌<◌, Bool, true, false, cond, List, ◌++◌, Float, Err, Ok}
use Rattle.std.proofs.Common.{sym, ap, subst, true≢false, arith}
use Rattle.plane.specs.declared.pline_vertex.PlineVertex.{PlineVertex}
use Rattle.plane.specs.PlineVertex.{bulge_is_zero}
use Rattle.checks.specs.declared.fault.Place.{Place}
use Rattle.checks.specs.declared.fault.Fault.{Fault}
use Rattle.checks.specs.Fault.{refuse, later}
use Rattle.checks.specs.Refusal
use Rattle.checks.specs.Each
use Rattle.checks.specs.Arc.{arc_chord}
use Rattle.checks.specs.First.{first}
use Rattle.checks.specs.Laws.Chains.{first-append}
use Rattle.paths.specs.Path.{vertex_count, vertex, trace as trace_of}
use Rattle.paths.specs.Segments.{segment_count, segment_from}
use Rattle.paths.specs.Shape
use Rattle.paths.specs.Check.{along, of_vertex, of_segment, vertex_checks, arc_checks}
use Rattle.dxf_write.specs.Export.{checks_of}

-- the first number that is no path's
abbrev pub numbers_below : ℕ
numbers_below = 20

-- a check that is fine, or whose fault has such a number
pub record Low (c : Checked) : Type 0 where
  pub below : (f : Fault) → c ≡ Err f → f.number < numbers_below

pub fine : Low (Ok tt)
fine = record { below = λ f e. absurd (never e) }
  where
    is-bad : Checked → Bool
    is-bad (Ok _) = false
    is-bad (Err g) = true

    never : {f : Fault} → ◌≡◌ {A = Checked} (Ok tt) (Err f) → ⊥
    never {f} e = true≢false (sym (ap is-bad e))

pub refused : (test : Bool) (n : ℕ) (p : Place) → n < numbers_below → Low (refuse test n p)
unfolding refuse
refused true n p h = record { below = λ f e. subst (λ (m : ℕ). m < numbers_below) (ap (number_of n) e) h }
  where
    number_of : ℕ → Checked → ℕ
    number_of n (Ok _) = n
    number_of n (Err g) = g.number
refused false n p h = fine

both : (a b : Checked) → Low a → Low b → Low (later a b)
unfolding later
both (Ok _) b ha hb = hb
both (Err f) b ha hb = ha

pub and : {a b : Checked} → Low a → Low b → Low (later a b)
and {a} {b} ha hb = both a b ha hb

pub append : (cs ds : List Checked) → Low (first cs) → Low (first ds) → Low (first (cs ++ ds))
append cs ds a b = subst Low (sym (first-append cs ds)) (and a b)

pub each : (checks : ℕ → List Checked) → ((i : ℕ) → Low (first (checks i))) → (i k : ℕ) → Low (first (along checks i k))
each checks low i zero = fine
each checks low i (suc k) = append (checks i) (along checks (i + 1) k) (low i) (each checks low (i + 1) k)

-- ---- each number's check

module _ (x : Float) (p : Place) where
  finite : Low (Each.finite x p)
  unfolding Each.finite
  finite = and (refused _ Refusal.nan p (omega arith)) (refused _ Refusal.infinite p (omega arith))

  pub coordinate : Low (Each.coordinate x p)
  unfolding Each.coordinate Each.finite_then
  coordinate = and finite (refused _ Refusal.coordinate p (omega arith))

  pub bulge : Low (Each.bulge x p)
  unfolding Each.bulge Each.finite_then
  bulge = and finite (refused _ Refusal.bulge p (omega arith))

  pub large-bulge : Low (Each.large_bulge x p)
  unfolding Each.large_bulge Each.finite_then
  large-bulge = and finite (refused _ Refusal.bulge p (omega arith))

  pub trace : Low (Each.trace x p)
  unfolding Each.trace Each.finite_then
  trace = and finite (refused _ Refusal.trace p (omega arith))

  chord : (is-line : Bool) → Low (cond is-line (Ok tt) (Each.chord x p))
  unfolding Each.chord
  chord true = fine
  chord false = refused _ Refusal.chord p (omega arith)

pub arc-chord : (a b : PlineVertex) (owner index : ℕ) → Low (arc_chord a b owner index)
unfolding arc_chord
arc-chord a b owner index = chord _ _ (bulge_is_zero a)

-- ---- a path

pub shape : (path : List Float) → Low (Shape.shape path 0)
unfolding Shape.shape
shape path = and (refused _ Refusal.path_length _ (omega arith)) (refused _ Refusal.vertices _ (omega arith))

module _ (path : List Float) (closed : Bool) where
  of-vertex : (i : ℕ) → Low (first (of_vertex path 0 i))
  unfolding of_vertex
  of-vertex i =
      let v = vertex path i in
      and (coordinate v.x _)
      (and (coordinate v.y _) (and (bulge v.bulge _) (and (trace (trace_of path i) _) fine)))

  of-segment : (i : ℕ) → Low (first (of_segment path 0 i))
  unfolding of_segment
  of-segment i = let s = segment_from path i in and (arc-chord s.v1 s.v2 0 i) fine

  pub own : Low (first (checks_of path closed))
  own =
      and (shape path)
      (append (vertex_checks path 0) (arc_checks path closed 0)
      (each (of_vertex path 0) of-vertex 0 (vertex_count path))
      (each (of_segment path 0) of-segment 0 (segment_count path closed)))
