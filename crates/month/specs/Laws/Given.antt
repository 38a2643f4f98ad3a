-- A mutual listing refuses with no other number than those of Given.antt: check by check.
use Rattle.checks.specs.Checked.{Checked}
use Rattle.std.specs.Prelude.{◌≡◌, Bool, cond, ◌||◌, List, [], ◌∷◌, ◌++◌, ℕ, zero, suc, ◌+◌, ◌<◌, eqb, Float, Err, Ok}
use Rattle.std.proofs.Math.Path.{refl}
use Rattle.std.proofs.Common.{sym, ap, subst, ◌∙◌, true≢false, arith, eqb-true}
use Rattle.std.proofs.Math.Bool.{true, false}
use Rattle.plane.specs.PlineVertex.{bulge_is_zero}
use Rattle.plane.specs.declared.pline_vertex.PlineVertex.{PlineVertex}
use Rattle.checks.specs.declared.fault.Place.{Place}
use Rattle.checks.specs.declared.fault.Fault.{Fault}
use Rattle.checks.specs.Fault.{refuse, later}
use Rattle.checks.specs.Arc.{arc_chord}
use Rattle.checks.specs.Each
use Rattle.checks.specs.First.{first as first_fault}
use Rattle.checks.specs.Refusal
use Rattle.checks.specs.Laws.Chains.{first-append}
use Rattle.paths.specs.Path.{vertex_count, vertex, trace as trace_of}
use Rattle.paths.specs.Segments.{segment_count, segment_from}
use Rattle.paths.specs.Shape.{shape}
use Rattle.paths.specs.Check.{along, of_vertex, of_segment, vertex_checks, arc_checks, path_checks}
use Rattle.listing_pairs.specs.declared.row.Row.{Row}
use Rattle.listing_outcomes.specs.Outcome.{room_check}
use Rattle.listing_calls.specs.Listing.{mutual_checks}
use Rattle.month.specs.Report.{refusal_numbers}
use Rattle.month.specs.Given.{among, given}

-- a check that is fine, or whose fault has one of the numbers
pub record Known (c : Checked) : Type 0 where
  pub known : (f : Fault) → c ≡ Err f → among f.number given ≡ true

pub fine : Known (Ok tt)
fine = record { known = λ f e. absurd (never e) }
  where
    is-bad : Checked → Bool
    is-bad (Ok _) = false
    is-bad (Err g) = true

    never : {f : Fault} → ◌≡◌ {A = Checked} (Ok tt) (Err f) → ⊥
    never {f} e = true≢false (sym (ap is-bad e))

pub refused : (test : Bool) (n : ℕ) (p : Place) → among n given ≡ true → Known (refuse test n p)
unfolding refuse
refused true n p h = record { known = λ f e. ap (λ (m : ℕ). among m given) (same e) ∙ h }
  where
    same : {n : ℕ} {p : Place} {f : Fault} → ◌≡◌ {A = Checked} (Err (record { number = n; place = p })) (Err f) → f.number ≡ n
    same e = cc
refused false n p h = fine

both : (a b : Checked) → Known a → Known b → Known (later a b)
unfolding later
both (Ok _) b ha hb = hb
both (Err f) b ha hb = ha

pub and : {a b : Checked} → Known a → Known b → Known (later a b)
and {a} {b} = both a b

pub append : (cs ds : List Checked) → Known (first_fault cs) → Known (first_fault ds) → Known (first_fault (cs ++ ds))
append cs ds a b = subst Known (sym (first-append cs ds)) (and a b)

-- ---- each number's check
pub epsilon : (x : Float) → Known (Each.epsilon x)
unfolding Each.epsilon
epsilon x = refused _ Refusal.epsilon _ refl

module _ (x : Float) (p : Place) where
  pub finite : Known (Each.finite x p)
  unfolding Each.finite
  finite = and (refused _ Refusal.nan p refl) (refused _ Refusal.infinite p refl)

  pub coordinate : Known (Each.coordinate x p)
  unfolding Each.coordinate Each.finite_then
  coordinate = and finite (refused _ Refusal.coordinate p refl)

  bulge : Known (Each.bulge x p)
  unfolding Each.bulge Each.finite_then
  bulge = and finite (refused _ Refusal.bulge p refl)

  pub trace : Known (Each.trace x p)
  unfolding Each.trace Each.finite_then
  trace = and finite (refused _ Refusal.trace p refl)

  chord : (is-line : Bool) → Known (cond is-line (Ok tt) (Each.chord x p))
  unfolding Each.chord
  chord true = fine
  chord false = refused _ Refusal.chord p refl

pub arc-chord : (a b : PlineVertex) (owner index : ℕ) → Known (arc_chord a b owner index)
unfolding arc_chord
arc-chord a b owner index = chord _ _ (bulge_is_zero a)

-- ---- a path's checks
pub of-shape : (path : List Float) (owner : ℕ) → Known (shape path owner)
unfolding shape
of-shape path owner = and (refused _ Refusal.path_length _ refl) (refused _ Refusal.vertices _ refl)

pub each : (checks : ℕ → List Checked) → ((i : ℕ) → Known (first_fault (checks i))) → (i k : ℕ) → Known (first_fault (along checks i k))
each checks small i zero = fine
each checks small i (suc k) = append (checks i) (along checks (i + 1) k) (small i) (each checks small (i + 1) k)

module _ (path : List Float) (owner : ℕ) where
  of-vertex : (i : ℕ) → Known (first_fault (of_vertex path owner i))
  unfolding of_vertex
  of-vertex i =
      let v = vertex path i in
      and (coordinate v.x _)
      (and (coordinate v.y _) (and (bulge v.bulge _) (and (trace (trace_of path i) _) fine)))

  of-segment : (i : ℕ) → Known (first_fault (of_segment path owner i))
  unfolding of_segment
  of-segment i = let s = segment_from path i in and (arc-chord s.v1 s.v2 owner i) fine

  of-path : (closed : Bool) → Known (first_fault (path_checks path closed owner))
  of-path closed =
      append (vertex_checks path owner) (arc_checks path closed owner)
      (each (of_vertex path owner) of-vertex 0 (vertex_count path))
      (each (of_segment path owner) of-segment 0 (segment_count path closed))

-- ---- the listing's
module _ (first : List Float) (first_closed : Bool) (second : List Float) (second_closed : Bool) (eps : Float)
    (rows : List Row) (i : List ℕ) (p : List Float) where
  of_room : Known (room_check rows i p)
  unfolding room_check
  of_room = refused _ Refusal.rows _ refl

  pub mutual-known : Known (first_fault (mutual_checks first first_closed second second_closed eps ++ (room_check rows i p ∷ [])))
  mutual-known =
      let shapes : List Checked = Each.epsilon eps ∷ shape first 0 ∷ shape second 1 ∷ [] in
      append (mutual_checks first first_closed second second_closed eps) (room_check rows i p ∷ [])
      (append (shapes ++ path_checks first first_closed 0) (path_checks second second_closed 1)
      (append shapes (path_checks first first_closed 0)
      (and (epsilon eps) (and (of-shape first 0) (and (of-shape second 1) fine))) (of-path first 0 first_closed))
      (of-path second 1 second_closed))
      (and of_room fine)

-- ---- each of the numbers has a word of its own
abbrev AllBelow : List ℕ → Type 0
AllBelow [] = Unit {0}
AllBelow (m ∷ ms) = (m < refusal_numbers) × AllBelow ms

among_below : (n : ℕ) (ms : List ℕ) → AllBelow ms → among n ms ≡ true → n < refusal_numbers
among_below n [] h e = absurd (true≢false (sym e))
among_below n (m ∷ ms) h e = go (eqb n m) (eqb-true n m) (among_below n ms h.1) e
  where
    go : (b : Bool) → (b ≡ true → n ≡ m) → (among n ms ≡ true → n < refusal_numbers) → (b || among n ms) ≡ true
        → n < refusal_numbers
    go true is rest e = omega (arith, is refl, h.0)
    go false is rest e = rest e

pub given_below : (n : ℕ) → among n given ≡ true → n < refusal_numbers
given_below n =
    among_below n given (
      omega arith,
      (
        omega arith,
        (
          omega arith,
          (
            omega arith,
            (
              omega arith,
              (omega arith, (omega arith, (omega arith, (omega arith, (omega arith, tt))))),
            ),
          ),
        ),
      ),
    )
