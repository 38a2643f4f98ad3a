-- The checks after a pass over the text are those of Import.antt, and so is what they lead to.
use Rattle.checks.specs.Checked.{Checked}
use Rattle.std.specs.Prelude.{ℕ, ◌+◌, ◌*◌, ◌/◌, ◌%◌, ◌<◌, ◌≤◌, ◌≡◌, Bool, true, false, cond, List, [], ◌∷◌, ◌++◌, eqb, ltb, take, drop, Float, Err, Ok}
use Rattle.std.proofs.Math.Path.{refl, sym, ap}
use Rattle.std.proofs.Common.{◌∙◌, arith, take_at}
use borrow.Author.Tests.{le-ltb, lt-ltb, ltb-true, ltb-false, eq-eqb}
use Rattle.std.proofs.Math.ListN.{length}
use Rattle.std.proofs.lemmas.List.Edits.{sets, sets-eq}
use Rattle.checks.specs.declared.fault.Item.TheVariants.{Length, Room}
use Rattle.checks.specs.declared.fault.Fault.{Fault}
use Rattle.checks.specs.Fault.{at, refuse, later, whole}
use Rattle.checks.specs.First.{first}
use Rattle.checks.specs.Refusal as numbers
use Rattle.checks.specs.Laws.Later.{fine-right, later-fine}
use Rattle.checks.specs.Laws.Chains.{first-append}
use Rattle.paths.specs.Path.{numbers_a_vertex, most_vertices}
use Rattle.paths.specs.Shape
use Rattle.paths.specs.Check.{path_checks}
use Rattle.dxf_form.specs.Refusal
use Rattle.dxf_form.specs.Numbers.{Corner, path_of}
use Rattle.dxf_form.specs.Form.{closed_by}
use Rattle.dxf_form.specs.Body.{body_of}
use Rattle.dxf_form.specs.Workings.Reader.{fault_at, read_groups}
use Rattle.dxf_read.specs.Import.{PathChecks, body_checks_by, by_checks, import_by, import_dxf, line_fault}
use Rattle.dxf_read.specs.Workings.Kept.{top}
use Rattle.dxf_read.specs.Workings.Scanning.{room, BodyRead}
use Rattle.dxf_read.specs.Workings.Finishing.{counted_by, room_by, checked_by, finished_by, finished_with}
use Rattle.dxf_read.specs.Laws.Kept.{eqb-kept}
use Rattle.dxf_read.specs.Laws.Stores.{path-length}

never : {P : Type 0} {f : Fault} → ◌≡◌ {A = Checked} (Err f) (Ok tt) → P
never e = let z : ◌≡◌ {A = ℕ} 0 1 = cc in absurd (omega arith)

-- ---- a path that is fine is not too long, and there is room for it

pub counted-few : (n count line : ℕ) → counted_by n count line ≡ Ok tt → n ≤ most_vertices
unfolding counted_by
counted-few n count line = go (eqb count n) (ltb most_vertices n) refl
  where
    go : (met long : Bool) → ltb most_vertices n ≡ long
        → ◌≡◌ {A = Checked} (cond met (cond long (Err (whole numbers.vertices Length)) (Ok tt)) (Err (line_fault Refusal.count line))) (Ok tt)
        → n ≤ most_vertices
    go false long e h = never h
    go true true e h = never h
    go true false e h = ltb-false most_vertices n e

pub room-enough : (n floats : ℕ) → room_by n floats ≡ Ok tt → n * numbers_a_vertex ≤ floats
unfolding room_by refuse
room-enough n floats = go (ltb floats (n * numbers_a_vertex)) refl
  where
    go : (short : Bool) → ltb floats (n * numbers_a_vertex) ≡ short → refuse short Refusal.room (at 0 0 Room) ≡ Ok tt
        → n * numbers_a_vertex ≤ floats
    go true e h = never h
    go false e h = ltb-false floats (n * numbers_a_vertex) e

checked-few : (own : PathChecks) (buffer : List Float) (n count line : ℕ) (closed : Bool) (floats : ℕ)
    → checked_by own buffer n count line closed floats ≡ Ok tt → n ≤ most_vertices
unfolding checked_by
checked-few own buffer n count line closed floats e = counted-few n count line ((later-fine _ _).0 e).0

-- ---- the path at the front of the buffer

front : (vs old : List Float) (n : ℕ) → length vs ≡ n → n ≤ length old → take n (sets old 0 vs) ≡ vs
front vs old n e h =
    let fits : 0 + length vs ≤ length old = omega arith in
    ap (take n) (sets-eq vs old 0 fits) ∙ take_at vs (drop (0 + length vs) old) n e

-- ---- the shape of a path of whole vertices

module _ (vs : List Corner) where
  whole-vertices : eqb (length (path_of vs) % numbers_a_vertex) 0 ≡ true
  whole-vertices = let e = path-length vs in eq-eqb (length (path_of vs) % numbers_a_vertex) 0 (omega arith)

  vertex-count : length (path_of vs) / numbers_a_vertex ≡ length vs
  vertex-count = let e = path-length vs in omega arith

  pub shape-long : most_vertices < length vs → Shape.shape (path_of vs) 0 ≡ Err (whole numbers.vertices Length)
  unfolding Shape.shape refuse later
  shape-long h = rw (whole-vertices, vertex-count, lt-ltb most_vertices (length vs) h)

  pub shape-fine : length vs ≤ most_vertices → Shape.shape (path_of vs) 0 ≡ Ok tt
  unfolding Shape.shape refuse later
  shape-fine h = rw (whole-vertices, vertex-count, le-ltb most_vertices (length vs) h)

-- ---- after the pass

module _ (own : PathChecks) {text : List ℕ} {n count line : ℕ} {closed : Bool} {buffer₀ buffer : List Float}
    (b : BodyRead text n count line closed buffer₀ buffer) (short : length text < 18446744073709551616)
    (wide : room ≤ length buffer₀) (old : List Float) where
  front-is : n ≤ most_vertices → take (n * numbers_a_vertex) buffer ≡ path_of (body_of b.gs).vertices
  front-is few =
      let vs = (body_of b.gs).vertices in
      let long : length (path_of vs) ≡ n * numbers_a_vertex = omega (arith, path-length vs, b.n-is) in
      ap (take (n * numbers_a_vertex)) (b.holds few) ∙ front (path_of vs) buffer₀ (n * numbers_a_vertex) long (omega arith)

  met-is : eqb count n ≡ eqb (body_of b.gs).declared (length (body_of b.gs).vertices)
  met-is =
      let small : n / 10 ≤ top = omega (arith, b.few) in
      ap (λ (k : ℕ). eqb k n) b.count-is ∙ eqb-kept (body_of b.gs).declared n small
      ∙ ap (eqb (body_of b.gs).declared) b.n-is

  room-is : room_by n (length old)
      ≡ refuse (ltb (length old) (length (path_of (body_of b.gs).vertices))) Refusal.room (at 0 0 Room)
  unfolding room_by
  room-is =
      let vs = (body_of b.gs).vertices in
      let long : n * numbers_a_vertex ≡ length (path_of vs) = omega (arith, path-length vs, b.n-is) in
      ap (λ (k : ℕ). refuse (ltb (length old) k) Refusal.room (at 0 0 Room)) long

  -- the count is not met; the path is too long; its own checks
  unmet : eqb count n ≡ false
      → checked_by own buffer n count line closed (length old) ≡ first (body_checks_by own b.gs old)
  unfolding checked_by counted_by refuse later
  unmet e = rw (e, ← met-is, e, ← b.line-is)

  module _ (e : eqb count n ≡ true) where
    too_long : most_vertices < n
        → checked_by own buffer n count line closed (length old) ≡ first (body_checks_by own b.gs old)
    unfolding checked_by counted_by refuse later
    too_long h =
        let vs = (body_of b.gs).vertices in
        let far : most_vertices < length vs = omega (arith, b.n-is) in
        rw (e, lt-ltb most_vertices n h, ← met-is, e, shape-long vs far)

    module _ (few : n ≤ most_vertices) where
      of-path : List Checked
      of-path = own (path_of (body_of b.gs).vertices) (closed_by (body_of b.gs).flags-are) 0

      last : Checked
      last = refuse (ltb (length old) (length (path_of (body_of b.gs).vertices))) Refusal.room (at 0 0 Room)

      defined : first (body_checks_by own b.gs old) ≡ first (of-path ++ (last ∷ []))
      unfolding refuse later of-path last
      defined =
          let vs = (body_of b.gs).vertices in
          let near : length vs ≤ most_vertices = omega (arith, b.n-is) in
          rw (← met-is, e, shape-fine vs near)

      coded : checked_by own buffer n count line closed (length old)
          ≡ later (first (own (take (n * numbers_a_vertex) buffer) closed 0)) (room_by n (length old))
      unfolding checked_by counted_by later
      coded = rw (e, le-ltb most_vertices n few)

      checks-are : first (own (take (n * numbers_a_vertex) buffer) closed 0) ≡ first of-path
      unfolding of-path
      checks-are = rw (front-is few, b.closed_is)

      not-long : checked_by own buffer n count line closed (length old) ≡ first (body_checks_by own b.gs old)
      unfolding last
      not-long =
          coded
          ∙ ap (λ (c : Checked). later c (room_by n (length old))) checks-are
          ∙ ap (later (first of-path)) room-is
          ∙ sym (first-append of-path (last ∷ []) ∙ ap (later (first of-path)) (fine-right last))
          ∙ sym defined

  pub checked-is : checked_by own buffer n count line closed (length old) ≡ first (body_checks_by own b.gs old)
  checked-is = go (eqb count n) refl (ltb most_vertices n) refl
    where
      go : (met : Bool) → eqb count n ≡ met → (long : Bool) → ltb most_vertices n ≡ long
          → checked_by own buffer n count line closed (length old) ≡ first (body_checks_by own b.gs old)
      go false e long l = unmet e
      go true e true l = too_long e (ltb-true most_vertices n l)
      go true e false l = not-long e (ltb-false most_vertices n l)

  finished-is : finished_with own buffer n count line closed old
      ≡ by_checks (body_of b.gs) old (first (body_checks_by own b.gs old))
  unfolding finished_with finished_by
  finished-is =
      go (checked_by own buffer n count line closed (length old))
      (checked-few own buffer n count line closed (length old))
      ∙ ap (by_checks (body_of b.gs) old) checked-is
    where
      go : (c : Checked) → (c ≡ Ok tt → n ≤ most_vertices)
          → finished_by buffer n closed old c ≡ by_checks (body_of b.gs) old c
      go (Ok _) few = rw (front-is (few refl), b.n-is, b.closed_is)
      go (Err f) few = refl

  pub imported-is : finished_with own buffer n count line closed old ≡ import_by own text old
  imported-is = rw b.read finished-is

pub fault-by : (own : PathChecks) (text : List ℕ) {number line : ℕ} (old : List Float) → read_groups text ≡ fault_at number line
    → import_by own text old ≡ record { answer = Err (line_fault number line); path = old }
fault-by own text old e = rw e

pub fault-is : (text : List ℕ) {number line : ℕ} (old : List Float) → read_groups text ≡ fault_at number line
    → import_dxf text old ≡ record { answer = Err (line_fault number line); path = old }
unfolding import_dxf
fault-is text old e = fault-by path_checks text old e
