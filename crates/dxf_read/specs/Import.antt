-- What an import answers, and what the lent path holds afterwards, by request 10: the text's first fault; then the count; then
-- the path's own checks, as every call with a path makes them; and last whether the path fits. The checks of the path's numbers
-- and arcs are a parameter, since the mode of large arcs has others.
use Rattle.checks.specs.Checked.{Checked}
use Rattle.std.specs.Prelude.{ℕ, ◌≡◌, Bool, not, cond, List, [], ◌∷◌, ◌++◌, ltb, eqb, length, Float, Result, Err, Ok}
use Rattle.std.proofs.lemmas.List.Edits.{sets}
use Rattle.checks.specs.declared.fault.Item.TheVariants.{Line, Room}
use Rattle.checks.specs.declared.fault.Fault.{Fault}
use Rattle.checks.specs.Fault.{at, refuse}
use Rattle.checks.specs.First.{first}
use Rattle.paths.specs.Shape
use Rattle.paths.specs.Check.{path_checks}
use Rattle.dxf_form.specs.Refusal
use Rattle.dxf_form.specs.Numbers.{path_of}
use Rattle.dxf_form.specs.Form.{Group, closed_by, count_line}
use Rattle.dxf_form.specs.Body.{Body, body_of}
use Rattle.dxf_form.specs.Workings.Reader.{Read, fault_at, groups, read_groups}
use Rattle.dxf_read.specs.declared.Imported.{Imported}

-- ---- lines

-- the largest line that is told, 2^32 - 1; a line beyond it is told as this one
abbrev pub most_line : ℕ
most_line = 4_294_967_295

abbrev pub told_line : ℕ → ℕ
told_line line = cond (ltb most_line line) most_line line

-- the fault in a line of the text
abbrev pub line_fault : ℕ → ℕ → Fault
line_fault number line = record { number = number; place = at 0 (told_line line) Line }

-- ---- the checks after those of the text's form, in their order: 22; 7; the vertices' numbers and the arcs; 24

-- the checks of a path's numbers and arcs: of its floats, whether it is closed, and its owner
abbrev pub PathChecks : Type 0
PathChecks = List Float → Bool → ℕ → List Checked

abbrev pub body_checks_by : PathChecks → List Group → List Float → List Checked
body_checks_by own gs old =
    let b = body_of gs in
    let path = path_of b.vertices in
    refuse (not (eqb b.declared (length b.vertices))) Refusal.count (at 0 (told_line (count_line gs)) Line)
    ∷ Shape.shape path 0
    ∷ (own path (closed_by b.flags-are) 0
    ++ (refuse (ltb (length old) (length path)) Refusal.room (at 0 0 Room) ∷ []))

-- ---- the answer, and what the path holds

-- a path that was read: so many vertices, and whether it is closed
abbrev pub Path : ℕ → Bool → Result Imported Fault
Path n closed = Ok (record { vertices = n; closed = closed })

pub record ImportOutcome : Type 0 where
  pub answer : Result Imported Fault
  pub path : List Float

abbrev pub by_checks : Body → List Float → Checked → ImportOutcome
by_checks b old (Ok _) =
    record {
      answer = Path (length b.vertices) (closed_by b.flags-are);
      path = sets old 0 (path_of b.vertices);
    }
by_checks b old (Err f) = record { answer = Err f; path = old }

abbrev pub by_groups_by : PathChecks → List Float → Read → ImportOutcome
by_groups_by own old (fault_at number line) =
    record { answer = Err (line_fault number line); path = old }
by_groups_by own old (groups gs) = by_checks (body_of gs) old (first (body_checks_by own gs old))

-- with these checks of the path
abbrev pub import_by : PathChecks → List ℕ → List Float → ImportOutcome
import_by own text old = by_groups_by own old (read_groups text)

unfoldable pub import_dxf : List ℕ → List Float → ImportOutcome
import_dxf text old = import_by path_checks text old

-- ---- the promise

pub record Imports (o : ImportOutcome) (answer : Result Imported Fault) (path : List Float) : Type 0 where
  pub answer-is : answer ≡ o.answer
  pub path-holds : path ≡ o.path
