-- The checks after a pass over the text, and what they lead to, by what the pass answered.
use Rattle.checks.specs.Checked.{Checked}
use Rattle.std.specs.Prelude.{ℕ, ◌*◌, Bool, cond, List, eqb, ltb, length, take, Float, Err, Ok}
use Rattle.std.proofs.lemmas.List.Edits.{sets}
use Rattle.checks.specs.declared.fault.Item.TheVariants.{Length, Room}
use Rattle.checks.specs.Fault.{at, refuse, later, whole}
use Rattle.checks.specs.First.{first}
use Rattle.checks.specs.Refusal as numbers
use Rattle.paths.specs.Path.{numbers_a_vertex, most_vertices}
use Rattle.paths.specs.Check.{path_checks}
use Rattle.dxf_form.specs.Refusal
use Rattle.dxf_read.specs.Import.{Path, PathChecks, ImportOutcome, line_fault}

-- 22, then 7: so many vertices, the value of 90 and its line
unfoldable pub counted_by : ℕ → ℕ → ℕ → Checked
counted_by n count line =
    cond (eqb count n)
    (cond (ltb most_vertices n) (Err (whole numbers.vertices Length)) (Ok tt))
    (Err (line_fault Refusal.count line))

-- 24: so many vertices, and room for so many floats
unfoldable pub room_by : ℕ → ℕ → Checked
room_by n room = refuse (ltb room (n * numbers_a_vertex)) Refusal.room (at 0 0 Room)

-- all of them, with these checks of the path at the front of the buffer
unfoldable pub checked_by : PathChecks → List Float → ℕ → ℕ → ℕ → Bool → ℕ → Checked
checked_by own buffer n count line closed room =
    later (counted_by n count line)
    (later (first (own (take (n * numbers_a_vertex) buffer) closed 0)) (room_by n room))

-- the path, or the refusal
unfoldable pub finished_by : List Float → ℕ → Bool → List Float → Checked → ImportOutcome
finished_by buffer n closed old (Ok _) =
    record { answer = Path n closed; path = sets old 0 (take (n * numbers_a_vertex) buffer) }
finished_by buffer n closed old (Err f) = record { answer = Err f; path = old }

unfoldable pub finished_with : PathChecks → List Float → ℕ → ℕ → ℕ → Bool → List Float → ImportOutcome
finished_with own buffer n count line closed old =
    finished_by buffer n closed old (checked_by own buffer n count line closed (length old))

unfoldable pub finished : List Float → ℕ → ℕ → ℕ → Bool → List Float → ImportOutcome
finished buffer n count line closed old = finished_with path_checks buffer n count line closed old
