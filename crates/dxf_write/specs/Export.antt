-- What an export answers, and what the lent text holds afterwards, by request 10: the path's own checks, as every call with a
-- path makes them; then whether each number is read back from a text; and last whether the text fits.
use Rattle.checks.specs.Checked.{Checked}
use Rattle.std.specs.Prelude.{◌≡◌, ℕ, zero, suc, ◌+◌, Bool, List, [], ◌∷◌, ◌++◌, length, ℤ, pos, nat_lt, Float, Result, Err, Ok}
use Rattle.std.proofs.lemmas.List.Edits.{sets}
use Rattle.checks.specs.declared.fault.Item.TheVariants.{X, Y, Bulge, Room}
use Rattle.checks.specs.declared.fault.Fault.{Fault}
use Rattle.checks.specs.Fault.{at, refuse}
use Rattle.checks.specs.First.{first}
use Rattle.paths.specs.Path.{vertex_count, vertex}
use Rattle.paths.specs.Shape
use Rattle.paths.specs.Check.{along, path_checks}
use Rattle.dxf_form.specs.Refusal
use Rattle.dxf_form.specs.Numbers.{Corner}
use Rattle.dxf_write.specs.Millionths.{Found, none, found, is_none, millionths_of}
use Rattle.dxf_write.specs.Written.{body_bytes}

-- ---- the text of a path

-- a number that has no text is refused, so that its text is not written
abbrev pub millionths_or0 : Found → ℤ
millionths_or0 none = pos 0
millionths_or0 (found z) = z

unfoldable pub corner_at : List Float → ℕ → Corner
corner_at path i =
    let v = vertex path i in
    record {
      x = millionths_or0 (millionths_of v.x);
      y = millionths_or0 (millionths_of v.y);
      bulge = millionths_or0 (millionths_of v.bulge);
    }

-- k vertices, from vertex i on
abbrev pub corners_from : List Float → ℕ → ℕ → List Corner
corners_from path i zero = []
corners_from path i (suc k) = corner_at path i ∷ corners_from path (i + 1) k

abbrev pub corners_of : List Float → List Corner
corners_of path = corners_from path 0 (vertex_count path)

unfoldable pub bytes_of : List Float → Bool → List ℕ
bytes_of path closed = body_bytes closed (corners_of path)

-- ---- the checks after those of the path, in their order: 23, vertex by vertex; 24

-- vertex i: x, y, bulge
unfoldable pub of_texts : List Float → ℕ → List Checked
of_texts path i =
    let v = vertex path i in
    refuse (is_none (millionths_of v.x)) Refusal.no_text (at 0 i X)
    ∷ refuse (is_none (millionths_of v.y)) Refusal.no_text (at 0 i Y)
    ∷ refuse (is_none (millionths_of v.bulge)) Refusal.no_text (at 0 i Bulge)
    ∷ []

abbrev pub text_checks : List Float → List Checked
text_checks path = along (of_texts path) 0 (vertex_count path)

abbrev pub room_check : List Float → Bool → List ℕ → Checked
room_check path closed old = refuse (nat_lt (length old) (length (bytes_of path closed))) Refusal.room (at 0 0 Room)

-- ---- the answer, and what the text holds

pub record ExportOutcome : Type 0 where
  pub answer : Result ℕ Fault
  pub text : List ℕ

abbrev pub by_checks : List ℕ → List ℕ → Checked → ExportOutcome
by_checks bytes old (Ok _) = record { answer = Ok (length bytes); text = sets old 0 bytes }
by_checks bytes old (Err f) = record { answer = Err f; text = old }

-- after these checks
unfoldable pub export_after : List Checked → List Float → Bool → List ℕ → ExportOutcome
export_after checks path closed old =
    by_checks (bytes_of path closed) old (first (checks ++ (text_checks path ++ (room_check path closed old ∷ []))))

-- 6, 7; the vertices' numbers; the arcs
abbrev pub checks_of : List Float → Bool → List Checked
checks_of path closed = Shape.shape path 0 ∷ path_checks path closed 0

unfoldable pub export_dxf : List Float → Bool → List ℕ → ExportOutcome
export_dxf path closed old = export_after (checks_of path closed) path closed old

-- ---- the promise

pub record Exports (o : ExportOutcome) (answer : Result ℕ Fault) (text : List ℕ) : Type 0 where
  pub answer-is : answer ≡ o.answer
  pub text-holds : text ≡ o.text
