-- One pass over a text: the state after each group, what a lent slice then holds, and what the pass answers.
use Rattle.std.specs.Prelude.{ℕ, ◌+◌, ◌*◌, ◌-◌, ◌≤◌, ◌≡◌, Bool, cond, List, [], ◌∷◌, eqb, ltb, length, set, Float, Result, Ok, Err}
use Rattle.std.proofs.lemmas.List.Edits.{sets}
use Rattle.paths.specs.Path.{numbers_a_vertex, most_vertices}
use Rattle.dxf_form.specs.Numbers.{trace, path_of}
use Rattle.dxf_form.specs.Form.{Group, closed_by, count_line}
use Rattle.dxf_form.specs.Body.{body_of}
use Rattle.dxf_form.specs.Workings.Reader.{fault_at, groups, read_groups}
use Rattle.dxf_form.specs.declared.order.Turn.{Turn}
use Rattle.dxf_form.specs.declared.order.Turn.TheVariants as Turn·
use Rattle.dxf_read.specs.Workings.Kept.{kept}
use Rattle.dxf_read.specs.declared.scan.State.{State}
use Rattle.dxf_read.specs.declared.fault.LineFault.{LineFault}

-- ---- the state after a group

abbrev pub vertices_after : Turn → ℕ → ℕ
vertices_after Turn·.Count n = n
vertices_after Turn·.Flags n = n
vertices_after Turn·.X n = n + 1
vertices_after Turn·.Y n = n
vertices_after Turn·.Bulge n = n
vertices_after Turn·.Other n = n
vertices_after Turn·.OutOfPlace n = n

abbrev pub count_after : Turn → ℕ → ℕ → ℕ
count_after Turn·.Count number n = number
count_after Turn·.Flags number n = n
count_after Turn·.X number n = n
count_after Turn·.Y number n = n
count_after Turn·.Bulge number n = n
count_after Turn·.Other number n = n
count_after Turn·.OutOfPlace number n = n

abbrev pub line_after : Turn → ℕ → ℕ → ℕ
line_after Turn·.Count lines line = lines + 2
line_after Turn·.Flags lines line = line
line_after Turn·.X lines line = line
line_after Turn·.Y lines line = line
line_after Turn·.Bulge lines line = line
line_after Turn·.Other lines line = line
line_after Turn·.OutOfPlace lines line = line

abbrev pub closed_after : Turn → ℕ → Bool → Bool
closed_after Turn·.Count number closed = closed
closed_after Turn·.Flags number closed = closed_by number
closed_after Turn·.X number closed = closed
closed_after Turn·.Y number closed = closed
closed_after Turn·.Bulge number closed = closed
closed_after Turn·.Other number closed = closed
closed_after Turn·.OutOfPlace number closed = closed

unfoldable pub stepped : State → Turn → ℕ → ℕ → State
stepped s turn number lines =
    record {
      vertices = vertices_after turn s.vertices;
      count = count_after turn number s.count;
      count_line = line_after turn lines s.count_line;
      closed = closed_after turn number s.closed;
    }

-- ---- what the lent slice holds after a group

abbrev pub room : ℕ
room = most_vertices * numbers_a_vertex

unfoldable pub started : Float → ℕ → List Float → List Float
started x n out =
    cond (ltb n most_vertices) (sets out (n * numbers_a_vertex) (x ∷ trace ∷ trace ∷ trace ∷ [])) out

unfoldable pub changed : ℕ → Float → ℕ → List Float → List Float
changed k v n out =
    cond (eqb n 0) out (cond (ltb most_vertices n) out (set out ((n - 1) * numbers_a_vertex + k) v))

abbrev pub stored : Turn → Float → ℕ → List Float → List Float
stored Turn·.Count v n out = out
stored Turn·.Flags v n out = out
stored Turn·.X v n out = started v n out
stored Turn·.Y v n out = changed 1 v n out
stored Turn·.Bulge v n out = changed 2 v n out
stored Turn·.Other v n out = out
stored Turn·.OutOfPlace v n out = out

-- ---- what the pass answers

pub record BodyRead (text : List ℕ) (n count line : ℕ) (closed : Bool) (old now : List Float) : Type 0 where
  pub gs : List Group
  pub read : read_groups text ≡ groups gs
  pub n-is : n ≡ length (body_of gs).vertices
  pub count-is : count ≡ kept (body_of gs).declared
  pub line-is : line ≡ count_line gs
  pub closed_is : closed ≡ closed_by (body_of gs).flags-are
  pub few : 3 * n ≤ length text
  pub holds : n ≤ most_vertices → now ≡ sets old 0 (path_of (body_of gs).vertices)

abbrev pub Scanned : List ℕ → Result State LineFault → List Float → List Float → Type 0
Scanned text (Err fault) old now = read_groups text ≡ fault_at fault.number fault.line
Scanned text (Ok s) old now = BodyRead text s.vertices s.count s.count_line s.closed old now
