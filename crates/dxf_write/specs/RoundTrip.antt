-- Import of an export gives the same path: the same x, y and bulges, bit for bit, and closed as it was. Traces are checked on
-- export and not written, so that they are 0 in the path that is imported.
use Rattle.std.specs.Prelude.{◌≡◌, ℕ, ◌≤◌, Bool, T, List, length, take, Float, Ok}
use Rattle.std.proofs.lemmas.List.Edits.{sets}
use Rattle.std.specs.Float.{binary64}
use Rattle.std.specs.Float.Ieee.{fits}
use Rattle.paths.specs.Path.{vertex_count, number}
use Rattle.paths.specs.Check.{path_checks}
use Rattle.dxf_read.specs.Import as imports
use Rattle.dxf_write.specs.Export.{bytes_of, export_dxf}
use Rattle.dxf_write.specs.Untraced.{untraced}
use Rattle.dxf_write.specs.Laws.Checked.{same-checks}
use Rattle.dxf_write.specs.Laws.Trip.{front-is, back}

-- every number of the path is an f64, and it was exported as n bytes
module _ (path : List Float) (closed : Bool) (old : List ℕ) (n : ℕ) (f64 : (k : ℕ) → T (fits binary64 (number path k)))
    (e : (export_dxf path closed old).answer ≡ Ok n) where
  -- the bytes are the front of the text
  pub text-front : take n (export_dxf path closed old).text ≡ bytes_of path closed
  unfolding export_dxf
  text-front = front-is path_checks path closed old n f64 e

  -- the same path is imported, if it has room: the same vertices, with traces of 0, and closed as it was
  pub import-of-export : (room : List Float) → length path ≤ length room
      → imports.import_dxf (take n (export_dxf path closed old).text) room
      ≡ record { answer = imports.Path (vertex_count path) closed; path = sets room 0 (untraced path) }
  unfolding imports.import_dxf export_dxf
  import-of-export = back path_checks path closed old n f64 e (same-checks path closed)
