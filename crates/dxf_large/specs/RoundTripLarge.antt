-- Import of an export gives the same path in the mode of large arcs too: the same x, y and bulges, bit for bit, and closed as it
-- was. Traces are checked on export and not written, so that they are 0 in the path that is imported.
use Rattle.std.specs.Prelude.{ℕ, ◌≤◌, ◌≡◌, Bool, List, T, length, take, Float, Ok}
use Rattle.std.proofs.lemmas.List.Edits.{sets}
use Rattle.std.specs.Float.{binary64}
use Rattle.std.specs.Float.Ieee.{fits}
use Rattle.paths.specs.Path.{vertex_count, number}
use Rattle.cuts.specs.LargeChecks.{large_path_checks}
use Rattle.dxf_read.specs.Import.{Path}
use Rattle.dxf_write.specs.Export.{bytes_of}
use Rattle.dxf_write.specs.Untraced.{untraced}
use Rattle.dxf_write.specs.Laws.Trip.{front-is, back}
use Rattle.dxf_large.specs.Large.{import_large, export_large}
use Rattle.dxf_large.specs.Laws.Untraced.{same-checks}

-- every number of the path is an f64, and it was exported as n bytes
module _ (path : List Float) (closed : Bool) (old : List ℕ) (n : ℕ) (f64 : (k : ℕ) → T (fits binary64 (number path k)))
    (e : (export_large path closed old).answer ≡ Ok n) where
  -- the bytes are the front of the text
  pub text-front : take n (export_large path closed old).text ≡ bytes_of path closed
  unfolding export_large
  text-front = front-is large_path_checks path closed old n f64 e

  -- the same path is imported, if it has room: the same vertices, with traces of 0, and closed as it was
  pub import-of-export : (room : List Float) → length path ≤ length room
      → import_large (take n (export_large path closed old).text) room
      ≡ record { answer = Path (vertex_count path) closed; path = sets room 0 (untraced path) }
  unfolding import_large export_large
  import-of-export = back large_path_checks path closed old n f64 e (same-checks path closed)
