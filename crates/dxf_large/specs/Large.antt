-- What the import and the export of a drawing answer in the mode of large arcs, by request 11: as in the old mode, with the
-- checks of that mode in the place of the path's. So a bulge may be up to 16 in magnitude. The path is imported and exported as it
-- stands: nothing is cut, and 7 counts its vertices before any cut.
use Rattle.checks.specs.Checked.{Checked}
use Rattle.std.specs.Prelude.{ℕ, Bool, List, ◌∷◌, Float}
use Rattle.paths.specs.Shape
use Rattle.cuts.specs.LargeChecks.{large_path_checks}
use Rattle.dxf_read.specs.Import.{ImportOutcome, import_by}
use Rattle.dxf_write.specs.Export.{ExportOutcome, export_after}

unfoldable pub import_large : List ℕ → List Float → ImportOutcome
import_large text old = import_by large_path_checks text old

-- 6, 7; the vertices' numbers; the arcs
abbrev pub large_checks_of : List Float → Bool → List Checked
large_checks_of path closed = Shape.shape path 0 ∷ large_path_checks path closed 0

unfoldable pub export_large : List Float → Bool → List ℕ → ExportOutcome
export_large path closed old = export_after (large_checks_of path closed) path closed old
