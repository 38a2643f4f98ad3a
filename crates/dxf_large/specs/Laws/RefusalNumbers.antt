-- A fault that an import or an export tells in the mode of large arcs fits into a word.
use Rattle.std.specs.Prelude.{ℕ, ◌≡◌, Bool, List, Float, Err}
use Rattle.std.proofs.Common.{arith}
use Rattle.checks.specs.declared.fault.Fault.{Fault}
use Rattle.checks.specs.Words.{Fits}
use Rattle.cuts.specs.LargeChecks.{large_path_checks}
use Rattle.cuts.specs.Laws.RefusalNumbers.{path-small}
use Rattle.dxf_read.specs.Laws.RefusalNumbers.{fits_by}
use Rattle.dxf_write.specs.Laws.RefusalNumbers.{fits-shaped}
use Rattle.dxf_large.specs.Large.{import_large, export_large}

pub import-fits : (text : List ℕ) (old : List Float) (f : Fault) → (import_large text old).answer ≡ Err f → Fits f
unfolding import_large
import-fits = fits_by large_path_checks (λ path closed few. path-small path 0 (omega arith) closed few)

pub export-fits : (path : List Float) (closed : Bool) (old : List ℕ) (f : Fault)
    → (export_large path closed old).answer ≡ Err f → Fits f
unfolding export_large
export-fits path closed old =
    fits-shaped (large_path_checks path closed 0) path closed old (path-small path 0 (omega arith) closed)
