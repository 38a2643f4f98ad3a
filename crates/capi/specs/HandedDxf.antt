-- How an import and an export go to a caller in C: a number is returned, what is told besides goes into a slice of its own, and
-- the path or the text into the slice that the call is lent.
use Rattle.std.specs.Prelude.{ℕ, ◌≡◌, Bool, true, false, cond, List, [], ◌∷◌, ltb, length, Float, Result, Err, Ok}
use Rattle.std.proofs.lemmas.List.Edits.{sets}
use Rattle.checks.specs.declared.fault.Fault.{Fault}
use Rattle.dxf_read.specs.declared.Imported.{Imported}
use Rattle.dxf_read.specs.Import.{ImportOutcome}
use Rattle.dxf_write.specs.Export.{ExportOutcome}
use Rattle.capi.specs.Handed.{no_room_code}
use Rattle.capi.specs.HandedListing.{Counted, refused_counts}

-- ---- an import tells the number of vertices, and whether the path is closed

abbrev pub import_words : ℕ
import_words = 2

abbrev pub closed_word : Bool → ℕ
closed_word true = 1
closed_word false = 0

abbrev pub of_import : Result Imported Fault → Counted
of_import (Err f) = refused_counts f
of_import (Ok imported) = record { code = 0; counts = imported.vertices ∷ closed_word imported.closed ∷ [] }

-- ---- an export tells the number of bytes

abbrev pub export_words : ℕ
export_words = 1

abbrev pub of_export : Result ℕ Fault → Counted
of_export (Err f) = refused_counts f
of_export (Ok n) = record { code = 0; counts = n ∷ [] }

-- ---- handed over; nothing is done if the slice for what is told has too few words

pub record HandedTold {A B : Type 0} (words : ℕ) (count : A → Counted) (answer : A) (left : List B)
    (returned : ℕ) (t₀ t : List ℕ) (s₀ s : List B) : Type 0 where
  pub code_is : returned ≡ cond (ltb (length t₀) words) no_room_code (count answer).code
  pub told : t ≡ cond (ltb (length t₀) words) t₀ (sets t₀ 0 (count answer).counts)
  pub holds : s ≡ cond (ltb (length t₀) words) s₀ left

abbrev pub HandedImport : ImportOutcome → ℕ → List ℕ → List ℕ → List Float → List Float → Type 0
HandedImport o returned t₀ t p₀ p = HandedTold import_words of_import o.answer o.path returned t₀ t p₀ p

abbrev pub HandedExport : ExportOutcome → ℕ → List ℕ → List ℕ → List ℕ → List ℕ → Type 0
HandedExport o returned t₀ t s₀ s = HandedTold export_words of_export o.answer o.text returned t₀ t s₀ s
