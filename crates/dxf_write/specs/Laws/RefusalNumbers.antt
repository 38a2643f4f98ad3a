-- A fault that an export tells fits into a word: its number is small, and so is its vertex.
use Rattle.checks.specs.Checked.{Checked}
use Rattle.std.specs.Prelude.{◌≡◌, ℕ, zero, suc, ◌+◌, ◌<◌, ◌≤◌, Bool, List, [], ◌∷◌, ◌++◌, ◌≢◌, refl, Float, Result, Err, Ok}
use Rattle.std.proofs.Common.{subst, arith}
use Rattle.checks.specs.declared.fault.Item.TheVariants.{X, Y, Bulge, Room}
use Rattle.checks.specs.declared.fault.Fault.{Fault}
use Rattle.checks.specs.First.{first}
use Rattle.checks.specs.Words.{Fits}
use Rattle.checks.specs.Laws.Later.{later-fine}
use Rattle.checks.specs.Laws.RefusalNumbers.{Small, fine, refused, and, then, place, at-0-0, append, append-then}
use Rattle.paths.specs.Path.{most_vertices, vertex_count}
use Rattle.paths.specs.Shape.{shape}
use Rattle.paths.specs.Check.{along, path_checks}
use Rattle.paths.specs.Laws.RefusalNumbers.{shape-small, shape-few, path-small}
use Rattle.dxf_form.specs.Refusal
use Rattle.dxf_write.specs.Export.{of_texts, text_checks, room_check, bytes_of, by_checks, export_after, export_dxf}

-- ---- each vertex's texts

of-texts : (path : List Float) (i : ℕ) → i < most_vertices → Small (first (of_texts path i))
unfolding of_texts
of-texts path i h =
    and (refused _ Refusal.no_text _ (omega arith) (omega arith) (place 0 i X (omega arith) (omega arith)))
    (and (refused _ Refusal.no_text _ (omega arith) (omega arith) (place 0 i Y (omega arith) (omega arith)))
    (and (refused _ Refusal.no_text _ (omega arith) (omega arith) (place 0 i Bulge (omega arith) (omega arith))) fine))

texts-small : (path : List Float) (i k : ℕ) → i + k ≤ most_vertices → Small (first (along (of_texts path) i k))
texts-small path i zero h = fine
texts-small path i (suc k) h =
    append (of_texts path i) (along (of_texts path) (i + 1) k) (of-texts path i (omega arith))
    (texts-small path (i + 1) k (omega arith))

-- ---- all checks, one after the other; the faults of these first ones fit, and a path that passes them is not too long
module _ (own : List Checked) (path : List Float) (closed : Bool) (old : List ℕ) (own-small : Small (first own))
    (few : first own ≡ Ok tt → vertex_count path ≤ most_vertices) where
  all_small : Small (first (own ++ (text_checks path ++ (room_check path closed old ∷ []))))
  all_small =
      append-then own _ own-small
      (λ e.
      append (text_checks path) (room_check path closed old ∷ []) (texts-small path 0 (vertex_count path) (omega (arith, few e)))
      (and (refused _ Refusal.room _ (omega arith) (omega arith) (at-0-0 Room)) fine))

  -- ---- an export

  pub fits_after : (f : Fault) → (export_after own path closed old).answer ≡ Err f → Fits f
  unfolding export_after
  fits_after f e = go (first (own ++ (text_checks path ++ (room_check path closed old ∷ [])))) all_small e
    where
      same-fault : {g h : Fault} → ◌≡◌ {A = Result ℕ Fault} (Err g) (Err h) → g ≡ h
      same-fault e = cc

      no_bytes : {n : ℕ} {g : Fault} → Ok n ≢ Err g
      no_bytes e = let z : ◌≡◌ {A = ℕ} 0 1 = cc in absurd (omega arith)

      go : (c : Checked) → Small c → (by_checks (bytes_of path closed) old c).answer ≡ Err f → Fits f
      go (Ok _) small h = absurd (no_bytes h)
      go (Err g) small h = subst Fits (same-fault h) (small.fits g refl)

-- ---- after a path's shape and these checks
pub fits-shaped : (own : List Checked) (path : List Float) (closed : Bool) (old : List ℕ)
    → (vertex_count path ≤ most_vertices → Small (first own))
    → (f : Fault) → (export_after (shape path 0 ∷ own) path closed old).answer ≡ Err f → Fits f
fits-shaped own path closed old own-small =
    fits_after (shape path 0 ∷ own) path closed old
    (then (shape-small path 0 (omega arith)) (λ e. own-small (shape-few path 0 e)))
    (λ e. shape-few path 0 ((later-fine (shape path 0) (first own)).0 e).0)

pub export-fits : (path : List Float) (closed : Bool) (old : List ℕ) (f : Fault)
    → (export_dxf path closed old).answer ≡ Err f → Fits f
unfolding export_dxf
export-fits path closed old =
    fits-shaped (path_checks path closed 0) path closed old (path-small path 0 (omega arith) closed)
