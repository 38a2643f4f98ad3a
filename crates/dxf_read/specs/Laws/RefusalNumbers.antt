-- A fault that an import tells fits into a word: its number is small, and so is its vertex or its line.
use Rattle.checks.specs.Checked.{Checked}
use Rattle.std.specs.Prelude.{ℕ, ◌<◌, ◌≤◌, ◌≡◌, refl, Bool, true, false, cond, List, ltb, Float, Result, Err, Ok}
use Rattle.std.proofs.Common.{subst, arith, ltb-false}
use Rattle.checks.specs.declared.fault.Item.TheVariants.{Line, Room}
use Rattle.checks.specs.declared.fault.Fault.{Fault}
use Rattle.checks.specs.First.{first}
use Rattle.checks.specs.Words.{Fits}
use Rattle.checks.specs.Laws.RefusalNumbers.{Small, fine, refused, and, then, place, at-0-0, append}
use Rattle.paths.specs.Path.{most_vertices, vertex_count}
use Rattle.paths.specs.Check.{path_checks}
use Rattle.paths.specs.Laws.RefusalNumbers.{shape-small, shape-few, path-small}
use Rattle.dxf_form.specs.Refusal
use Rattle.dxf_form.specs.Numbers.{path_of}
use Rattle.dxf_form.specs.Form.{Group, closed_by, count_line}
use Rattle.dxf_form.specs.Body.{body_of}
use Rattle.dxf_form.specs.Order.{turn_at}
use Rattle.dxf_form.specs.Fault.{Wrong, missing, bad-code, misplaced, no_value, bad-value, NoValue}
use Rattle.dxf_form.specs.Workings.Reader.{Read, fault_at, groups, read_groups}
use Rattle.dxf_form.specs.Exactly.{fault-read}
use Rattle.dxf_form.specs.declared.order.Due.{Due}
use Rattle.dxf_form.specs.declared.order.Turn.{Turn}
use Rattle.dxf_form.specs.declared.order.Turn.TheVariants as Turn·
use Rattle.dxf_read.specs.Import.{PathChecks, body_checks_by, by_checks, by_groups_by, import_by, import_dxf, most_line, told_line, Path}
use Rattle.dxf_read.specs.declared.Imported.{Imported}

-- ---- a line, and the numbers of a text's faults

told-within : (line : ℕ) → told_line line ≤ most_line
told-within line = go (ltb most_line line) refl
  where
    go : (c : Bool) → ltb most_line line ≡ c → cond c most_line line ≤ most_line
    go true e = omega arith
    go false e = ltb-false most_line line e

pub told_below : (line : ℕ) → told_line line < 4_294_967_296
told_below line = omega (arith, told-within line)

value-number : (turn : Turn) (text : List ℕ) (number : ℕ) → NoValue turn text number → (1 < number) × (number < 256)
value-number Turn·.Count text number w = let e = w.1 in (omega arith, omega arith)
value-number Turn·.Flags text number w = let e = w.1 in (omega arith, omega arith)
value-number Turn·.X text number w = let e = w.1 in (omega arith, omega arith)
value-number Turn·.Y text number w = let e = w.1 in (omega arith, omega arith)
value-number Turn·.Bulge text number w = let e = w.1 in (omega arith, omega arith)
value-number Turn·.Other text number w = let e = w.1 in (omega arith, omega arith)
value-number Turn·.OutOfPlace text number w = absurd w

wrong-number : {due : Due} {text : List ℕ} {number line : ℕ} → Wrong due text number line → (1 < number) × (number < 256)
wrong-number (missing m) = (omega arith, omega arith)
wrong-number (bad-code rest some none) = (omega arith, omega arith)
wrong-number (misplaced rest w out) = (omega arith, omega arith)
wrong-number (no_value w out) = (omega arith, omega arith)
wrong-number {due} (bad-value {c = c} rest number w out some none) = value-number (turn_at due c) rest number none

-- ---- the checks after the text; the faults of the path's own checks fit, of a path that is not too long
module _ (own : PathChecks)
    (own-small : (path : List Float) (closed : Bool) → vertex_count path ≤ most_vertices → Small (first (own path closed 0))) where
  body-small : (gs : List Group) (old : List Float) → Small (first (body_checks_by own gs old))
  body-small gs old =
      let path = path_of (body_of gs).vertices in
      let closed = closed_by (body_of gs).flags-are in
      then
      (refused _ Refusal.count _ (omega arith) (omega arith)
      (place 0 (told_line (count_line gs)) Line (omega arith) (told_below (count_line gs))))
      (λ met. then (shape-small path 0 (omega arith))
      (λ shaped.
      append (own path closed 0) _ (own-small path closed (shape-few path 0 shaped))
      (and (refused _ Refusal.room _ (omega arith) (omega arith) (at-0-0 Room)) fine)))

  -- ---- an import

  pub fits_by : (text : List ℕ) (old : List Float) (f : Fault) → (import_by own text old).answer ≡ Err f → Fits f
  fits_by text old f e = go (read_groups text) refl e
    where
      same-fault : {g h : Fault} → ◌≡◌ {A = Result Imported Fault} (Err g) (Err h) → g ≡ h
      same-fault e = cc

      no-path : {n : ℕ} {closed : Bool} {g : Fault} → Path n closed ≡ Err g → ⊥
      no-path e = let z : ◌≡◌ {A = ℕ} 0 1 = cc in absurd (omega arith)

      checked : (gs : List Group) (c : Checked) → Small c → (by_checks (body_of gs) old c).answer ≡ Err f → Fits f
      checked gs (Ok _) small h = absurd (no-path h)
      checked gs (Err g) small h = subst Fits (same-fault h) (small.fits g refl)

      go : (r : Read) → read_groups text ≡ r → (by_groups_by own old r).answer ≡ Err f → Fits f
      go (fault_at number line) is h =
          let n = wrong-number ((fault-read text number line).0 is).wrong in
          subst Fits (same-fault h)
          (record { known = n.0; number = n.1; place = record { owner = omega arith; index = told_below line } })
      go (groups gs) is h = checked gs (first (body_checks_by own gs old)) (body-small gs old) h

pub import-fits : (text : List ℕ) (old : List Float) (f : Fault) → (import_dxf text old).answer ≡ Err f → Fits f
unfolding import_dxf
import-fits = fits_by path_checks (λ path closed few. path-small path 0 (omega arith) closed few)
