-- The ends of an import, with any checks of the path: each check that refuses, and a path that is copied.
use Rattle.checks.specs.Checked.{Checked}
use Rattle.std.specs.Prelude.{ℕ, ◌*◌, ◌<◌, ◌≤◌, ◌≡◌, refl, Bool, List, length, take, Float, Result, Err, Ok}
use Rattle.std.proofs.Common.{sym, ◌∙◌, subst}
use Rattle.checks.specs.declared.fault.Fault.{Fault}
use Rattle.checks.specs.Fault.{later}
use Rattle.checks.specs.First.{first}
use Rattle.paths.specs.Path.{numbers_a_vertex, most_vertices}
use Rattle.dxf_form.specs.Workings.Reader.{fault_at, read_groups}
use Rattle.dxf_read.specs.Import.{PathChecks, ImportOutcome, Imports, import_by, line_fault}
use Rattle.dxf_read.specs.Workings.Scanning.{room, BodyRead, Scanned}
use Rattle.dxf_read.specs.Workings.Finishing.{counted_by, room_by, checked_by, finished_by, finished_with}
use Rattle.dxf_read.specs.Laws.Finishing.{counted-few, imported-is, fault-by}
use Rattle.dxf_read.specs.declared.fault.LineFault.{LineFault}
use Rattle.dxf_read.specs.declared.scan.State.{State}
use Rattle.dxf_read.specs.declared.Imported.{Imported}

-- ---- after the pass, by what each call says

pub few-vertices : (n count line : ℕ) (counted : Checked) → counted ≡ counted_by n count line → counted ≡ Ok tt
    → n ≤ most_vertices
few-vertices n count line counted is fine = counted-few n count line (sym is ∙ fine)

module _ (own : PathChecks) (buffer : List Float) (n count line : ℕ) (closed : Bool) (old : List Float) (counted : Checked)
    (is : counted ≡ counted_by n count line) where
  -- the count is not met, or the path is too long
  pub count-refused : (f : Fault) → counted ≡ Err f
      → Imports (finished_with own buffer n count line closed old) (Err f) old
  unfolding finished_with finished_by checked_by later
  count-refused f e = record { answer-is = rw (← is, e); path-holds = rw (← is, e) }

  module _ (fine : counted ≡ Ok tt) where
    -- else the path's own checks decide, and the room
    pub handed-over : (checked : Checked)
        → checked ≡ later counted (first (own (take (n * numbers_a_vertex) buffer) closed 0))
        → (r : Result Imported Fault) (now : List Float)
        → Imports (finished_by buffer n closed old (later checked (room_by n (length old)))) r now
        → Imports (finished_with own buffer n count line closed old) r now
    unfolding finished_with checked_by later
    handed-over checked found r now done = rw (← is, fine) (rw (found, fine) at done)

-- ---- the whole import, by what the pass over the text answered

module _ (own : PathChecks) (text : List ℕ) (old buffer₀ buffer : List Float) (found : Result State LineFault)
    (is : Scanned text found buffer₀ buffer) where
  pub text-fault : (fault : LineFault) → found ≡ Err fault → (f : Fault) → f ≡ line_fault fault.number fault.line
      → Imports (import_by own text old) (Err f) old
  text-fault fault e f made =
      let read : read_groups text ≡ fault_at fault.number fault.line = rw e at is in
      rw (fault-by own text old read, made) (record { answer-is = refl; path-holds = refl })

  pub body-found : (s : State) → found ≡ Ok s
      → length text < 18446744073709551616 → room ≤ length buffer₀ → (r : Result Imported Fault) (now : List Float)
      → Imports (finished_with own buffer s.vertices s.count s.count_line s.closed old) r now → Imports (import_by own text old) r now
  body-found s e short wide r now done =
      let b : BodyRead text s.vertices s.count s.count_line s.closed buffer₀ buffer = rw e at is in
      subst (λ (o : ImportOutcome). Imports o r now) (imported-is own b short wide old) done
