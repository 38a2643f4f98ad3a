-- What a caller may rely on in the mode of large arcs. An import tells the text's fault; of a text that spells a body the first
-- fault of its checks, or the path. An export answers as that of the old mode, with the other checks of the path: ExportPromise.antt
-- of dxf_write. A refusal writes nothing, and what follows stays.
use Rattle.checks.specs.Checked.{Checked}
use Rattle.std.specs.Prelude.{ℕ, ◌<◌, ◌≡◌, ◌↔◌, Bool, true, false, List, ◌++◌, T, length, drop, Float, Result, Err, Ok}
use Rattle.std.proofs.Common.{ap, ◌∙◌, true≢false}
use Rattle.std.proofs.Math.Logic.Iff
use Rattle.std.proofs.lemmas.List.Edits.{sets}
use Rattle.std.specs.Float.{binary64}
use Rattle.std.specs.Float.Ieee.{fits, of_bits, of_fields, le, lt, eq}
use Rattle.float_laws.specs.Chains.{le_trans}
use Rattle.checks.specs.declared.fault.Item.{Item}
use Rattle.checks.specs.declared.fault.Item.TheVariants.{Room}
use Rattle.checks.specs.declared.fault.Fault.{Fault}
use Rattle.checks.specs.Fault.{at, whole}
use Rattle.checks.specs.First.{first}
use Rattle.checks.specs.FirstFault.{FirstFault, AllFine, first-bad, first_fine}
use Rattle.checks.specs.Limit
use Rattle.checks.specs.Laws.Later.{later-fine}
use Rattle.paths.specs.Path.{number}
use Rattle.cuts.specs.LargeChecks.{large_path_checks}
use Rattle.cuts.specs.Laws.Fine.{path-listed}
use Rattle.dxf_form.specs.Refusal
use Rattle.dxf_form.specs.Numbers.{Corner, path_of}
use Rattle.dxf_form.specs.Form.{SpellsBody, closed_by}
use Rattle.dxf_form.specs.Fault.{FaultAt}
use Rattle.dxf_form.specs.Body.{Body}
use Rattle.dxf_form.specs.Exactly.{fault-read, groups-read, gives-complete-body}
use Rattle.dxf_read.specs.Import.{Path, body_checks_by, by_checks, line_fault}
use Rattle.dxf_read.specs.Laws.Finishing.{fault-by}
use Rattle.dxf_read.specs.declared.Imported.{Imported}
use Rattle.dxf_write.specs.Export.{bytes_of, Exports}
use Rattle.dxf_write.specs.When.{NoText, NoRoom, Exportable}
use Rattle.dxf_write.specs.Laws.When as when
use Rattle.dxf_large.specs.Large.{import_large, large_checks_of, export_large}
use Rattle.dxf_large.specs.Laws.Low as low

-- ---- imports

-- 20 and 21: the text's fault, and nothing is written
pub text-fault : (text : List ℕ) (old : List Float) (number line : ℕ) → FaultAt text number line
    → import_large text old ≡ record { answer = Err (line_fault number line); path = old }
unfolding import_large
text-fault text old number line f = fault-by large_path_checks text old ((fault-read text number line).1 f)

-- the text spells groups that give this count, these flags and these vertices. The checks: 22; 7; the vertices' numbers and the
-- arcs, in the mode of large arcs; 24
module _ (text : List ℕ) (old : List Float) (n f : ℕ) (vs : List Corner) (s : SpellsBody text n f vs) where
  abbrev pub import_checks : List Checked
  import_checks = body_checks_by large_path_checks s.gs old

  abbrev spelt-body : Body
  spelt-body = record { declared = n; flags-are = f; vertices = vs }

  by_first : import_large text old ≡ by_checks spelt-body old (first import_checks)
  unfolding import_large
  by_first =
      let c = gives-complete-body s.gs n f vs s.gives in
      let read = (groups-read text s.gs).1 (s.spelt, c.0) in
      rw (read, c.1)

  -- the first fault is told
  pub import-refused-when : (fault : Fault) → ((import_large text old).answer ≡ Err fault)
      ↔ FirstFault fault import_checks
  import-refused-when fault = rw by_first (Iff.trans (by (first import_checks)) (first-bad import_checks fault))
    where
      fault-of : Result Imported Fault → Fault
      fault-of (Ok imported) = fault
      fault-of (Err g) = g

      tagged : Result Imported Fault → Bool
      tagged (Ok imported) = true
      tagged (Err g) = false

      by : (c : Checked) → ((by_checks spelt-body old c).answer ≡ Err fault) ↔ (c ≡ Err fault)
      by (Ok _) = (λ e. absurd (true≢false (ap tagged e)), λ e. absurd (true≢false (ap is-fine e)))
        where
          is-fine : Checked → Bool
          is-fine (Ok _) = true
          is-fine (Err g) = false
      by (Err g) = (λ e. ap Err (ap fault-of e), λ e. ap (λ (c : Checked). (by_checks spelt-body old c).answer) e)

  -- and nothing is written
  pub import-refused-keeps : (fault : Fault) → FirstFault fault import_checks
      → import_large text old ≡ record { answer = Err fault; path = old }
  import-refused-keeps fault h = by_first ∙ ap (by_checks spelt-body old) ((first-bad import_checks fault).1 h)

  -- else the path stands at the front, uncut, and what follows stays
  pub imported-when : AllFine import_checks
      → import_large text old ≡ record { answer = Path (length vs) (closed_by f); path = sets old 0 (path_of vs) }
  imported-when h = by_first ∙ ap (by_checks spelt-body old) ((first_fine import_checks).1 h)

-- ---- exports

sixteen-small : T (le Limit.large_bulge Limit.coordinate)
unfolding le lt eq of_bits of_fields
sixteen-small = tt

-- the numbers of a path that passes are at most 2^20 in magnitude
judged : (path : List Float) (closed : Bool) → when.Judged (large_checks_of path closed) path
judged path closed = record {
  low = low.own path closed;
  small = λ fine i l.
      let v = ((path-listed path closed 0).0 ((later-fine _ _).0 fine).1).vertices i l in
      record {
        x-small = v.point.at_x.small;
        y-small = v.point.at_y.small;
        bulge-small = le_trans _ _ _ v.bulge.small sixteen-small;
      };
}

module _ (path : List Float) (closed : Bool) (old : List ℕ) where
  abbrev own : List Checked
  own = large_checks_of path closed

  -- 6, 7, the vertices' numbers and the arcs; 23, vertex by vertex; 24
  abbrev pub export_checks : List Checked
  export_checks = when.all_checks own path closed old

  -- a refusal is told exactly if it is the first
  pub refused-when : (f : Fault) → ((export_large path closed old).answer ≡ Err f) ↔ FirstFault f export_checks
  unfolding export_large
  refused-when f = when.refused-after own path closed old f

  module _ (f64 : (k : ℕ) → T (fits binary64 (number path k))) where
    -- a number below 20 is that of one of the path's own checks
    pub own-when : (f : Fault) → f.number < 20
        → ((export_large path closed old).answer ≡ Err f) ↔ FirstFault f (large_checks_of path closed)
    own-when f few = Iff.trans (refused-when f) (when.own-after own path closed old (judged path closed) f64 f few)

    -- 23 at a number of vertex i: all before is fine, and no number text has that number's value
    pub no-text-when : (i : ℕ) (item : Item)
        → ((export_large path closed old).answer ≡ Err (record { number = Refusal.no_text; place = at 0 i item }))
        ↔ NoText (large_checks_of path closed) path i item
    no-text-when i item =
        Iff.trans (refused-when _) (when.no-text-after own path closed old (judged path closed) f64 i item)

    -- 24: all before is fine, and the text does not fit
    pub no-room-when : ((export_large path closed old).answer ≡ Err (whole Refusal.room Room))
        ↔ NoRoom (large_checks_of path closed) path closed old
    no-room-when = Iff.trans (refused-when _) (when.no-room-after own path closed old (judged path closed) f64)

    -- its bytes are answered exactly if nothing is at fault
    pub exported-when : ((export_large path closed old).answer ≡ Ok (length (bytes_of path closed)))
        ↔ Exportable (large_checks_of path closed) path closed old
    unfolding export_large
    exported-when =
        Iff.trans (when.bytes_after own path closed old) (when.fine-after own path closed old (judged path closed) f64)

  module _ {r : Result ℕ Fault} {now : List ℕ} (x : Exports (export_large path closed old) r now) where
    -- a refusal writes nothing
    pub refused-keeps : (f : Fault) → r ≡ Err f → now ≡ old
    unfolding export_large
    refused-keeps = when.keeps-after own path closed old x

    -- else the bytes stand at the front, and what follows stays
    pub written-front : (n : ℕ) → r ≡ Ok n → now ≡ bytes_of path closed ++ drop n old
    unfolding export_large
    written-front = when.front-after own path closed old x
