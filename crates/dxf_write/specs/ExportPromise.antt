-- What a caller of `export_dxf` may rely on. It has one result only. A path is exported exactly if its own checks find nothing,
-- each of its numbers is read back from some number text, and the text fits; else the first fault is told. A refusal writes
-- nothing; what is written stands at the front, and what follows stays. Every number of the path is an f64: the kit's `fits`.
use Rattle.checks.specs.Checked.{Checked}
use Rattle.std.specs.Prelude.{◌≡◌, ℕ, ◌<◌, Bool, T, ◌↔◌, List, ◌++◌, length, drop, Float, Result, Err, Ok}
use Rattle.std.proofs.Common.{sym, ◌∙◌}
use Rattle.std.proofs.Math.Logic.Iff
use Rattle.std.specs.Float.{binary64}
use Rattle.std.specs.Float.Ieee.{fits, of_bits, of_fields, le, lt, eq}
use Rattle.float_laws.specs.Chains.{le_trans}
use Rattle.checks.specs.declared.fault.Item.{Item}
use Rattle.checks.specs.declared.fault.Item.TheVariants.{Room}
use Rattle.checks.specs.declared.fault.Fault.{Fault}
use Rattle.checks.specs.Fault.{at, whole}
use Rattle.checks.specs.FirstFault.{FirstFault}
use Rattle.checks.specs.Limit
use Rattle.checks.specs.Laws.Later.{fine-left, later-fine}
use Rattle.paths.specs.Path.{number}
use Rattle.paths.specs.Check.{check_path}
use Rattle.paths.specs.Laws.Fine.{path-fine}
use Rattle.dxf_form.specs.Refusal
use Rattle.dxf_write.specs.Export.{bytes_of, checks_of, export_dxf, ExportOutcome, Exports}
use Rattle.dxf_write.specs.When.{NoText, NoRoom, Exportable}
use Rattle.dxf_write.specs.Laws.Low as low
use Rattle.dxf_write.specs.Laws.When as when

-- ---- one result only

pub one-result : {o : ExportOutcome} {a b : Result ℕ Fault} {s t : List ℕ} → Exports o a s → Exports o b t → (a ≡ b) × (s ≡ t)
one-result x y = (x.answer-is ∙ sym y.answer-is, x.text-holds ∙ sym y.text-holds)

-- ---- which answer

one-small : T (le Limit.bulge Limit.coordinate)
unfolding le lt eq of_bits of_fields
one-small = tt

-- the numbers of a path that passes are at most 2^20 in magnitude
judged : (path : List Float) (closed : Bool) → when.Judged (checks_of path closed) path
unfolding check_path
judged path closed = record {
  low = low.own path closed;
  small = λ fine i l.
      let v = ((path-fine (Ok tt) path closed 0).0 (fine-left _ ∙ ((later-fine _ _).0 fine).1)).1.vertices i l in
      record {
        x-small = v.point.at_x.small;
        y-small = v.point.at_y.small;
        bulge-small = le_trans _ _ _ v.bulge.small one-small;
      };
}

module _ (path : List Float) (closed : Bool) (old : List ℕ) where
  -- 6, 7, the vertices' numbers and the arcs; 23, vertex by vertex; 24
  abbrev pub all_checks : List Checked
  all_checks = when.all_checks (checks_of path closed) path closed old

  -- a refusal is told exactly if it is the first
  pub refused-when : (f : Fault) → ((export_dxf path closed old).answer ≡ Err f) ↔ FirstFault f all_checks
  unfolding export_dxf
  refused-when f = when.refused-after (checks_of path closed) path closed old f

  module _ (f64 : (k : ℕ) → T (fits binary64 (number path k))) where
    -- a number below 20 is that of one of the path's own checks
    pub own-when : (f : Fault) → f.number < 20
        → ((export_dxf path closed old).answer ≡ Err f) ↔ FirstFault f (checks_of path closed)
    own-when f few =
        Iff.trans (refused-when f) (when.own-after (checks_of path closed) path closed old (judged path closed) f64 f few)

    -- 23 at a number of vertex i: all before is fine, and no number text has that number's value
    pub no-text-when : (i : ℕ) (item : Item)
        → ((export_dxf path closed old).answer ≡ Err (record { number = Refusal.no_text; place = at 0 i item }))
        ↔ NoText (checks_of path closed) path i item
    no-text-when i item =
        Iff.trans (refused-when _) (when.no-text-after (checks_of path closed) path closed old (judged path closed) f64 i item)

    -- 24: all before is fine, and the text does not fit
    pub no-room-when : ((export_dxf path closed old).answer ≡ Err (whole Refusal.room Room))
        ↔ NoRoom (checks_of path closed) path closed old
    no-room-when =
        Iff.trans (refused-when _) (when.no-room-after (checks_of path closed) path closed old (judged path closed) f64)

    -- its bytes are answered exactly if nothing is at fault
    pub exported-when : ((export_dxf path closed old).answer ≡ Ok (length (bytes_of path closed)))
        ↔ Exportable (checks_of path closed) path closed old
    unfolding export_dxf
    exported-when =
        Iff.trans (when.bytes_after (checks_of path closed) path closed old)
        (when.fine-after (checks_of path closed) path closed old (judged path closed) f64)

  -- ---- what the text holds

  module _ {r : Result ℕ Fault} {now : List ℕ} (x : Exports (export_dxf path closed old) r now) where
    -- a refusal writes nothing
    pub refused-keeps : (f : Fault) → r ≡ Err f → now ≡ old
    unfolding export_dxf
    refused-keeps = when.keeps-after (checks_of path closed) path closed old x

    -- else the bytes stand at the front, and what follows stays
    pub written-front : (n : ℕ) → r ≡ Ok n → now ≡ bytes_of path closed ++ drop n old
    unfolding export_dxf
    written-front = when.front-after (checks_of path closed) path closed old x
