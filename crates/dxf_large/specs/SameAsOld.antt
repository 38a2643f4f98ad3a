-- With no bulge above 1 in magnitude an import and an export in the mode of large arcs are those of the old mode, refusals
-- included.
use Rattle.checks.specs.Checked.{Checked}
use Rattle.std.specs.Prelude.{ℕ, ◌<◌, ◌≡◌, refl, Bool, false, List, ◌∷◌, Float}
use Rattle.std.proofs.Common.{ap}
use Rattle.paths.specs.Path.{vertex_count, vertex}
use Rattle.paths.specs.Shape
use Rattle.cuts.specs.Cut.{is_large}
use Rattle.dxf_form.specs.Numbers.{Corner, path_of}
use Rattle.dxf_form.specs.Form.{SpellsBody, closed_by}
use Rattle.dxf_form.specs.Body.{body_of}
use Rattle.dxf_form.specs.Workings.Reader.{Read, fault_at, groups, read_groups}
use Rattle.dxf_form.specs.Exactly.{accepted}
use Rattle.dxf_read.specs.Import.{import_dxf}
use Rattle.dxf_write.specs.Export.{export_after, export_dxf}
use Rattle.dxf_large.specs.Large.{import_large, export_large}
use Rattle.dxf_large.specs.Laws.NoLarge.{checks-same}

-- no bulge is above 1 in magnitude, also not the last one of an open path
abbrev pub NoneAbove : List Float → Type 0
NoneAbove path = (i : ℕ) → i < vertex_count path → is_large (vertex path i).bulge ≡ false

pub same-export : (path : List Float) (closed : Bool) (old : List ℕ) → NoneAbove path
    → export_large path closed old ≡ export_dxf path closed old
unfolding export_large export_dxf
same-export path closed old none =
    ap (λ (cs : List Checked). export_after (Shape.shape path 0 ∷ cs) path closed old) (checks-same path none closed)

-- of every body that the text spells: there is one at most
pub same-import : (text : List ℕ) (old : List Float)
    → ((n f : ℕ) (vs : List Corner) → SpellsBody text n f vs → NoneAbove (path_of vs))
    → import_large text old ≡ import_dxf text old
unfolding import_large import_dxf
same-import text old none = go (read_groups text) refl
  where
    go : (r : Read) → read_groups text ≡ r → import_large text old ≡ import_dxf text old
    go (fault_at number line) e = rw e
    go (groups gs) e =
        let b = body_of gs in
        let path = path_of b.vertices in
        let spelt = (accepted text b.declared b.flags-are b.vertices).0 (record { gs = gs; read = e; is = refl }) in
        let same = checks-same path (none b.declared b.flags-are b.vertices spelt) (closed_by b.flags-are) in
        rw (e, same)
