-- The box of a segment from a chord length that is known already, so that its root is taken once.
use Rattle.std.specs.Prelude.{◌≡◌, refl, Bool, true, false, cond, Float}
use Rattle.std.proofs.Common.{ap, ◌∙◌}
use Rattle.floats.specs.Ops.{◌⊕◌, f0}
use Rattle.plane.specs.declared.pline_vertex.PlineVertex.{PlineVertex}
use Rattle.plane.specs.PlineVertex.{bulge_is_zero}
use Rattle.checks.specs.Arc.{chord_length}
use Rattle.boxes.specs.Box.{margin}

-- the chord length of an arc; any number will do for a line
abbrev pub Known : PlineVertex → PlineVertex → Float → Type 0
Known v1 v2 chord = bulge_is_zero v1 ≡ false → chord ≡ chord_length v1 v2

unfoldable pub chord_if_arc : PlineVertex → PlineVertex → Float
chord_if_arc v1 v2 = cond (bulge_is_zero v1) f0 (chord_length v1 v2)

unfoldable pub margin_by : PlineVertex → Float → Float → Float
margin_by v1 chord epsilon = cond (bulge_is_zero v1) epsilon (chord ⊕ epsilon)

pub known : (v1 v2 : PlineVertex) (chord : Float) → chord ≡ chord_if_arc v1 v2 → Known v1 v2 chord
unfolding chord_if_arc
known v1 v2 chord e arc = e ∙ ap (λ (line : Bool). cond line f0 (chord_length v1 v2)) arc

pub margin-by : (v1 v2 : PlineVertex) (chord epsilon : Float) → Known v1 v2 chord → margin_by v1 chord epsilon ≡ margin v1 v2 epsilon
unfolding margin_by margin
margin-by v1 v2 chord epsilon = go (bulge_is_zero v1)
  where
    go : (line : Bool) → (line ≡ false → chord ≡ chord_length v1 v2)
        → cond line epsilon (chord ⊕ epsilon) ≡ cond line epsilon (chord_length v1 v2 ⊕ epsilon)
    go true known = refl
    go false known = ap (λ (x : Float). x ⊕ epsilon) (known refl)
