-- The scope's table, for a path: which refusal its length and its arcs get, and exactly when. Exactly.antt of the crate `checks`
-- says what `Gives` means, and its RefusalTable.antt has the table for each number.
use Rattle.std.specs.Prelude.{Bool, true, false, cond, not, ◌&&◌, List, [], ◌∷◌, ℕ, Float, Ok}
use Rattle.std.proofs.Common.{sym}
use Rattle.floats.specs.Ops.{◌≺◌}
use Rattle.plane.specs.declared.pline_vertex.PlineVertex.{PlineVertex}
use Rattle.plane.specs.PlineVertex.{pos, bulge_is_zero}
use Rattle.plane.specs.Vector2 as vector2
use Rattle.checks.specs.declared.fault.Item.TheVariants.{Length, Chord}
use Rattle.checks.specs.Fault.{at, refuse}
use Rattle.checks.specs.Exactly.{Gives, test, gives}
use Rattle.checks.specs.Each
use Rattle.checks.specs.Limit
use Rattle.paths.specs.Shape
use Rattle.checks.specs.Arc.{arc_chord}
use Rattle.checks.specs.Laws.Later.{fine-right}

-- 6, 7: the length is no multiple of 4; there are more than 4,096 vertices
pub shape : (path : List Float) (owner : ℕ)
    → Gives (Shape.shape path owner) (at owner 0 Length)
    (test 6 (Shape.broken path) ∷ test 7 (Shape.too_long path) ∷ [])
unfolding Shape.shape
shape path owner = gives _ _ (test 6 (Shape.broken path) ∷ test 7 (Shape.too_long path) ∷ []) (simp fine-right)

-- 5: the segment is an arc, and its computed chord length is below 2^-40
pub arc-chord : (a b : PlineVertex) (owner index : ℕ)
    → Gives (arc_chord a b owner index) (at owner index Chord)
    (test 5 (not (bulge_is_zero a) && (vector2.length (vector2.sub (pos b) (pos a)) ≺ Limit.chord_least)) ∷ [])
unfolding arc_chord Each.chord refuse
arc-chord a b owner index = go (bulge_is_zero a) (vector2.length (vector2.sub (pos b) (pos a)) ≺ Limit.chord_least)
  where
    go : (line short : Bool)
        → Gives (cond line (Ok tt) (refuse short 5 (at owner index Chord))) (at owner index Chord) (test 5 (not line && short) ∷ [])
    go true short = gives _ _ (test 5 false ∷ []) (sym (fine-right (refuse false 5 (at owner index Chord))))
    go false short = gives _ _ (test 5 short ∷ []) (sym (fine-right (refuse short 5 (at owner index Chord))))
