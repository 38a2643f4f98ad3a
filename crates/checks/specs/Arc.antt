-- The check of an arc's chord (refusal 5), for a segment of a path or of a pair.
use Rattle.checks.specs.Checked.{Checked}
use Rattle.std.specs.Prelude.{cond, ℕ, Float, Ok}
use Rattle.plane.specs.declared.pline_vertex.PlineVertex.{PlineVertex}
use Rattle.plane.specs.PlineVertex.{pos, bulge_is_zero}
use Rattle.plane.specs.Vector2 as vector2
use Rattle.checks.specs.declared.fault.Item.TheVariants.{Chord}
use Rattle.checks.specs.Fault.{at}
use Rattle.checks.specs.Each

-- the computed length of the chord from a to b
abbrev pub chord_length : PlineVertex → PlineVertex → Float
chord_length a b = vector2.length (vector2.sub (pos b) (pos a))

-- the segment from a to b is an arc if a's bulge is not near zero
unfoldable pub arc_chord : PlineVertex → PlineVertex → ℕ → ℕ → Checked
arc_chord a b owner index = cond (bulge_is_zero a) (Ok tt) (Each.chord (chord_length a b) (at owner index Chord))
