-- The parts of a segment with their circles, and what is written of their meetings: src/put.rt.
use Rattle.std.specs.Prelude.{ℕ, ◌≡◌, List, Float, length, Ok}
use Rattle.std.proofs.lemmas.List.Edits.{sets}
use Rattle.float_laws.specs.Flat.{flat}
use Rattle.plane.specs.declared.pline_vertex.PlineVertex.{PlineVertex}
use Rattle.checks.specs.Calls.{check_pline_seg}
use Rattle.arcs.specs.declared.pline_seg_intr.PlineSegIntr.{PlineSegIntr}
use Rattle.arcs.specs.Workings.Circles.{circle_if_arc, OfArc}
use Rattle.large_pair.specs.declared.put.Piece.{Piece}
use Rattle.large_pair.specs.LargePair.{Part, Result, result, words_of, floats_of}

unfoldable pub with_circle : ℕ → PlineVertex → PlineVertex → Piece
with_circle half start end = record { half = half; start = start; end = end; circle = circle_if_arc start end }

abbrev pub part : Piece → Part
part v = record { half = v.half; start = v.start; end = v.end }

abbrev pub result_of : ℕ → ℕ → PlineSegIntr → Result
result_of v_half u_half met = record { v-half = v_half; u-half = u_half; met = met }

-- how two parts meet
abbrev pub meeting : Float → Piece → Piece → Result
meeting pos_equal_eps v u = result pos_equal_eps (part v) (part u)

-- the pair's own check finds no fault in these two, and each has its circle
pub record FitPair (v u : Piece) (pos_equal_eps : Float) : Type 0 where
  pub checked : check_pline_seg v.start v.end u.start u.end pos_equal_eps ≡ Ok tt
  pub v-circle : OfArc v.start v.end v.circle
  pub u-circle : OfArc u.start u.end u.circle

-- these results stand at the front of both slices
pub record Stored (found : List Result) (count : ℕ) (r₀ r : List ℕ) (p₀ p : List Float) : Type 0 where
  pub count-is : count ≡ length found
  pub words : r ≡ sets r₀ 0 (flat words_of found)
  pub floats : p ≡ sets p₀ 0 (flat floats_of found)
