-- What is said of the cut: of a half bulge, of a name, and of a segment of the cut path, which is a part of an old one. The
-- bulge of a segment's end belongs to the next segment, so of an end the position counts.
use Rattle.std.specs.Prelude.{◌≡◌, Bool, true, false, List, ℕ, zero, suc, ◌≤◌, ◌<◌, T, Float}
use Rattle.std.specs.Float.{binary64}
use Rattle.std.specs.Float.Ieee.{of_bits}
use Rattle.std.specs.Float.Ieee.Scale.{finite}
use Rattle.floats.specs.Ops.{◌≺◌, ◌≼◌, ◌≽◌, f0, f1}
use Rattle.floats.specs.F64
use Rattle.plane.specs.declared.pline_vertex.PlineVertex.{PlineVertex}
use Rattle.paths.specs.declared.path.Segment.{Segment}
use Rattle.paths.specs.Path.{vertex}
use Rattle.paths.specs.Segments.{segment_count}
use Rattle.cuts.specs.Cut.{is_large, bent, cut_vertex}
use Rattle.cuts.specs.CutPath.{Name}

-- s runs from v1 to where v2 is, with v1's bulge and this trace
pub record Runs (s : Segment) (v1 v2 : PlineVertex) (trace : Float) : Type 0 where
  pub starts : s.v1 ≡ v1
  pub ends-x : s.v2.x ≡ v2.x
  pub ends-y : s.v2.y ≡ v2.y
  pub traced : s.trace ≡ trace

-- s is this half of the old segment; half 0 is all of it
abbrev pub IsPart : Segment → ℕ → Segment → Type 0
IsPart old zero s = Runs s old.v1 old.v2 old.trace
IsPart old (suc zero) s = Runs s (bent old.v1) (cut_vertex old.v1 old.v2) old.trace
IsPart old (suc (suc more)) s = Runs s (cut_vertex old.v1 old.v2) old.v2 old.trace

-- a name of a path's segment: half 0 if it is not cut, and 1 or 2 if it is
pub record IsName (path : List Float) (closed : Bool) (n : Name) : Type 0 where
  pub below : n.index < segment_count path closed
  pub whole : is_large (vertex path n.index).bulge ≡ false → n.half ≡ 0
  pub cut : is_large (vertex path n.index).bulge ≡ true → (1 ≤ n.half) × (n.half ≤ 2)

-- 1/64
abbrev pub half_least : Float
half_least = of_bits binary64 0x3f90_0000_0000_0000

-- a half bulge of b: from 1/64 to 1 in magnitude, with the sign of b
pub record HalfOf (b half : Float) : Type 0 where
  pub number : T (finite half)
  pub least : T (F64.abs half ≽ half_least)
  pub most : T (F64.abs half ≼ f1)
  pub sign : (half ≺ f0) ≡ (b ≺ f0)
