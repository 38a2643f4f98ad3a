-- The sweep of an arc: `ArcSweep` of pline_seg_intersect.rs, line for line. Read the two side by side.
use Rattle.std.specs.Prelude.{Bool, true, false, cond, ◌&&◌, ◌||◌, Float}
use Rattle.floats.specs.Ops.{◌⊗◌, ◌≺◌, ◌≼◌, ◌≽◌, f0}
use Rattle.plane.specs.Vector2 as vector2
use Rattle.plane.specs.declared.vector2.Vector2.{Vector2}
use Rattle.arcs.specs.declared.arc_sweep.ArcSweep.{ArcSweep}
use Rattle.arcs.specs.declared.sweep_finding.SweepFinding.{SweepFinding}
use Rattle.arcs.specs.declared.sweep_finding.SweepFinding.TheVariants.{Outside, NearCenter, Inside, NearStart, NearEnd}

-- lines 31-50
unfoldable pub new : Vector2 → Vector2 → Vector2 → Bool → Float → ArcSweep
new center start end is_clockwise epsilon =
    let start_vector = vector2.sub start center in
    let end_vector = vector2.sub end center in
    let epsilon_squared = epsilon ⊗ epsilon in
    record {
      center = center;
      start_vector = start_vector;
      end_vector = end_vector;
      is_clockwise = is_clockwise;
      epsilon_squared = epsilon_squared;
      start_fuzzy_limit = epsilon_squared ⊗ vector2.length_squared start_vector;
      end_fuzzy_limit = epsilon_squared ⊗ vector2.length_squared end_vector;
    }

-- lines 61-65
unfoldable pub exactly_within_sweep : Bool → Float → Float → Bool
exactly_within_sweep is_clockwise start_cross end_cross =
    cond is_clockwise ((start_cross ≼ f0) && (end_cross ≽ f0)) ((start_cross ≽ f0) && (end_cross ≼ f0))

-- lines 70-71, and for the other edge 72-73
abbrev pub beside : Vector2 → Vector2 → Float → Float → Bool
beside edge point_vector cross fuzzy_limit = (vector2.dot edge point_vector ≽ f0) && (cross ⊗ cross ≺ fuzzy_limit)

-- lines 53-74
unfoldable pub contains : ArcSweep → Vector2 → Bool
contains self point =
    let point_vector = vector2.sub point self.center in
    let start_cross = vector2.perp_dot self.start_vector point_vector in
    let end_cross = vector2.perp_dot self.end_vector point_vector in
    cond (vector2.length_squared point_vector ≺ self.epsilon_squared)
    true
    (cond (exactly_within_sweep self.is_clockwise start_cross end_cross)
    true
    (beside self.start_vector point_vector start_cross self.start_fuzzy_limit
    || beside self.end_vector point_vector end_cross self.end_fuzzy_limit))

-- Request 7: the same rules in the same order, and the first that says yes. The code asks only this; Outside.antt proves that it
-- is Outside exactly if the Rust's test `contains` is false.
unfoldable pub finding : ArcSweep → Vector2 → SweepFinding
finding self point =
    let point_vector = vector2.sub point self.center in
    let start_cross = vector2.perp_dot self.start_vector point_vector in
    let end_cross = vector2.perp_dot self.end_vector point_vector in
    cond (vector2.length_squared point_vector ≺ self.epsilon_squared)
    NearCenter
    (cond (exactly_within_sweep self.is_clockwise start_cross end_cross)
    Inside
    (cond (beside self.start_vector point_vector start_cross self.start_fuzzy_limit)
    NearStart
    (cond (beside self.end_vector point_vector end_cross self.end_fuzzy_limit)
    NearEnd
    Outside)))

-- a rule says yes, so the point counts
abbrev pub is_yes : SweepFinding → Bool
is_yes Outside = false
is_yes NearCenter = true
is_yes Inside = true
is_yes NearStart = true
is_yes NearEnd = true
