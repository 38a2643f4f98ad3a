-- The sweep test as the Rust writes it, and the finding: the test says yes exactly if the finding names a rule.
use Rattle.std.specs.Prelude.{◌≡◌, refl, Bool, true, false, cond, ◌||◌}
use Rattle.std.proofs.Common.{sym, ap, ◌∙◌}
use Rattle.floats.specs.Ops.{◌≺◌}
use Rattle.plane.specs.Vector2 as vector2
use Rattle.plane.specs.declared.vector2.Vector2.{Vector2}
use Rattle.arcs.specs.declared.arc_sweep.ArcSweep.{ArcSweep}
use Rattle.arcs.specs.declared.sweep_finding.SweepFinding.{SweepFinding}
use Rattle.arcs.specs.declared.sweep_finding.SweepFinding.TheVariants.{Outside, NearCenter, Inside, NearStart, NearEnd}
use Rattle.arcs.specs.ArcSweep.{contains, finding, is_yes, exactly_within_sweep, beside}
use Rattle.arcs.specs.ArcGeometry as geometry
use Rattle.arcs.specs.declared.arc_geometry.ArcGeometry.{ArcGeometry}

-- four rules tried in order, whatever each says
in_order : (center inside start end : Bool)
    → cond center true (cond inside true (start || end))
    ≡ is_yes (cond center NearCenter (cond inside Inside (cond start NearStart (cond end NearEnd Outside))))
in_order true inside start end = refl
in_order false true start end = refl
in_order false false true end = refl
in_order false false false true = refl
in_order false false false false = refl

pub contains-is-yes : (self : ArcSweep) (point : Vector2) → contains self point ≡ is_yes (finding self point)
unfolding contains finding
contains-is-yes self point =
    let point_vector = vector2.sub point self.center in
    let start_cross = vector2.perp_dot self.start_vector point_vector in
    let end_cross = vector2.perp_dot self.end_vector point_vector in
    in_order (vector2.length_squared point_vector ≺ self.epsilon_squared)
    (exactly_within_sweep self.is_clockwise start_cross end_cross)
    (beside self.start_vector point_vector start_cross self.start_fuzzy_limit)
    (beside self.end_vector point_vector end_cross self.end_fuzzy_limit)

pub sweeps-is-yes : (self : ArcGeometry) (point : Vector2) → geometry.sweeps self point ≡ is_yes (geometry.finding self point)
unfolding geometry.sweeps geometry.finding
sweeps-is-yes self point = contains-is-yes self.sweep point

-- so a yes, worked out from the finding, is the Rust's test
pub yes_of : (self : ArcGeometry) (point : Vector2) (f : SweepFinding) (counts : Bool) → f ≡ geometry.finding self point
    → counts ≡ is_yes f → counts ≡ geometry.sweeps self point
yes_of self point f counts e is = is ∙ ap is_yes e ∙ sym (sweeps-is-yes self point)

pub yes-in : (self : ArcSweep) (point : Vector2) (f : SweepFinding) (counts : Bool) → f ≡ finding self point → counts ≡ is_yes f
    → counts ≡ contains self point
yes-in self point f counts e is = is ∙ ap is_yes e ∙ sym (contains-is-yes self point)
