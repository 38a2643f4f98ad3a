-- The entry of a test of a sweep counts exactly if the test says yes.
use Rattle.std.specs.Prelude.{◌≡◌, refl}
use Rattle.std.proofs.Common.{◌∙◌}
use Rattle.plane.specs.declared.vector2.Vector2.{Vector2}
use Rattle.arcs.specs.ArcGeometry.{sweeps, finding}
use Rattle.arcs.specs.ArcSweep.{is_yes}
use Rattle.arcs.specs.Laws.Sweep.{sweeps-is-yes}
use Rattle.arcs.specs.declared.arc_geometry.ArcGeometry.{ArcGeometry}
use Rattle.arcs.specs.declared.sweep_finding.SweepFinding.{SweepFinding}
use Rattle.arcs.specs.declared.sweep_finding.SweepFinding.TheVariants.{Outside, NearCenter, Inside, NearStart, NearEnd}
use Rattle.findings.specs.Finding.{of_sweep, counts}

yes-counts : (f : SweepFinding) → is_yes f ≡ counts (of_sweep f)
yes-counts Outside = refl
yes-counts NearCenter = refl
yes-counts Inside = refl
yes-counts NearStart = refl
yes-counts NearEnd = refl

pub sweeps-counts : (arc : ArcGeometry) (point : Vector2) → sweeps arc point ≡ counts (of_sweep (finding arc point))
sweeps-counts arc point = sweeps-is-yes arc point ∙ yes-counts (finding arc point)
