-- The finding beside the Rust's test of a sweep: it is Outside exactly if the Rust's expression is false.
use Rattle.std.specs.Prelude.{◌≡◌, refl, false}
use Rattle.std.proofs.Common.{sym, ap, ◌∙◌}
use Rattle.std.proofs.lemmas.Bool.{false≢true}
use Rattle.plane.specs.declared.vector2.Vector2.{Vector2}
use Rattle.arcs.specs.declared.arc_sweep.ArcSweep.{ArcSweep}
use Rattle.arcs.specs.declared.sweep_finding.SweepFinding.{SweepFinding}
use Rattle.arcs.specs.declared.sweep_finding.SweepFinding.TheVariants.{Outside, NearCenter, Inside, NearStart, NearEnd}
use Rattle.arcs.specs.ArcSweep.{contains, finding, is_yes}
use Rattle.arcs.specs.Laws.Sweep.{contains-is-yes}

pub record OutsideExactly (self : ArcSweep) (point : Vector2) : Type 0 where
  pub then-false : finding self point ≡ Outside → contains self point ≡ false
  pub if-false : contains self point ≡ false → finding self point ≡ Outside

no-rule : (f : SweepFinding) → is_yes f ≡ false → f ≡ Outside
no-rule Outside e = refl
no-rule NearCenter e = absurd (false≢true (sym e))
no-rule Inside e = absurd (false≢true (sym e))
no-rule NearStart e = absurd (false≢true (sym e))
no-rule NearEnd e = absurd (false≢true (sym e))

pub outside-exactly : (self : ArcSweep) (point : Vector2) → OutsideExactly self point
outside-exactly self point =
    record {
      then-false = λ e. contains-is-yes self point ∙ ap is_yes e;
      if-false = λ e. no-rule (finding self point) (sym (contains-is-yes self point) ∙ e);
    }
