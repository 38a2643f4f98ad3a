-- `probe::pline_seg::vjp_seg_arc_radius_and_center` meets its contract: it hands over what `seg_arc_radius_and_center` answers.
use borrow.Author.Rules.{rules}
use Rattle.probe.specs.Numbers.{of_arc}
use Rattle.probe.proofs.Written.{handed}
use Rattle.probe.proofs.pline_seg.vjp_seg_arc_radius_and_center.Statement.{statement}
use Rattle.probe.proofs.pline_seg.vjp_seg_arc_radius_and_center.Tie as tie

pub vjp_seg_arc_radius_and_center_spec : {M : Type 1} → statement M
vjp_seg_arc_radius_and_center_spec =
    tie.close
    (tie.spec
    (search rules) (search rules) (search rules) (λ c. search (handed of_arc)))
