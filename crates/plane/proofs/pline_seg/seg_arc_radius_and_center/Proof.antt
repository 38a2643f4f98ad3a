-- `plane::pline_seg::seg_arc_radius_and_center` meets its contract: each call answers its own definition,
-- and put together these are the one that is promised.
use borrow.Author.Rules.{rules}
use Rattle.plane.specs.PlineSeg
use Rattle.plane.proofs.pline_seg.seg_arc_radius_and_center.Statement.{statement}
use Rattle.plane.proofs.pline_seg.seg_arc_radius_and_center.Tie as tie

pub seg_arc_radius_and_center_spec : {M : Type 1} → statement M
unfolding PlineSeg.seg_arc_radius_and_center
seg_arc_radius_and_center_spec =
    tie.close
    (tie.spec
    (λ c. search rules) (λ c. search rules) (λ c. search rules) (λ c. search rules) (λ c. search rules) (λ c. search rules)
    (λ c. search rules) (λ c. search rules) (λ c. search rules) (λ c. search rules) (λ c. search rules)
    (λ c. let middle = c.before.before.before in
    let radius = middle.before.before.before in
    let chord = radius.before.before in
    simp (
      chord.before.before.pos.ensures,
      chord.before.pos-2.ensures,
      chord.sub-chord.ensures,
      radius.before.length.ensures,
      radius.abs.ensures,
      middle.before.before.pos-3.ensures,
      middle.before.scale.ensures,
      middle.add-middle.ensures,
      c.before.before.perp.ensures,
      c.before.scale-2.ensures,
      c.add-center.ensures,
    )))
