-- `segment` meets its contract: its checks are those of the list that the definition picks, one by one.
use Rattle.std.proofs.Common.{ap, ◌∙◌}
use Rattle.checks.specs.Arc.{arc_chord}
use Rattle.cuts.specs.declared.cut.Halves.{Halves}
use Rattle.cuts.specs.Cut.{halve}
use Rattle.checks.specs.Laws.Steps.{passes, last}
use Rattle.cuts.specs.Laws.Steps.{cut}
use Rattle.cuts.proofs.check.segment.Goals as goal

pub returns-then-is_large : goal.returns-then-is_large
unfolding halve
returns-then-is_large c =
    cut _ _ _ _ c.is_large.ensures _ c.if-is_large.true
    (passes (simp (c.halve-h.ensures, c.at.ensures) at c.in_ok-coordinate.ensures)
    (passes (simp (c.halve-h.ensures, c.at-then-is_large.ensures) at c.in_ok-coordinate-2.ensures)
    (passes (simp c.halve-h.ensures at c.in_ok-arc_chord.ensures)
    (last
    (c.arc_chord-then-is_large.ensures
    ∙ ap (λ (h : Halves). arc_chord h.second c.args.v2 c.args.owner c.args.index) c.halve-h.ensures)))))
