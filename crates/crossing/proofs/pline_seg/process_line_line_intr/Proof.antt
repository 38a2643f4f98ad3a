-- `crossing::pline_seg::process_line_line_intr` meets its contract: each return is a branch of the definition, by the calls and
-- tests before it.
use borrow.Author.Rules.{rules}
use Rattle.crossing.specs.PlineSeg
use Rattle.crossing.proofs.pline_seg.process_line_line_intr.Statement.{statement}
use Rattle.crossing.proofs.pline_seg.process_line_line_intr.Tie as tie

-- where they cross: the point is at the first segment's parameter
returns-3 : tie.Need-returns-in-TrueIntersect
unfolding PlineSeg.process_line_line_intr
returns-3 c =
    simp (← c.line_line-intr_result.ensures, c.in-TrueIntersect.is, ← c.point_from_parametric.ensures)

pub process_line_line_intr_spec : {M : Type 1} → statement M
unfolding PlineSeg.process_line_line_intr
process_line_line_intr_spec =
    tie.close
    (tie.spec
    (search rules) (λ c. search rules) (λ c. search rules) (λ c. search rules) (search rules)
    (λ c. search rules) (search rules) (search rules)
    (λ c. simp (← c.line_line-intr_result.ensures, c.in-NoIntersect.is))
    (λ c. simp (← c.line_line-intr_result.ensures, c.in-FalseIntersect.is)) returns-3
    (λ c. simp (
      ← c.line_line-intr_result.ensures,
      c.in-Overlapping.is,
      ← c.point_from_parametric-in-Overlapping.ensures,
      ← c.point_from_parametric-in-Overlapping-2.ensures,
    )))
