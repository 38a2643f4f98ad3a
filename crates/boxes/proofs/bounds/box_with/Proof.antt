-- `boxes::bounds::box_with` meets its contract: it puts together what the margin, the minima and the maxima answer.
use mathlib.Core.Path.{◌∙◌}
use borrow.Author.Rules.{rules}
use Rattle.boxes.specs.Box as BoxDefs
use Rattle.boxes.specs.Workings.Chord.{margin-by}
use Rattle.boxes.proofs.bounds.box_with.Statement.{statement}
use Rattle.boxes.proofs.bounds.box_with.Tie as tie

pub box_with_spec : {M : Type 1} → statement M
unfolding BoxDefs.box_of
box_with_spec =
    tie.close
    (tie.spec
    (λ c. search rules) (λ c. search rules) (λ c. search rules) (λ c. search rules) (λ c. search rules)
    (λ c. simp (
      c.margin-m.ensures ∙ margin-by _ _ _ _ c.requires,
      c.min.ensures,
      c.min-2.ensures,
      c.max.ensures,
      c.max-2.ensures,
    )))
