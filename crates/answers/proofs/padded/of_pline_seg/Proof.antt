-- `answers::padded::of_pline_seg` meets its contract: a refusal gives a refusal, and an answer its class and points.
use Rattle.std.specs.Prelude.{Ok, Result}
use Rattle.checks.specs.declared.fault.Fault.{Fault}
use mathlib.Core.Path.{◌≡◌, ap, ◌∙◌}
use borrow.Author.Rules.{rules}
use Rattle.arcs.specs.declared.pline_seg_intr.PlineSegIntr.{PlineSegIntr}
use Rattle.checks.specs.Word.{word}
use Rattle.answers.specs.declared.class_and_points.ClassAndPoints.{ClassAndPoints}
use Rattle.answers.specs.declared.padded.PaddedAnswer.{PaddedAnswer}
use Rattle.answers.specs.Padded.{of_pline_seg, refusal, case}
use Rattle.answers.specs.ClassAndPoints.{class_and_points}
use Rattle.answers.proofs.AsNumbers.{as-refused}
use Rattle.answers.proofs.padded.of_pline_seg.Statement.{statement}
use Rattle.answers.proofs.padded.of_pline_seg.Tie as tie

as-class : (answer : Result PlineSegIntr Fault) (found : PlineSegIntr) (m : ClassAndPoints) (padded : PaddedAnswer) → answer ≡ Ok found
    → m ≡ class_and_points found → padded ≡ case m.class m.x1 m.y1 m.x2 m.y2 → padded ≡ of_pline_seg answer
unfolding of_pline_seg case class_and_points
as-class answer found m padded e is same =
    rw e (same ∙ ap (λ (k : ClassAndPoints). case k.class k.x1 k.y1 k.x2 k.y2) is)

pub of_pline_seg_spec : {M : Type 1} → statement M
unfolding of_pline_seg refusal word
of_pline_seg_spec =
    tie.close
    (tie.spec
    (λ c. search rules) (λ c. search rules) (λ c. search rules) (λ c. search rules) (λ c. search rules)
    (λ c. search (as-refused of_pline_seg))
    (λ c.
    as-class _ _ _ _ c.in-Ok.is c.class_and_points-m.ensures c.case.ensures))
