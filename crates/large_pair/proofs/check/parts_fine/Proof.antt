-- `large_pair::check::parts_fine` meets its contract: its calls and tests lead to the branches of the definition.
use borrow.Author.Rules.{rules}
use Rattle.large_pair.specs.Workings.PartsFine.{parts_fine}
use Rattle.large_pair.proofs.check.parts_fine.Statement.{statement}
use Rattle.large_pair.proofs.check.parts_fine.Tie as tie

returns : tie.Need-returns-then-is_large
unfolding parts_fine
returns c =
    simp (
      ← c.is_large.ensures,
      c.if-is_large.true,
      ← c.segment_fine-first_fine.ensures,
      ← c.inside.ensures,
      ← c.segment_fine.ensures,
    )

returns-2 : tie.Need-returns
unfolding parts_fine
returns-2 c = simp (← c.is_large.ensures, c.if-is_large.false, c.segment_fine-2.ensures)

pub parts_fine_spec : {M : Type 1} → statement M
parts_fine_spec =
    tie.close
    (tie.spec
    (λ c. search rules) (λ c. search rules) (λ c. search rules) (λ c. search rules) returns (λ c. search rules) returns-2)
