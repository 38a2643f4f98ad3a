-- `spans::root::holds_root` meets its contract: its calls are the tests of the definition.
use borrow.Author.Rules.{rules}
use Rattle.spans.specs.Workings.Root
use Rattle.spans.proofs.root.holds_root.Statement.{statement}
use Rattle.spans.proofs.root.holds_root.Tie as tie

returns : tie.Need-returns
unfolding Root.holds_root
returns c =
    simp (
      ← c.moderate.ensures,
      ← c.moderate-2.ensures,
      ← c.moderate-3.ensures,
      ← c.moderate-4.ensures,
    )

pub holds_root_spec : {M : Type 1} → statement M
holds_root_spec = tie.close (tie.spec (λ c. search rules) (λ c. search rules) (λ c. search rules) (λ c. search rules) returns)
