-- `month::count::refused_adds` meets its contract: its two stores are the definition's.
use mathlib.Core.Path.{refl}
use borrow.Author.Rules.{rules}
use Rattle.month.specs.Counted.{refused_adds}
use Rattle.month.proofs.count.refused_adds.Statement.{statement}
use Rattle.month.proofs.count.refused_adds.Tie as tie

returns : tie.Need-returns
unfolding refused_adds
returns c = refl

pub refused_adds_spec : {M : Type 1} → statement M
refused_adds_spec =
    tie.close (tie.spec (λ c. search rules) (λ c. search rules) (λ c. search rules) (λ c. search rules) returns)
