-- `layout_packed::vertex::size` meets its contract. Assumes nothing.
use mathlib.Core.Path.{refl}
use borrow.Author.Rules.{rules}
use Rattle.layout_packed.proofs.vertex.size.Statement.{statement}
use Rattle.layout_packed.proofs.vertex.size.Tie as tie

pub size_spec : {M : Type 1} → statement M
size_spec = tie.close (tie.spec (λ c. search rules) (λ c. refl))
