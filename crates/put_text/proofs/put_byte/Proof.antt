-- `put_text::put_byte` meets its contract: the byte stands at its place, and the next place is one on. Assumes nothing.
use mathlib.Core.Path.{refl}
use borrow.Author.Rules.{rules}
use Rattle.put_text.proofs.put_byte.Statement.{statement}
use Rattle.put_text.proofs.put_byte.Tie as tie

pub put_byte_spec : {M : Type 1} → statement M
put_byte_spec =
    tie.close (tie.spec (λ c. search rules) (λ c. search rules) (λ c. search rules) (λ c. record { holds = refl; after = refl }))
