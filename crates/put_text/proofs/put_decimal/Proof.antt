-- `put_text::put_decimal` meets its contract: it is that of the function that it calls. Assumes nothing.
use borrow.Author.Rules.{rules}
use Rattle.put_text.proofs.put_decimal.Statement.{statement}
use Rattle.put_text.proofs.put_decimal.Tie as tie

pub put_decimal_spec : {M : Type 1} → statement M
put_decimal_spec =
    tie.close (tie.spec (λ c κs. search rules) (λ c. search rules) (λ c. c.put_digits.ensures))
