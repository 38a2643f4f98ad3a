-- `put_text::put_whole` meets its contract: a number below 2^64 has at most 20 digits. Assumes nothing.
use native.Mathlib.Omega.{arith}
use borrow.Author.Rules.{rules}
use Rattle.put_text.specs.Laws.Decimal.{decimal-long}
use Rattle.put_text.specs.Laws.Put.{decimal-in}
use Rattle.put_text.proofs.put_whole.Statement.{statement}
use Rattle.put_text.proofs.put_whole.Tie as tie

put-decimal-requires : tie.Need-put_decimal-requires
put-decimal-requires c κs =
    let start = c.before.before in
    omega (arith, start.requires, decimal-long 19 start.args.n (omega arith))

returns : tie.Need-returns
returns c =
    let called = c.before.before in
    decimal-in _ (omega arith) called.put_decimal.ensures

pub put_whole_spec : {M : Type 1} → statement M
put_whole_spec = tie.close (tie.spec put-decimal-requires (λ c. search rules) returns)
