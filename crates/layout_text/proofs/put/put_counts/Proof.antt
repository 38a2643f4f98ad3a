-- `layout_text::put::put_counts` meets its contract: the parts of the line follow one another, and a count has at most three
-- digits. Assumes nothing.
use native.Mathlib.Omega.{arith}
use borrow.Author.Rules.{rules}
use Rattle.put_text.specs.Laws.Decimal.{decimal-long}
use Rattle.layout_text.specs.Laws.Put.{counts-put}
use Rattle.layout_text.proofs.put.put_counts.Statement.{statement}
use Rattle.layout_text.proofs.put.put_counts.Tie as tie

put-decimal-requires : tie.Need-put_decimal-after_n-requires
put-decimal-requires c κs =
    omega (arith, decimal-long 2 c.args.n (omega arith))

put-byte-requires : tie.Need-put_byte-m_at-requires
put-byte-requires c κs =
    omega (arith, decimal-long 2 c.args.n (omega arith))

put-decimal-requires-2 : tie.Need-put_decimal-after_m-requires
put-decimal-requires-2 c κs =
    omega (arith, decimal-long 2 c.args.n (omega arith), decimal-long 2 c.args.m (omega arith))

put-byte-requires-2 : tie.Need-put_byte-requires
put-byte-requires-2 c κs =
    omega (arith, decimal-long 2 c.args.n (omega arith), decimal-long 2 c.args.m (omega arith))

pub put_counts_spec : {M : Type 1} → statement M
put_counts_spec =
    tie.close
    (tie.spec
    put-decimal-requires put-byte-requires put-decimal-requires-2 put-byte-requires-2 (λ c. search rules)
    (λ c. counts-put _ _ c.requires.0 c.requires.1.0 c.put_decimal-after_n.ensures c.put_byte-m_at.ensures
    c.put_decimal-after_m.ensures c.put_byte.ensures))
