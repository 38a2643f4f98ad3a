-- `layout_packed::put::put_count` meets its contract: a count has at most two groups. Assumes nothing.
use native.Mathlib.Omega.{arith}
use borrow.Author.Rules.{rules}
use Rattle.layout_packed.specs.Laws.Groups.{groups-long}
use Rattle.layout_packed.specs.Laws.Put.{put_in}
use Rattle.layout_packed.proofs.put.put_count.Statement.{statement}
use Rattle.layout_packed.proofs.put.put_count.Tie as tie

put-number-requires : tie.Need-put_number-requires
put-number-requires c κs =
    omega (arith, c.requires.1, groups-long 1 c.args.n (omega (arith, c.requires.0)))

returns : tie.Need-returns
returns c =
    put_in 1 _ (omega arith) c.put_number.ensures

pub put_count_spec : {M : Type 1} → statement M
put_count_spec = tie.close (tie.spec put-number-requires (λ c. search rules) returns)
