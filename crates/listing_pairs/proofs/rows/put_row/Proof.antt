-- `listing_pairs::rows::put_row` meets its contract: the stores, one after the other, are the row's numbers set from its
-- place on.
use native.Mathlib.Omega.{arith}
use lib.ListN.{length-set}
use Rattle.listing_pairs.specs.Workings.Stored.{put-indices, put-points, no-indices, no-points}
use borrow.Author.Rules.{rules}
use Rattle.listing_pairs.proofs.rows.put_row.Statement.{statement}
use Rattle.listing_pairs.proofs.rows.put_row.Tie as tie

pub put_row_spec : {M : Type 1} → statement M
put_row_spec =
    tie.close
    (tie.spec
    (λ c. search rules) (λ c. search rules) (λ c. search rules) (λ c. search rules) (λ c. search rules)
    (λ c. simp length-set (omega arith))
    (λ c. search rules) (λ c. search rules)
    (λ c. simp length-set (omega arith))
    (λ c. search rules) (λ c. search rules) (λ c. search rules) (λ c. search rules) (λ c. search rules)
    (λ c. simp length-set (omega arith))
    (λ c. search rules) (λ c. search rules)
    (λ c. simp length-set (omega arith))
    (λ c. search rules) (λ c. search rules)
    (λ c. simp length-set (omega arith))
    (λ c. search rules) (λ c. search rules)
    (λ c. (put-indices _ _ _ c.if-write.true _, put-points _ _ _ c.if-write.true _))
    (λ c. (no-indices _ _ _ c.if-write.false _, no-points _ _ _ c.if-write.false _)))
