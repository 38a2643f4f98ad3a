-- `cuts::fill::put_names` meets its contract: it writes the name of the segment, or those of its two halves.
use native.Mathlib.Omega.{arith}
use borrow.Author.Rules.{rules}
use lib.ListN.{length-set}
use Rattle.cuts.specs.Laws.Pieces.{name-whole, name-halves}
use Rattle.cuts.proofs.fill.put_names.Statement.{statement}
use Rattle.cuts.proofs.fill.put_names.Tie as tie

returns : tie.Need-returns-then-is_large
returns c =
    name-halves _ _ _ _ c.vertex-v.ensures c.is_large.ensures _ _ c.if-is_large.true

returns-2 : tie.Need-returns
returns-2 c =
    name-whole _ _ _ _ c.vertex-v.ensures c.is_large.ensures _ _ c.if-is_large.false

pub put_names_spec : {M : Type 1} → statement M
put_names_spec =
    tie.close
    (tie.spec
    (λ c. search rules) (λ c. search rules) (λ c. search rules) (λ c. search rules) (λ c. search rules) (λ c. search rules)
    (λ c. search rules) (λ c. search rules) (λ c. search rules) (λ c. simp length-set (omega arith)) (λ c. search rules)
    (λ c. search rules) returns
    (λ c. search rules) (λ c. search rules) (λ c. search rules) (λ c. search rules) returns-2)
