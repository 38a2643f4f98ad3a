-- `dxf_read::pair::value_at` meets its contract, turn by turn.
use borrow.Author.Rules.{rules}
use Rattle.dxf_read.proofs.Pairs.{count-read, flags-read, x-read, y-read, bulge-read, other-read, none_read}
use Rattle.dxf_read.proofs.pair.value_at.Statement.{statement}
use Rattle.dxf_read.proofs.pair.value_at.Tie as tie

pub value_at_spec : {M : Type 1} → statement M
value_at_spec =
    tie.close
    (tie.spec
    (λ c. search rules) (λ c. search rules) (λ c. search rules)
    (λ c. search rules) (λ c. search rules) (λ c. search rules)
    (λ c. search rules) (λ c. search rules) (λ c. search rules)
    (λ c. search rules) (λ c. search rules) (λ c. search rules)
    (λ c. search rules) (λ c. search rules) (λ c. search rules)
    (λ c. search rules) (λ c. search rules) (λ c. search rules)
    (λ c. search rules)
    (λ c. count-read _ _ _ _ _ c.whole_line.ensures c.whole_pair.ensures c.in-Count.is)
    (λ c. flags-read _ _ _ _ _ c.whole_line-in-Flags.ensures c.whole_pair-in-Flags.ensures
    c.in-Flags.is)
    (λ c. x-read _ _ _ _ _ c.number_line.ensures c.number_pair.ensures c.in-X.is)
    (λ c. y-read _ _ _ _ _ c.number_line-in-Y.ensures c.number_pair-in-Y.ensures
    c.in-Y.is)
    (λ c. bulge-read _ _ _ _ _ c.number_line-in-Bulge.ensures c.number_pair-in-Bulge.ensures
    c.in-Bulge.is)
    (λ c. other-read _ _ _ _ _ c.skip_line.ensures c.other_pair.ensures c.in-Other.is)
    (λ c. none_read _ _ _ c.in-OutOfPlace.is))
