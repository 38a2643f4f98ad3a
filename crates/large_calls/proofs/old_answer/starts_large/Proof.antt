-- `large_calls::old_answer::starts_large` meets its contract.
use borrow.Author.Rules.{rules}
use Rattle.large_calls.specs.Laws.Starts.{starts-so, starts-not}
use Rattle.large_calls.proofs.old_answer.starts_large.Statement.{statement}
use Rattle.large_calls.proofs.old_answer.starts_large.Tie as tie

returns : tie.Need-returns-then-vertex_count-gt0
returns c =
    starts-so _ _ c.vertex_count.ensures c.if-vertex_count-gt0.true _ c.vertex-v.ensures _ c.is_large.ensures

pub starts_large_spec : {M : Type 1} → statement M
starts_large_spec =
    tie.close
    (tie.spec
    (λ c. search rules) (λ c. search rules) (λ c. search rules) returns
    (λ c. starts-not _ _ c.vertex_count.ensures c.if-vertex_count-gt0.false))
