-- `paths::segments::after` meets its contract: its test is the definition's.
use borrow.Author.Rules.{rules}
use borrow.Author.Tests.{lt-ltb, le-ltb}
use Rattle.paths.specs.Segments
use Rattle.paths.proofs.segments.after.Statement.{statement}
use Rattle.paths.proofs.segments.after.Tie as tie

pub after_spec : {M : Type 1} → statement M
unfolding Segments.after
after_spec =
    tie.close
    (tie.spec
    (λ c. search rules) (λ c. search rules) (λ c. search rules)
    (λ c. simp (← c.vertex_count.ensures, lt-ltb _ _ c.if-i-vertex_count.true))
    (λ c. simp (← c.vertex_count.ensures, le-ltb _ _ c.if-i-vertex_count.false)))
