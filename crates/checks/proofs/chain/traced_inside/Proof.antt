-- `traced_inside` meets its contract: each return is a branch of the definition, and its calls are the definition's.
use borrow.Author.Rules.{rules}
use Rattle.float_laws.specs.Branches.{holds, fails}
use Rattle.checks.proofs.chain.traced_inside.Statement.{statement}
use Rattle.checks.proofs.chain.traced_inside.Tie as tie

pub traced_inside_spec : {M : Type 1} → statement M
traced_inside_spec =
    tie.close
    (tie.spec
    (λ c. search rules)
    (λ c. holds _ _ _ _ c.if-trace.true c.vertex_inside-inside.ensures)
    (λ c. search rules)
    (λ c. fails _ _ _ _ c.if-trace.false (simp (← c.vertex_inside-inside.ensures, ← c.no_trace.ensures))))
