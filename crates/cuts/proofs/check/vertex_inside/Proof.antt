-- `cuts::check::vertex_inside` meets its contract: each return is a branch of the definition, and its calls are the definition's.
use borrow.Author.Rules.{rules}
use Rattle.float_laws.specs.Branches.{holds, fails}
use Rattle.cuts.proofs.check.vertex_inside.Statement.{statement}
use Rattle.cuts.proofs.check.vertex_inside.Tie as tie

pub vertex_inside_spec : {M : Type 1} → statement M
vertex_inside_spec =
    tie.close
    (tie.spec
    (λ c. search rules) (λ c. search rules) (λ c. search rules)
    (λ c. holds _ _ _ _ c.if-trace.true
    (simp (← c.inside.ensures, ← c.inside-2.ensures, ← c.inside-3.ensures)))
    (λ c. search rules)
    (λ c. fails _ _ _ _ c.if-trace.false
    (simp (
      ← c.inside.ensures,
      ← c.inside-2.ensures,
      ← c.inside-3.ensures,
      ← c.no_trace.ensures,
    ))))
