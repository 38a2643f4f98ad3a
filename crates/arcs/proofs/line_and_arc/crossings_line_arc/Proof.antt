-- `arcs::line_and_arc::crossings_line_arc` meets its contract: each return is a branch of the definition, by the calls and tests
-- before it.
use borrow.Author.Rules.{rules}
use Rattle.arcs.proofs.line_and_arc.crossings_line_arc.Statement.{statement}
use Rattle.arcs.proofs.line_and_arc.crossings_line_arc.Tie as tie

pub crossings_line_arc_spec : {M : Type 1} → statement M
crossings_line_arc_spec =
    tie.close
    (tie.spec
    (λ c. search rules) (λ c. search rules) (λ c. search rules) (λ c. search rules)
    (λ c. simp (c.in_default.is, c.in_default-t1_point.is))
    (search rules)
    (λ c. simp (c.in_default.is, c.in-Some-t1_point.is, ← c.one_line_arc.ensures))
    (λ c. search rules) (λ c. search rules) (search rules)
    (λ c. simp (c.in-Some.is, c.in_default-t1_point-2.is, ← c.one_line_arc-in_default-t1_point-2.ensures))
    (search rules) (search rules)
    (λ c. simp (
      c.in-Some.is,
      c.in-Some-t1_point-2.is,
      ← c.with_sticky_ends.ensures,
      ← c.in_order.ensures,
    )))
