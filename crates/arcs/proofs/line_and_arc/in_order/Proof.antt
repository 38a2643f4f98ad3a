-- `arcs::line_and_arc::in_order` meets its contract: each return is a branch of the definition, by the calls and tests before it.
use borrow.Author.Rules.{rules}
use Rattle.arcs.specs.LineAndArc.{in_order}
use Rattle.arcs.proofs.line_and_arc.in_order.Statement.{statement}
use Rattle.arcs.proofs.line_and_arc.in_order.Tie as tie

pub in_order_spec : {M : Type 1} → statement M
unfolding in_order
in_order_spec =
    tie.close
    (tie.spec
    (search rules) (search rules)
    (λ c. simp (← c.dist_squared.ensures, ← c.dist_squared-2.ensures, c.if-u_is_line-dist_squared.true))
    (λ c. simp (← c.dist_squared.ensures, ← c.dist_squared-2.ensures, c.if-u_is_line-dist_squared.false)))
