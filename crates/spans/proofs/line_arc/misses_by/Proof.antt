-- `spans::line_arc::misses_by` meets its contract: its tests come in the definition's order.
use borrow.Author.Rules.{rules}
use Rattle.spans.specs.Workings.LineArc as line-arc
use Rattle.spans.proofs.line_arc.misses_by.Statement.{statement}
use Rattle.spans.proofs.line_arc.misses_by.Tie as tie

returns : tie.Need-returns-then-fuzzy_eq_zero-fuzzy_eq_eps
unfolding line-arc.misses_by
returns c =
    simp (
      ← c.fuzzy_eq_zero.ensures,
      ← c.fuzzy_eq_eps.ensures,
      c.if-fuzzy_eq_zero-fuzzy_eq_eps.true,
    )

returns-2 : tie.Need-returns-then-not-goes_through
unfolding line-arc.misses_by
returns-2 c =
    simp (
      ← c.fuzzy_eq_zero.ensures,
      ← c.fuzzy_eq_eps.ensures,
      c.if-fuzzy_eq_zero-fuzzy_eq_eps.false,
      ← c.goes_through.ensures,
      c.if-not-goes_through.true,
    )

returns-3 : tie.Need-returns-then-not-usual
unfolding line-arc.misses_by
returns-3 c =
    simp (
      ← c.fuzzy_eq_zero.ensures,
      ← c.fuzzy_eq_eps.ensures,
      c.if-fuzzy_eq_zero-fuzzy_eq_eps.false,
      ← c.goes_through.ensures,
      c.if-not-goes_through.false,
      ← c.sub.ensures,
      ← c.length_squared.ensures,
      ← c.usual.ensures,
      c.if-not-usual.true,
    )

returns-4 : tie.Need-returns-then-not-holds_root
unfolding line-arc.misses_by
returns-4 c =
    simp (
      ← c.fuzzy_eq_zero.ensures,
      ← c.fuzzy_eq_eps.ensures,
      c.if-fuzzy_eq_zero-fuzzy_eq_eps.false,
      ← c.goes_through.ensures,
      c.if-not-goes_through.false,
      ← c.sub.ensures,
      ← c.length_squared.ensures,
      ← c.usual.ensures,
      c.if-not-usual.false,
      ← c.holds_root.ensures,
      c.if-not-holds_root.true,
    )

returns-5 : tie.Need-returns
unfolding line-arc.misses_by
returns-5 c =
    simp (
      ← c.fuzzy_eq_zero.ensures,
      ← c.fuzzy_eq_eps.ensures,
      c.if-fuzzy_eq_zero-fuzzy_eq_eps.false,
      ← c.goes_through.ensures,
      c.if-not-goes_through.false,
      ← c.sub.ensures,
      ← c.length_squared.ensures,
      ← c.usual.ensures,
      c.if-not-usual.false,
      ← c.holds_root.ensures,
      c.if-not-holds_root.false,
      ← c.of_segment-arc.ensures,
      ← c.points_miss.ensures,
    )

pub misses_by_spec : {M : Type 1} → statement M
misses_by_spec = tie.close (tie.spec (λ c. search rules) (λ c. search rules) returns (λ c. search rules) returns-2 (λ c. search rules) (λ c. search rules) (λ c. search rules) returns-3 (λ c. search rules) returns-4 (λ c. search rules) (λ c. search rules) returns-5)
