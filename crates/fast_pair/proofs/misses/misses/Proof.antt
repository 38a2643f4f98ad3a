-- `fast_pair::misses::misses` meets its contract: the numbers that it hands on are those kept of the line and of the arcs, and
-- Laws/Misses says what the pair's definition makes of the answer.
use mathlib.Core.Path.{sym, ◌∙◌}
use mathlib.Core.Bool.{true≢false}
use borrow.Author.Rules.{rules}
use Rattle.fast_pair.specs.Laws.Misses.{slope-kept, circle-at, line_first, line_second, two-arcs}
use Rattle.fast_pair.proofs.misses.misses.Statement.{statement}
use Rattle.fast_pair.proofs.misses.misses.Tie as tie

line-misses-requires : tie.Need-line_misses-requires
line-misses-requires c κs = (
  slope-kept _ _ _ _ c.requires.0 (sym c.bulge_is_zero.ensures ∙ c.if-bulge_is_zero.true),
  circle-at _ _ _ _ c.requires.1 (sym c.bulge_is_zero-then-bulge_is_zero.ensures ∙ c.if-bulge_is_zero-2.false),
)

returns-2 : tie.Need-returns-then-bulge_is_zero
returns-2 c =
    line_first _ _ _ _ _ _ (sym c.bulge_is_zero.ensures ∙ c.if-bulge_is_zero.true)
    (sym c.bulge_is_zero-then-bulge_is_zero.ensures ∙ c.if-bulge_is_zero-2.false) c.line_misses.ensures.1

line-misses-requires-2 : tie.Need-line_misses-requires-then-bulge_is_zero-3
line-misses-requires-2 c κs = (
  slope-kept _ _ _ _ c.requires.1 (sym c.bulge_is_zero-2.ensures ∙ c.if-bulge_is_zero-3.true),
  circle-at _ _ _ _ c.requires.0 (sym c.bulge_is_zero.ensures ∙ c.if-bulge_is_zero.false),
)

returns-3 : tie.Need-returns-then-bulge_is_zero-3
returns-3 c =
    line_second _ _ _ _ _ _ (sym c.bulge_is_zero.ensures ∙ c.if-bulge_is_zero.false)
    (sym c.bulge_is_zero-2.ensures ∙ c.if-bulge_is_zero-3.true) c.line_misses-then-bulge_is_zero-3.ensures.1

arcs-miss-requires : tie.Need-arcs_miss-requires
arcs-miss-requires c κs = (
  circle-at _ _ _ _ c.requires.0 (sym c.bulge_is_zero.ensures ∙ c.if-bulge_is_zero.false),
  circle-at _ _ _ _ c.requires.1 (sym c.bulge_is_zero-2.ensures ∙ c.if-bulge_is_zero-3.false),
)

returns-4 : tie.Need-returns
returns-4 c =
    two-arcs _ _ _ _ _ _ (sym c.bulge_is_zero.ensures ∙ c.if-bulge_is_zero.false)
    (sym c.bulge_is_zero-2.ensures ∙ c.if-bulge_is_zero-3.false) c.arcs_miss.ensures

pub misses_spec : {M : Type 1} → statement M
misses_spec =
    tie.close
    (tie.spec
    (λ c. search rules) (λ c. search rules)
    (λ c y. absurd (true≢false (sym y)))
    line-misses-requires returns-2 (λ c. search rules) line-misses-requires-2 returns-3 arcs-miss-requires returns-4)
