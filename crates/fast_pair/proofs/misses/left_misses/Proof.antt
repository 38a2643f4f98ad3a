-- `fast_pair::misses::left_misses` meets its contract: a no says nothing, and else it answers what `misses` does.
use mathlib.Core.Path.{sym}
use mathlib.Core.Bool.{true≢false}
use borrow.Author.Rules.{rules}
use Rattle.fast_pair.proofs.misses.left_misses.Statement.{statement}
use Rattle.fast_pair.proofs.misses.left_misses.Tie as tie

pub left_misses_spec : {M : Type 1} → statement M
left_misses_spec =
    tie.close
    (tie.spec
    (λ c. search rules) (λ c y. absurd (true≢false (sym y))) (λ c. search rules) (λ c y. absurd (true≢false (sym y)))
    (λ c. search rules) (λ c. c.misses.ensures))
