-- `boxes::index::floats_needed` meets its contract: four for each segment and each group.
use borrow.Author.Rules.{rules}
use Rattle.boxes.proofs.index.floats_needed.Statement.{statement}
use Rattle.boxes.proofs.index.floats_needed.Tie as tie

pub floats_needed_spec : {M : Type 1} → statement M
floats_needed_spec =
    tie.close
    (tie.spec (λ c κs. search rules) (λ c. search rules) (λ c. search rules) (λ c. simp c.group_count.ensures))
