-- `boxes::index::store` meets its contract: the boxes of the segments, then those of their groups.
use native.Mathlib.Omega.{arith}
use borrow.Author.Rules.{rules}
use Rattle.boxes.specs.Workings.Stored.{stores-index}
use Rattle.boxes.proofs.index.store.Statement.{statement}
use Rattle.boxes.proofs.index.store.Tie as tie

pub store_spec : {M : Type 1} → statement M
store_spec =
    tie.close
    (tie.spec
    (λ c κs. search rules)
    (λ c κs. let p = c.requires in
    (p.0.1, omega (arith, c.store_segments.auto.boxes, p.1)))
    (λ c. search rules)
    (λ c. stores-index _ _ _ _ _ _ _ c.requires.1 c.store_segments.ensures
    c.store_groups.ensures))
