-- `paths::segments::segment_from` meets its contract: it reads the definition's two vertices, and the second is a vertex of the
-- path.
use borrow.Author.Rules.{rules}
use Rattle.paths.specs.Segments
use Rattle.paths.specs.Laws.Segments.{after-within}
use Rattle.paths.proofs.segments.segment_from.Statement.{statement}
use Rattle.paths.proofs.segments.segment_from.Tie as tie

pub segment_from_spec : {M : Type 1} → statement M
unfolding Segments.segment_from
segment_from_spec =
    tie.close
    (tie.spec
    (λ c. search rules) (λ c. search rules) (λ c κs. rw c.after.ensures (after-within _ _ (search rules)))
    (λ c. search rules)
    (λ c. let w = c.before in
    let p = w.before in
    simp (← p.vertex-v1.ensures, ← p.after.ensures, ← w.vertex-v2.ensures, ← c.trace-trace.ensures)))
