-- `paths::segments::segment` meets its contract: each return is a branch of the definition, by the calls and tests before it.
use borrow.Author.Rules.{rules}
use borrow.Author.Tests.{lt-ltb, le-ltb}
use native.Mathlib.Omega.{arith}
use Rattle.paths.specs.Segments
use Rattle.paths.specs.Laws.Segments.{count-within}
use Rattle.paths.proofs.segments.segment.Statement.{statement}
use Rattle.paths.proofs.segments.segment.Tie as tie

segment-from-requires : tie.Need-segment_from-requires
segment-from-requires c κs =
    let a = c.before.before.before.args in
    omega (arith, count-within a.path.now a.closed, c.segment_count.ensures)

pub segment_spec : {M : Type 1} → statement M
unfolding Segments.segment
segment_spec =
    tie.close
    (tie.spec
    (λ c. search rules) segment-from-requires
    (λ c. let p = c.before in
    simp (← p.segment_count.ensures, lt-ltb _ _ p.if-i-segment_count.true, ← c.segment_from.ensures))
    (λ c. simp (← c.segment_count.ensures, le-ltb _ _ c.if-i-segment_count.false)))
