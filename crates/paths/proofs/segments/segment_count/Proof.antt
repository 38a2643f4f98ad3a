-- `paths::segments::segment_count` meets its contract: each return is a branch of the definition, by the calls and tests before
-- it.
use mathlib.Core.Path.{◌≡◌, refl}
use mathlib.Core.Bool.{cond}
use Prim.Native.Nat.{◌-◌}
use lib.Dec.{ltb}
use borrow.Author.Rules.{rules}
use borrow.Author.Tests.{le-ltb}
use Rattle.float_laws.specs.Branches.{below}
use Rattle.paths.specs.Segments.{segment_count}
use Rattle.paths.proofs.segments.segment_count.Statement.{statement}
use Rattle.paths.proofs.segments.segment_count.Tie as tie

-- past the first test, by the number of vertices
counted : (c : tie.After-vertex_count-n)
    → (let a = c.before.before.before.before.args in let n = c.vertex_count-n.result in
    segment_count a.path.now a.closed ≡ cond (ltb n 2) 0 (cond a.closed n (n - 1)))
unfolding segment_count
counted c = simp (← c.refused.ensures, c.if-refused.false, ← c.vertex_count-n.ensures)

returns : tie.Need-returns-then-refused
unfolding segment_count
returns c = simp (← c.refused.ensures, c.if-refused.true)

pub segment_count_spec : {M : Type 1} → statement M
segment_count_spec =
    tie.close
    (tie.spec
    (λ c. search rules) returns (λ c. search rules)
    (λ c. rw (counted c.before) (below _ _ _ _ _ c.if-n-lt2.true refl))
    (λ c. let p = c.before in rw (counted p.before) (simp (le-ltb _ _ p.if-n-lt2.false, c.if-closed.true)))
    (λ c. search rules)
    (λ c. let p = c.before in rw (counted p.before) (simp (le-ltb _ _ p.if-n-lt2.false, c.if-closed.false))))
