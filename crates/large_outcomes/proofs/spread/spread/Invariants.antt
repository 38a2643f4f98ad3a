-- Rows k and later are spread.
use Rattle.large_outcomes.specs.Workings.Spread.{by_names}
use Rattle.large_outcomes.specs.Laws.Spreading.{Spreading}
use Rattle.large_outcomes.proofs.spread.spread.Given as goal

abbrev pub invariant-loop-k : goal.invariant-loop-k
invariant-loop-k l = Spreading (by_names l.first l.second) l.rows l.initial.indices l.indices l.k
