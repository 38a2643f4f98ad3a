-- Rows k and later are spread.
use Rattle.large_outcomes.specs.Workings.Spread.{zero_halves}
use Rattle.large_outcomes.specs.Laws.Spreading.{Spreading}
use Rattle.large_outcomes.proofs.spread.spread_zeros.Given as goal

abbrev pub invariant-loop-k : goal.invariant-loop-k
invariant-loop-k l = Spreading zero_halves l.rows l.initial.indices l.indices l.k
