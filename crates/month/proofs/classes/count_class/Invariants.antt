-- What is found in the first k rows, and what is left to find, make up the whole.
use Rattle.month.specs.Laws.Classes.{Counting}
use Rattle.month.proofs.classes.count_class.Given as goal

abbrev pub invariant-loop-k : goal.invariant-loop-k
invariant-loop-k l = Counting l.class l.rows l.indices l.k l.found
