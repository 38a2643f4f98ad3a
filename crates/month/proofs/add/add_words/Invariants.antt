-- The first k words are added.
use Rattle.month.specs.Laws.Words.{Adding}
use Rattle.month.proofs.add.add_words.Given as goal

abbrev pub invariant-loop-k : goal.invariant-loop-k
invariant-loop-k l = Adding l.initial.into l.other l.into l.k
