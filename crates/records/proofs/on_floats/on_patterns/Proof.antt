-- `records::on_floats::on_patterns` meets its contract: the test that is met picks the call. Assumes nothing.
use borrow.Author.Rules.{rules}
use Rattle.float_laws.specs.Branches.{branches}
use Rattle.records.specs.OnFloats.{on_patterns}
use Rattle.records.proofs.on_floats.on_patterns.Statement.{statement}
use Rattle.records.proofs.on_floats.on_patterns.Tie as tie

pub on_patterns_spec : {M : Type 1} → statement M
unfolding on_patterns
on_patterns_spec =
    tie.close
    (tie.spec
    (λ c. search rules)
    (λ c. simp (c.if-call-eq-ABS.true, ← c.abs.ensures))
    (λ c. search rules)
    (λ c. simp (c.if-call-eq-MIN.true, ← c.min.ensures))
    (λ c. search rules)
    (λ c. simp (c.if-call-eq-MAX.true, ← c.max.ensures))
    (λ c. search rules)
    (λ c. simp (c.if-call-eq-SQRT.true, ← c.sqrt.ensures))
    (λ c. search branches depth 6))
