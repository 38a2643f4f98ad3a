-- `probe::out::segment` meets its contract: none has no numbers, and a segment those of its vertices and its trace.
use Prim.Native.Nat.{zero-le}
use mathlib.Core.List.{[]}
use borrow.Author.Rules.{rules}
use Rattle.probe.proofs.Written.{all}
use Rattle.probe.proofs.out.segment.Statement.{statement}
use Rattle.probe.proofs.out.segment.Tie as tie

returns : tie.Need-returns-in-None
returns c = simp c.in-None.is (all [] _ zero-le)

returns-2 : tie.Need-returns-in-Some
returns-2 c =
    simp c.in-Some.is c.part.ensures

pub segment_spec : {M : Type 1} → statement M
segment_spec =
    tie.close
    (tie.spec
    (λ c. search rules) (λ c. search rules) (λ c. search rules) (λ c κs. search rules) returns (λ c. search rules) returns-2)
