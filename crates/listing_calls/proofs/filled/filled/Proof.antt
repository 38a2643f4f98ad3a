-- `listing_calls::filled::filled` meets its contract: each return is a branch of the definition, by the test that led to it.
use mathlib.Core.Path.{refl, sym}
use native.Mathlib.Omega.{arith}
use borrow.Author.Rules.{rules}
use borrow.Author.Tests.{le-leb, lt-leb}
use lib.Seq.{length-take-le}
use Rattle.float_laws.specs.Branches.{holds, fails}
use Rattle.listing_calls.specs.Filled.{filled}
use Rattle.listing_calls.proofs.filled.filled.Statement.{statement}
use Rattle.listing_calls.proofs.filled.filled.Tie as tie

slice-aggregate-result : tie.Need-slice_bounds-result-end
slice-aggregate-result c = sym (length-take-le _ _ (omega arith))

returns : tie.Need-returns-then-rows-points
unfolding filled
returns c = holds _ _ _ _ (le-leb _ _ c.if-rows-points.true) refl

returns-2 : tie.Need-returns
unfolding filled
returns-2 c = fails _ _ _ _ (lt-leb _ _ c.if-rows-points.false) refl

pub filled_spec : {M : Type 1} → statement M
filled_spec = tie.close (tie.spec (λ c. search rules) slice-aggregate-result returns (λ c. search rules) returns-2)
