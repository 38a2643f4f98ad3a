-- `floats::bits::sqrt` meets its contract: zeros and infinity are their own roots, a number above zero has the one that
-- `root::sqrt` works out, and the rest has none.
use Rattle.std.proofs.Common.{◌≡◌, ℕ, sym, subst, arith, rules}
use Rattle.floats.specs.Bits
use Rattle.floats.specs.Laws.RootCases.{root-zero, root-inf, root-neg-zero, root_none}
use Rattle.floats.proofs.bits.sqrt.Statement.{statement}
use Rattle.floats.proofs.bits.sqrt.Tie as tie

own : (b k : ℕ) → b ≡ k → k ≡ Bits.sqrt k → b ≡ Bits.sqrt b
own b k e h = subst (λ (z : ℕ). z ≡ Bits.sqrt z) (sym e) h

returns-5 : tie.Need-returns
returns-5 c =
    let start = c.before.before.before.before in
    root_none start.args.b (omega arith) start.ranges.b.fits c.if-b-eq-NEGATIVE_ZERO.false

pub sqrt_spec : {M : Type 1} → statement M
sqrt_spec =
    tie.close
    (tie.spec
    (λ c. own _ 0 c.if-b-eq0.true root-zero)
    (λ c. search rules) (λ c. search rules)
    (λ c. own _ 0x7ff0_0000_0000_0000 c.if-b-eq-INFINITY.true root-inf)
    (λ c. own _ 0x8000_0000_0000_0000 c.if-b-eq-NEGATIVE_ZERO.true root-neg-zero)
    returns-5)
