-- `floats::sqrt` meets its contract: from zero up the root's pattern is that of a number; elsewhere there is no root.
use Rattle.std.proofs.Common.{T, sym, subst, rules}
use lib.Ieee.{binary64, fits, to_bits}
use Rattle.floats.specs.F64
use Rattle.floats.specs.Bits
use Rattle.floats.specs.Agree.{sqrt-agrees}
use Rattle.floats.proofs.Through.{off, value_of, number_of}
use Rattle.floats.proofs.Cases.{root-number, no-root}
use Rattle.floats.proofs.sqrt.Statement.{statement}
use Rattle.floats.proofs.sqrt.Tie as tie

held : (c : tie.Start) → T (fits binary64 c.args.x)
held c = subst T (sym c.well_formed.0.1) tt

float-to-bits-sqrt : tie.Need-float_to_bits-x
float-to-bits-sqrt c = off (root-number _ c.if-x.true).0

float-from-bits-result : tie.Need-float_from_bits-result
float-from-bits-result c =
    let x = c.before.before.args.x in
    number_of F64.sqrt Bits.sqrt x _ (held c.before.before) c.sqrt.ensures (sqrt-agrees (to_bits binary64 x))
    (root-number x c.before.if-x.true).1

returns : tie.Need-returns-then-x
returns c =
    let x = c.before.before.args.x in
    value_of F64.sqrt Bits.sqrt x _ (held c.before.before) c.sqrt.ensures (sqrt-agrees (to_bits binary64 x))

returns-2 : tie.Need-returns
returns-2 c = no-root _ (held c.before) c.if-x.false

pub sqrt_spec : {M : Type 1} → statement M
sqrt_spec = tie.close (tie.spec float-to-bits-sqrt (λ c. search rules) float-from-bits-result returns returns-2)
