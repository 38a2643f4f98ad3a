-- `floats::root::parts` meets its contract: what is left of the pattern below its field are the digits, and each return is a
-- branch of the definition.
use Rattle.std.proofs.Common.{ℕ, ◌+◌, ◌/◌, ◌^◌, ap, ◌∙◌, rules}
use Rattle.floats.specs.Workings.Root
use Rattle.floats.proofs.Raise.{scaled}
use Rattle.floats.proofs.RootBits.{low-digits, parts_low, parts-high}
use Rattle.floats.proofs.root.parts.Statement.{statement}
use Rattle.floats.proofs.root.parts.Tie as tie

returns : tie.Need-returns-then-field-eq0
returns c =
    let start = c.before.before in
    let b = start.args.b in
    c.raised.ensures ∙ ap Root.raised (low-digits b start.ranges.b.fits) ∙ parts_low b c.before.if-field-eq0.true

returns-2 : tie.Need-returns
returns-2 c =
    let b = c.before.args.b in
    ap (λ (t : ℕ). scaled (t + 2 ^ 52) (b / 2 ^ 52 + 1023)) (low-digits b c.before.ranges.b.fits)
    ∙ parts-high b c.if-field-eq0.false

pub parts_spec : {M : Type 1} → statement M
parts_spec =
    tie.close
    (tie.spec
    (λ c. search rules) (λ c. search rules) returns (λ c. search rules) (λ c. search rules) returns-2)
