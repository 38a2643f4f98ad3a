-- `dxf_read::digits::byte_at` meets its contract: past the end nothing is left, before it the byte is the first of what is left.
use mathlib.Core.Path.{◌∙◌}
use native.Mathlib.Omega.{arith}
use borrow.Author.Rules.{rules}
use Rattle.dxf_read.proofs.Bytes.{first_past, first-at}
use Rattle.dxf_read.proofs.digits.byte_at.Statement.{statement}
use Rattle.dxf_read.proofs.digits.byte_at.Tie as tie

returns : tie.Need-returns-then-text-i
returns c = (first_past _ _ c.if-text-i.true, λ h. omega arith)

returns-2 : tie.Need-returns
returns-2 c =
    let inside = c.if-text-i.false in
    (c.wide.ensures ∙ first-at _ _ inside, λ h. inside)

pub byte_at_spec : {M : Type 1} → statement M
byte_at_spec = tie.close (tie.spec returns (λ c. search rules) (λ c. search rules) returns-2)
