-- `layout_text::bytes::kind_at` meets its contract: past the end nothing is left, before it the byte is the first of what is
-- left. Assumes nothing.
use mathlib.Core.Path.{◌∙◌}
use native.Mathlib.Omega.{arith}
use borrow.Author.Rules.{rules}
use Rattle.layout_text.proofs.Digits.{first_past, first-at}
use Rattle.layout_text.proofs.bytes.kind_at.Statement.{statement}
use Rattle.layout_text.proofs.bytes.kind_at.Tie as tie

returns : tie.Need-returns-then-text-i
returns c = (first_past _ _ c.if-text-i.true, λ h. omega arith)

returns-2 : tie.Need-returns
returns-2 c =
    let inside = c.if-text-i.false in
    (c.kind.ensures ∙ first-at _ _ inside, λ h. inside)

pub kind_at_spec : {M : Type 1} → statement M
kind_at_spec = tie.close (tie.spec returns (λ c. search rules) (λ c. search rules) returns-2)
