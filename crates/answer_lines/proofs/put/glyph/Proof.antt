-- `answer_lines::put::glyph` meets its contract: its test is the definition's. Assumes nothing.
use borrow.Author.Rules.{rules}
use borrow.Author.Tests.{lt-ltb, le-ltb}
use Rattle.answer_lines.specs.Lines.{glyph}
use Rattle.answer_lines.proofs.put.glyph.Statement.{statement}
use Rattle.answer_lines.proofs.put.glyph.Tie as tie

pub glyph_spec : {M : Type 1} → statement M
unfolding glyph
glyph_spec =
    tie.close
    (tie.spec
    (λ c. search rules) (λ c. search rules) (λ c. simp (lt-ltb _ _ c.if-d-lt10.true))
    (λ c. search rules) (λ c. search rules) (λ c. simp (le-ltb _ _ c.if-d-lt10.false)))
