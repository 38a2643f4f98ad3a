-- `answer_lines::put::put_number` meets its contract: a space, then the digits. Assumes nothing.
use native.Mathlib.Omega.{arith}
use borrow.Author.Rules.{rules}
use Rattle.answer_lines.specs.Lines.{number_text}
use Rattle.put_text.specs.Laws.Put.{put-join}
use Rattle.answer_lines.specs.Laws.Hex.{hex-after}
use Rattle.answer_lines.proofs.put.put_number.Statement.{statement}
use Rattle.answer_lines.proofs.put.put_number.Tie as tie

returns : tie.Need-returns
unfolding number_text
returns c =
    let digits = rw c.bits.ensures at c.put_hex.ensures in
    let space = c.put_byte-next.ensures in
    record { is-put = put-join space digits; short = omega (arith, space.after, hex-after 16 _ digits) }

pub put_number_spec : {M : Type 1} → statement M
put_number_spec =
    tie.close
    (tie.spec
    (λ c. search rules) (λ c. search rules) (λ c. search rules) (λ c. search rules) returns)
