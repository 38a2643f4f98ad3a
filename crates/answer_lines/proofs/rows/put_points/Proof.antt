-- `answer_lines::rows::put_points` meets its contract: its tests are the definition's, and the numbers follow one another.
-- Assumes nothing.
use native.Mathlib.Omega.{arith}
use borrow.Author.Rules.{rules}
use borrow.Author.Tests.{lt-ltb, le-ltb}
use Rattle.answer_lines.specs.Lines.{points_text}
use Rattle.put_text.specs.Laws.Put.{put-none, in-join, within}
use Rattle.answer_lines.proofs.rows.put_points.Statement.{statement}
use Rattle.answer_lines.proofs.rows.put_points.Tie as tie

returns : tie.Need-returns-then-class-lt1
unfolding points_text
returns c = rw (lt-ltb _ 1 c.if-class-lt1.true) (record { is-put = put-none _ _; short = omega arith })

returns-2 : tie.Need-returns-then-class-lt3
unfolding points_text
returns-2 c =
    rw (le-ltb _ 1 c.if-class-lt1.false, lt-ltb _ 3 c.if-class-lt3.true)
    (within (omega arith) (in-join c.put_number-x.ensures c.put_number.ensures))

returns-3 : tie.Need-returns-then-class-lt6
unfolding points_text
returns-3 c =
    let one = in-join c.put_number-a.ensures c.put_number-b.ensures in
    rw (le-ltb _ 1 c.if-class-lt1.false, le-ltb _ 3 c.if-class-lt3.false, lt-ltb _ 6 c.if-class-lt6.true)
    (in-join (in-join one c.put_number-c.ensures) c.put_number-then-class-lt6.ensures)

returns-4 : tie.Need-returns
unfolding points_text
returns-4 c =
    rw (le-ltb _ 1 c.if-class-lt1.false, le-ltb _ 3 c.if-class-lt3.false, le-ltb _ 6 c.if-class-lt6.false)
    (record { is-put = put-none _ _; short = omega arith })

pub put_points_spec : {M : Type 1} → statement M
put_points_spec =
    tie.close
    (tie.spec
    returns (λ c. search rules) (λ c. search rules) (λ c. search rules) returns-2 (λ c. search rules)
    (λ c. search rules) (λ c. search rules) (λ c. search rules) (λ c. search rules) returns-3 returns-4)
