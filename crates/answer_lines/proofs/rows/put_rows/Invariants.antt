-- The loop of `answer_lines::rows::put_rows`: to put the rows that are left after what stands now is to put all of them.
use Rattle.std.proofs.Common.{ℕ, List, ◌+◌, ◌*◌, ◌-◌, ◌≤◌}
use Rattle.answer_lines.specs.Sizes.{line}
use Rattle.answer_lines.specs.Lines.{rows_text}
use Rattle.put_text.specs.Workings.Put.{Put}
use Rattle.answer_lines.proofs.rows.put_rows.Given as goal

abbrev pub invariant-loop-k : goal.invariant-loop-k
invariant-loop-k l =
    (l.at ≤ l.start + l.k * line)
    × ((now : List ℕ) (next : ℕ) → Put (rows_text l.index l.points (l.rows - l.k) l.k) l.out l.at now next
    → Put (rows_text l.index l.points l.rows 0) l.initial.out l.start now next)
