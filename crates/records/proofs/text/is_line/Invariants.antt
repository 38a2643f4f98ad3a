-- The loop of `records::text::is_line`: what is said of the fields that are left is what is said of all of them.
use Rattle.std.proofs.Common.{◌≡◌, ◌-◌}
use Rattle.records.specs.Text.{fields_from, is_line}
use Rattle.records.proofs.text.is_line.Given as goal

abbrev pub invariant-loop-i : goal.invariant-loop-i
invariant-loop-i l = fields_from l.n l.body (l.n - l.i) l.i ≡ is_line l.n l.body
