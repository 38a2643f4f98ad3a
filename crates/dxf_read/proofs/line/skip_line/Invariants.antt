-- After what is left of the line stands what stands after all of it.
use Rattle.std.proofs.Common.{◌≡◌, drop}
use Rattle.dxf_form.specs.Workings.Reader.{skip_line}
use Rattle.dxf_read.proofs.line.skip_line.Given as goal

abbrev pub invariant-loop-i : goal.invariant-loop-i
invariant-loop-i l = skip_line (drop l.i l.text) ≡ skip_line (drop l.start l.text)
