-- `dxf_write::put::put_line` meets its contract: the digits, then the newline. Assumes nothing.
use Rattle.std.proofs.Common.{rules}
use Rattle.put_text.specs.Laws.Put.{put-join}
use Rattle.dxf_write.proofs.put.put_line.Statement.{statement}
use Rattle.dxf_write.proofs.put.put_line.Tie as tie

pub put_line_spec : {M : Type 1} → statement M
put_line_spec = tie.close (tie.spec (λ c κs. search rules) (λ c κs. search rules) (λ c. search rules) (λ c. search put-join))
