-- `dxf_write::vertices::no_text` meets its contract: it is the record. Assumes nothing.
use Rattle.std.proofs.Common.{rules}
use Rattle.dxf_write.proofs.vertices.no_text.Statement.{statement}
use Rattle.dxf_write.proofs.vertices.no_text.Tie as tie

pub no_text_spec : {M : Type 1} → statement M
no_text_spec = tie.close (tie.spec (λ c κs. search rules) (λ c. simp (← c.at.ensures)))
