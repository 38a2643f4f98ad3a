-- `capi_large::dxf::vj_dxf_export_large` meets its contract: without room for what is told nothing is done; else the export is handed
-- over.
use borrow.Author.Rules.{rules}
use Rattle.capi.specs.Laws.DxfEnds.{no-room-told, handed-told}
use Rattle.capi_large.proofs.dxf.vj_dxf_export_large.Statement.{statement}
use Rattle.capi_large.proofs.dxf.vj_dxf_export_large.Tie as tie

returns-2 : tie.Need-returns
returns-2 c =
    let done = c.export_large-answer.ensures in
    handed-told _ _ _ _ c.if-told-lt-EXPORT_WORDS.false _ _ _ _ done.answer-is done.text-holds c.hand_exported.ensures.0
    c.hand_exported.ensures.1

pub vj_dxf_export_large_spec : {M : Type 1} → statement M
vj_dxf_export_large_spec =
    tie.close
    (tie.spec
    (λ c. no-room-told _ _ _ _ c.if-told-lt-EXPORT_WORDS.true)
    (λ c. search rules) (λ c. search rules) (λ c. search rules) (λ c. search rules)
    returns-2)
