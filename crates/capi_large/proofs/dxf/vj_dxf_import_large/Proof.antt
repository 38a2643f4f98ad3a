-- `capi_large::dxf::vj_dxf_import_large` meets its contract: without room for what is told nothing is done; else the import is handed
-- over.
use borrow.Author.Rules.{rules}
use Rattle.capi.specs.Laws.DxfEnds.{no-room-told, handed-told}
use Rattle.capi_large.proofs.dxf.vj_dxf_import_large.Statement.{statement}
use Rattle.capi_large.proofs.dxf.vj_dxf_import_large.Tie as tie

returns-2 : tie.Need-returns
returns-2 c =
    let done = c.import_large-answer.ensures in
    handed-told _ _ _ _ c.if-told-lt-IMPORT_WORDS.false _ _ _ _ done.answer-is done.path-holds c.hand_imported.ensures.0
    c.hand_imported.ensures.1

pub vj_dxf_import_large_spec : {M : Type 1} → statement M
vj_dxf_import_large_spec =
    tie.close
    (tie.spec
    (λ c. no-room-told _ _ _ _ c.if-told-lt-IMPORT_WORDS.true)
    (λ c. search rules) (λ c. search rules) (λ c. search rules) (λ c. search rules)
    returns-2)
