-- `capi::pair_findings::vj_pair_findings` meets its contract: without room for both nothing is done; a refusal returns its word;
-- else what `pline_seg_findings` answers is handed over.
use borrow.Author.Rules.{rules}
use Rattle.capi.proofs.FindingsEnds.{no_room, no-room-to-tell, refused, met}
use Rattle.capi.proofs.pair_findings.vj_pair_findings.Statement.{statement}
use Rattle.capi.proofs.pair_findings.vj_pair_findings.Tie as tie

returns : tie.Need-returns-then-out-lt-PLACES
returns c = no_room _ _ _ c.if-out-lt-PLACES.true

returns-2 : tie.Need-returns-then-findings-lt-FINDINGS
returns-2 c = no-room-to-tell _ _ _ c.if-out-lt-PLACES.false c.if-findings-lt-FINDINGS.true

returns-3 : tie.Need-returns-in-Err
returns-3 c =
    refused _ _ _ c.if-out-lt-PLACES.false c.if-findings-lt-FINDINGS.false _ _ _ c.pline_seg_findings-told.ensures c.in-Err.is
    c.word.ensures

returns-4 : tie.Need-returns-in-Ok
returns-4 c =
    met _ _ _ c.if-out-lt-PLACES.false c.if-findings-lt-FINDINGS.false _ _ _ _ _ _ c.pline_seg_findings-told.ensures c.in-Ok.is
    c.of_pline_seg.ensures c.hand_over.ensures c.hand_findings.ensures

pub vj_pair_findings_spec : {M : Type 1} → statement M
vj_pair_findings_spec =
    tie.close
    (tie.spec
    returns returns-2 (λ c. search rules) (λ c. search rules) (λ c. search rules) (λ c. search rules) (λ c. search rules)
    (λ c. search rules) (λ c. search rules) returns-3 (λ c. search rules) (λ c. search rules) returns-4)
