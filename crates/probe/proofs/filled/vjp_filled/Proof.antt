-- `probe::filled::vjp_filled` meets its contract: it hands over the part that `filled` answers.
use borrow.Author.Rules.{rules}
use Rattle.probe.proofs.Written.{handed}
use Rattle.probe.proofs.filled.vjp_filled.Statement.{statement}
use Rattle.probe.proofs.filled.vjp_filled.Tie as tie

pub vjp_filled_spec : {M : Type 1} → statement M
vjp_filled_spec =
    tie.close
    (tie.spec
    (λ c. search rules) (λ c. search rules) (λ c. search rules) (λ c. search (handed (λ (l : _). l))))
