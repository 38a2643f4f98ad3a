-- `records::text::after` meets its contract: its test is the definition's. Assumes nothing.
use borrow.Author.Rules.{rules}
use Rattle.records.specs.Text.{after_of}
use Rattle.records.proofs.Picks.{picks}
use Rattle.records.proofs.text.after.Statement.{statement}
use Rattle.records.proofs.text.after.Tie as tie

pub after_spec : {M : Type 1} → statement M
unfolding after_of
after_spec = tie.close (tie.spec (λ c. search rules) (λ c. search picks) (λ c. search picks))
