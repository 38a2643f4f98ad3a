-- `answers::padded::refusal` meets its contract: its number is the fault's word.
use borrow.Author.Rules.{rules}
use Rattle.answers.specs.Padded as padding
use Rattle.answers.proofs.padded.refusal.Statement.{statement}
use Rattle.answers.proofs.padded.refusal.Tie as tie

pub refusal_spec : {M : Type 1} → statement M
unfolding padding.refusal
refusal_spec = tie.close (tie.spec (λ c. search rules) (λ c. simp c.word.ensures))
