-- `listing_loop::sift::note` meets its contract: test by test.
use borrow.Author.Rules.{rules}
use Rattle.listing_loop.specs.Workings.Sift.{note}
use Rattle.listing_loop.proofs.sift.note.Statement.{statement}
use Rattle.listing_loop.proofs.sift.note.Tie as tie

pub note_spec : {M : Type 1} → statement M
unfolding note
note_spec =
    tie.close
    (tie.spec
    (λ c κs. search rules)
    (λ c. search rules)
    (λ c. simp c.if-noting.true c.set_mark.ensures)
    (λ c. simp c.if-noting.false))
