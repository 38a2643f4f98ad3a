-- `listing_loop::sift::by_marks` meets its contract: straight on.
use mathlib.Core.Path.{refl}
use borrow.Author.Rules.{rules}
use Rattle.listing_loop.specs.Workings.Sift.{by_marks}
use Rattle.listing_loop.proofs.sift.by_marks.Statement.{statement}
use Rattle.listing_loop.proofs.sift.by_marks.Tie as tie

pub by_marks_spec : {M : Type 1} → statement M
unfolding by_marks
by_marks_spec = tie.close (tie.spec (λ c. refl))
