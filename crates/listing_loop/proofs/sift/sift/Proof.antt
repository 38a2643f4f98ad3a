-- `listing_loop::sift::sift` meets its contract: each return is a branch of the definition, and epsilon is an f64.
use borrow.Author.Rules.{rules}
use denote.Floats.{passes}
use lib.Dec.{T}
use lib.Ieee.{binary64, fits}
use Rattle.listing_loop.specs.Workings.Sift.{left}
use Rattle.listing_loop.proofs.sift.sift.Statement.{statement}
use Rattle.listing_loop.proofs.sift.sift.Tie as tie

held : (c : tie.Start) → T (fits binary64 c.args.epsilon)
held c = passes _ c.well_formed.1.1.1.1.1.1.1.1.0.1

pub sift_spec : {M : Type 1} → statement M
unfolding left
sift_spec =
    tie.close
    (tie.spec
    (λ c κs. search rules)
    (λ c κs. search rules)
    (λ c. search rules)
    (λ c.
    (simp (← c.by_marks.ensures, c.if-by_marks.true) c.recall.ensures, held c.before.before.before.before.before.before.before.before.before))
    (λ c κs.
    let p = c.requires in
    ((p.0.1, p.1.0 c.if-lines.true), p.1.1))
    (λ c. search rules)
    (λ c. (
      simp (← c.by_marks.ensures, c.if-by_marks.false) (simp c.if-lines.true c.sift_lines.ensures),
      held c.before.before.before.before.before.before.before.before.before.before,
    ))
    (λ c κs. search rules)
    (λ c. search rules)
    (λ c. (
      simp (← c.by_marks.ensures, c.if-by_marks.false) (simp c.if-lines.false c.leave_all.ensures),
      held c.before.before.before.before.before.before.before.before.before.before,
    )))
