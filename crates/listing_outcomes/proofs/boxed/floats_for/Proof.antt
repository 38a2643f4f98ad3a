-- `listing_outcomes::boxed::floats_for` meets its contract: each return is a branch of the definition.
use mathlib.Core.Path.{ap, ◌∙◌}
use Prim.Native.Nat.{ℕ, ◌+◌}
use borrow.Author.Rules.{rules}
use Rattle.float_laws.specs.Branches.{holds, fails}
use Rattle.boxes.specs.Index.{floats_needed}
use Rattle.listing_outcomes.proofs.boxed.floats_for.Statement.{statement}
use Rattle.listing_outcomes.proofs.boxed.floats_for.Tie as tie

pub floats_for_spec : {M : Type 1} → statement M
floats_for_spec =
    tie.close
    (tie.spec
    (λ c. search rules)
    (λ c. holds _ _ _ _ c.if-job.true c.floats_needed-first.ensures)
    (λ c. search rules)
    (λ c. search rules)
    (λ c. let job = c.args.job in
    fails _ _ _ _ c.if-job.false
    (ap (λ (k : ℕ). k + c.floats_needed.result) c.floats_needed-first.ensures
    ∙ ap (λ (k : ℕ). floats_needed job.n + k) c.floats_needed.ensures)))
