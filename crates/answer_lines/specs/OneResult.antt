-- The writer's promise allows one result only: two answers that it allows are equal, and so are the slices after them.
use Rattle.std.specs.Prelude.{ℕ, Bool, ◌≡◌, List, Result}
use Rattle.std.proofs.Common.{sym, ◌∙◌}
use Rattle.answer_lines.specs.Written.{Lines}
use Rattle.answer_lines.specs.declared.WriteError.{WriteError}

pub lines-one-result : {rowless roomless : Bool} {bytes old a b : List ℕ} {r s : Result ℕ WriteError}
    → Lines rowless roomless bytes r old a → Lines rowless roomless bytes s old b → (r ≡ s) × (a ≡ b)
lines-one-result p q = (p.answer-is ∙ sym q.answer-is, p.holds ∙ sym q.holds)
