-- What `?` returns of a fault that a call's own error holds.
use Rattle.std.specs.Prelude.{◌≡◌, Result, Err, IsErrAnd}
use Rattle.std.specs.Result.{IsErr}
use Rattle.std.proofs.Common.{ap, ◌∙◌}
use Rattle.std.proofs.lemmas.Result.{err_from_is_err_and}

pub raised_as : {A E : Type 0} {r : Result A E} {x : E} → IsErr r × IsErrAnd r (λ (e : E). e ≡ x) → r ≡ Err x
raised_as {r = r} h = let p = err_from_is_err_and r h.1 in p.1 ∙ ap Err p.2
