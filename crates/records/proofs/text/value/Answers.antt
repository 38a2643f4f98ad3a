-- `records::text::value` meets its contract: both say of each variant the same. Assumes nothing.
use Rattle.std.proofs.Common.{◌≡◌, ◌∙◌, ℕ, Option, Some, None, refl, ap}
use Rattle.std.specs.Option.{unwrap_or}
use Rattle.records.specs.Text.{value_of}
use Rattle.records.proofs.text.value.Goals as goal

same : (f : Option ℕ) → unwrap_or f 0 ≡ value_of f
unfolding value_of
same (Some x) = refl
same None = refl

pub returns : goal.returns
returns c = c.unwrap_or.ensures ∙ same c.field_at.result ∙ ap value_of c.field_at.ensures
